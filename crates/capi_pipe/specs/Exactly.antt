-- 20 is answered exactly where the words are not well formed; and what a call stores is well formed, so that no later call answers 20.
use Rattle.std.specs.Prelude.{ℕ, Bool, true, false, cond, List, [], ◌∷◌, ◌↔◌, ◌≡◌, leb}
use Rattle.std.proofs.Math.Path.{refl}
use Rattle.std.proofs.Common.{ap, subst, arith}
use Rattle.slices.specs.Logic.{not_so, absurd_numbers}
use Rattle.pipe.specs.Limit.{pipe_limit}
use Rattle.pipe.specs.Taking.{Phase, in_header, in_value, Going, Progress, going, refused, ended, at_start}
use Rattle.pipe.specs.Taking.{Notice, wanted, complete, refusal, over, malformed, Call, cut, close, notice_of, fits, finish}
use Rattle.pipe.specs.Step.{Stands, take_fits, take_stands, close_fits, refused_for_ever, ended_for_ever}
use Rattle.words.specs.Words.{answer}
use Rattle.capi_pipe.specs.State.{progress_in, Says}
use Rattle.capi_pipe.specs.WellFormed.{fits_refused, WellFormed, well_formed_exactly}
use Rattle.capi_pipe.specs.Answers.{take_from, end_from, room_answer, take_answer_by, take_answer, end_answer_by, end_answer}

-- ---- what a call stores

module _ {w after : List ℕ} where
  stays : {p : Progress} → fits pipe_limit p ≡ true → Says p w after → WellFormed after
  stays f s = (well_formed_exactly after).0 (rw s.state f)

  pub start_stays : Says (going at_start) w after → WellFormed after
  unfolding fits
  start_stays s = stays {p = going at_start} refl s

  pub take_stays : (part : List ℕ) → WellFormed w → Says (take_from w part).after w after → WellFormed after
  take_stays part h s = stays (take_fits pipe_limit (omega arith) (progress_in w) part ((well_formed_exactly w).1 h)) s

  pub end_stays : WellFormed w → Says (end_from w).after w after → WellFormed after
  end_stays h s =
      let fit = (well_formed_exactly w).1 h in
      stays (rw (ended_for_ever pipe_limit (progress_in w) fit).0 (close_fits pipe_limit (progress_in w) fit)) s

-- ---- 20

-- a refusal has another number
refused_other : (n place : ℕ) → fits pipe_limit (refused n place) ≡ true → answer n place ≡ answer 20 0 → ⊥
refused_other n place f e = omega (arith, (fits_refused n place f).most)

room_other : (words : ℕ) → room_answer words ≡ answer 20 0 → ⊥
room_other words e = go (leb 6 words) e
  where
    go : (t : Bool) → cond t (answer 0 0) (answer 19 0) ≡ answer 20 0 → ⊥
    go true e = omega arith
    go false e = omega arith

module _ (w : List ℕ) where
  pub unfit_state : (WellFormed w → ⊥) → fits pipe_limit (progress_in w) ≡ false
  unfit_state h = not_so (fits pipe_limit (progress_in w)) (λ f. h ((well_formed_exactly w).0 f))

  module _ (part : List ℕ) (words : ℕ) where
    pub take_other : WellFormed w → take_answer (take_from w part) words ≡ answer 20 0 → ⊥
    take_other h e = go (take_from w part).notice refl e
      where
        f : fits pipe_limit (progress_in w) ≡ true
        f = (well_formed_exactly w).1 h

        go : (notice : Notice) → (take_from w part).notice ≡ notice → take_answer_by notice words ≡ answer 20 0 → ⊥
        go wanted is e = room_other words e
        go (complete x) is e = room_other words e
        go (refusal n place) is e =
            let stands = (refused_for_ever pipe_limit (omega arith) (progress_in w) part n place is).0 in
            let after : (take_from w part).after ≡ refused n place = ap (λ (c : Call). c.after) stands in
            refused_other n place (rw after at (take_fits pipe_limit (omega arith) (progress_in w) part f)) e
        go (over records) is e = room_other words e
        go malformed is e = subst (λ (notice : Notice). Stands notice (take_from w part)) is (take_stands pipe_limit (progress_in w) part f)

  end_other : WellFormed w → end_answer (end_from w) ≡ answer 20 0 → ⊥
  end_other h e =
      let fit = (well_formed_exactly w).1 h in
      go (close (progress_in w)) refl (close_fits pipe_limit (progress_in w) fit) (rw (ended_for_ever pipe_limit (progress_in w) fit).0 at e)
    where
      cuts : (g next : Going) (p : Phase) → cut g p ≡ going next → ⊥
      cuts g next (in_header []) q = absurd_numbers (cc)
      cuts g next (in_header (b ∷ t)) q = absurd_numbers (cc)
      cuts g next (in_value head hashing) q = absurd_numbers (cc)

      closes : (p : Progress) (next : Going) → close p ≡ going next → ⊥
      closes (going g) next q = cuts g next g.phase q
      closes (refused n place) next q = absurd_numbers (cc)
      closes (ended records) next q = absurd_numbers (cc)

      go : (p : Progress) → close (progress_in w) ≡ p → fits pipe_limit p ≡ true → end_answer_by (notice_of p) ≡ answer 20 0 → ⊥
      go (going g) q f e = closes (progress_in w) g q
      go (refused n place) q f e = refused_other n place f e
      go (ended records) q f e = omega arith

  pub end_malformed_exactly : end_answer (end_from w) ≡ answer 20 0 ↔ (WellFormed w → ⊥)
  unfolding finish
  end_malformed_exactly = (λ e h. end_other h e, λ h. rw (unfit_state h))
