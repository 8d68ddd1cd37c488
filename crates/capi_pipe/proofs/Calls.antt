-- What a call answers, tells and leaves, from what the pipe did. A refusal's place and a count are within the limit, so that they fit the answer's word.
use Prim.Native.Nat.{ℕ, ◌%◌, ◌^◌, ◌≤◌, ◌<◌}
use mathlib.Core.Bool.{Bool, true, false, cond}
use mathlib.Core.List.{List}
use mathlib.Core.Path.{◌≡◌, refl, sym, ap, ◌∙◌}
use native.Mathlib.Omega.{arith}
use borrow.Author.Tests.{leb-true}
use lib.ListN.{length}
use Rattle.slices.specs.Logic.{absurd_numbers}
use Rattle.pipe.specs.Limit.{pipe_limit}
use Rattle.pipe.specs.Taking.{Progress, going, refused, ended, Notice, refusal, over, malformed, Call, notice_of, close, fits, unfit, take, finish}
use Rattle.pipe.specs.Step.{standing, take_unfit, take_fits, refused_for_ever, ended_for_ever, close_fits}
use Rattle.pipe.specs.States.{progress_of, call_of}
use Rattle.pipe.specs.States as pipe
use Rattle.pipe.specs.declared.State.{State}
use Rattle.pipe.specs.declared.Event.{Event}
use Rattle.pipe.specs.declared.Taken.{Taken}
use Rattle.words.specs.Words.{answer, answer_whole}
use Rattle.capi_pipe.specs.State.{state_in, progress_in}
use Rattle.capi_pipe.specs.WellFormed.{fits_refused, fits_long}
use Rattle.capi_pipe.specs.Answers.{Leaves, take_from, end_from, take_answer_by, take_answer, take_stores, TakeLeaves, take_told_by, take_told, end_answer_by, end_answer, end_stores, EndLeaves}

-- ---- a state that fits

ended_within : (records : ℕ) → fits pipe_limit (ended records) ≡ true → records ≤ pipe_limit
unfolding fits
ended_within records f = leb-true records pipe_limit f

-- ---- a part is taken

module _ (p : Progress) (part : List ℕ) where
  taken_fits : (notice : Notice) → (take pipe_limit p part).notice ≡ notice → (notice ≡ malformed → ⊥) → fits pipe_limit p ≡ true
  taken_fits notice is h = go (fits pipe_limit p) refl
    where
      go : (t : Bool) → fits pipe_limit p ≡ t → t ≡ true
      go true e = refl
      go false e = absurd (h (sym is ∙ ap (λ (c : Call). c.notice) (take_unfit pipe_limit p part e)))

  taken_within : (n place : ℕ) → (take pipe_limit p part).notice ≡ refusal n place → place ≤ pipe_limit
  taken_within n place is =
      let f = taken_fits (refusal n place) is (λ z. absurd_numbers (cc)) in
      let after : (take pipe_limit p part).after ≡ refused n place = ap (λ (c : Call). c.after) (refused_for_ever pipe_limit (omega arith) p part n place is).0 in
      (fits_refused n place (rw after at (take_fits pipe_limit (omega arith) p part f))).within

-- ---- the end is announced

module _ (p : Progress) where
  finished_fits : (notice : Notice) → (finish pipe_limit p).notice ≡ notice → (notice ≡ malformed → ⊥) → fits pipe_limit p ≡ true
  unfolding finish
  finished_fits notice is h = go (fits pipe_limit p) is
    where
      go : (t : Bool) → (cond t (standing (close p)) (unfit p)).notice ≡ notice → t ≡ true
      go true e = refl
      go false e = absurd (h (sym e))

  -- what it leaves fits
  finished_after : (notice : Notice) → (finish pipe_limit p).notice ≡ notice → (notice ≡ malformed → ⊥)
      → (fits pipe_limit (close p) ≡ true) × (notice_of (close p) ≡ notice)
  finished_after notice is h =
      let fit = finished_fits notice is h in
      (close_fits pipe_limit p fit, rw (ended_for_ever pipe_limit p fit).0 at is)

  finished_within : (n place : ℕ) → (finish pipe_limit p).notice ≡ refusal n place → place ≤ pipe_limit
  finished_within n place is = go (close p) (finished_after (refusal n place) is (λ z. absurd_numbers (cc)))
    where
      go : (q : Progress) → (fits pipe_limit q ≡ true) × (notice_of q ≡ refusal n place) → place ≤ pipe_limit
      go (going g) h = let q = h.1 in absurd_numbers (cc)
      go (refused m at) h = let q = h.1 in let same : at ≡ place = cc in omega (arith, (fits_refused m at h.0).within)
      go (ended records) h = let q = h.1 in absurd_numbers (cc)

  counted_within : (records : ℕ) → (finish pipe_limit p).notice ≡ over records → records ≤ pipe_limit
  counted_within records is = go (close p) (finished_after (over records) is (λ z. absurd_numbers (cc)))
    where
      go : (q : Progress) → (fits pipe_limit q ≡ true) × (notice_of q ≡ over records) → records ≤ pipe_limit
      go (going g) h = let q = h.1 in absurd_numbers (cc)
      go (refused m at) h = let q = h.1 in absurd_numbers (cc)
      go (ended count) h = let q = h.1 in let same : count ≡ records = cc in omega (arith, ended_within count h.0)

-- ---- `t` is what the pipe did with the state that the words say, and `e` what it tells

pub record Takes (before part : List ℕ) (t : Taken) : Type 0 where
  pub same : call_of t ≡ take_from before part

pub takes : (before part : List ℕ) {s : State} {t : Taken} → s ≡ state_in before → call_of t ≡ take pipe_limit (progress_of s) part → Takes before part t
takes before part read called = record { same = called ∙ ap (λ (s : State). take pipe_limit (progress_of s) part) read }

module _ {before part : List ℕ} {t : Taken} (h : Takes before part t) {e : Event} (is : t.event ≡ e) where
  notices : (take_from before part).notice ≡ pipe.notice_of e
  notices = ap (λ (c : Call). c.notice) (sym h.same) ∙ ap pipe.notice_of is

  -- the words are enough for a state
  pub take_long : (pipe.notice_of e ≡ malformed → ⊥) → 19 ≤ length before
  take_long answers = fits_long before (taken_fits (progress_in before) part (pipe.notice_of e) notices answers)

  -- nothing of a refusal is cut off
  pub take_whole : (n place : ℕ) → pipe.notice_of e ≡ refusal n place → n < 256 → answer n place % 2 ^ 64 ≡ answer n place
  take_whole n place refuses small = answer_whole n place small (omega (arith, taken_within (progress_in before) part n place (notices ∙ refuses)))

  pub take_meets : (told : List ℕ) (r : ℕ) (after told' : List ℕ) → r ≡ take_answer_by (pipe.notice_of e) (length told)
      → Leaves (take_stores (pipe.notice_of e) (length told)) (progress_of t.state) before after → told' ≡ take_told_by (pipe.notice_of e) t.taken told
      → (r ≡ take_answer (take_from before part) (length told)) × (TakeLeaves (take_from before part) (length told) before after × (told' ≡ take_told (take_from before part) told))
  take_meets told r after told' answers leaves tells = rw (← h.same, is) (answers, (leaves, tells))

pub record Ends (before : List ℕ) (t : Taken) : Type 0 where
  pub same : call_of t ≡ end_from before

pub ends : (before : List ℕ) {s : State} {t : Taken} → s ≡ state_in before → call_of t ≡ finish pipe_limit (progress_of s) → Ends before t
ends before read called = record { same = called ∙ ap (λ (s : State). finish pipe_limit (progress_of s)) read }

module _ {before : List ℕ} {t : Taken} (h : Ends before t) {e : Event} (is : t.event ≡ e) where
  concludes : (end_from before).notice ≡ pipe.notice_of e
  concludes = ap (λ (c : Call). c.notice) (sym h.same) ∙ ap pipe.notice_of is

  pub end_long : (pipe.notice_of e ≡ malformed → ⊥) → 19 ≤ length before
  end_long answers = fits_long before (finished_fits (progress_in before) (pipe.notice_of e) concludes answers)

  pub end_whole : (n place : ℕ) → pipe.notice_of e ≡ refusal n place → n < 256 → answer n place % 2 ^ 64 ≡ answer n place
  end_whole n place refuses small = answer_whole n place small (omega (arith, finished_within (progress_in before) n place (concludes ∙ refuses)))

  pub count_whole : (records : ℕ) → pipe.notice_of e ≡ over records → answer 0 records % 2 ^ 64 ≡ answer 0 records
  count_whole records counts = answer_whole 0 records (omega arith) (omega (arith, counted_within (progress_in before) records (concludes ∙ counts)))

  pub end_meets : (r : ℕ) (after : List ℕ) → r ≡ end_answer_by (pipe.notice_of e) → Leaves (end_stores (pipe.notice_of e)) (progress_of t.state) before after
      → (r ≡ end_answer (end_from before)) × EndLeaves (end_from before) before after
  end_meets r after answers leaves = rw (← h.same, is) (answers, leaves)
