-- Where the handing over of a pack in parts stands: some records were told, and the run over the whole pack goes on from a place.
use Prim.Native.Nat.{ℕ, suc, ◌+◌, ◌-◌, ◌*◌, ◌^◌, ◌≤◌, ◌<◌}
use mathlib.Core.Bool.{true, cond}
use mathlib.Core.List.{List, [], ◌∷◌, ◌++◌}
use Rattle.std.specs.Prelude.{None, Some}
use mathlib.Core.Path.{◌≡◌, refl, sym, ap, subst, ◌∙◌}
use native.Mathlib.Omega.{arith}
use lib.Dec.{ltb, lit<}
use lib.ListN.{length, take, drop, length-drop, take-append-drop, drop_of_length-le}
use lib.Seq.{drop-drop, length-take-le, drop-append-le}
use Rattle.slices.specs.Overwriting.{overwritten}
use Rattle.pack.specs.declared.Entry.{Entry}
use Rattle.pack.specs.Reading.{Ending, whole}
use Rattle.pack.specs.Reading as pack
use Rattle.pipe.specs.Limit.{pipe_limit}
use Rattle.pipe.specs.Taking.{Progress, going, refused, ended, at_start, Notice, wanted, complete, refusal, over, malformed, Call, advance, close, notice_of, fits, finish}
use Rattle.pipe.specs.Taking.{take as call}
use Rattle.pipe.specs.Step.{TakenOf, Takes, going_fits, Stands, standing, take_fit, take_fits, take_stands, advance_taken}
use Rattle.pipe.specs.Sessions.{Run, silent, tell, run, record_in, run_none, run_passed, run_told}
use Rattle.pipe.specs.Feeding.{words_in, words_of, ending_in, part_end, part_end_last, part_end_within}
use Rattle.pipe.proofs.Written.{written, written_none, written_more, written_all, length_written}
use Rattle.pipe.specs.Whole.{verdict, piped, run_piped, start_fits}

small : pipe_limit < 2 ^ 64
small = lit< tt

-- the run over the pack
unfoldable pub all : List ℕ → Run
all s = run pipe_limit (going at_start) s

-- p is what a call left, `at` bytes of s were taken, and so many records were told; the part at hand ends at `stop`
pub record Feeds (s : List ℕ) (p : Progress) (at stop count : ℕ) : Type 0 where
  pub fit : fits pipe_limit p ≡ true
  pub rest : run pipe_limit p (drop at s) ≡ record { told = drop count (all s).told; after = (all s).after }
  pub few : count ≤ at
  pub some_told : count ≤ length (all s).told
  pub begun : at ≤ stop
  pub inside : stop ≤ length s

pub feeds_first : (s : List ℕ) (stop : ℕ) → stop ≤ length s → Feeds s (going at_start) 0 stop 0
unfolding all
feeds_first s stop l = record { fit = going_fits pipe_limit at_start (start_fits pipe_limit); rest = refl; few = omega arith; some_told = omega arith; begun = omega arith; inside = l }

-- every record was told, and this is what is left
pub record AllTold (s : List ℕ) (p : Progress) (count : ℕ) : Type 0 where
  pub told : count ≡ length (all s).told
  pub left : (all s).after ≡ p

none_left : {A : Type 0} (l : List A) (n : ℕ) → drop n l ≡ [] → length l ≤ n
none_left l n e = omega (arith, sym (length-drop n l) ∙ ap length e)

-- no record completes between the last call and the end of the bytes
nothing_more : (s : List ℕ) (p : Progress) (count : ℕ) → count ≤ length (all s).told → silent p ≡ record { told = drop count (all s).told; after = (all s).after } → AllTold s p count
nothing_more s p count l e = record {
  told = omega (arith, none_left (all s).told count (sym (ap (λ (r : Run). r.told) e)));
  left = sym (ap (λ (r : Run). r.after) e);
}

module _ (s : List ℕ) (p : Progress) (at stop count : ℕ) (h : Feeds s p at stop count) where
  -- the part that is handed over
  part : List ℕ
  part = take (stop - at) (drop at s)

  length_part : length part ≡ stop - at
  unfolding part
  length_part = length-take-le (stop - at) (drop at s) (rw length-drop (omega (arith, h.begun, h.inside)))

  split : part ++ drop stop s ≡ drop at s
  unfolding part
  split =
      let place : at + (stop - at) ≡ stop = omega (arith, h.begun) in
      ap (λ (n : ℕ). take (stop - at) (drop at s) ++ drop n s) (sym place)
      ∙ ap (λ (t : List ℕ). take (stop - at) (drop at s) ++ t) (sym (drop-drop (stop - at) at s))
      ∙ take-append-drop (stop - at) (drop at s)

  told_so_far : run pipe_limit p (part ++ drop stop s) ≡ record { told = drop count (all s).told; after = (all s).after }
  told_so_far = ap (run pipe_limit p) split ∙ h.rest

  module _ (c : Call) (is : c ≡ call pipe_limit p (take (stop - at) (drop at s))) where
    is_advance : c ≡ advance pipe_limit p part
    unfolding part
    is_advance = is ∙ take_fit pipe_limit p (take (stop - at) (drop at s)) h.fit

    fit_after : fits pipe_limit c.after ≡ true
    fit_after = rw is (take_fits pipe_limit small p (take (stop - at) (drop at s)) h.fit)

    takes : Takes c (stop - at)
    takes = rw (is_advance, ← length_part) (advance_taken pipe_limit p part)

    -- more is wanted: the part is taken
    pub feeds_wanted : c.notice ≡ wanted → (next : ℕ) → stop ≤ next → next ≤ length s → (at + c.taken ≡ stop) × Feeds s c.after stop next count
    feeds_wanted e next l m =
        let t : c.taken ≡ stop - at = rw e at takes in
        let none_told : record_in (advance pipe_limit p part).notice ≡ None = rw (← is_advance, e) in
        let place : at + c.taken ≡ stop = omega (arith, h.begun) in
        let b = h.begun in
        let f = h.few in (
          place,
          record {
            fit = fit_after;
            rest = ap (λ (d : Call). run pipe_limit d.after (drop stop s)) is_advance ∙ sym (run_passed pipe_limit p part (drop stop s) none_told) ∙ told_so_far;
            few = omega arith;
            some_told = h.some_told;
            begun = l;
            inside = m;
          },
        )

    -- a record is complete: it is the next of the run, and what was not taken is handed over again
    module _ (x : Entry) (e : c.notice ≡ complete x) where
      some_taken : (1 ≤ c.taken) × (c.taken ≤ stop - at)
      some_taken = rw e at takes

      next_told : record { told = drop count (all s).told; after = (all s).after } ≡ tell x (run pipe_limit c.after (drop (at + c.taken) s))
      next_told =
          let one : record_in (advance pipe_limit p part).notice ≡ Some x = rw (← is_advance, e) in
          let inside : c.taken ≤ length part = omega (arith, length_part, some_taken.1) in
          let left : drop c.taken part ++ drop stop s ≡ drop (at + c.taken) s
          = sym (drop-append-le c.taken part (drop stop s) inside) ∙ ap (drop c.taken) split ∙ drop-drop c.taken at s in
          sym told_so_far
          ∙ run_told pipe_limit p part (drop stop s) x one
          ∙ ap (λ (d : Call). tell x (run pipe_limit d.after (drop d.taken part ++ drop stop s))) (sym is_advance)
          ∙ ap (λ (t : List ℕ). tell x (run pipe_limit c.after t)) left

      pub next_entry_lem : drop count (all s).told ≡ x ∷ drop (count + 1) (all s).told
      next_entry_lem =
          let d : drop count (all s).told ≡ x ∷ (run pipe_limit c.after (drop (at + c.taken) s)).told = ap (λ (r : Run). r.told) next_told in
          d ∙ ap (λ (l : List Entry). x ∷ l) (sym (sym (drop-drop 1 count (all s).told) ∙ ap (drop 1) d))

      pub feeds_complete : (at + c.taken ≤ stop) × Feeds s c.after (at + c.taken) stop (count + 1)
      feeds_complete =
          let t = some_taken in
          let b = h.begun in
          let f = h.few in
          let n : length (all s).told - count ≡ suc (length (drop (count + 1) (all s).told)) = sym (length-drop count (all s).told) ∙ ap length next_entry_lem in (
            omega (arith, t.1),
            record {
              fit = fit_after;
              rest = sym ((λ i. record { told = sym (ap (drop 1) next_entry_lem) i; after = (all s).after }) ∙ ap (λ (r : Run). record { told = drop 1 r.told; after = r.after }) next_told);
              few = omega (arith, t.0);
              some_told = omega arith;
              begun = omega (arith, t.1);
              inside = h.inside;
            },
          )

    -- a refusal, or the end: nothing follows
    stands : (q : Progress) → c.after ≡ q → ((t : List ℕ) → run pipe_limit q t ≡ silent q) → record_in c.notice ≡ None → AllTold s q count
    stands q e stays none_told =
        nothing_more s q count h.some_told (sym (stays (drop stop s))
        ∙ ap (λ (r : Progress). run pipe_limit r (drop stop s)) (sym e)
        ∙ ap (λ (d : Call). run pipe_limit d.after (drop stop s)) is_advance
        ∙ sym (run_passed pipe_limit p part (drop stop s) (rw is_advance at none_told))
        ∙ told_so_far)

    stands_there : Stands c.notice c
    stands_there = subst (λ (d : Call). Stands d.notice d) (sym is) (take_stands pipe_limit p (take (stop - at) (drop at s)) h.fit)

    pub feeds_refused : (n place : ℕ) → c.notice ≡ refusal n place → AllTold s (refused n place) count
    unfolding run
    feeds_refused n place e =
        let it : c ≡ standing (refused n place) = subst (λ (w : Notice). Stands w c) e stands_there in
        stands (refused n place) (ap (λ (d : Call). d.after) it) (λ t. refl) (rw e)

    pub feeds_over : (records : ℕ) → c.notice ≡ over records → AllTold s (ended records) count
    unfolding run
    feeds_over records e =
        let it : c ≡ standing (ended records) = subst (λ (w : Notice). Stands w c) e stands_there in
        stands (ended records) (ap (λ (d : Call). d.after) it) (λ t. refl) (rw e)

    pub never_malformed : c.notice ≡ malformed → ⊥
    never_malformed e = subst (λ (w : Notice). Stands w c) e stands_there

  -- all bytes were taken
  pub feeds_end : length s ≤ at → AllTold s p count
  feeds_end l = nothing_more s p count h.some_told (sym (run_none pipe_limit p) ∙ ap (run pipe_limit p) (sym (drop_of_length-le s l)) ∙ h.rest)

-- ---- what the run over the pack says of its end

ending_verdict : (n : ℕ) (e : Ending) → ending_in (verdict 0 n e) ≡ e
ending_verdict n whole = refl
ending_verdict n (pack.refused k place) = refl

pub all_entries : (s : List ℕ) → (all s).told ≡ (piped pipe_limit s).entries
unfolding all
all_entries s = ap (λ (r : Run). r.told) (run_piped pipe_limit small s)

module _ {s : List ℕ} {p : Progress} {count : ℕ} (h : AllTold s p count) where
  pub told_count : count ≡ length (piped pipe_limit s).entries
  told_count = h.told ∙ ap length (all_entries s)

  pub told_ending : ending_in (close p) ≡ (piped pipe_limit s).ending
  unfolding all
  told_ending =
      ap (λ (q : Progress). ending_in (close q)) (sym h.left)
      ∙ ap (λ (r : Run). ending_in r.after) (run_piped pipe_limit small s)
      ∙ ending_verdict (length (piped pipe_limit s).entries) (piped pipe_limit s).ending

-- ---- what the call that announces the end says

abbrev pub ending_of_notice : Notice → Ending
ending_of_notice wanted = whole
ending_of_notice (complete e) = whole
ending_of_notice (refusal n place) = pack.refused n place
ending_of_notice (over records) = whole
ending_of_notice malformed = whole

ending_notice : (p : Progress) → ending_of_notice (notice_of p) ≡ ending_in p
ending_notice (going g) = refl
ending_notice (refused n place) = refl
ending_notice (ended records) = refl

pub finish_ending : (p : Progress) → fits pipe_limit p ≡ true → ending_of_notice (finish pipe_limit p).notice ≡ ending_in (close p)
unfolding finish
finish_ending p f = rw f (ending_notice (close p))

-- ---- a turn of the loop

-- the words of the records told so far are written; the part at hand is the k-th, from 0, and the last one ends with the pack
pub record Turn (s lengths before words : List ℕ) (room : ℕ) (p : Progress) (at k stop count : ℕ) : Type 0 where
  pub feeds : Feeds s p at stop count
  pub filled : words ≡ written before (all s).told room count
  pub parts : k ≤ length lengths
  pub last : length lengths ≤ k → stop ≡ length s

pub turn_first : (s lengths words : List ℕ) (room stop : ℕ) (p : Progress) → p ≡ going at_start → stop ≡ part_end (length s) lengths 0 0
    → Turn s lengths words words room p 0 0 stop 0
turn_first s lengths words room stop p e q =
    let l : stop ≤ length s = rw q (part_end_within (length s) lengths 0 0 (omega arith)).1 in
    record {
      feeds = subst (λ (x : Progress). Feeds s x 0 stop 0) (sym e) (feeds_first s stop l);
      filled = written_none words (all s).told room;
      parts = omega arith;
      last = λ m. q ∙ part_end_last (length s) lengths 0 0 m;
    }

taken_most : (notice : Notice) (taken n : ℕ) → TakenOf notice taken n → taken ≤ n
taken_most wanted taken n h = omega arith
taken_most (complete e) taken n h = h.1
taken_most (refusal m place) taken n h = omega arith
taken_most (over records) taken n h = omega arith
taken_most malformed taken n h = omega arith

module _ {s lengths before words : List ℕ} {room : ℕ} {p : Progress} {at k stop count : ℕ} (t : Turn s lengths before words room p at k stop count)
    (c : Call) (is : c ≡ call pipe_limit p (take (stop - at) (drop at s))) where
  pub turn_inside : at + c.taken ≤ length s
  turn_inside =
      let h = t.feeds in
      omega (arith, taken_most c.notice c.taken (stop - at) (takes s p at stop count h c is), h.begun, h.inside)

  pub turn_wanted : c.notice ≡ wanted → (next : ℕ) → next ≡ part_end (length s) lengths (k + 1) (at + c.taken) → k < length lengths
      → Turn s lengths before words room c.after (at + c.taken) (k + 1) next count
  turn_wanted e next q l =
      let within = part_end_within (length s) lengths (k + 1) (at + c.taken) turn_inside in
      let there = (feeds_wanted s p at stop count t.feeds c is e stop (omega arith) t.feeds.inside).0 in
      let f = feeds_wanted s p at stop count t.feeds c is e next (omega (arith, within.0)) (omega (arith, within.1)) in
      record {
        feeds = subst (λ (n : ℕ). Feeds s c.after n next count) (sym there) f.1;
        filled = t.filled;
        parts = omega arith;
        last = λ m. q ∙ part_end_last (length s) lengths (k + 1) (at + c.taken) m;
      }

  pub turn_last : c.notice ≡ wanted → length lengths ≤ k → AllTold s c.after count
  turn_last e l =
      let f = feeds_wanted s p at stop count t.feeds c is e stop (omega arith) t.feeds.inside in
      feeds_end s c.after stop stop count f.1 (omega (arith, t.last l))

  pub turn_fits : fits pipe_limit c.after ≡ true
  turn_fits = fit_after s p at stop count t.feeds c is

  pub turn_complete : 4 * room ≤ length before → (x : Entry) → c.notice ≡ complete x → (next : List ℕ)
      → next ≡ cond (ltb count room) (overwritten words (4 * count) (words_in x)) words
      → (1 ≤ c.taken) × Turn s lengths before next room c.after (at + c.taken) k stop (count + 1)
  turn_complete fit x e next q =
      let f = feeds_complete s p at stop count t.feeds c is x e in
      let one = next_entry_lem s p at stop count t.feeds c is x e in (
        (some_taken s p at stop count t.feeds c is x e).0,
        record {
          feeds = f.1;
          filled = q
              ∙ ap (λ (w : List ℕ). cond (ltb count room) (overwritten w (4 * count) (words_in x)) w) t.filled
              ∙ written_more before (all s).told room fit count x (drop (count + 1) (all s).told) one;
          parts = t.parts;
          last = t.last;
        },
      )

  pub turn_refused : (n place : ℕ) → c.notice ≡ refusal n place → AllTold s (refused n place) count
  turn_refused = feeds_refused s p at stop count t.feeds c is

  pub turn_over : (records : ℕ) → c.notice ≡ over records → AllTold s (ended records) count
  turn_over = feeds_over s p at stop count t.feeds c is

  pub never_unfit : c.notice ≡ malformed → ⊥
  never_unfit = never_malformed s p at stop count t.feeds c is

  -- all records were told: what is written then
  pub turn_written : 4 * room ≤ length before → (q : Progress) → AllTold s q count
      → words ≡ overwritten before 0 (words_of (take room (piped pipe_limit s).entries))
  turn_written fit q h =
      t.filled ∙ written_all before (all s).told room fit count h.told
      ∙ ap (λ (es : List Entry). overwritten before 0 (words_of (take room es))) (all_entries s)

  pub turn_length : 4 * room ≤ length before → length words ≡ length before
  turn_length fit = ap length t.filled ∙ length_written before (all s).told room fit count
