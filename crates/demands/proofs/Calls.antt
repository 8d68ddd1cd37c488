-- What the writer ensures of a call and another function of the front that it leaves, together; and of the lookup: demand 3, deletion.
use Prim.Native.Nat.{ℕ, ◌≤◌}
use mathlib.Core.Bool.{Bool, true, false, cond}
use mathlib.Core.List.{List}
use Rattle.std.specs.Prelude.{Option, None, Some, Result, Ok, Err}
use mathlib.Core.Path.{◌≡◌, refl, sym, ap, subst, ◌∙◌}
use native.Mathlib.Omega.{arith}
use lib.ListN.{length, take}
use Rattle.slices.specs.Bytes.{AllBytes}
use Rattle.slices.specs.Logic.{absurd_numbers}
use Rattle.refusals.specs.Answers as refusals
use Rattle.refusals.specs.Limit.{pack_limit}
use Rattle.refusals.specs.Answers.{granted}
use Rattle.refusals.specs.declared.Unwritten.{Unwritten}
use Rattle.refusals.specs.declared.Unwritten.TheVariants as unwritten
use Rattle.identifier.specs.Identity.{Identity}
use Rattle.records.specs.Record.{version_delete_tag}
use Rattle.writer.specs.Writing.{Item, deletion, tag_of, of_identity, answer_of, written, buffer_after}
use Rattle.writer_laws.specs.Refusals.{written_exactly}
use Rattle.current_version.specs.Current.{Answer, refused_at, is_name, lookup}
use Rattle.current_version.specs.Packs.{ReadablePack, SameAnswer}
use Rattle.lookup.specs.Answers.{found_of, FoundInside}
use Rattle.demands_laws.specs.Deletion.{TakesOut}
use Rattle.demands_laws.proofs.Deletion.{deletion_takes_out}
use Rattle.demands.specs.Answers.{counted, of_front, answers_of, looked_up, WritesFor, CountInside, DeletionInside, DeletionHolds}
use Rattle.demands.specs.declared.LookedUp.{LookedUp}

-- ---- what is told of the front, where the writer returned a count

pub record OfFront {A : Type 0} (tell : List ℕ → A) (after : List ℕ) (a : refusals.Answer ℕ) (n : ℕ) (x : A) : Type 0 where
  pub answered : a ≡ granted n
  pub told : x ≡ tell (take n after)

pub of_front_lem : {A : Type 0} (tell : List ℕ → A) (after : List ℕ) (a : refusals.Answer ℕ) (n : ℕ) (x : A)
    → counted n x ≡ of_front tell after a → OfFront tell after a n x
of_front_lem tell after (granted m) n x e = record { answered = cc; told = cc }
of_front_lem tell after (refusals.refused m) n x e = absurd_numbers (cc)

-- the count, and the bytes so far, lie in the buffer
pub record Within (used n : ℕ) (before : List ℕ) : Type 0 where
  pub so_far : used ≤ length before
  pub count : n ≤ length before

pub within : (used n : ℕ) (asked : Option Item) (before : List ℕ) → written pack_limit (length before) used asked ≡ granted n → Within used n before
unfolding written
within used n None before e = absurd_numbers (cc)
within used n (Some item) before e =
    let w = (written_exactly pack_limit (length before) used item n).0 e in record { so_far = omega arith; count = omega arith }

pub count_inside : (used : ℕ) (asked : Option Item) (before after : List ℕ) (w : Result ℕ Unwritten) → answer_of w ≡ written pack_limit (length before) used asked
    → length after ≡ length before → CountInside after w
count_inside used asked before after w e same =
    record { inside = λ n is. omega (arith, (within used n asked before (sym e ∙ ap answer_of is)).count) }

-- ---- the writer's call, only for a name that is admissible

module _ {admissible : Bool} {used : ℕ} {asked : Option Item} {before : List ℕ} where
  pub called : {w : Result ℕ Unwritten} {after : List ℕ} → admissible ≡ true → answer_of w ≡ written pack_limit (length before) used asked
      → after ≡ buffer_after pack_limit used asked before → WritesFor admissible used asked before w after
  called t answer buffer = record { answer = rw t answer; buffer = rw t buffer }

  pub not_called : admissible ≡ false → WritesFor admissible used asked before (Err unwritten.Inadmissible) before
  not_called t = record { answer = rw t; buffer = rw t }

-- ---- the lookup, where the writer returned a count

pub inside_found : (buf : List ℕ) (l : LookedUp) → FoundInside (take l.count buf) l.found → DeletionInside buf (Ok l)
inside_found buf l h = record { inside = λ k e. let same : l ≡ k = cc in rw (← same) h }

pub inside_unwritten : (buf : List ℕ) (u : Unwritten) → DeletionInside buf (Err u)
inside_unwritten buf u = record { inside = λ l e. absurd_numbers (cc) }

-- ---- the writer's call and the lookup

-- whatever is asked for is a `vd`
abbrev pub AsksDelete : Option Item → Type 0
AsksDelete None = Unit {0}
AsksDelete (Some item) = tag_of item ≡ version_delete_tag

pub asks_deletion : (u : List ℕ) (o : Option Identity) → AsksDelete (of_identity (λ i. deletion i u) o)
asks_deletion u None = tt
asks_deletion u (Some i) = refl

count_takes_out : (used n : ℕ) (asked : Option Item) (before : List ℕ) → written pack_limit (length before) used asked ≡ granted n
    → (bucket object : List ℕ) → AsksDelete asked → AllBytes (buffer_after pack_limit used asked before)
    → ReadablePack pack_limit (take used before) → is_name bucket object ≡ true
    → TakesOut pack_limit asked (take used before) bucket object (lookup pack_limit (take n (buffer_after pack_limit used asked before)) bucket object)
unfolding written
count_takes_out used n None before e = absurd_numbers (cc)
count_takes_out used n (Some item) before e = deletion_takes_out pack_limit (omega arith) item used n before e

module _ (used : ℕ) (asked : Option Item) (before after : List ℕ) where
  record Counts (name : Bool) (n : ℕ) : Type 0 where
    named : name ≡ true
    wrote : written pack_limit (length before) used asked ≡ granted n

  counts : (name : Bool) (n : ℕ) → cond name (written pack_limit (length before) used asked) (refusals.refused 20) ≡ granted n → Counts name n
  counts true n e = record { named = refl; wrote = e }
  counts false n e = absurd_numbers (cc)

  pub deletion_inside : {name : Bool} {w : Result ℕ Unwritten} → WritesFor name used asked before w after → length after ≡ length before → CountInside after w
  deletion_inside {name} h same =
      record { inside = λ n is. omega (arith, (within used n asked before (counts name n (sym h.answer ∙ ap answer_of is)).wrote).count) }

  module _ (bucket object : List ℕ) (r : Result LookedUp Unwritten) where
    abbrev answer : refusals.Answer ℕ
    answer = cond (is_name bucket object) (written pack_limit (length before) used asked) (refusals.refused 20)

    no_refusal : (number place : ℕ) (a b : Answer) → a ≡ refused_at number place → SameAnswer a b → ⊥
    no_refusal number place a b e s = subst (λ x. SameAnswer x b) e s

    pub deletion_holds : AsksDelete asked → AllBytes after → (w : Result ℕ Unwritten) → WritesFor (is_name bucket object) used asked before w after
        → answers_of after r ≡ of_front (looked_up bucket object) after (answer_of w) → DeletionInside after r
        → DeletionHolds used asked before bucket object r after
    deletion_holds vd all w wrote found inside =
        record {
          answers = answers;
          buffer = wrote.buffer;
          found_inside = inside;
          named = λ l is. (count l is).named;
          told_inside = λ l is. (within used l.count asked before (count l is).wrote).so_far;
          takes_out = takes_out;
          stands_written = λ l number place is refuses.
              record {
                refuses = sym (there l is).told ∙ refuses;
                counted = (count l is).wrote;
                buffer = stored l is;
                damaged = λ readable. no_refusal number place _ _ refuses (takes_out l is readable).same;
              };
        }
      where
        answers : answers_of after r ≡ of_front (looked_up bucket object) after answer
        answers = found ∙ ap (of_front (looked_up bucket object) after) wrote.answer

        there : (l : LookedUp) → r ≡ Ok l → OfFront (looked_up bucket object) after answer l.count (found_of (take l.count after) l.found)
        there l is = of_front_lem (looked_up bucket object) after answer l.count _ (ap (answers_of after) (sym is) ∙ answers)

        count : (l : LookedUp) → r ≡ Ok l → Counts (is_name bucket object) l.count
        count l is = counts (is_name bucket object) l.count (there l is).answered

        stored : (l : LookedUp) → r ≡ Ok l → after ≡ buffer_after pack_limit used asked before
        stored l is = wrote.buffer ∙ ap (λ b. cond b (buffer_after pack_limit used asked before) before) (count l is).named

        takes_out : (l : LookedUp) → r ≡ Ok l → ReadablePack pack_limit (take used before)
            → TakesOut pack_limit asked (take used before) bucket object (found_of (take l.count after) l.found)
        takes_out l is readable =
            let c = count l is in
            rw ((there l is).told, stored l is)
            (count_takes_out used l.count asked before c.wrote bucket object vd (subst AllBytes (stored l is) all) readable c.named)
