-- What the writer and the reading ensure of one call each, together: demand 2, read-back.
use Prim.Native.Nat.{ℕ, ◌+◌}
use mathlib.Core.List.{List}
use Rattle.std.specs.Prelude.{Option, None, Some, Result, Ok, Err}
use mathlib.Core.Path.{◌≡◌, refl, sym, ap, subst, ◌∙◌}
use native.Mathlib.Omega.{arith}
use lib.ListN.{length, take, drop}
use lib.Seq.{drop-drop}
use Rattle.slices.specs.Bytes.{AllBytes}
use Rattle.slices.specs.Logic.{absurd_numbers}
use Rattle.refusals.specs.Limit.{pack_limit}
use Rattle.refusals.specs.Answers.{granted}
use Rattle.refusals.specs.declared.Unwritten.{Unwritten}
use Rattle.value.specs.Header.{telling_of}
use Rattle.value.specs.declared.Told.{Told}
use Rattle.records.specs.Record.{Record, there, told_from, record_from, there_from}
use Rattle.records.specs.Answers.{record_in, place_of, PlaceInside}
use Rattle.records.specs.declared.Placed.{Placed}
use Rattle.records.specs.declared.PlaceFault.{PlaceFault}
use Rattle.records.specs.declared.PlaceFault.TheVariants as place-fault
use Rattle.records_model.specs.HeaderReads.{held_in}
use Rattle.records_model.specs.Record as held
use Rattle.writer.specs.Writing.{Item, value_of, answer_of, written, buffer_after}
use Rattle.writer_laws.specs.Meaning.{held_of}
use Rattle.writer_laws.specs.Added.{Tells, IsAdded, value_last, added_extends}
use Rattle.writer_laws.proofs.Added.{added_means}
use Rattle.demands.specs.Answers.{of_front, read_back_of, read_behind, ReadInside, ReadBackHolds}
use Rattle.demands.specs.declared.ReadBack.{ReadBack}
use Rattle.demands.proofs.Calls.{OfFront, of_front_lem, within}

-- ---- the reading, where the writer returned a count

pub inside_read : (used : ℕ) (buf : List ℕ) (b : ReadBack) → PlaceInside (take b.count buf) used b.read → ReadInside used buf (Ok b)
inside_read used buf b h = record { inside = λ k e. let same : b ≡ k = cc in rw (← same) h }

pub inside_unwritten : (used : ℕ) (buf : List ℕ) (u : Unwritten) → ReadInside used buf (Err u)
inside_unwritten used buf u = record { inside = λ b e. absurd_numbers (cc) }

-- ---- what is told in places of the pack, where the value stands last in it

module _ (used : ℕ) (s : List ℕ) (item : Item) (last : drop (used + 32) s ≡ value_of item) where
  part_there : (start len : ℕ) → take len (drop (used + 32 + start) s) ≡ take len (drop start (value_of item))
  part_there start len = ap (take len) (sym (drop-drop start (used + 32) s) ∙ ap (drop start) last)

  held_there : (t : Told) → held_in s (told_from (used + 32) t) ≡ held_in (value_of item) t
  held_there t = λ i. record {
    primary = part_there t.primary.start t.primary.len i;
    secondary = part_there t.secondary.start t.secondary.len i;
    told = telling_of t;
  }

  tells : (found : Record) → held.record_in (value_of item) (granted found) ≡ held_of item → (p : Result Placed PlaceFault)
      → place_of s p ≡ there (value_of item) (record_from (used + 32) found) → Tells s item p
  tells found holds (Ok p) e =
      let told_is : record_in s p.«record» ≡ record_from (used + 32) found = cc in
      record {
        found = p.«record»;
        value = p.value;
        is = refl;
        value_is = cc;
        holds = ap (λ r. held.record_in s (granted r)) told_is
            ∙ (λ i. granted (record { held = held_there found.told i; contents = found.contents })) ∙ holds;
      }
  tells found holds (Err place-fault.Outside) e = absurd_numbers (cc)
  tells found holds (Err (place-fault.Pack f)) e = absurd_numbers (cc)
  tells found holds (Err (place-fault.Record f)) e = absurd_numbers (cc)

-- ---- the writer's call and the reading

module _ (used n : ℕ) (before : List ℕ) (p : Result Placed PlaceFault) where
  added : (asked : Option Item) → written pack_limit (length before) used asked ≡ granted n → AllBytes (buffer_after pack_limit used asked before)
      → place_of (take n (buffer_after pack_limit used asked before)) p ≡ read_behind used (take n (buffer_after pack_limit used asked before))
      → IsAdded asked (take used before) (take n (buffer_after pack_limit used asked before)) p
  unfolding written
  added None wrote all told = absurd_numbers (cc)
  added (Some item) wrote all told =
      let m = added_means pack_limit (omega arith) item used n before wrote all in
      record {
        item = item;
        is_asked_lem = refl;
        tells = tells used _ item (value_last pack_limit (omega arith) item used n before wrote) m.found m.holds p
            (told ∙ ap (there_from (used + 32)) m.there_is);
        extends = added_extends pack_limit (omega arith) item used n before wrote all;
      }

module _ (used : ℕ) (asked : Option Item) (before after : List ℕ) (r : Result ReadBack Unwritten) where
  pub read_back_holds : AllBytes after → (w : Result ℕ Unwritten) → answer_of w ≡ written pack_limit (length before) used asked
      → after ≡ buffer_after pack_limit used asked before → read_back_of after r ≡ of_front (read_behind used) after (answer_of w) → ReadInside used after r
      → ReadBackHolds used asked before r after
  read_back_holds all w wrote buffer told inside =
      record {
        answers = answers;
        buffer = buffer;
        read_inside = inside;
        told_inside = λ b is. (within used b.count asked before (there_is b is).answered).so_far;
        reads_back = λ b is.
            rw buffer (added used b.count before b.read asked (there_is b is).answered (subst AllBytes buffer all) (rw buffer at (there_is b is).told));
      }
    where
      answers : read_back_of after r ≡ of_front (read_behind used) after (written pack_limit (length before) used asked)
      answers = told ∙ ap (of_front (read_behind used) after) wrote

      there_is : (b : ReadBack) → r ≡ Ok b
          → OfFront (read_behind used) after (written pack_limit (length before) used asked) b.count (place_of (take b.count after) b.read)
      there_is b is = of_front_lem (read_behind used) after _ b.count _ (ap (read_back_of after) (sym is) ∙ answers)
