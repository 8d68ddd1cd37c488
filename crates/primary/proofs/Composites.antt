-- The three parts of a composite text, as places of the part in which the text stands.
use Prim.Native.Nat.{ℕ, ◌+◌, ◌-◌, ◌≤◌, ◌<◌}
use mathlib.Core.List.{List}
use Rattle.std.specs.Prelude.{None, Some}
use mathlib.Core.Path.{◌≡◌, sym, ap, ◌∙◌}
use native.Mathlib.Omega.{arith}
use lib.ListN.{length, take, drop, length-drop}
use lib.Seq.{length-take-le, take-take, take-add, drop_at, drop-drop}
use Rattle.slices.specs.Lists.{part_length}
use Rattle.refusals.specs.Answers.{refused, granted, or_refused}
use Rattle.identifier.specs.Composite.{identity_in, slash_in, parts_at, SplitAt, split_at, split_none}
use Rattle.primary.specs.Answers.{AllInside, texts_in}
use Rattle.primary.specs.declared.Texts.{Texts}

drop_take : (m k : ℕ) (l : List ℕ) → m ≤ length l → drop m (take (m + k) l) ≡ take k (drop m l)
drop_take m k l h = rw (take-add m k l) (drop_at (take m l) (take k (drop m l)) m (length-take-le m l h))

module _ (s : List ℕ) (start len : ℕ) (within : start + len ≤ length s) where
  abbrev text : List ℕ
  text = take len (drop start s)

  long : length text ≡ len
  long = part_length s start len within

  rest_of : (m : ℕ) → m ≤ len → drop m text ≡ take (len - m) (drop (start + m) s)
  rest_of m h =
      let n : len ≡ m + (len - m) = omega arith in
      let l : m ≤ length (drop start s) = omega (arith, length-drop start s) in
      ap (λ k. drop m (take k (drop start s))) n ∙ drop_take m (len - m) (drop start s) l ∙ ap (take (len - m)) (drop-drop m start s)

  module _ (slash : ℕ) (e : Some slash ≡ slash_in text) where
    split : SplitAt text slash
    split = split_at text slash (sym e)

    pub record Bounds : Type 0 where
      pub after : 27 < slash
      pub before_end : slash + 1 < len

    pub bounds : Bounds
    bounds = record { after = split.after; before_end = omega (arith, split.inside, long) }

    abbrev places : Texts
    places = record {
      ulid = record { start = start; len = 26 };
      bucket = record { start = start + 27; len = slash - 27 };
      object = record { start = start + (slash + 1); len = len - (slash + 1) };
    }

    parts_are : parts_at text slash ≡ texts_in s places
    parts_are =
        let b = bounds in
        let ulid : take 26 text ≡ take 26 (drop start s) = take-take 26 len (drop start s) (omega arith) in
        let bucket : take (slash - 27) (drop 27 text) ≡ take (slash - 27) (drop (start + 27) s)
        = ap (take (slash - 27)) (rest_of 27 (omega arith)) ∙ take-take (slash - 27) (len - 27) (drop (start + 27) s) (omega arith) in
        let object : drop (slash + 1) text ≡ take (len - (slash + 1)) (drop (start + (slash + 1)) s) = rest_of (slash + 1) (omega arith) in
        rw (ulid, bucket, object)

    pub composite_read : granted (texts_in s places) ≡ or_refused 18 (identity_in text) granted
    composite_read = rw (split.read, parts_are)

    pub composite_inside : AllInside s places
    composite_inside =
        let b = bounds in
        record {
          ulid = record { end = omega arith };
          bucket = record { end = omega arith };
          object = record { end = omega arith };
        }

  pub composite_refused : None ≡ slash_in text → refused 18 ≡ or_refused 18 (identity_in text) granted
  composite_refused e = rw (split_none text (sym e))
