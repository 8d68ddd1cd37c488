-- A count that the writer answers is within the limit on a pack's length: of a pack it is tested, and of a part alone it is never above it.
use Prim.Native.Nat.{ℕ, ◌≤◌, ◌+◌}
use mathlib.Core.Bool.{Bool, true, false, cond}
use mathlib.Core.List.{List}
use Rattle.std.specs.Prelude.{Option, None, Some, Result}
use mathlib.Core.Path.{◌≡◌, refl, sym, ap, ◌∙◌}
use native.Mathlib.Omega.{arith}
use borrow.Author.Tests.{leb-true}
use lib.Dec.{leb}
use lib.ListN.{length}
use Rattle.slices.specs.Logic.{absurd_numbers}
use Rattle.refusals.specs.Limit.{pack_limit}
use Rattle.refusals.specs.Answers.{granted, refused}
use Rattle.refusals.specs.declared.Unwritten.{Unwritten}
use Rattle.identifier.specs.Identity.{Identity, is_valid}
use Rattle.writer.specs.Values.{version_part}
use Rattle.writer.specs.Writing.{Item, item_bytes, admitted, answer_of, counted, written, version_part_of, part_written}
use Rattle.writer.specs.Limits.{version_part_within}
use Rattle.capi_writing.specs.Write.{CountWithin}

counted_within : (limit room used size n : ℕ) → counted limit room used size ≡ granted n → n ≤ limit
unfolding counted
counted_within limit room used size n e = by (leb (used + size) limit) (leb (used + size) room) refl e
  where
    by : (l r : Bool) → leb (used + size) limit ≡ l → cond l (cond r (granted (used + size)) (refused 19)) (refused 20) ≡ granted n → n ≤ limit
    by true true p f = let is : n ≡ used + size = cc in omega (arith, leb-true (used + size) limit p)
    by true false p f = absurd_numbers (cc)
    by false r p f = absurd_numbers (cc)

written_within : (limit room used n : ℕ) (asked : Option Item) → written limit room used asked ≡ granted n → n ≤ limit
unfolding written
written_within limit room used n None e = absurd_numbers (cc)
written_within limit room used n (Some item) e = by (admitted item) e
  where
    by : (a : Bool) → cond a (counted limit room used (length (item_bytes item))) (refused 20) ≡ granted n → n ≤ limit
    by true f = counted_within limit room used (length (item_bytes item)) n f
    by false f = absurd_numbers (cc)

pub count_within : (room used : ℕ) (asked : Option Item) (w : Result ℕ Unwritten) → answer_of w ≡ written pack_limit room used asked → CountWithin w
count_within room used asked w e = record { within = λ n is. written_within pack_limit room used n asked (sym e ∙ ap answer_of is) }

stored_within : (room n : ℕ) (part : List ℕ) → length part ≤ pack_limit → part_written room (Some part) ≡ granted n → n ≤ pack_limit
unfolding part_written
stored_within room n part l e = by (leb (length part) room) e
  where
    by : (r : Bool) → cond r (granted (length part)) (refused 19) ≡ granted n → n ≤ pack_limit
    by true f = let is : n ≡ length part = cc in omega arith
    by false f = absurd_numbers (cc)

made_within : (room n : ℕ) (marker : Bool) (o : Option Identity) → part_written room (version_part_of marker o) ≡ granted n → n ≤ pack_limit
unfolding part_written
made_within room n marker None e = absurd_numbers (cc)
made_within room n marker (Some i) e = by (is_valid i) refl e
  where
    by : (v : Bool) → is_valid i ≡ v → part_written room (cond v (Some (version_part i marker)) None) ≡ granted n → n ≤ pack_limit
    by true v f = stored_within room n (version_part i marker) (version_part_within i marker v) f
    by false v f = absurd_numbers (cc)

pub part_within : (room : ℕ) (marker : Bool) (o : Option Identity) (w : Result ℕ Unwritten) → answer_of w ≡ part_written room (version_part_of marker o) → CountWithin w
part_within room marker o w e = record { within = λ n is. made_within room n marker o (sym e ∙ ap answer_of is) }
