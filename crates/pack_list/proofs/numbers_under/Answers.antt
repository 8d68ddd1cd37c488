-- `pack_list::numbers_under` meets its contract: at 0 the key is missing, and the items of a whole array are whole.
use Prim.Native.Nat.{ℕ, ◌+◌, ◌≤◌}
use mathlib.Core.List.{List}
use Rattle.std.specs.Prelude.{Some}
use mathlib.Core.Path.{◌≡◌, sym, ap, ◌∙◌}
use native.Mathlib.Omega.{arith}
use lib.ListN.{length, drop, length-drop}
use Rattle.msgpack.specs.Formats.{array_kind}
use Rattle.msgpack.specs.Readers.{counted, read_array, counted_of}
use Rattle.msgpack.specs.ReaderLaws.{head_inside}
use Rattle.msgpack.specs.Views.{items_from}
use Rattle.pack_list.proofs.Arrays.{numbers_inside, no_numbers, none_whole, array_found, no_array, array_found_whole, array_placed, no_array_placed}
use Rattle.pack_list.proofs.numbers_under.Goals as goal
use Rattle.pack_list.proofs.numbers_under.Goals.{After-read_array, Else-place-eq0, In_ok-items, Start}

pub returns-then-place-eq0-clause-result_value : goal.returns-then-place-eq0-clause-result_value
unfolding items_from
returns-then-place-eq0-clause-result_value c = rw c.if-place-eq0.true

pub returns-then-place-eq0-clause-inside : goal.returns-then-place-eq0-clause-inside
unfolding items_from
returns-then-place-eq0-clause-inside c =
    let a = c in
    numbers_inside _ _ a.requires.0 (none_whole _)

pub returns-then-place-eq0-clause-place : goal.returns-then-place-eq0-clause-place
unfolding items_from
returns-then-place-eq0-clause-place c = rw c.if-place-eq0.true

abbrev place_of_lem : Start → ℕ
place_of_lem a = a.args.at + a.args.place

abbrev value_at_lem : Start → List ℕ
value_at_lem a = drop (place_of_lem a) a.args.part.now

inside : (c : Else-place-eq0) → place_of_lem (goal.at.Else-place-eq0 c).Start ≤ length c.args.part.now
inside c = let a = c in omega (arith, a.requires.0, a.requires.1.inside, length-drop a.args.at a.args.part.now)

pub overflow_add-at : goal.overflow_add-at
overflow_add-at c = omega (arith, inside (goal.at.overflow_add-at c).Else-place-eq0)

array_read : (c : After-read_array) → counted_of c.read_array.result ≡ read_array (value_at_lem (goal.at.After-read_array c).Start)
array_read c = c.read_array.ensures.result_value ∙ ap read_array c.from.ensures.result_value

array_read-2 : (c : In_ok-items) → counted_of c.read_array.result ≡ read_array (value_at_lem (goal.at.In_ok-items c).Start)
array_read-2 c = c.read_array.ensures.result_value ∙ ap read_array c.from.ensures.result_value

items_read : (c : In_ok-items)
    → read_array (value_at_lem (goal.at.In_ok-items c).Start)
    ≡ Some (counted c.in_ok-items.items.count c.in_ok-items.items.size)
items_read c = sym (array_read-2 c) ∙ ap counted_of c.in_ok-items.was

inside-2 : (c : In_ok-items) → place_of_lem (goal.at.In_ok-items c).Start ≤ length c.args.part.now
inside-2 c = let a = c in omega (arith, a.requires.0, a.requires.1.inside, length-drop a.args.at a.args.part.now)

head_ends : (c : In_ok-items)
    → place_of_lem (goal.at.In_ok-items c).Start + c.in_ok-items.items.size
    ≤ length c.args.part.now
head_ends c =
    let e = c in
    let a = e in
    omega (arith, inside-2 e, head_inside array_kind _ _ (items_read c), length-drop (place_of_lem (goal.at.In_ok-items c).Start) a.args.part.now)

pub overflow_add-result : goal.overflow_add-result
overflow_add-result c = omega (arith, head_ends (goal.at.overflow_add-result c).In_ok-items)

pub overflow_add-result-2 : goal.overflow_add-result-2
overflow_add-result-2 c = omega (arith, head_ends (goal.at.overflow_add-result-2 c).In_ok-items)

pub returns-clause-result_value : goal.returns-clause-result_value
returns-clause-result_value c =
    let e = c in
    let a = e in
    let r = a.args in
    array_found r.part.now r.at r.place e.if-place-eq0.false _ (items_read (goal.at.returns-clause-result_value c).In_ok-items)

pub returns-clause-inside : goal.returns-clause-inside
returns-clause-inside c =
    let e = c in
    let a = e in
    let r = a.args in
    let whole = array_found_whole r.part.now r.at r.place e.if-place-eq0.false _ (items_read (goal.at.returns-clause-inside c).In_ok-items) (a.requires.1.whole e.if-place-eq0.false) in
    numbers_inside _ _ (head_ends (goal.at.returns-clause-inside c).In_ok-items) whole

pub returns-clause-place : goal.returns-clause-place
returns-clause-place c =
    let e = c in
    let a = e in
    let r = a.args in
    array_placed r.part.now r.at r.place e.if-place-eq0.false _ (items_read (goal.at.returns-clause-place c).In_ok-items)

pub returns-in_err-items-clause-result_value : goal.returns-in_err-items-clause-result_value
returns-in_err-items-clause-result_value c =
    let r = c in
    let e = r in
    let a = e.args in
    let nothing = sym (array_read (goal.at.returns-in_err-items-clause-result_value r).After-read_array) ∙ ap counted_of c.in_err-items.was in
    rw c.from_residual.ensures (no_array a.part.now a.at a.place e.if-place-eq0.false nothing)

pub returns-in_err-items-clause-inside : goal.returns-in_err-items-clause-inside
returns-in_err-items-clause-inside c = rw c.from_residual.ensures (no_numbers _)

pub returns-in_err-items-clause-place : goal.returns-in_err-items-clause-place
returns-in_err-items-clause-place c =
    let r = c in
    let e = r in
    let a = e.args in
    let nothing = sym (array_read (goal.at.returns-in_err-items-clause-place r).After-read_array) ∙ ap counted_of c.in_err-items.was in
    rw c.from_residual.ensures (no_array_placed a.part.now a.at a.place e.if-place-eq0.false nothing)
