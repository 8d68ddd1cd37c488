-- `pack_list::next_entry` meets its contract: the entry is told where a whole item stands, and the next place is behind it.
use Prim.Native.Nat.{ℕ}
use mathlib.Core.List.{List}
use Rattle.std.specs.Prelude.{Option, None, Result, Err}
use Rattle.msgpack.specs.declared.Fault.{Fault}
use Rattle.msgpack.specs.declared.Fault.TheVariants.{Cut, TooDeep}
use mathlib.Core.Path.{◌≡◌, sym, ap, ◌∙◌}
use native.Mathlib.Omega.{arith}
use lib.ListN.{drop, length-drop}
use Rattle.msgpack.specs.Items.{whole, passage_of, depth_allowed, pass_over}
use Rattle.msgpack.specs.PassingLaws.{bounded}
use Rattle.pack_list.specs.Answers.{if_passed, next_entry}
use Rattle.pack_list.proofs.Entries.{next_inside, no_next, told_entry, told_none, tests_tell}
use Rattle.pack_list.proofs.next_entry.Goals as goal
use Rattle.pack_list.proofs.next_entry.Goals.{After-pass_over, In-Ok, Start}

abbrev item_at_lem : Start → List ℕ
item_at_lem a = drop a.args.at a.args.part.now

-- what passing over the item finds
item_passed : (c : After-pass_over) → pass_over (item_at_lem (goal.at.After-pass_over c).Start) ≡ passage_of c.pass_over.result
item_passed c = sym (c.pass_over.ensures ∙ ap pass_over c.from.ensures.result_value)

item_passed-2 : (c : In-Ok) → pass_over (item_at_lem (goal.at.In-Ok c).Start) ≡ passage_of c.pass_over.result
item_passed-2 c = sym (c.pass_over.ensures ∙ ap pass_over c.from.ensures.result_value)

item_whole : (c : In-Ok) → pass_over (item_at_lem (goal.at.In-Ok c).Start) ≡ whole c.in-Ok.n
item_whole c = item_passed-2 c ∙ ap passage_of c.in-Ok.is

pub entry_at-requires : goal.entry_at-requires
entry_at-requires c = record { size = _; is = item_whole (goal.at.entry_at-requires c).In-Ok }

pub overflow_add-result : goal.overflow_add-result
overflow_add-result c =
    let k = c in
    let a = k in
    let taken = bounded depth_allowed (item_at_lem (goal.at.overflow_add-result c).Start) _ (item_whole (goal.at.overflow_add-result k).In-Ok) in
    omega (arith, taken.some_byte, taken.within, length-drop a.args.at a.args.part.now)

pub returns-clause-result_value : goal.returns-clause-result_value
unfolding next_entry
returns-clause-result_value c =
    let told = c.in_ok-entry.ensures.result_value in
    let e = told_entry c.args.part.now (item_at_lem (goal.at.returns-clause-result_value c).Start) _ _ told in
    rw (item_whole (goal.at.returns-clause-result_value c).In-Ok, e)

pub returns-clause-inside : goal.returns-clause-inside
returns-clause-inside c =
    let told = c.in_ok-entry.ensures.result_value in
    next_inside _ _ _ (c.entry_at.ensures.inside.here _ _ c.in_ok-entry.was)
    (λ x q. (tests_tell c.args.part.now (item_at_lem (goal.at.returns-clause-inside c).Start) _ _ x told q).blocks)

pub returns-in_err-entry-clause-result_value : goal.returns-in_err-entry-clause-result_value
unfolding next_entry
returns-in_err-entry-clause-result_value c =
    let e = told_none (item_at_lem (goal.at.returns-in_err-entry-clause-result_value c).Start) (c.in_err-entry.ensures.result_value) in
    rw (c.from_residual.ensures, item_whole (goal.at.returns-in_err-entry-clause-result_value c).In-Ok, e)

pub returns-in_err-entry-clause-inside : goal.returns-in_err-entry-clause-inside
returns-in_err-entry-clause-inside c = rw c.from_residual.ensures (no_next _ _)

-- where none was whole
not_passed : (r : Result ℕ Fault) (f : Fault) → r ≡ Err f → {A : Type 0} (next : ℕ → Option A) → None ≡ if_passed (passage_of r) next
not_passed r Cut e next = rw e
not_passed r TooDeep e next = rw e

pub returns-in_default-clause-result_value : goal.returns-in_default-clause-result_value
unfolding next_entry
returns-in_default-clause-result_value c =
    rw (item_passed (goal.at.returns-in_default-clause-result_value c).After-pass_over) (not_passed _ _ c.in_default.is _)

pub returns-in_default-clause-inside : goal.returns-in_default-clause-inside
returns-in_default-clause-inside c = no_next _ _
