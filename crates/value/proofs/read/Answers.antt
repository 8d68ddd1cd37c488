-- `value::read` meets its contract, by what passing over the first item finds.
use mathlib.Core.Path.{◌≡◌, sym, ap, ◌∙◌}
use Prim.Native.Nat.{ℕ}
use mathlib.Core.List.{List}
use mathlib.Core.Path.{refl}
use Rattle.std.specs.Prelude.{Err}
use Rattle.std.proofs.lemmas.Result.{err_from_is_err_and}
use Rattle.refusals.specs.Answers.{refused}
use Rattle.msgpack.specs.declared.Fault as msgpack
use Rattle.msgpack.specs.declared.Fault.TheVariants.{Cut, TooDeep}
use Rattle.msgpack.specs.Items.{whole, passage_of, pass_over}
use Rattle.msgpack.specs.PassingLaws.{bounded}
use Rattle.value.specs.Header.{alone, header}
use Rattle.value.specs.Reading.{by_item, reading, number_of, fault_of}
use Rattle.value.proofs.Lookups.{no_bytes}
use Rattle.value.proofs.Keys.{header_places, no_header}
use borrow.Author.Tests.{not-false, not-true}
use Rattle.value.proofs.read.Goals as goal
use Rattle.value.proofs.read.Goals.{In_ok-n}

-- the first item is not passed over
not_passed : (limit : ℕ) (s : List ℕ) (f : msgpack.Fault) → refused (number_of (fault_of f)) ≡ by_item limit s (passage_of (Err f))
not_passed limit s Cut = refl
not_passed limit s TooDeep = refl

item_whole : (c : In_ok-n) → pass_over c.args.value.now ≡ whole c.in_ok-n.n
item_whole c = sym c.read_pairs-pairs.ensures.passed ∙ ap passage_of c.in_ok-n.was

pub returns-then-not-pairs : goal.returns-then-not-pairs
unfolding reading header alone
returns-then-not-pairs c =
    let k = c in
    rw (item_whole (goal.at.returns-then-not-pairs k).In_ok-n, no_bytes _ _ (no_header _ _ k.read_pairs-pairs.ensures _ (item_whole (goal.at.returns-then-not-pairs k).In_ok-n) (not-true _ c.if-not-pairs.true)))

pub filled-requires : goal.filled-requires
filled-requires c =
    let k = c in
    ((bounded _ _ _ (item_whole (goal.at.filled-requires k).In_ok-n)).within, header_places _ _ k.read_pairs-pairs.ensures _ (item_whole (goal.at.filled-requires k).In_ok-n) (not-false _ c.if-not-pairs.false))

pub returns : goal.returns
unfolding reading
returns c = c.filled.ensures ∙ rw (item_whole (goal.at.returns c).In_ok-n)

pub returns-in_err-n : goal.returns-in_err-n
unfolding reading
returns-in_err-n c =
    let p = err_from_is_err_and c.from_residual.result c.from_residual.ensures.1 in
    rw (p.1, p.2, sym c.read_pairs-pairs.ensures.passed ∙ ap passage_of c.in_err-n.was) (not_passed _ _ c.in_err-n.field-0.0)
