-- `pack_list::range_under` meets its contract: at 0 the key is missing.
use mathlib.Core.Path.{sym, ap, subst, ◌∙◌}
use native.Mathlib.Omega.{arith}
use lib.ListN.{length-drop}
use lib.Seq.{drop-drop}
use Rattle.msgpack.specs.Items.{WholeItem}
use Rattle.msgpack.specs.PairLaws.{told_found}
use Rattle.pack_list.specs.Answers.{range_told}
use Rattle.pack_list.proofs.range_under.Goals as goal

pub overflow_add-at : goal.overflow_add-at
overflow_add-at c =
    let a = c in
    omega (arith, a.requires.0, a.requires.1.inside, length-drop a.args.at a.args.part.now)

pub range_at-requires : goal.range_at-requires
range_at-requires c =
    let a = c in
    subst WholeItem (drop-drop a.args.place a.args.at a.args.part.now) (a.requires.1.whole c.if-place-eq0.false)

pub returns : goal.returns
returns c =
    let a = c.args in
    c.range_at.ensures ∙ rw (told_found _ c.if-place-eq0.false) (ap range_told (sym (drop-drop a.place a.at a.part.now)))
