-- `msgpack::read_pairs` meets its contract: the pairs of a map follow its head.
use mathlib.Core.Path.{◌≡◌, ap}
use native.Mathlib.Omega.{arith}
use Rattle.std.proofs.Common.{sym, ◌∙◌}
use borrow.Author.Tests.{eqb-true, eqb-false}
use Rattle.msgpack.specs.declared.Kind.TheVariants.{Map}
use Rattle.msgpack.specs.KindLaws.{same_index}
use Rattle.msgpack.specs.Formats.{kind_index, unused_kind}
use Rattle.msgpack.specs.Items.{Head, head_read, head_of}
use Rattle.msgpack.specs.PassingLaws.{head_within}
use Rattle.msgpack.proofs.Maps.{map_front, other_front}
use Rattle.msgpack.proofs.read_pairs.Goals as goal

pub pairs_from-requires : goal.pairs_from-requires
pairs_from-requires c =
    let h = c.head_at-h in
    let s = c.args.s.now in
    let is : head_read h.result ≡ head_of s = h.ensures.is in
    let size : h.result.size ≡ (head_of s).size = ap (λ (h : Head). h.size) is in
    let kind : kind_index h.result.kind ≡ (head_of s).kind = ap (λ (h : Head). h.kind) is in
    omega (arith, (head_within s).begun (λ (u : (head_of s).kind ≡ unused_kind). omega (arith, eqb-true _ _ (sym (c.if-eq.ensures ∙ same_index h.result.kind Map)))))

pub returns-then-eq : goal.returns-then-eq
returns-then-eq c =
    let a = c in
    map_front a.args.s.now a.args.keys (omega arith) (record { below = λ k. (c.type_inv.s k).fits }) c.pairs_from.result
    (head_read c.head_at-h.result) c.head_at-h.ensures.is (eqb-true _ _ (sym (c.if-eq.ensures ∙ same_index c.head_at-h.result.kind Map))) c.pairs_from.ensures

pub returns : goal.returns
returns c =
    let a = c in
    other_front a.args.s.now a.args.keys (omega arith) (record { below = λ k. (c.type_inv.s k).fits }) _
    (head_read c.head_at-h.result) c.head_at-h.ensures.is (eqb-false _ _ (sym (c.if-eq.ensures ∙ same_index c.head_at-h.result.kind Map)))
    (rw c.pass_item.ensures at c.no_pairs.ensures)
