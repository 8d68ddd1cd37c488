-- `slices::copy` meets its contract. The invariant: the first i elements have been pasted.
use Rattle.std.proofs.Common.{suc, ◌≡◌, ◌+◌, ◌∙◌, ap, length, arith}
use lib.ListN.{set}
use lib.Seq.{paste, paste-suc, take-length}
use Rattle.slices.specs.Overwriting.{overwritten}
use Rattle.slices.proofs.copy.Goals as goal

pub loop-i-preserved : goal.loop-i-preserved
loop-i-preserved g c =
    let a = c.args in
    let i = c.loop-i.i in
    let x = c.index-text-i in
    let next : suc i ≡ i + 1 = omega arith in (
      omega arith,
      ap (λ o. set o (a.at + i) x.result) c.loop-i.invariant.1
          ∙ ap (set (paste a.out.now a.at a.text.now i) (a.at + i)) x.is
          ∙ paste-suc a.out.now a.at a.text.now i x.result (omega arith) (omega arith)
          ∙ ap (paste a.out.now a.at a.text.now) next,
    )

pub returns : goal.returns
unfolding overwritten
returns g c =
    let a = c.args in
    let e : c.loop-i.i ≡ length a.text.now = omega arith in
    rw (c.loop-i.invariant.1, e, take-length a.text.now)
