-- Once n entries are written the list is the first n entries, and what it held after those.
use Rattle.std.proofs.Common.{◌≡◌, ◌∙◌, ap, arith}
use Rattle.pack.proofs.Writes.{written_to, written_is}
use Rattle.pack.proofs.fill.Goals as goal

pub returns : goal.returns
returns c =
    let all : c.loop-i.i ≡ c.args.n = omega arith in
    c.loop-i.invariant.so_far ∙ ap (λ i. written_to c.args.pack.now i c.args.list.now) all ∙ written_is c.args.pack.now c.args.n c.args.list.now c.requires
