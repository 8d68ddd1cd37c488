-- `list_pack::put_lines` meets its contract. The invariant: the lines of the entries so far have been put, of at most 64 bytes each.
use Rattle.list_pack.proofs.Lines.{Lines}
use Rattle.list_pack.proofs.put_lines.Given as goal

abbrev pub invariant-loop-e : goal.invariant-loop-e
invariant-loop-e l = Lines l.initial.out l.entries l.e-index l.out l.at
