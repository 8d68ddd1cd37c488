-- The length is tested; then the part is written.
use native.Mathlib.Omega.{arith}
use Rattle.writer.proofs.Parts.{part_short_lem, part_stored}
use Rattle.writer.proofs.store_version_part.Goals as goal

pub returns-then-out-n : goal.returns-then-out-n
returns-then-out-n c = part_short_lem _ _ (omega (arith, c.version_part_size-n.ensures))

pub returns : goal.returns
returns c =
    let size = c.version_part_size-n.ensures in
    part_stored _ _ size (omega (arith, size)) c.put_version_part.ensures
