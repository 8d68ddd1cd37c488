-- `console::put` meets its contract. Whether the bytes were written is whether there is room.
use mathlib.Core.Bool.{true}
use mathlib.Core.Path.{◌≡◌, sym, ◌∙◌}
use Prim.Native.Nat.{◌+◌}
use lib.Dec.{leb}
use lib.ListN.{length}
use Rattle.console.proofs.Lines.{put_written, put_unwritten}
use Rattle.console.proofs.put.Goals as goal
use Rattle.console.proofs.put.Goals.{Then-write_bytes}

-- it was written, so there is room
written : (c : Then-write_bytes) → leb (c.args.at + length c.args.text.now) (length c.args.out.now) ≡ true
written c = sym c.write_bytes.ensures.value ∙ c.if-write_bytes.true

pub returns-then-write_bytes : goal.returns-then-write_bytes
returns-then-write_bytes c = put_written c.write_bytes.ensures.out_after (written c)

pub returns-else-write_bytes : goal.returns-else-write_bytes
returns-else-write_bytes c = put_unwritten c.write_bytes.ensures.out_after (sym c.write_bytes.ensures.value ∙ c.if-write_bytes.false)
