-- `value::bytes_at` meets its contract: bytes that are read lie within, so that their place can be counted from the map's front.
use mathlib.Core.Path.{◌≡◌, sym, ap, ◌∙◌}
use Rattle.std.specs.Prelude.{Some}
use native.Mathlib.Omega.{arith}
use lib.ListN.{drop, length-drop}
use Rattle.slices.specs.Lists.{part_to_end}
use Rattle.msgpack.specs.Readers.{part, read_binary}
use Rattle.msgpack.specs.Formats.{binary_kind}
use Rattle.msgpack.specs.ReaderLaws.{part_inside}
use Rattle.value.proofs.bytes_at.Goals as goal
use Rattle.value.proofs.bytes_at.Goals.{In_ok-b}

read : (c : In_ok-b) → read_binary (drop c.args.p c.args.map.now) ≡ Some (part c.in_ok-b.b.start c.in_ok-b.b.len)
read c =
    let a = c.args in
    sym (ap read_binary (part_to_end a.p a.map.now)) ∙ sym c.in_ok-b.ensures.result_value

pub overflow_add-result : goal.overflow_add-result
overflow_add-result c = let a = c.args in
    omega (arith, part_inside binary_kind _ _ (read (goal.at.overflow_add-result c).In_ok-b), length-drop a.p a.map.now)
