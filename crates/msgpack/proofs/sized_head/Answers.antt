-- `msgpack::sized_head` meets its contract: the number is read behind the first byte.
use mathlib.Core.Path.{◌≡◌, sym, ap, ◌∙◌}
use native.Mathlib.Omega.{arith}
use lib.ListN.{get_or}
use Rattle.slices.specs.Bytes.{AllBytes}
use Rattle.endian.specs.Numbers.{big}
use Rattle.msgpack.specs.Formats.{format_read, width_of, amount_of, format_of}
use Rattle.msgpack.specs.HeadLaws.{number_read, read_small, Narrow}
use Rattle.msgpack.proofs.Heads.{narrow_at, head_read_at, head_unread_at}
use Rattle.msgpack.proofs.sized_head.Goals as goal
use Rattle.msgpack.proofs.sized_head.Goals.{After-sized_format-f}

-- the format is the first byte's
format_is : (c : After-sized_format-f) → (format_read c.sized_format-f.result) ≡ format_of (get_or c.args.s.now c.args.at 0)
format_is c = c.sized_format-f.ensures ∙ ap format_of c.requires.1

bytes : (c : After-sized_format-f) → AllBytes c.args.s.now
bytes c = record { below = λ k. (c.type_inv.s k).fits }

small : (c : After-sized_format-f) → Narrow (width_of (format_read c.sized_format-f.result)) (amount_of (format_read c.sized_format-f.result))
small c = narrow_at _ _ _ c.requires.0 (format_is c) (bytes c)

pub overflow_add-result : goal.overflow_add-result
overflow_add-result c = omega (arith, (small (goal.at.overflow_add-result c).After-sized_format-f).width_small)

pub overflow_add-result-in-Some : goal.overflow_add-result-in-Some
overflow_add-result-in-Some c =
    let f = (goal.at.overflow_add-result-in-Some c).After-sized_format-f in
    omega
    (arith, (small f).amount_small, read_small _ _ _ _ (bytes f) (small f).width_small (number_read big _ _ _ _ (sym c.in-Some.ensures)))

pub returns-in-Some : goal.returns-in-Some
returns-in-Some c =
    let f = (goal.at.returns-in-Some c).After-sized_format-f in
    head_read_at _ _ (format_read c.sized_format-f.result) c.requires.0 (format_is f) (bytes f) _ (sym c.in-Some.ensures)

pub returns-in-None : goal.returns-in-None
returns-in-None c =
    let f = (goal.at.returns-in-None c).After-sized_format-f in
    head_unread_at _ _ (format_read c.sized_format-f.result) c.requires.0 (format_is f) (sym c.in-None.ensures)
