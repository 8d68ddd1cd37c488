-- `msgpack::code_at` meets its contract: the number of the key's bytes is read behind its head.
use Prim.Native.Nat.{◌+◌}
use Rattle.std.specs.Prelude.{Some}
use mathlib.Core.Path.{◌≡◌, sym, ◌∙◌}
use borrow.Author.Tests.{eqb-true, eqb-false, not-true, not-false}
use Rattle.msgpack.specs.declared.Kind.TheVariants.{Text}
use Rattle.msgpack.specs.KindLaws.{same_index}
use native.Mathlib.Omega.{arith}
use Rattle.endian.specs.Places.{number_at}
use Rattle.endian.specs.Numbers.{big}
use Rattle.msgpack.specs.Formats.{kind_index, text_kind}
use Rattle.msgpack.specs.Items.{head_read}
use Rattle.msgpack.proofs.Codes.{code_not_text, code_long, text_inside, code_read, code_unread, code_fits, power_is, power_fits}
use Rattle.msgpack.proofs.code_at.Goals as goal
use Rattle.msgpack.proofs.code_at.Goals.{In-Some, Else-ne}

is_text : (c : Else-ne) → kind_index c.args.h.kind ≡ text_kind
is_text c = eqb-true _ _ (sym (same_index c.args.h.kind Text) ∙ not-false _ (sym c.if-ne.ensures))

pub returns-then-ne : goal.returns-then-ne
returns-then-ne c = let a = c in code_not_text _ (head_read a.args.h) a.requires.is (eqb-false _ _ (sym (same_index c.args.h.kind Text) ∙ not-true _ (sym c.if-ne.ensures)))

pub returns-then-count-gt3 : goal.returns-then-count-gt3
returns-then-count-gt3 c = let a = c in code_long _ (head_read a.args.h) a.requires.is (is_text (goal.at.returns-then-count-gt3 c).Else-ne) c.if-count-gt3.true

pub overflow_add-at : goal.overflow_add-at
overflow_add-at c = let a = c in
    omega (arith, text_inside a.args.s.now a.args.at (head_read a.args.h) a.requires.is (is_text (goal.at.overflow_add-at c).Else-ne))

-- the number that was read
number : (c : In-Some) → number_at big c.args.s.now
    (c.args.at + c.args.h.size)
    c.args.h.count ≡ Some c.in-Some.n
number c = sym c.in-Some.ensures

pub overflow_add-result : goal.overflow_add-result
overflow_add-result c =
    let short = c.if-count-gt3.false in
    let small = code_fits _ _ _ _ (record { below = λ k. (c.type_inv.s k).fits }) short (number c) in
    let Power-small = power_fits _ short in
    rw (power_is _ short) (omega arith)

pub returns-in-Some : goal.returns-in-Some
returns-in-Some c =
    let a = c in
    let short = c.if-count-gt3.false in
    rw (power_is _ short) (code_read _ _ (head_read a.args.h) a.requires.is (is_text (goal.at.returns-in-Some c).Else-ne) short _ (number c))

pub returns-in-None : goal.returns-in-None
returns-in-None c =
    let a = c in
    code_unread _ _ (head_read a.args.h) a.requires.is (is_text (goal.at.returns-in-None c).Else-ne) c.if-count-gt3.false
    (sym c.in-None.ensures)
