-- `msgpack_forms::form_at` meets its contract: the head says how many bytes the form has for its argument.
use Prim.Native.Nat.{◌<◌}
use mathlib.Core.Path.{sym, ap, ◌∙◌}
use borrow.Author.Tests.{eqb-true, eqb-false}
use Rattle.msgpack.specs.KindLaws.{same_index}
use Rattle.msgpack.specs.declared.Kind.TheVariants.{Integer}
use native.Mathlib.Omega.{arith}
use lib.ListN.{length}
use Rattle.slices.specs.Lists.{part_to_end}
use Rattle.msgpack.specs.Items.{head_read}
use Rattle.msgpack.specs.Readers.{read_integer}
use Rattle.msgpack.specs.Short.{short_front}
use Rattle.msgpack_forms.proofs.Places.{begins_inside, some_size, integer_at, other_at}
use Rattle.msgpack_forms.proofs.form_at.Goals as goal
use Rattle.msgpack_forms.proofs.form_at.Goals.{Then-eq}

pub bounds-s-at : goal.bounds-s-at
bounds-s-at c = let a = c in begins_inside a.args.at a.args.s.now (head_read a.args.h) a.requires.0.is a.requires.1

-- the place lies inside
inside : (c : Then-eq) → c.args.at < length c.args.s.now
inside c = let a = c in begins_inside a.args.at a.args.s.now (head_read a.args.h) a.requires.0.is a.requires.1

pub slice_bounds-read_integer-count : goal.slice_bounds-read_integer-count
slice_bounds-read_integer-count c = omega (arith, inside c)

pub slice_bounds-read_integer-start : goal.slice_bounds-read_integer-start
slice_bounds-read_integer-start c = omega (arith, inside c)

pub returns-then-eq : goal.returns-then-eq
returns-then-eq c =
    let t = c in
    let a = t in
    let rest = part_to_end a.args.at a.args.s.now in
    let r = c.read_integer.ensures in
    c.integer_form.ensures
    ∙ integer_at a.args.at a.args.s.now (head_read a.args.h) a.requires.0.is (eqb-true _ _ (sym (c.if-eq.ensures ∙ same_index c.args.h.kind Integer)))
    _ (r.result_value ∙ ap read_integer rest) _ (r.short ∙ ap (λ s. short_front s (read_integer s)) rest)

pub overflow_sub-width : goal.overflow_sub-width
overflow_sub-width c =
    let a = c in
    omega (arith, some_size _ (head_read a.args.h) a.requires.0.is a.requires.1)

pub returns : goal.returns
returns c =
    let t = c in
    let a = t in
    other_at a.args.at a.args.s.now (record { below = λ k. (t.type_inv.s k).fits }) (head_read a.args.h)
    a.requires.0.is a.requires.1 (eqb-false _ _ (sym (c.if-eq.ensures ∙ same_index c.args.h.kind Integer))) _ c.argument_of-n.ensures _ c.short_width.ensures
