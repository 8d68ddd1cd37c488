-- `pack_list::deltas_summed` meets its contract: so far the sums are those of the deltas that have been read and belong to blocks.
use Rattle.std.specs.Prelude.{Some}
use mathlib.Core.Path.{◌≡◌, refl, sym, ap, ◌∙◌}
use native.Mathlib.Omega.{arith}
use lib.ListN.{drop}
use Rattle.msgpack.specs.Readers.{Int, plus, minus, integer_read, read_integer}
use Rattle.msgpack.specs.declared.Integer.{Integer}
use Rattle.msgpack.specs.declared.Integer.TheVariants.{NonNegative, Negative}
use Rattle.pack_list.proofs.Summing.{none_summed, DeltaAdded, one_summed, none_is, all_summed}
use Rattle.pack_list.proofs.deltas_summed.Goals as goal
use Rattle.pack_list.proofs.deltas_summed.Goals.{then-k-blocks+in-NonNegative, then-k-blocks+in-Negative, else-k-blocks, After-read_integer}

pub loop-k-init : goal.loop-k-init
loop-k-init c = none_summed _ _ _ _ (omega arith)

-- what was read
read : (c : After-read_integer) → read_integer (drop c.loop-k.at c.args.part.now) ≡ integer_read c.read_integer.result
read c = sym (c.read_integer.ensures.result_value ∙ ap read_integer c.from.ensures.result_value)

pub returns-in_err-delta : goal.returns-in_err-delta
returns-in_err-delta c =
    let l = c.loop-k in
    let nothing = read (goal.at.returns-in_err-delta c).After-read_integer ∙ ap integer_read c.in_err-delta.was in
    rw c.from_residual.ensures (none_is _ _ _ _ l.at l.k l.sums l.invariant (omega arith) nothing)

-- the delta that it is
abbrev delta_of : Integer → Int
delta_of (NonNegative n short) = plus n
delta_of (Negative n short) = minus n

delta_is : (i : Integer) → integer_read (Some i) ≡ Some (delta_of i)
delta_is (NonNegative n short) = refl
delta_is (Negative n short) = refl

pub loop-k-preserved : goal.loop-k-preserved
loop-k-preserved c =
    let l = c.loop-k in
    let delta = c.in_ok-delta.delta in
    let is : read_integer (drop l.at c.args.part.now) ≡ Some (delta_of delta)
    = read (goal.at.loop-k-preserved c).After-read_integer ∙ ap integer_read c.in_ok-delta.was ∙ delta_is delta in
    let added : DeltaAdded c.args.part.now c.args.deltas c.args.blocks c.args.source l.at l.k l.sums c.if-k-blocks.sums =
    elim c.if-k-blocks.branch [
      | then-k-blocks+in-NonNegative w ↦
          record {
            delta = delta_of delta;
            is = is;
            added = λ h. rw (w.in-NonNegative.is, w.sums-is) w.with_gain-sums.ensures;
            passed = λ h. absurd (omega (arith, w.if-k-blocks.true));
          }
      | then-k-blocks+in-Negative w ↦
          record {
            delta = delta_of delta;
            is = is;
            added = λ h. rw (w.in-Negative.is, w.sums-is) w.with_loss-sums.ensures;
            passed = λ h. absurd (omega (arith, w.if-k-blocks.true));
          }
      | else-k-blocks w ↦
          record {
            delta = delta_of delta;
            is = is;
            added = λ h. absurd (omega (arith, w.if-k-blocks.false));
            passed = λ h. w.sums-is;
          }
    ] in
    one_summed _ _ _ _ l.at l.k _ l.sums _ l.invariant (omega arith) added c.after-at.ensures

pub returns : goal.returns
returns c = let l = c.loop-k in all_summed _ _ _ _ l.at l.k l.sums l.invariant (omega arith)
