-- `pack_list::lengths_within` meets its contract: what the lengths from here on tell, with what is left of the total, is what all of them tell.
use Prim.Native.Nat.{◌+◌, ◌-◌}
use mathlib.Core.Path.{◌≡◌, refl, sym, ap, ◌∙◌}
use native.Mathlib.Omega.{arith}
use lib.ListN.{drop}
use Rattle.value.specs.Fields.{read_natural}
use Rattle.pack_list.proofs.Arrays.{length_more, no_length, lengths_all}
use Rattle.pack_list.proofs.lengths_within.Goals as goal
use Rattle.pack_list.proofs.lengths_within.Goals.{After-natural_at}

pub loop-init : goal.loop-init
loop-init c =
    let all : c.args.lengths.count - 0 ≡ c.args.lengths.count = omega arith in
    rw all

-- the number at the place
number_read : (c : After-natural_at) → c.natural_at.result ≡ read_natural (drop c.loop.at c.args.part.now)
number_read c = c.natural_at.ensures ∙ ap read_natural c.from.ensures.result_value

pub returns-in_err-n : goal.returns-in_err-n
returns-in_err-n c =
    let l = c.loop in
    let missing = sym (number_read (goal.at.returns-in_err-n c).After-natural_at) ∙ c.in_err-n.was in
    rw c.from_residual.ensures (sym (l.invariant ∙ no_length _ l.at (c.args.lengths.count - l.counter) l.within l.left (omega arith) missing))

pub loop-preserved : goal.loop-preserved
loop-preserved c =
    let l = c.loop in
    let read = sym (number_read (goal.at.loop-preserved c).After-natural_at) ∙ c.in_ok-n.was in
    let next : c.args.lengths.count - l.counter - 1 ≡ c.args.lengths.count - (l.counter + 1) = omega arith in
    rw (c.saturating_sub-left.ensures, c.after-at.ensures)
    (rw next at (l.invariant ∙ length_more _ l.at (c.args.lengths.count - l.counter) l.within l.left (omega arith) _ read))

pub returns : goal.returns
returns c =
    let l = c.loop in
    let none_left : c.args.lengths.count - l.counter ≡ 0 = omega arith in
    sym (l.invariant ∙ rw none_left (lengths_all _ l.within l.left))
