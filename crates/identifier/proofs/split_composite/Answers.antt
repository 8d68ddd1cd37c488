-- The text is cut where the definition cuts it, and the three parts are tested.
use Rattle.identifier.proofs.Rules.{split_short, split_colon, split_slash, counted, split_tested}
use native.Mathlib.Omega.{arith}
use Rattle.identifier.proofs.split_composite.Goals as goal
use Rattle.identifier.proofs.split_composite.Goals.{then-text-lt27-via-then-text-lt27, then-text-lt27-via-else-text-lt27+then-text-ne58}

pub returns-then-text-lt27 : goal.returns-then-text-lt27
returns-then-text-lt27 c = elim c.then-text-lt27.branch [
  | then-text-lt27-via-then-text-lt27 w ↦ split_short _ (omega arith)
  | then-text-lt27-via-else-text-lt27+then-text-ne58 w ↦ split_colon _ w.if-text-ne58.true
]

pub overflow_add-slash : goal.overflow_add-slash
overflow_add-slash c = omega (arith, counted c.args.text.now c.count_before_slash-slash.result c.count_before_slash-slash.ensures)

pub returns-then-text-slash : goal.returns-then-text-slash
returns-then-text-slash c = split_slash _ _ c.count_before_slash-slash.ensures c.if-text-slash.true

pub returns-then-is_identifier : goal.returns-then-is_identifier
returns-then-is_identifier c = let d = c in
    split_tested _ _ d.count_before_slash-slash.ensures _ _ d.if-text-ne58.false c.if-is_identifier.true c.is_identifier.ensures

pub returns-else-is_identifier : goal.returns-else-is_identifier
returns-else-is_identifier c = let d = c in
    split_tested _ _ d.count_before_slash-slash.ensures _ _ d.if-text-ne58.false c.if-is_identifier.false c.is_identifier.ensures
