-- `explanation::holds` meets its contract, by the role: only a version holds one.
use Rattle.explanation.specs.Reasons.{holds}
use Rattle.explanation.proofs.holds.Goals as goal

pub returns-in-Version : goal.returns-in-Version
unfolding holds
returns-in-Version c = rw (c.in-Version.is, c.has_identifier.ensures)

pub returns-in-Deletion : goal.returns-in-Deletion
unfolding holds
returns-in-Deletion c = rw c.in-Deletion.is

pub returns-in-Other : goal.returns-in-Other
unfolding holds
returns-in-Other c = rw c.in-Other.is

pub returns-in-Unreadable : goal.returns-in-Unreadable
unfolding holds
returns-in-Unreadable c = rw c.in-Unreadable.is
