-- `lookup_records::names` meets its contract, by the role: only a version delete names a version.
use Rattle.current_version.specs.Current.{deletes}
use Rattle.lookup_records.proofs.names.Goals as goal

pub returns-in-Deletion : goal.returns-in-Deletion
unfolding deletes
returns-in-Deletion c = rw (c.in-Deletion.is, c.has_identifier.ensures)

pub returns-in-Version : goal.returns-in-Version
unfolding deletes
returns-in-Version c = rw c.in-Version.is

pub returns-in-Other : goal.returns-in-Other
unfolding deletes
returns-in-Other c = rw c.in-Other.is

pub returns-in-Unreadable : goal.returns-in-Unreadable
unfolding deletes
returns-in-Unreadable c = rw c.in-Unreadable.is
