-- `lookup_records::by_kind` meets its contract, by the kind.
use mathlib.Core.Path.{sym, ap}
use Rattle.lookup_records.specs.Answers.{role_for}
use Rattle.lookup_records.proofs.by_kind.Goals as goal

pub returns-in-Version : goal.returns-in-Version
returns-in-Version c = sym (ap (role_for _ _) c.in-Version.is)

pub returns-in-VersionDelete : goal.returns-in-VersionDelete
returns-in-VersionDelete c = sym (ap (role_for _ _) c.in-VersionDelete.is)
