-- `records::kind_from` meets its contract, by the kind.
use mathlib.Core.Path.{sym, ap, ◌∙◌}
use Rattle.records.specs.Answers.{shift_kind}
use Rattle.records.specs.declared.Kind.TheVariants.{VersionDelete}
use Rattle.records.proofs.kind_from.Goals as goal

pub place_from-requires : goal.place_from-requires
place_from-requires c = c.requires.delete_id_lem _ c.in-VersionDelete.is

pub returns-in-Version : goal.returns-in-Version
returns-in-Version c = sym (ap (shift_kind _) c.in-Version.is)

pub returns-in-VersionDelete : goal.returns-in-VersionDelete
returns-in-VersionDelete c = ap VersionDelete c.place_from.ensures ∙ sym (ap (shift_kind c.args.by) c.in-VersionDelete.is)
