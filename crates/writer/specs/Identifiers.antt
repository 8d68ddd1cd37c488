-- The three texts of an identifier, as the code lends them.
use Rattle.std.specs.Prelude.{◌≡◌, true, false, Option, Some, Result, Ok, Err}
use Rattle.refusals.specs.declared.Unwritten.{Unwritten}
use Rattle.refusals.specs.declared.Unwritten.TheVariants.{Inadmissible}
use Rattle.identifier.specs.Identity.{Identity, identity, is_valid}
use Rattle.held_identifier.specs.Held.{is_admitted}
use Rattle.writer.specs.declared.Texts.{Texts}

abbrev pub identity_by : Texts → Identity
identity_by t = identity t.ulid.now t.bucket.now t.object.now

-- what a struct names, if it is admitted
abbrev pub TextsOf : Option Identity → Result Texts Unwritten → Type 0
TextsOf o (Ok t) = (o ≡ Some (identity_by t)) × (is_valid (identity_by t) ≡ true)
TextsOf o (Err f) = (f ≡ Inadmissible) × (is_admitted o ≡ false)
