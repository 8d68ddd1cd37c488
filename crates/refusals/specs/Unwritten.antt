-- Document 01's numbers for a write that was not done.
use Rattle.std.specs.Prelude.{ℕ}
use Rattle.refusals.specs.declared.Unwritten.{Unwritten}
use Rattle.refusals.specs.declared.Unwritten.TheVariants.{NoRoom, Inadmissible}

abbrev pub number_of : Unwritten → ℕ
number_of NoRoom = 19
number_of Inadmissible = 20
