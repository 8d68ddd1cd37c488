-- What the answers of the code say.
use Rattle.std.specs.Prelude.{ℕ, List}
use Rattle.std.specs.Prelude.{Option, None, Some}
use Rattle.slices.specs.Places.{part_at}
use Rattle.primary.specs.Answers.{texts_in}
use Rattle.records.specs.Answers.{place_of_part}
use Rattle.records.specs.declared.Record.{Record}
use Rattle.deposited_blocks.specs.Same.{Block}

abbrev pub held_of : List ℕ → Option Record → Option Block
held_of s (Some d) = Some (record { identifier = texts_in s d.identifier; content = part_at s (place_of_part d.told.secondary) })
held_of s None = None
