-- The listing of a pack, as document 01's "The listing" has it: the bytes that the program writes.
use Rattle.std.specs.Prelude.{List, ◌++◌, ℕ, length}
use Rattle.pack.specs.declared.Entry.{Entry}
use Rattle.pack.specs.Reading.{Reading, Ending, whole, refused}
use Rattle.console.specs.Text.{refusal_line}
use Rattle.entry_lines.specs.Text.{lines, count_line}

-- the whole output for a reading
abbrev pub text_of : Ending → List Entry → List ℕ
text_of whole es = lines es ++ count_line (length es)
text_of (refused n place) es = refusal_line n place

abbrev pub text : Reading → List ℕ
text r = text_of r.ending r.entries
