-- The list that the program lends to the scan.
use Rattle.std.specs.Prelude.{List, replicate}
use Rattle.pack.specs.declared.Entry.{Entry}

unfoldable pub no_entries : List Entry
no_entries = replicate 2048 (record { start = 0; tag = 0; length = 0; hash = 0 })
