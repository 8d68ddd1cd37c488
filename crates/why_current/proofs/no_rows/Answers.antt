-- `why_current::no_rows` meets its contract. The array repeats the word that `no_rows` repeats.
use borrow.Author.Rules.{rules}
use Rattle.why_current.specs.Rows.{no_rows}
use Rattle.why_current.proofs.no_rows.Goals as goal

pub returns : goal.returns
unfolding no_rows
returns c = search rules
