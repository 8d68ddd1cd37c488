-- `list_pack::no_entries` meets its contract. The array repeats the entry that `no_entries` repeats.
use borrow.Author.Rules.{rules}
use Rattle.list_pack.specs.Listing.{no_entries}
use Rattle.list_pack.proofs.no_entries.Goals as goal

pub returns : goal.returns
unfolding no_entries
returns c = search rules
