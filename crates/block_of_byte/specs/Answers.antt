-- What the answers of the code say: entries by the contents at the places told, and the paper's numbers.
use Rattle.std.specs.Prelude.{ℕ, ◌-◌, ◌<◌, Bool, true, cond, List, ◌≡◌, leb}
use Rattle.std.specs.Prelude.{Option, None, Some, Result, Ok, Err}
use Rattle.refusals.specs.Answers.{Answer, refused, granted}
use Rattle.msgpack.specs.Readers.{Int}
use Rattle.msgpack.specs.Lookup.{if_there}
use Rattle.pack_list.specs.Lists.{Entry, PackList, is_filled, pack_list}
use Rattle.pack_list.specs.Blocks.{stored_lengths, blocks}
use Rattle.pack_list.specs.Answers.{number_of, entry_of, EntryStands}
use Rattle.pack_list.specs.declared.Entry as placed
use Rattle.pack_list.specs.declared.Fault.{Fault}
use Rattle.block_of_byte.specs.Finding.{moved, sources_from, block_from, Found, nowhere, in_entry, in_block, find}
use Rattle.block_of_byte.specs.declared.Block.{Block}
use Rattle.block_of_byte.specs.declared.Found as found
use Rattle.block_of_byte.specs.declared.Found.TheVariants as found-answer

-- ---- a block

-- in an entry whose deltas are counted, at an offset of its source range
abbrev pub block_at : ℕ → ℕ → Entry → Option Block
block_at stride offset e =
    if_there (sources_from stride e.source.len (blocks e - 1) e.deltas) λ ns.
    block_from 0 e.stored.start offset ns (stored_lengths e)

abbrev pub noted_of : Option Block → Bool → Block → Option Block
noted_of (Some b) holds block = Some b
noted_of None holds block = cond holds (Some block) None

abbrev pub moved_by : ℕ → Option Int → Option ℕ
moved_by stride (Some d) = moved stride d
moved_by stride None = None

abbrev pub at_most : ℕ → Option ℕ → Option ℕ
at_most left (Some n) = cond (leb n left) (Some n) None
at_most left None = None

-- the entry whose places these are is as the rules say, it has so many blocks, and the offset is one of its source range
pub record Offset (s : List ℕ) (e : placed.Entry) (n offset : ℕ) : Type 0 where
  pub entry : Entry
  pub is : entry_of s e ≡ Some entry
  pub filled : is_filled entry ≡ true
  pub as_many : n ≡ blocks entry
  pub some_block : 0 < n
  pub below : offset < entry.source.len

-- ---- what is found

abbrev pub found_entry : ℕ → Option Entry → Found
found_entry number (Some e) = in_entry number e
found_entry number None = nowhere

abbrev pub found_block : ℕ → Block → Option Entry → Found
found_block number b (Some e) = in_block number e b
found_block number b None = nowhere

abbrev pub found_of : List ℕ → Result found.Found Fault → Answer Found
found_of s (Ok found-answer.Nowhere) = granted nowhere
found_of s (Ok (found-answer.Entry number e)) = granted (found_entry number (entry_of s e))
found_of s (Ok (found-answer.Block number e b)) = granted (found_block number b (entry_of s e))
found_of s (Err f) = refused (number_of f)

-- an entry found is the item of its number
pub record FoundStands (s : List ℕ) (r : Result found.Found Fault) : Type 0 where
  pub entry : (number : ℕ) (e : placed.Entry) → r ≡ Ok (found-answer.Entry number e) → EntryStands s number e
  pub block : (number : ℕ) (e : placed.Entry) (b : Block) → r ≡ Ok (found-answer.Block number e b) → EntryStands s number e

abbrev pub on_list : {A : Type 0} → Answer PackList → (PackList → A) → Answer A
on_list (granted l) next = granted (next l)
on_list (refused n) next = refused n

unfoldable pub find_in : List ℕ → ℕ → Answer Found
find_in s byte = on_list (pack_list s) λ l. find l byte
