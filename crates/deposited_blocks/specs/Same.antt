-- Blocks of deposited packs, by their number in the pack: when two have the same identifier and the same data, and when all their bytes are the same.
use Rattle.std.specs.Prelude.{ℕ, Bool, false, cond, ◌&&◌, List, ◌≡◌, eqb}
use Rattle.std.specs.Prelude.{Option, None, Some}
use Rattle.slices.specs.Bytes.{same_bytes}
use Rattle.pack.specs.Reading.{Ending, whole, refused, reading}
use Rattle.pack.specs.Walk.{Yield, entry, ended, refusal, nth_yield}
use Rattle.identifier.specs.Identity.{Identity, same_identity}
use Rattle.records.specs.Record.{block_tag, AtPlace, there, refused_at, alone, record_at}
use Rattle.deposit.specs.Packs.{deposit_reading}
use Rattle.deposit_laws.specs.Blocks.{data_in}
use Rattle.deposit_laws.specs.Equal.{record_bytes}

pub record Block : Type 0 where
  pub identifier : Identity
  pub content : List ℕ  -- its data

abbrev pub block_in : AtPlace → Option Block
block_in (there value r) = Some (record { identifier = r.contents.identifier; content = data_in value r.told })
block_in (refused_at n at) = None
block_in (alone n) = None

-- by what stands at a number of the pack s: a record, or none
abbrev pub block_at : ℕ → List ℕ → Yield → Option Block
block_at limit s (entry e) = cond (eqb e.tag block_tag) (block_in (record_at limit s e.start)) None
block_at limit s ended = None
block_at limit s (refusal n at) = None

abbrev pub if_deposited : Ending → Option Block → Option Block
if_deposited whole b = b
if_deposited (refused n at) b = None

-- record number n of the pack s, from 0, where s is a deposited pack and that record is a block
unfoldable pub deposited_block : ℕ → List ℕ → ℕ → Option Block
deposited_block limit s n = if_deposited (deposit_reading limit s).ending (block_at limit s (nth_yield (reading limit s) n))

-- both are there, with the same identifier and the same data
abbrev pub same_block : Option Block → Option Block → Bool
same_block (Some a) (Some b) = same_identity a.identifier b.identifier && same_bytes a.content b.content
same_block (Some a) None = false
same_block None b = false

-- ---- all bytes of record number n, header included

abbrev pub bytes_at : List ℕ → Yield → Option (List ℕ)
bytes_at s (entry e) = Some (record_bytes s e)
bytes_at s ended = None
bytes_at s (refusal n at) = None

abbrev pub bytes_of : ℕ → List ℕ → ℕ → Option (List ℕ)
bytes_of limit s n = bytes_at s (nth_yield (reading limit s) n)

-- record number n of the pack s and record number m of the pack t are the same bytes
pub record EqualBytes (limit : ℕ) (s : List ℕ) (n : ℕ) (t : List ℕ) (m : ℕ) : Type 0 where
  pub bytes : List ℕ
  pub first : bytes_of limit s n ≡ Some bytes
  pub second : bytes_of limit t m ≡ Some bytes
