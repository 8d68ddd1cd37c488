-- What a deposited block is, without computation; and THE THEOREM: two with the same identifier and the same data are the same bytes, header included.
use Prim.Native.Nat.{ℕ, zero, suc, ◌^◌, ◌<◌}
use Rattle.std.specs.Prelude.{Bool, true, false, cond, ◌&&◌, ◌↔◌, ◌≡◌, eqb}
use mathlib.Core.List.{List, [], ◌∷◌, Memᴰ}
use Rattle.std.specs.Prelude.{Option, None, Some}
use Rattle.std.proofs.Math.Path.{refl, ap}
use Rattle.std.proofs.Common.{sym, subst, ◌∙◌}
use borrow.Author.Tests.{eq-eqb, eqb-true}
use Rattle.slices.specs.Bytes.{AllBytes, same_bytes, same_bytes_equal}
use Rattle.slices.specs.Logic.{absurd_numbers, both}
use Rattle.refusals.specs.Answers.{Answer, refused as no_result, granted}
use Rattle.pack.specs.declared.Entry.{Entry}
use Rattle.pack.specs.Reading.{Ending, whole, refused, reading}
use Rattle.pack.specs.Walk.{Yield, entry, ended, refusal, nth_of, nth_yield}
use Rattle.identifier.specs.Identity.{same_identity, same_identity_true}
use Rattle.records.specs.Record.{block_tag, Record, AtPlace, there, refused_at, alone, read_record, at_place, record_at}
use Rattle.deposit.specs.Packs.{value_at, deposit_reading}
use Rattle.deposit.proofs.Deposited.{deposited_exactly}
use Rattle.deposit_laws.specs.Blocks.{data_in}
use Rattle.deposit_laws.specs.Equal.{record_bytes, IsBlock, record_there}
use Rattle.deposit_laws.proofs.Equal.{equal_bytes}
use Rattle.deposited_blocks.specs.Same.{Block, block_in, block_at, if_deposited, deposited_block, same_block, bytes_at, EqualBytes}

-- ---- what it is that deposited_block tells

pub record BlockNumber (limit : ℕ) (s : List ℕ) (n : ℕ) (b : Block) : Type 0 where
  pub deposited : (deposit_reading limit s).ending ≡ whole
  pub record_is : Entry
  pub numbered : nth_yield (reading limit s) n ≡ entry record_is
  pub is_block : IsBlock limit s record_is b.identifier b.content
