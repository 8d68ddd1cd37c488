-- Of a list that was read, where the record of a block that is told lies.
use Rattle.std.specs.Prelude.{ℕ, ◌+◌, ◌≤◌, ◌≡◌, refl}
use mathlib.Core.List.{List, Memᴰ}
use Rattle.std.proofs.Common.{arith}
use Rattle.refusals.specs.Answers.{granted}
use Rattle.pack_list.specs.Lists.{Entry, PackList, greatest, pack_list}
use Rattle.pack_list.specs.Lengths.{Inside}
use Rattle.pack_list.proofs.ReadingLaws.{list_exactly}
use Rattle.block_of_byte.specs.Finding.{in_block, find}
use Rattle.block_of_byte.specs.declared.Block.{Block}
use Rattle.block_of_byte.specs.Exactly.{find_exactly, told_inside}

module _ (s : List ℕ) (l : PackList) where
  -- it lies in its entry's range of the pack, and so within 64 bits
  pub read_inside : (byte k : ℕ) (e : Entry) (b : Block) → pack_list s ≡ granted l → find l byte ≡ in_block k e b
      → Inside b.stored e.stored × (b.stored.start + b.stored.len ≤ greatest)
  read_inside byte k e b h f =
      let first = ((find_exactly l byte (in_block k e b)).0 f).0 in
      let m : Memᴰ e l.entries = rw first.cut (mathlib.Core.List.Memᴰ.append_right first.front (mathlib.Core.List.Memᴰ.head refl)) in
      let rules = ((list_exactly s l).0 h).filled e m in
      let inside = told_inside l byte k e b f rules.listed in
      (inside, let most = inside.most in let ends = rules.stored_ends in omega arith)
