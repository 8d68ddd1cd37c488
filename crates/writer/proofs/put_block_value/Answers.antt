-- The header, the primary part, the data.
use Prim.Native.Nat.{ℕ, ◌+◌, ◌≤◌}
use mathlib.Core.List.{List, ◌++◌}
use mathlib.Core.Path.{refl}
use native.Mathlib.Omega.{arith}
use lib.ListN.{length}
use Rattle.identifier.specs.Identity.{Identity, identity}
use Rattle.writer.specs.Values.{block_header, block_part}
use Rattle.writer.proofs.Fixed.{block_value_lem}
use Rattle.writer.proofs.Chains.{first_fits, next_fits, puts_both}
use Rattle.writer.proofs.put_block_value.Goals as goal
use Rattle.writer.proofs.put_block_value.Goals.{Start}

-- the identifier handed in
abbrev of : Start → Identity
of s = identity s.args.texts.ulid.now s.args.texts.bucket.now s.args.texts.object.now

-- up to the primary part
abbrev header : Start → List ℕ
header s = block_header (length s.args.content.now) s.args.part

-- all but the last piece
front_fits : (s : Start) → s.args.at + length (header s ++ block_part (of s)) ≤ length s.args.out.now
front_fits s = first_fits (header s ++ block_part (of s)) s.args.content.now (block_value_lem (of s) _ _ s.requires.1) _ _ s.requires.3

pub put_block_header-start-requires : goal.put_block_header-start-requires
put_block_header-start-requires c =
    let entry = c in
    (omega arith, first_fits (header (goal.at.put_block_header-start-requires entry).Start) (block_part (of (goal.at.put_block_header-start-requires entry).Start)) refl _ _ (front_fits (goal.at.put_block_header-start-requires entry).Start))

pub put_block_part-end-requires : goal.put_block_part-end-requires
put_block_part-end-requires c =
    let at-put-block-header = c in
    let entry = at-put-block-header in
    (entry.requires.0, next_fits _ _ refl at-put-block-header.put_block_header-start.ensures (front_fits (goal.at.put_block_part-end-requires entry).Start))

pub put-requires : goal.put-requires
put-requires c =
    let at-put-block-part = c in
    let at-put-block-header = at-put-block-part in
    let entry = at-put-block-header in
    let front = puts_both (header (goal.at.put-requires entry).Start) (block_part (of (goal.at.put-requires entry).Start)) refl at-put-block-header.put_block_header-start.ensures at-put-block-part.put_block_part-end.ensures (front_fits (goal.at.put-requires entry).Start) in
    next_fits _ entry.args.content.now (block_value_lem (of (goal.at.put-requires entry).Start) _ _ entry.requires.1) front entry.requires.3

pub returns : goal.returns
returns c =
    let at-put-block-part = c in
    let at-put-block-header = at-put-block-part in
    let entry = at-put-block-header in
    let front = puts_both (header (goal.at.returns entry).Start) (block_part (of (goal.at.returns entry).Start)) refl at-put-block-header.put_block_header-start.ensures at-put-block-part.put_block_part-end.ensures (front_fits (goal.at.returns entry).Start) in
    puts_both (header (goal.at.returns entry).Start ++ block_part (of (goal.at.returns entry).Start)) entry.args.content.now (block_value_lem (of (goal.at.returns entry).Start) _ _ entry.requires.1) front c.put.ensures entry.requires.3
