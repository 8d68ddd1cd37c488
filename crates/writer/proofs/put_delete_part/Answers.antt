-- The head of the map and the identifier; then the delete identifier.
use Prim.Native.Nat.{ℕ}
use mathlib.Core.List.{List, ◌++◌, flatten}
use native.Mathlib.Omega.{arith}
use borrow.Author.Rules.{rules}
use Rattle.msgpack_heads.specs.Heads.{map_head}
use Rattle.identifier.specs.Ulid.{ulid_length}
use Rattle.identifier.specs.Identity.{Identity, identity}
use Rattle.primary.specs.Parts.{delete_id_key}
use Rattle.writer.specs.Values.{pair, identity_pairs}
use Rattle.writer.proofs.Fixed.{delete_part_lem}
use Rattle.writer.proofs.Chains.{first_fits, next_fits, puts_both}
use Rattle.writer.proofs.put_delete_part.Goals as goal
use Rattle.writer.proofs.put_delete_part.Goals.{Start}

-- the identifier handed in
abbrev of : Start → Identity
of s = identity s.args.texts.ulid.now s.args.texts.bucket.now s.args.texts.object.now

-- all but the last pair, and that
abbrev front : Start → List ℕ
front s = map_head 4 ++ flatten (identity_pairs (of s))

abbrev last : Start → List ℕ
last s = pair delete_id_key s.args.deleteid.now

pub put_identity-key-requires : goal.put_identity-key-requires
put_identity-key-requires c =
    let entry = c in
    (entry.requires.0, first_fits (front (goal.at.put_identity-key-requires entry).Start) (last (goal.at.put_identity-key-requires entry).Start) (delete_part_lem (of (goal.at.put_identity-key-requires entry).Start) entry.args.deleteid.now) _ _ entry.requires.2)

pub put_pair-requires : goal.put_pair-requires
put_pair-requires c =
    let at-put-identity = c in
    let entry = at-put-identity in
    (search rules, omega (arith, ulid_length _ entry.requires.1), next_fits (front (goal.at.put_pair-requires entry).Start) (last (goal.at.put_pair-requires entry).Start) (delete_part_lem (of (goal.at.put_pair-requires entry).Start) entry.args.deleteid.now) at-put-identity.put_identity-key.ensures entry.requires.2)

pub returns : goal.returns
returns c =
    let at-put-identity = c in
    let entry = at-put-identity in
    puts_both (front (goal.at.returns entry).Start) (last (goal.at.returns entry).Start) (delete_part_lem (of (goal.at.returns entry).Start) entry.args.deleteid.now) at-put-identity.put_identity-key.ensures c.put_pair.ensures entry.requires.2
