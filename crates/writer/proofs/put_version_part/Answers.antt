-- The head of the map and the identifier; then the flag of a delete marker.
use Prim.Native.Nat.{ℕ}
use mathlib.Core.List.{List, ◌++◌, flatten}
use mathlib.Core.Path.{ap}
use native.Mathlib.Omega.{arith}
use lib.ListN.{length}
use Rattle.msgpack_heads.specs.Heads.{map_head}
use Rattle.identifier.specs.Identity.{Identity, identity}
use Rattle.writer.specs.Values.{identity_pairs}
use Rattle.writer.proofs.Fixed.{marker_bytes, version_part_lem, marker_part}
use Rattle.writer.proofs.Chains.{first_fits, next_fits, puts_both, puts_same}
use Rattle.writer.proofs.put_version_part.Goals as goal
use Rattle.writer.proofs.put_version_part.Goals.{Start}

-- the identifier handed in
abbrev of : Start → Identity
of s = identity s.args.texts.ulid.now s.args.texts.bucket.now s.args.texts.object.now

-- all but the flag of a delete marker
abbrev front : Start → List ℕ
front s = map_head 4 ++ flatten (identity_pairs (of s))

pub put_identity-requires : goal.put_identity-requires
put_identity-requires c =
    let entry = c in
    let plain = version_part_lem (of (goal.at.put_identity-requires entry).Start) entry.args.marker c.if-not-marker.true in
    (entry.requires.0, omega (arith, entry.requires.1, ap length plain))

pub returns-then-not-marker : goal.returns-then-not-marker
returns-then-not-marker c =
    let entry = c in
    let plain = version_part_lem (of (goal.at.returns-then-not-marker entry).Start) entry.args.marker c.if-not-marker.true in
    puts_same plain c.put_identity.ensures

pub put_identity-key-requires : goal.put_identity-key-requires
put_identity-key-requires c =
    let entry = c in
    (entry.requires.0, first_fits (front (goal.at.put_identity-key-requires entry).Start) marker_bytes (marker_part (of (goal.at.put_identity-key-requires entry).Start) entry.args.marker c.if-not-marker.false) _ _ entry.requires.1)

pub put-requires : goal.put-requires
put-requires c =
    let at-put-identity = c in
    let at-if = at-put-identity in
    let entry = at-if in
    next_fits (front (goal.at.put-requires entry).Start) marker_bytes (marker_part (of (goal.at.put-requires entry).Start) entry.args.marker at-if.if-not-marker.false) at-put-identity.put_identity-key.ensures entry.requires.1

pub returns : goal.returns
returns c =
    let at-put-identity = c in
    let at-if = at-put-identity in
    let entry = at-if in
    puts_both (front (goal.at.returns entry).Start) marker_bytes (marker_part (of (goal.at.returns entry).Start) entry.args.marker at-if.if-not-marker.false) at-put-identity.put_identity-key.ensures c.put.ensures entry.requires.1
