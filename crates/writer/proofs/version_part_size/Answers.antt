-- The head of a map, an identifier's pairs, and one more of a delete marker.
use native.Mathlib.Omega.{arith}
use Rattle.identifier.specs.Identity.{Identity, identity}
use Rattle.writer.proofs.Fixed.{length_version_part, length_marker_part}
use Rattle.writer.proofs.version_part_size.Goals as goal
use Rattle.writer.proofs.version_part_size.Goals.{Start}

-- the identifier handed in
abbrev of : Start → Identity
of s = identity s.args.texts.ulid.now s.args.texts.bucket.now s.args.texts.object.now

pub returns-then-marker : goal.returns-then-marker
returns-then-marker c =
    let entry = c in
    omega (arith, length_marker_part (of (goal.at.returns-then-marker entry).Start) entry.args.marker c.if-marker.true, c.identity_size-named.ensures.0)

pub returns : goal.returns
returns c =
    let entry = c in
    omega (arith, length_version_part (of (goal.at.returns entry).Start) entry.args.marker c.if-marker.false, c.identity_size-named.ensures.0)
