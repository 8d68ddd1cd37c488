-- The head of a map, and four texts under their keys.
use native.Mathlib.Omega.{arith}
use borrow.Author.Rules.{rules}
use Rattle.identifier.specs.Ulid.{ulid_length}
use Rattle.identifier.specs.Identity.{identity}
use Rattle.writer.proofs.Fixed.{length_delete_part}
use Rattle.writer.proofs.delete_part_size.Goals as goal

pub pair_size-requires : goal.pair_size-requires
pair_size-requires c =
    let entry = c in
    (search rules, omega (arith, ulid_length _ entry.requires.1))

pub returns : goal.returns
returns c =
    let at-identity-size = c in
    let entry = at-identity-size in
    let i = identity entry.args.texts.ulid.now entry.args.texts.bucket.now entry.args.texts.object.now in
    (omega (arith, length_delete_part i entry.args.deleteid.now, at-identity-size.identity_size.ensures.0, c.pair_size.ensures.0), omega (arith, at-identity-size.identity_size.ensures.1, c.pair_size.ensures.1))
