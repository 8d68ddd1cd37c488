-- Three texts under their keys.
use native.Mathlib.Omega.{arith}
use borrow.Author.Rules.{rules}
use Rattle.identifier.specs.Identity.{identity, sizes}
use Rattle.writer.proofs.Fixed.{length_identity}
use Rattle.writer.proofs.identity_size.Goals as goal

pub pair_size-requires : goal.pair_size-requires
pair_size-requires c =
    let entry = c in
    (search rules, omega (arith, (sizes _ entry.requires).bucketmost))

pub pair_size-requires-2 : goal.pair_size-requires-2
pair_size-requires-2 c =
    let entry = c in
    (search rules, (sizes _ entry.requires).objectmost)

pub pair_size-requires-3 : goal.pair_size-requires-3
pair_size-requires-3 c =
    let entry = c in
    (search rules, omega (arith, (sizes _ entry.requires).ulid))

pub returns : goal.returns
returns c =
    let at-pair-size2 = c in
    let at-pair-size = at-pair-size2 in
    let entry = at-pair-size in
    let i = identity entry.args.texts.ulid.now entry.args.texts.bucket.now entry.args.texts.object.now in
    (omega (arith, length_identity i, at-pair-size.pair_size.ensures.0, at-pair-size2.pair_size-2.ensures.0, c.pair_size-3.ensures.0), omega (arith, at-pair-size.pair_size.ensures.1, at-pair-size2.pair_size-2.ensures.1, c.pair_size-3.ensures.1))
