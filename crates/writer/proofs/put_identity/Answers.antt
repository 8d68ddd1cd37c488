-- The head of the map, and three texts under their keys.
use Prim.Native.Nat.{ℕ, ◌+◌, ◌≤◌}
use mathlib.Core.List.{List, ◌++◌}
use mathlib.Core.Path.{refl}
use native.Mathlib.Omega.{arith}
use borrow.Author.Rules.{rules}
use lib.ListN.{length}
use Rattle.msgpack_heads.specs.Heads.{map_head}
use Rattle.identifier.specs.Identity.{identity, sizes}
use Rattle.primary.specs.Parts.{bucket_key, object_key, ulid_key}
use Rattle.writer.specs.Values.{pair}
use Rattle.writer.specs.Putting.{Puts}
use Rattle.writer.proofs.Fixed.{identity_pairs_lem}
use Rattle.writer.proofs.Chains.{first_fits, next_fits, puts_both, head_put}
use Rattle.writer.proofs.put_identity.Goals as goal
use Rattle.writer.proofs.put_identity.Goals.{After-place-b, After-put_pair-o, After-put_pair-v, Start}

-- the pieces
abbrev head : Start → List ℕ
head s = map_head s.args.pairs

abbrev bucket : Start → List ℕ
bucket s = pair bucket_key s.args.texts.bucket.now

abbrev object : Start → List ℕ
object s = pair object_key s.args.texts.object.now

abbrev ulid : Start → List ℕ
ulid s = pair ulid_key s.args.texts.ulid.now

-- all but the last, and all but the last two
names_fit : (s : Start) → s.args.at + length (head s ++ bucket s ++ object s) ≤ length s.args.out.now
names_fit s = first_fits (head s ++ bucket s ++ object s) (ulid s) (identity_pairs_lem s.args.pairs (identity s.args.texts.ulid.now s.args.texts.bucket.now s.args.texts.object.now)) _ _ s.requires.1

bucket_fits : (s : Start) → s.args.at + length (head s ++ bucket s) ≤ length s.args.out.now
bucket_fits s = first_fits (head s ++ bucket s) (object s) refl _ _ (names_fit s)

abbrev head-2 : After-place-b → List ℕ
head-2 s = map_head s.args.pairs

abbrev bucket-2 : After-place-b → List ℕ
bucket-2 s = pair bucket_key s.args.texts.bucket.now

abbrev object-2 : After-place-b → List ℕ
object-2 s = pair object_key s.args.texts.object.now

abbrev ulid-2 : After-place-b → List ℕ
ulid-2 s = pair ulid_key s.args.texts.ulid.now

names_fit-2 : (s : After-place-b) → s.args.at + length (head-2 s ++ bucket-2 s ++ object-2 s) ≤ length s.args.out.now
names_fit-2 s = first_fits (head-2 s ++ bucket-2 s ++ object-2 s) (ulid-2 s) (identity_pairs_lem s.args.pairs (identity s.args.texts.ulid.now s.args.texts.bucket.now s.args.texts.object.now)) _ _ s.requires.1

bucket_fits-2 : (s : After-place-b) → s.args.at + length (head-2 s ++ bucket-2 s) ≤ length s.args.out.now
bucket_fits-2 s = first_fits (head-2 s ++ bucket-2 s) (object-2 s) refl _ _ (names_fit-2 s)

-- what is written, piece by piece
head_is_put : (c : After-place-b) → Puts c.args.out.now c.args.at (head-2 c) c.write_map_head.new.out c.place-b.result
head_is_put c = head_put c.write_map_head.ensures.result_value c.write_map_head.ensures.out_after c.place-b.ensures (first_fits (head-2 c) (bucket-2 c) refl _ _ (bucket_fits-2 c))

abbrev head-3 : After-put_pair-o → List ℕ
head-3 s = map_head s.args.pairs

abbrev bucket-3 : After-put_pair-o → List ℕ
bucket-3 s = pair bucket_key s.args.texts.bucket.now

abbrev object-3 : After-put_pair-o → List ℕ
object-3 s = pair object_key s.args.texts.object.now

abbrev ulid-3 : After-put_pair-o → List ℕ
ulid-3 s = pair ulid_key s.args.texts.ulid.now

names_fit-3 : (s : After-put_pair-o) → s.args.at + length (head-3 s ++ bucket-3 s ++ object-3 s) ≤ length s.args.out.now
names_fit-3 s = first_fits (head-3 s ++ bucket-3 s ++ object-3 s) (ulid-3 s) (identity_pairs_lem s.args.pairs (identity s.args.texts.ulid.now s.args.texts.bucket.now s.args.texts.object.now)) _ _ s.requires.1

bucket_fits-3 : (s : After-put_pair-o) → s.args.at + length (head-3 s ++ bucket-3 s) ≤ length s.args.out.now
bucket_fits-3 s = first_fits (head-3 s ++ bucket-3 s) (object-3 s) refl _ _ (names_fit-3 s)

head_is_put-2 : (c : After-put_pair-o) → Puts c.args.out.now c.args.at (head-3 c) c.write_map_head.new.out c.place-b.result
head_is_put-2 c = head_put c.write_map_head.ensures.result_value c.write_map_head.ensures.out_after c.place-b.ensures (first_fits (head-3 c) (bucket-3 c) refl _ _ (bucket_fits-3 c))

bucket_is_put : (c : After-put_pair-o) → Puts (c).args.out.now (c).args.at (head-3 c ++ bucket-3 c) c.put_pair-o.new.out c.put_pair-o.result
bucket_is_put c = puts_both _ _ refl (head_is_put-2 c) c.put_pair-o.ensures (bucket_fits-3 c)

abbrev head-4 : After-put_pair-v → List ℕ
head-4 s = map_head s.args.pairs

abbrev bucket-4 : After-put_pair-v → List ℕ
bucket-4 s = pair bucket_key s.args.texts.bucket.now

abbrev object-4 : After-put_pair-v → List ℕ
object-4 s = pair object_key s.args.texts.object.now

abbrev ulid-4 : After-put_pair-v → List ℕ
ulid-4 s = pair ulid_key s.args.texts.ulid.now

names_fit-4 : (s : After-put_pair-v) → s.args.at + length (head-4 s ++ bucket-4 s ++ object-4 s) ≤ length s.args.out.now
names_fit-4 s = first_fits (head-4 s ++ bucket-4 s ++ object-4 s) (ulid-4 s) (identity_pairs_lem s.args.pairs (identity s.args.texts.ulid.now s.args.texts.bucket.now s.args.texts.object.now)) _ _ s.requires.1

bucket_fits-4 : (s : After-put_pair-v) → s.args.at + length (head-4 s ++ bucket-4 s) ≤ length s.args.out.now
bucket_fits-4 s = first_fits (head-4 s ++ bucket-4 s) (object-4 s) refl _ _ (names_fit-4 s)

head_is_put-3 : (c : After-put_pair-v) → Puts c.args.out.now c.args.at (head-4 c) c.write_map_head.new.out c.place-b.result
head_is_put-3 c = head_put c.write_map_head.ensures.result_value c.write_map_head.ensures.out_after c.place-b.ensures (first_fits (head-4 c) (bucket-4 c) refl _ _ (bucket_fits-4 c))

bucket_is_put-2 : (c : After-put_pair-v) → Puts (c).args.out.now (c).args.at (head-4 c ++ bucket-4 c) c.put_pair-o.new.out c.put_pair-o.result
bucket_is_put-2 c = puts_both _ _ refl (head_is_put-3 c) c.put_pair-o.ensures (bucket_fits-4 c)

names_are_put : (c : After-put_pair-v) → Puts c.args.out.now c.args.at (head-4 c ++ bucket-4 c ++ object-4 c) c.put_pair-v.new.out c.put_pair-v.result
names_are_put c = puts_both _ _ refl (bucket_is_put-2 c) c.put_pair-v.ensures (names_fit-4 c)

pub put_pair-o-requires : goal.put_pair-o-requires
put_pair-o-requires c =
    let at_place = c in
    let entry = at_place in
    (search rules, omega (arith, (sizes _ entry.requires.0).bucketmost), next_fits _ _ refl (head_is_put (goal.at.put_pair-o-requires at_place).After-place-b) (bucket_fits (goal.at.put_pair-o-requires entry).Start))

pub put_pair-v-requires : goal.put_pair-v-requires
put_pair-v-requires c =
    let at-put-pair = c in
    let entry = at-put-pair in
    (search rules, omega (arith, (sizes _ entry.requires.0).objectmost), next_fits _ _ refl (bucket_is_put (goal.at.put_pair-v-requires at-put-pair).After-put_pair-o) (names_fit (goal.at.put_pair-v-requires entry).Start))

pub put_pair-requires : goal.put_pair-requires
put_pair-requires c =
    let at-put-pair2 = c in
    let entry = at-put-pair2 in
    (search rules, omega (arith, (sizes _ entry.requires.0).ulid), next_fits _ _ (identity_pairs_lem _ _) (names_are_put (goal.at.put_pair-requires at-put-pair2).After-put_pair-v) entry.requires.1)

pub returns : goal.returns
returns c =
    let at-put-pair2 = c in
    let entry = at-put-pair2 in
    puts_both _ _ (identity_pairs_lem _ _) (names_are_put (goal.at.returns at-put-pair2).After-put_pair-v) c.put_pair.ensures entry.requires.1
