-- The primary parts of blocks, versions, version deletes and pack lists as values, and that every encoding of them is read so. The rules are those of
-- crates primary and pack_list.
use Rattle.std.specs.Prelude.{ℕ, ◌≤◌, Bool, true, false, cond, List, [], ◌≡◌, refl, leb, length}
use Rattle.std.proofs.Common.{append-nil, eq-eqb, leb-true, leb-false}
use Rattle.refusals.specs.Answers.{Answer, refused}
use Rattle.msgpack.specs.Items.{pass_item, depth_allowed}
use Rattle.msgpack.specs.Views.{byte_view}
use Rattle.msgpack_model.specs.Values.{Value, depth}
use Rattle.msgpack_model.specs.Encoding.{Encodes}
use Rattle.msgpack_model.proofs.Complete.{complete}
use Rattle.msgpack_model.proofs.Deep.{deeper}
use Rattle.msgpack_model.specs.Views.{value_view, Shows, shown}
use Rattle.msgpack_model.proofs.Views.{bytes_alike, keys_alike}
use Rattle.identifier.specs.Identity.{Identity}
use Rattle.primary.specs.Parts as bytes
use Rattle.primary.specs.Parts.{fills, identity_keys, block_keys, version_keys, version_delete_keys, block_seen, Version, version_seen, VersionDelete, version_delete_seen}
use Rattle.primary.specs.PartsAlike.{block_alike, version_alike, version_delete_alike}
use Rattle.pack_list.specs.Lists as list
use Rattle.pack_list.specs.Lists.{PackList, pack_list_seen}
use Rattle.pack_list.specs.ListsAlike.{list_alike}

-- ---- what the value p tells as a primary part

abbrev pub if_shallow : {A : Type 0} → Value → Answer A → Answer A
if_shallow p next = cond (leb (depth p) depth_allowed) next (refused 16)

unfoldable pub block : Value → Answer Identity
block p = if_shallow p (block_seen value_view p)

unfoldable pub version : Value → Answer Version
version p = if_shallow p (version_seen value_view p)

unfoldable pub version_delete : Value → Answer VersionDelete
version_delete p = if_shallow p (version_delete_seen value_view p)

unfoldable pub pack_list : Value → Answer PackList
pack_list p = if_shallow p (pack_list_seen value_view p)

-- ---- every encoding is read so

fills_shallow : {p : Value} {e : List ℕ} → Encodes p e → fills e ≡ leb (depth p) depth_allowed
unfolding fills
fills_shallow {p} {e} x = by (leb (depth p) depth_allowed) refl
  where
    by : (t : Bool) → leb (depth p) depth_allowed ≡ t → bytes.is_of_length (length e) (pass_item depth_allowed e) ≡ t
    by true l = rw (rw append-nil at (complete x depth_allowed (leb-true _ _ l) []), eq-eqb (length e) (length e) refl)
    by false l = rw (rw append-nil at (deeper x depth_allowed (leb-false _ _ l) []))

-- a part of which all that is read is the same
by_shallow : {A : Type 0} {p : Value} {e : List ℕ} → Encodes p e → (a b : Answer A) → (depth p ≤ depth_allowed → a ≡ b)
    → cond (fills e) a (refused 16) ≡ if_shallow p b
by_shallow {p = p} x a b same = rw (fills_shallow x) (by (leb (depth p) depth_allowed) refl)
  where
    by : (t : Bool) → leb (depth p) depth_allowed ≡ t → cond t a (refused 16) ≡ cond t b (refused 16)
    by true l = same (leb-true _ _ l)
    by false l = refl

module _ {p : Value} {e : List ℕ} (x : Encodes p e) where
  pub block_reads : bytes.block e ≡ block p
  unfolding bytes.block block
  block_reads = by_shallow x _ _
      λ d. block_alike byte_view value_view Shows bytes_alike e p (shown x d) (keys_alike block_keys (shown x d)) (λ a b q y. keys_alike identity_keys y)

  pub version_reads : bytes.version e ≡ version p
  unfolding bytes.version version
  version_reads = by_shallow x _ _ λ d. version_alike byte_view value_view Shows bytes_alike e p (shown x d) (keys_alike version_keys (shown x d))

  pub version_delete_reads : bytes.version_delete e ≡ version_delete p
  unfolding bytes.version_delete version_delete
  version_delete_reads = by_shallow x _ _
      λ d. version_delete_alike byte_view value_view Shows bytes_alike e p (shown x d) (keys_alike version_delete_keys (shown x d))

  pub pack_list_reads : list.pack_list e ≡ pack_list p
  unfolding list.pack_list pack_list
  pack_list_reads = by_shallow x _ _ λ d. list_alike byte_view value_view Shows bytes_alike (λ ks a b y. keys_alike ks y) e p (shown x d)
