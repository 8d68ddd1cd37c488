-- Primary parts that are seen alike read alike: the rules look at a part through its view alone.
use Rattle.std.specs.Prelude.{ℕ, Bool, true, false, ◌||◌, List, ◌≡◌}
use Rattle.std.specs.Prelude.{None, Some}
use Rattle.std.proofs.Math.Path.{refl}
use Rattle.std.proofs.Common.{sym, ap, ◌∙◌}
use Rattle.slices.specs.Logic.{neither_so}
use Rattle.msgpack.specs.Lookup.{Under, found, at_place}
use Rattle.msgpack.specs.Views.{View, repeats, SameUnder, both_found, both_missing, both_broken, SeenAlike, SameKeys, repeats_alike, once_alike}
use Rattle.primary.specs.Parts.{ulid_key, bucket_key, object_key, identifier_key, deleted_key, delete_id_key, identity_keys, block_keys, version_keys, version_delete_keys, text_under, texts_under, deleted_under, shape_at, shape_under, block_by, identifier_repeats, block_repeats, block_seen, version_seen, version_delete_seen}

module _ {I J : Type 0} (v : View I) (w : View J) (R : I → J → Type 0) (alike : SeenAlike v w R) where
  -- ---- under one key

  text_alike : (key : List ℕ) (i : I) (j : J) → SameUnder R (v.under key i) (w.under key j) → text_under v key i ≡ text_under w key j
  unfolding text_under
  text_alike key i j same = by same
    where
      by : {o : Under I} {p : Under J} → SameUnder R o p → at_place None v.text o ≡ at_place None w.text p
      by (both_found r) = alike.text r
      by both_missing = refl
      by both_broken = refl

  flag_alike : (i : I) (j : J) → SameUnder R (v.under deleted_key i) (w.under deleted_key j) → deleted_under v i ≡ deleted_under w j
  unfolding deleted_under
  flag_alike i j same = by same
    where
      by : {o : Under I} {p : Under J} → SameUnder R o p → at_place (Some false) v.boolean o ≡ at_place (Some false) w.boolean p
      by (both_found r) = alike.boolean r
      by both_missing = refl
      by both_broken = refl

  -- ---- the maps

  module _ (i : I) (j : J) where
    texts_alike : SameKeys v w R identity_keys i j → texts_under v i ≡ texts_under w j
    unfolding texts_under
    texts_alike k = rw (text_alike ulid_key i j k.0, text_alike bucket_key i j k.1.0, text_alike object_key i j k.1.1.0)

    pub version_alike : R i j → SameKeys v w R version_keys i j → version_seen v i ≡ version_seen w j
    version_alike r k = rw (texts_alike k.1, flag_alike i j k.0, repeats_alike v w R alike version_keys r)

    pub version_delete_alike : R i j → SameKeys v w R version_delete_keys i j → version_delete_seen v i ≡ version_delete_seen w j
    version_delete_alike r k = rw (texts_alike k.1, text_alike delete_id_key i j k.0, repeats_alike v w R alike version_delete_keys r)

  shape_alike : (i : I) (j : J) → R i j → SameKeys v w R identity_keys i j → shape_at v i ≡ shape_at w j
  unfolding shape_at
  shape_alike i j r k = rw (alike.text r, texts_alike i j k)

  -- in both the same keys repeat
  pub block_repeats_alike : (i : I) (j : J) → R i j → block_repeats v i ≡ block_repeats w j
  unfolding block_repeats
  block_repeats_alike i j r = rw (← repeats_alike v w R alike block_keys r) (by (repeats v block_keys i) refl)
    where
      under : {o : Under I} {p : Under J} → SameUnder R o p → identifier_repeats v o ≡ identifier_repeats w p
      under (both_found x) = repeats_alike v w R alike identity_keys x
      under both_missing = refl
      under both_broken = refl

      by : (b : Bool) → repeats v block_keys i ≡ b
          → (b || identifier_repeats v (v.under identifier_key i)) ≡ (b || identifier_repeats w (w.under identifier_key j))
      by true e = refl
      by false e = under (once_alike v w R alike block_keys r e).0

  -- items alike under `I`, and, where a map stands there, under the keys that are read in it
  pub block_alike : (i : I) (j : J) → R i j → SameKeys v w R block_keys i j
      → ((a : I) (b : J) → v.under identifier_key i ≡ found a → R a b → SameKeys v w R identity_keys a b)
      → block_seen v i ≡ block_seen w j
  unfolding shape_under
  block_alike i j r k inner = rw (block_repeats_alike i j r) (ap (λ s. block_by s (block_repeats w j)) (by k.0 inner))
    where
      by : {o : Under I} {p : Under J} → SameUnder R o p → ((a : I) (b : J) → o ≡ found a → R a b → SameKeys v w R identity_keys a b)
          → at_place None (shape_at v) o ≡ at_place None (shape_at w) p
      by (both_found {i = a} {j = b} x) h = shape_alike a b x (h a b refl x)
      by both_missing h = refl
      by both_broken h = refl

  -- ---- where no key that is read repeats

  module _ (i : I) (j : J) (r : R i j) where
    pub once_block_alike : block_repeats v i ≡ false → block_seen v i ≡ block_seen w j
    unfolding block_repeats
    once_block_alike e =
        let n = neither_so (repeats v block_keys i) (identifier_repeats v (v.under identifier_key i)) e in
        block_alike i j r (once_alike v w R alike block_keys r n.0) λ a b q x. once_alike v w R alike identity_keys x (sym (ap (identifier_repeats v) q) ∙ n.1)

    pub once_version_alike : repeats v version_keys i ≡ false → version_seen v i ≡ version_seen w j
    once_version_alike e = version_alike i j r (once_alike v w R alike version_keys r e)

    pub once_version_delete_alike : repeats v version_delete_keys i ≡ false → version_delete_seen v i ≡ version_delete_seen w j
    once_version_delete_alike e = version_delete_alike i j r (once_alike v w R alike version_delete_keys r e)
