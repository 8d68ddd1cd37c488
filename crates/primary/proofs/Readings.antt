-- The definitions of the readings, from the answers that their steps gave, and the places of their answers.
use Prim.Native.Nat.{ℕ}
use mathlib.Core.Bool.{Bool, true, false, cond, ◌||◌}
use mathlib.Core.List.{List, [], ◌∷◌}
use Rattle.std.specs.Prelude.{Option, None, Some, Ok, Err}
use mathlib.Core.Path.{◌≡◌, refl, sym, ap, subst}
use lib.ListN.{drop}
use Rattle.slices.specs.Logic.{absurd_numbers}
use Rattle.slices.specs.Places.{Inside}
use Rattle.slices.specs.declared.Place.{Place}
use Rattle.refusals.specs.Answers.{refused, granted}
use Rattle.msgpack.specs.Lookup.{ValuePlace, broken, last_value, at_place}
use Rattle.msgpack.specs.Pairs.{place_told}
use Rattle.msgpack.specs.Readers.{read_boolean}
use Rattle.identifier.specs.Ulid.{is_ulid}
use Rattle.identifier.specs.Identity.{Identity, is_valid, identity_of}
use Rattle.msgpack.specs.Views.{repeats, text_at, front_of, byte_view, read_front, text_times}
use Rattle.primary.specs.Parts.{fills, text_under, texts_by, texts_under, ulid_key, bucket_key, object_key, identifier_key, deleted_key, delete_id_key, block_keys, version_keys, version_delete_keys, deleted_under, valid, ulid_of, shape_of, shape_at, shape_under, block_by, identifier_repeats, block_repeats, block, version_by, version, version_delete_by, version_delete}
use Rattle.primary.specs.Answers.{AllInside, BlockInside, VersionInside, DeleteInside}
use Rattle.primary.specs.declared.Texts.{Texts}
use Rattle.primary.specs.declared.Fault.{Fault}

-- ---- places

module _ (s : List ℕ) where
  pub block_inside : (t : Texts) → AllInside s t → BlockInside s (Ok t)
  block_inside t h = record { identifier = λ u e. let same : t ≡ u = cc in subst (λ v. AllInside s v) same h }

  pub no_block : (f : Fault) → BlockInside s (Err f)
  no_block f = record { identifier = λ u e. absurd_numbers (cc) }

  pub version_inside : (t : Texts) (d : Bool) → AllInside s t → VersionInside s (Ok (t, d))
  version_inside t d h = record { identifier = λ u f e. let same : ◌≡◌ {A = Texts × Bool} (t, d) (u, f) = cc in subst (λ v. AllInside s v.0) same h }

  pub no_version : (f : Fault) → VersionInside s (Err f)
  no_version f = record { identifier = λ u g e. absurd_numbers (cc) }

  pub delete_inside : (t : Texts) (d : Place) → AllInside s t → Inside s d → DeleteInside s (Ok (t, d))
  delete_inside t d h g = record {
    identifier = λ u f e. let same : ◌≡◌ {A = Texts × Place} (t, d) (u, f) = cc in subst (λ v. AllInside s v.0) same h;
    delete_id = λ u f e. let same : ◌≡◌ {A = Texts × Place} (t, d) (u, f) = cc in subst (λ v. Inside s v.1) same g;
  }

  pub no_delete : (f : Fault) → DeleteInside s (Err f)
  no_delete f = record { identifier = λ u g e. absurd_numbers (cc); delete_id = λ u g e. absurd_numbers (cc) }

-- ---- the rules

pub valid_is : (i : Identity) (t : Bool) → t ≡ is_valid i → cond t (Some i) None ≡ valid i
unfolding identity_of
valid_is i t e = rw e

-- ---- the types

module _ (s : List ℕ) where
  pub texts_are : (u b o : Option (List ℕ)) → u ≡ text_under byte_view ulid_key s → b ≡ text_under byte_view bucket_key s → o ≡ text_under byte_view object_key s → texts_by u b o ≡ texts_under byte_view s
  unfolding texts_under
  texts_are u b o e f g = rw (e, f, g)

  pub no_texts_are : last_value ulid_key s ≡ broken → None ≡ texts_under byte_view s
  unfolding texts_under text_under
  no_texts_are e = rw e

  pub shape_is : (t : Option (List ℕ)) (i : Option Identity) → t ≡ text_at s → i ≡ texts_under byte_view s → shape_of t i ≡ shape_at byte_view s
  unfolding shape_at
  shape_is t i e f = rw (e, f)

  -- a text has no keys
  pub text_once : (keys : List (List ℕ)) (t : List ℕ) → Some t ≡ text_at s → repeats byte_view keys s ≡ false
  unfolding repeats
  text_once [] t e = refl
  text_once (key ∷ keys) t e = rw (text_times key s t e, text_once keys t e)

  pub flag_told : (p : ℕ) → last_value deleted_key s ≡ place_told p → at_place (Some false) (λ n. read_boolean (drop n s)) (place_told p) ≡ deleted_under byte_view s
  unfolding deleted_under
  flag_told p e = rw e (sym (read_front (Some false) read_boolean s (place_told p)))

-- ---- the parts

module _ (s : List ℕ) (w : fills s ≡ true) where
  -- by where the last `I` stands, and whether another does
  pub block_is : (p : ValuePlace) → last_value identifier_key s ≡ p → (r : Bool) → repeats byte_view block_keys s ≡ r
      → block_by (at_place None (λ n. shape_at byte_view (drop n s)) p) (r || identifier_repeats byte_view (front_of s p)) ≡ block s
  unfolding block shape_under block_repeats
  block_is p e r f = rw (w, e, f) (ap (λ t. block_by t (r || identifier_repeats byte_view (front_of s p))) (sym (read_front None (shape_at byte_view) s p)))

  pub version_is : (texts : Option Identity) (flag : Option Bool) (r : Bool) → texts ≡ texts_under byte_view s → flag ≡ deleted_under byte_view s
      → r ≡ repeats byte_view version_keys s → version_by texts flag r ≡ version s
  unfolding version
  version_is texts flag r e f o = rw (w, e, f, o)

  pub delete_is : (texts : Option Identity) (t : Option (List ℕ)) (r : Bool) → texts ≡ texts_under byte_view s → t ≡ text_under byte_view delete_id_key s
      → r ≡ repeats byte_view version_delete_keys s → version_delete_by texts t r ≡ version_delete s
  unfolding version_delete
  delete_is texts t r e f o = rw (w, e, f, o)

  pub version_tested : (i : Identity) (d t : Bool) → Some i ≡ texts_under byte_view s → Some d ≡ deleted_under byte_view s → false ≡ repeats byte_view version_keys s
      → t ≡ is_valid i → cond t (granted (record { identifier = i; deleted = d })) (refused 18) ≡ version s
  unfolding identity_of
  version_tested i d true e f o v = rw (← v) at (version_is (Some i) (Some d) false e f o)
  version_tested i d false e f o v = rw (← v) at (version_is (Some i) (Some d) false e f o)

  pub delete_tested : (i : Identity) (u : List ℕ) (t v : Bool) → Some i ≡ texts_under byte_view s → Some u ≡ text_under byte_view delete_id_key s
      → false ≡ repeats byte_view version_delete_keys s → t ≡ is_valid i → v ≡ is_ulid u
      → cond t (cond v (granted (record { identifier = i; delete_id = u })) (refused 18)) (refused 18) ≡ version_delete s
  unfolding identity_of ulid_of
  delete_tested i u true true e f o v l = rw (← v, ← l) at (delete_is (Some i) (Some u) false e f o)
  delete_tested i u true false e f o v l = rw (← v, ← l) at (delete_is (Some i) (Some u) false e f o)
  delete_tested i u false v e f o v' l = rw (← v') at (delete_is (Some i) (Some u) false e f o)
