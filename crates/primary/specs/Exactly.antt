-- When a part reads, and as what: exactly when it is whole, what it must have stands in it, once, and the texts keep the rules. So either shape
-- of an identifier reads as the same identifier.
use Rattle.std.specs.Prelude.{ℕ, Bool, true, false, cond, List, ◌≡◌, refl, length}
use Rattle.std.specs.Prelude.{Option, None, Some}
use Rattle.std.proofs.Common.{sym, ap, subst, ◌∙◌}
use Rattle.slices.specs.Logic.{absurd_numbers}
use Rattle.refusals.specs.Answers.{Answer, refused, granted, or_refused, if_once}
use Rattle.identifier.specs.Texts.{member}
use Rattle.identifier.specs.Ulid.{is_ulid}
use Rattle.identifier.specs.Identity.{slash, Identity, is_valid, identity_of}
use Rattle.identifier.specs.Composite.{composite_text, shapes_agree, text_reads, reads_text}
use Rattle.msgpack.specs.Views.{repeats, byte_view}
use Rattle.primary.specs.Parts.{fills, version_keys, version_delete_keys, text_under, texts_under, deleted_under, delete_id_key, valid, ulid_of, Shape, composite, separate, shape_under, identity_by, block_repeats, block, Version, version, VersionDelete, version_delete}

-- ---- steps that were not refused

module _ {A B : Type 0} where
  record Step (o : Option A) (next : A → Answer B) (b : B) : Type 0 where
    given : A
    is : o ≡ Some given
    then_read : next given ≡ granted b

  step : (number : ℕ) (o : Option A) (next : A → Answer B) (b : B) → or_refused number o next ≡ granted b → Step o next b
  step number (Some a) next b e = record { given = a; is = refl; then_read = e }
  step number None next b e = absurd_numbers (cc)

record Once {B : Type 0} (repeated : Bool) (next : Answer B) (b : B) : Type 0 where
  is : repeated ≡ false
  then_read : next ≡ granted b

once : {B : Type 0} (repeated : Bool) (next : Answer B) (b : B) → if_once repeated next ≡ granted b → Once repeated next b
once true next b e = absurd_numbers (cc)
once false next b e = record { is = refl; then_read = e }

record Filled {A : Type 0} (s : List ℕ) (answer : Answer A) (a : A) : Type 0 where
  whole : fills s ≡ true
  then_read : answer ≡ granted a

filled : {A : Type 0} (s : List ℕ) (answer : Answer A) (a : A) (t : Bool) → fills s ≡ t → cond t answer (refused 16) ≡ granted a → Filled s answer a
filled s answer a true w e = record { whole = w; then_read = e }
filled s answer a false w e = absurd_numbers (cc)

record Valid (i j : Identity) : Type 0 where
  same : i ≡ j
  rules : is_valid j ≡ true

valid_some : (i j : Identity) → valid i ≡ Some j → Valid i j
unfolding identity_of
valid_some i j e = go (is_valid i) refl e
  where
    go : (t : Bool) → is_valid i ≡ t → cond t (Some i) None ≡ Some j → Valid i j
    go true v f = let same : i ≡ j = cc in record { same = same; rules = ap is_valid (sym same) ∙ v }
    go false v f = absurd_numbers (cc)

some_valid : (i : Identity) → is_valid i ≡ true → valid i ≡ Some i
unfolding identity_of
some_valid i v = rw v

record Ulid (t u : List ℕ) : Type 0 where
  same : t ≡ u
  rules : is_ulid u ≡ true

ulid_some : (t u : List ℕ) → ulid_of t ≡ Some u → Ulid t u
unfolding ulid_of
ulid_some t u e = go (is_ulid t) refl e
  where
    go : (b : Bool) → is_ulid t ≡ b → cond b (Some t) None ≡ Some u → Ulid t u
    go true v f = let same : t ≡ u = cc in record { same = same; rules = ap is_ulid (sym same) ∙ v }
    go false v f = absurd_numbers (cc)

-- ---- a block

-- the identifier in one of its two shapes
pub data Shows (i : Identity) : Shape → Type 0 where
  as_text_lem : Shows i (composite (composite_text i))
  as_map_lem : Shows i (separate i)

pub record BlockNames (s : List ℕ) (i : Identity) : Type 0 where
  pub whole : fills s ≡ true
  pub shape : Shape
  pub there : shape_under byte_view s ≡ Some shape
  pub once : block_repeats byte_view s ≡ false
  pub shows : Shows i shape
  pub rules : is_valid i ≡ true

shape_reads : (i : Identity) (shape : Shape) → is_valid i ≡ true → Shows i shape → identity_by shape ≡ Some i
shape_reads i shape v as_text_lem = text_reads i v
shape_reads i shape v as_map_lem = some_valid i v

pub names_block : (s : List ℕ) (i : Identity) → BlockNames s i → block s ≡ granted i
unfolding block
names_block s i b = rw (b.whole, b.there, b.once, shape_reads i b.shape b.rules b.shows)

reads_shape : (s : List ℕ) (i : Identity) (shape : Shape) → fills s ≡ true → shape_under byte_view s ≡ Some shape → block_repeats byte_view s ≡ false
    → identity_by shape ≡ Some i → BlockNames s i
reads_shape s i (composite t) w e n f =
    let r = reads_text t i f in
    record { whole = w; shape = composite t; there = e; once = n; shows = subst (λ u. Shows i (composite u)) r.1 as_text_lem; rules = r.0 }
reads_shape s i (separate j) w e n f =
    let r = valid_some j i f in
    record { whole = w; shape = separate j; there = e; once = n; shows = subst (λ k. Shows i (separate k)) (sym r.same) as_map_lem; rules = r.rules }

pub block_names : (s : List ℕ) (i : Identity) → block s ≡ granted i → BlockNames s i
unfolding block
block_names s i e =
    let a = filled s _ i (fills s) refl e in
    let b = step 17 (shape_under byte_view s) _ i a.then_read in
    let o = once (block_repeats byte_view s) _ i b.then_read in
    let c = step 18 (identity_by b.given) _ i o.then_read in
    let same : c.given ≡ i = cc in
    reads_shape s i b.given a.whole b.is o.is (c.is ∙ ap Some same)

-- Either shape of an identifier reads as the same identifier.
pub either_shape : (s t : List ℕ) (i : Identity) → BlockNames s i → BlockNames t i → block s ≡ block t
either_shape s t i b d = names_block s i b ∙ sym (names_block t i d)

-- Where the texts break the rules both shapes are refused alike. (Of a ULID of another length, or a bucket with a slash, a joined text does
-- not show where it was joined.)
pub shapes_alike : (s t : List ℕ) (i : Identity) → length i.ulid ≡ 26 → member slash i.bucket ≡ false → fills s ≡ true → fills t ≡ true
    → shape_under byte_view s ≡ Some (composite (composite_text i)) → shape_under byte_view t ≡ Some (separate i)
    → block_repeats byte_view s ≡ block_repeats byte_view t → block s ≡ block t
unfolding block
shapes_alike s t i l m w v e f r = rw (w, v, e, f, r, shapes_agree i.ulid i.bucket i.object l m)

-- ---- a version

pub record VersionNames (s : List ℕ) (v : Version) : Type 0 where
  pub whole : fills s ≡ true
  pub texts : texts_under byte_view s ≡ Some v.identifier
  pub flag : deleted_under byte_view s ≡ Some v.deleted
  pub once : repeats byte_view version_keys s ≡ false
  pub rules : is_valid v.identifier ≡ true

pub names_version : (s : List ℕ) (v : Version) → VersionNames s v → version s ≡ granted v
unfolding version
names_version s v n = rw (n.whole, n.texts, n.flag, n.once, some_valid v.identifier n.rules)

pub version_names : (s : List ℕ) (v : Version) → version s ≡ granted v → VersionNames s v
unfolding version
version_names s v e =
    let a = filled s _ v (fills s) refl e in
    let b = step 17 (texts_under byte_view s) _ v a.then_read in
    let c = step 17 (deleted_under byte_view s) _ v b.then_read in
    let o = once (repeats byte_view version_keys s) _ v c.then_read in
    let d = step 18 (valid b.given) _ v o.then_read in
    let r = valid_some b.given d.given d.is in
    let same : record { identifier = d.given; deleted = c.given } ≡ v = cc in
    subst (λ x. VersionNames s x) same (record { whole = a.whole; texts = b.is ∙ ap Some r.same; flag = c.is; once = o.is; rules = r.rules })

-- ---- a version delete

pub record DeleteNames (s : List ℕ) (v : VersionDelete) : Type 0 where
  pub whole : fills s ≡ true
  pub texts : texts_under byte_view s ≡ Some v.identifier
  pub delete_text : text_under byte_view delete_id_key s ≡ Some v.delete_id
  pub once : repeats byte_view version_delete_keys s ≡ false
  pub rules : is_valid v.identifier ≡ true
  pub delete_rules : is_ulid v.delete_id ≡ true

pub names_delete : (s : List ℕ) (v : VersionDelete) → DeleteNames s v → version_delete s ≡ granted v
unfolding version_delete ulid_of
names_delete s v n = rw (n.whole, n.texts, n.delete_text, n.once, some_valid v.identifier n.rules, n.delete_rules)

pub delete_names : (s : List ℕ) (v : VersionDelete) → version_delete s ≡ granted v → DeleteNames s v
unfolding version_delete
delete_names s v e =
    let a = filled s _ v (fills s) refl e in
    let b = step 17 (texts_under byte_view s) _ v a.then_read in
    let c = step 17 (text_under byte_view delete_id_key s) _ v b.then_read in
    let o = once (repeats byte_view version_delete_keys s) _ v c.then_read in
    let d = step 18 (valid b.given) _ v o.then_read in
    let f = step 18 (ulid_of c.given) _ v d.then_read in
    let r = valid_some b.given d.given d.is in
    let u = ulid_some c.given f.given f.is in
    let same : record { identifier = d.given; delete_id = f.given } ≡ v = cc in
    subst (λ x. DeleteNames s x) same (record {
      whole = a.whole;
      texts = b.is ∙ ap Some r.same;
      delete_text = c.is ∙ ap Some u.same;
      once = o.is;
      rules = r.rules;
      delete_rules = u.rules;
    })
