-- The composite text of an identifier (document 01): ULID, colon, bucket, slash, object; split after the colon at the first slash.
use Rattle.std.specs.Prelude.{ℕ, ◌+◌, ◌-◌, ◌<◌, ◌≤◌, ◌≡◌, refl, Bool, true, false, cond, ◌&&◌, eqb, length, get_or, take, drop}
use Rattle.std.proofs.Common.{sym, ◌∙◌, add-one, arith, eqb-true, length-append, length-drop, take-append-drop, take_at, drop-drop, drop-cons}
use Rattle.std.proofs.Math.Path.{ap}
use mathlib.Core.List.{List, ◌∷◌, ◌++◌, append_assoc}
use Rattle.std.specs.Prelude.{Option, None, Some}
use Rattle.std.proofs.lemmas.List.{get_or_at}
use Rattle.std.proofs.Math.Seq.{drop-append-add}
use Rattle.slices.specs.Logic.{both}
use Rattle.identifier.specs.Texts.{member, before, before_take, before_split, before_append}
use Rattle.identifier.specs.Identity.{slash, Identity, identity, is_valid, identity_of, sizes, no_slash}

-- the byte `:`
abbrev pub colon : ℕ
colon = 58

unfoldable pub composite_text : Identity → List ℕ
composite_text i = i.ulid ++ (colon ∷ i.bucket) ++ (slash ∷ i.object)

-- what stands where the bucket should: from byte 27 to the first slash
unfoldable pub bucket_in : List ℕ → List ℕ
bucket_in t = before slash (drop 27 t)

-- and the object: all after that slash
unfoldable pub object_in : List ℕ → List ℕ
object_in t = drop (length (bucket_in t) + 1) (drop 27 t)

abbrev pub parts_of : List ℕ → Identity
parts_of t = identity (take 26 t) (bucket_in t) (object_in t)

unfoldable pub is_composite : List ℕ → Bool
is_composite t = eqb (get_or t 26 0) colon && is_valid (parts_of t)

-- the identifier that a text holds; none where it is no composite text
unfoldable pub identity_in : List ℕ → Option Identity
identity_in t = cond (is_composite t) (Some (parts_of t)) None

-- where the slash between bucket and object stands in a composite text
unfoldable pub slash_in : List ℕ → Option ℕ
slash_in t = cond (is_composite t) (Some (27 + length (bucket_in t))) None

-- ---- its length

pub composite_length : (i : Identity) → is_valid i ≡ true → length (composite_text i) ≡ 28 + length i.bucket + length i.object
unfolding composite_text
composite_length i v = simp length-append (omega (arith, (sizes i v).ulid))

-- document 01: at most 1,115 bytes
pub composite_most : (i : Identity) → is_valid i ≡ true → length (composite_text i) ≤ 1115
composite_most i v = omega (arith, composite_length i v, sizes i v)

-- ---- the two shapes agree

-- Three texts joined and read, or taken each by itself, give the same identifier or both give none. (Of a ULID of another length, or a
-- bucket with a slash, the joined text does not show where it was joined.)
module _ (u b o : List ℕ) (whole : length u ≡ 26) (plain : member slash b ≡ false) where
  abbrev text : List ℕ
  text = composite_text (identity u b o)

  grouped : text ≡ u ++ (colon ∷ (b ++ (slash ∷ o)))
  unfolding composite_text
  grouped = append_assoc u (colon ∷ b) (slash ∷ o)

  ulid_in : take 26 text ≡ u
  ulid_in = rw grouped (take_at u (colon ∷ (b ++ (slash ∷ o))) 26 whole)

  colon_in : get_or text 26 0 ≡ colon
  colon_in = rw grouped (get_or_at u colon (b ++ (slash ∷ o)) 0 26 whole)

  rest_in : drop 27 text ≡ b ++ (slash ∷ o)
  rest_in =
      rw grouped
      (ap (λ n. drop (n + 1) (u ++ (colon ∷ (b ++ (slash ∷ o))))) (sym whole) ∙ drop-append-add u (colon ∷ (b ++ (slash ∷ o))) 1)

  bucket_in_lem : bucket_in text ≡ b
  unfolding bucket_in
  bucket_in_lem = ap (before slash) rest_in ∙ before_append slash b o plain

  object_in_lem : object_in text ≡ o
  unfolding object_in
  object_in_lem = rw (bucket_in_lem, rest_in) (drop-append-add b (slash ∷ o) 1)

  pub shapes_agree : identity_in text ≡ identity_of u b o
  unfolding identity_in identity_of is_composite
  shapes_agree = rw (ulid_in, colon_in, bucket_in_lem, object_in_lem)

-- ---- a text reads as an identifier exactly when it is the text of that identifier

pub text_reads : (i : Identity) → is_valid i ≡ true → identity_in (composite_text i) ≡ Some i
unfolding identity_of
text_reads i v = shapes_agree i.ulid i.bucket i.object (sizes i v).ulid (no_slash i v) ∙ rw v

pub record Composite (t : List ℕ) : Type 0 where
  pub valid : is_valid (parts_of t) ≡ true
  pub colon_there : get_or t 26 0 ≡ colon
  -- at least one byte after the slash
  pub inside : 27 + length (bucket_in t) + 1 < length t

pub composite : (t : List ℕ) → is_composite t ≡ true → Composite t
unfolding is_composite object_in
composite t e =
    let p = both (eqb (get_or t 26 0) colon) (is_valid (parts_of t)) e in
    let k = (sizes (parts_of t) p.1).objectleast in
    record {
      valid = p.1;
      colon_there = eqb-true (get_or t 26 0) colon p.0;
      inside = omega (arith, simp length-drop at k);
    }

text_joined : (t : List ℕ) → Composite t → composite_text (parts_of t) ≡ t
unfolding composite_text object_in bucket_in
text_joined t c =
    let l : length (before slash (drop 27 t)) < length (drop 27 t) = omega (arith, length-drop 27 t, c.inside) in
    let h : 26 < length t = omega (arith, c.inside) in
    let front : drop 26 t ≡ colon ∷ drop 27 t = drop-cons t 26 0 h ∙ ap (λ x. x ∷ drop 27 t) c.colon_there in
    let rest : before slash (drop 27 t) ++ (slash ∷ drop (length (before slash (drop 27 t)) + 1) (drop 27 t)) ≡ drop 27 t
    = rw add-one (sym (before_split slash (drop 27 t) l)) in
    append_assoc (take 26 t) (colon ∷ before slash (drop 27 t)) (slash ∷ drop (length (before slash (drop 27 t)) + 1) (drop 27 t))
    ∙ ap (λ r. take 26 t ++ (colon ∷ r)) rest
    ∙ ap (λ r. take 26 t ++ r) (sym front)
    ∙ take-append-drop 26 t

pub reads_text : (t : List ℕ) (i : Identity) → identity_in t ≡ Some i → (is_valid i ≡ true) × (composite_text i ≡ t)
unfolding identity_in
reads_text t i e = go (is_composite t) refl e
  where
    go : (b : Bool) → is_composite t ≡ b → cond b (Some (parts_of t)) None ≡ Some i → (is_valid i ≡ true) × (composite_text i ≡ t)
    go true f g =
        let c = composite t f in
        let w : i ≡ parts_of t = cc in
        rw w (c.valid, text_joined t c)
    go false f g = let z : ◌≡◌ {A = ℕ} 0 1 = cc in absurd (omega arith)

-- so no two identifiers have the same text
pub text_unique : (i j : Identity) → is_valid i ≡ true → is_valid j ≡ true → composite_text i ≡ composite_text j → i ≡ j
text_unique i j v w e =
    let p : Some i ≡ Some j = sym (text_reads i v) ∙ ap identity_in e ∙ text_reads j w in
    cc

-- ---- where a composite text splits, and the three parts of it there

abbrev pub parts_at : List ℕ → ℕ → Identity
parts_at t at = identity (take 26 t) (take (at - 27) (drop 27 t)) (drop (at + 1) t)

pub record SplitAt (t : List ℕ) (at : ℕ) : Type 0 where
  pub valid : is_valid (parts_at t at) ≡ true
  pub read : identity_in t ≡ Some (parts_at t at)
  pub after : 27 < at
  pub inside : at + 1 < length t

parts_at_lem : (t : List ℕ) (at : ℕ) → at ≡ 27 + length (bucket_in t) → parts_at t at ≡ parts_of t
unfolding object_in bucket_in
parts_at_lem t at e =
    let n : at - 27 ≡ length (before slash (drop 27 t)) = omega arith in
    let m : at + 1 ≡ 27 + (length (before slash (drop 27 t)) + 1) = omega arith in
    rw (n, m, before_take slash (drop 27 t), drop-drop)

split_place : (t : List ℕ) (at : ℕ) → is_composite t ≡ true → at ≡ 27 + length (bucket_in t) → SplitAt t at
unfolding identity_in
split_place t at f e =
    let c = composite t f in
    record {
      valid = rw (parts_at_lem t at e) c.valid;
      read = rw (f, parts_at_lem t at e);
      after = omega (arith, (sizes (parts_of t) c.valid).bucketleast);
      inside = omega (arith, c.inside);
    }

pub split_at : (t : List ℕ) (at : ℕ) → slash_in t ≡ Some at → SplitAt t at
unfolding slash_in
split_at t at e = go (is_composite t) refl e
  where
    go : (b : Bool) → is_composite t ≡ b → cond b (Some (27 + length (bucket_in t))) None ≡ Some at → SplitAt t at
    go true f g = split_place t at f cc
    go false f g = let z : ◌≡◌ {A = ℕ} 0 1 = cc in absurd (omega arith)

pub split_none : (t : List ℕ) → slash_in t ≡ None → identity_in t ≡ None
unfolding slash_in identity_in
split_none t e = go (is_composite t) refl e
  where
    go : (b : Bool) → is_composite t ≡ b → ◌≡◌ {A = Option ℕ} (cond b (Some (27 + length (bucket_in t))) None) None → identity_in t ≡ None
    go true f g = let z : ◌≡◌ {A = ℕ} 0 1 = cc in absurd (omega arith)
    go false f g = rw f
