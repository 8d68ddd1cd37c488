-- What a record that is read is, and that its reading depends on its tag and value alone.
use Rattle.std.specs.Prelude.{ℕ, ◌+◌, ◌≤◌, Bool, true, false, cond, not, ◌||◌, List, ◌++◌, ◌↔◌, ◌≡◌, refl, eqb, length, take, drop}
use Rattle.std.proofs.Common.{append_assoc, ap, ◌∙◌, arith, eq-eqb, eqb-true, le-ltb, length-append, drop_at, take_at}
use Rattle.std.specs.Prelude.{None, Some}
use Rattle.std.proofs.lemmas.Bool.{lt-leb}
use Rattle.std.proofs.Math.Seq.{drop-append_seam}
use Rattle.slices.specs.Logic.{absurd_numbers}
use Rattle.refusals.specs.Sheet.{lowest}
use Rattle.refusals.specs.Answers.{Answer, refused, granted, unless, is_result}
use Rattle.tlv.specs.Layout as tlv
use Rattle.tlv.specs.Layout.{Fits, layout, length_head, length_layout}
use Rattle.tlv.specs.Found.{found, step, made}
use Rattle.tlv.specs.Stands.{layout_step}
use Rattle.value.specs.Reading as value
use Rattle.value.specs.Header.{telling_of}
use Rattle.value.specs.declared.Told.{Told}
use Rattle.records.specs.Record.{is_known, Contents, contents, Record, told_rows, primary_in, with_told, by_value, read_record, can_be_read, at_place, record_at}

-- ---- a record is read exactly when all this holds

pub record ReadAs (limit tag : ℕ) (s : List ℕ) (r : Record) : Type 0 where
  pub value_tells : value.reading limit s ≡ granted r.told
  pub known : is_known tag ≡ true
  pub version : r.told.version ≡ 0
  pub not_encrypted : r.told.primary.encrypted ≡ false
  pub not_compressed : r.told.primary.compression ≡ 0
  pub primary_tells : contents tag (primary_in s r.told) ≡ granted r.contents

pub as_read : (limit tag : ℕ) (s : List ℕ) (r : Record) → ReadAs limit tag s r → read_record limit tag s ≡ granted r
unfolding read_record told_rows lowest
as_read limit tag s r a =
    rw (a.value_tells, a.known, eq-eqb _ _ a.version, a.not_encrypted, eq-eqb _ _ a.not_compressed, a.primary_tells)

-- no row of 13 to 15 applies
record NoRow (tag : ℕ) (t : Told) : Type 0 where
  known : is_known tag ≡ true
  version : t.version ≡ 0
  not_encrypted : t.primary.encrypted ≡ false
  not_compressed : t.primary.compression ≡ 0

no_row : {A : Type 0} (tag : ℕ) (t : Told) (next : Answer A) (a : A)
    → unless (lowest (told_rows tag (telling_of t))) next ≡ granted a → NoRow tag t × (next ≡ granted a)
unfolding told_rows lowest
no_row tag t next a e = tag_test (is_known tag) refl e
  where
    compression_test : is_known tag ≡ true → t.version ≡ 0 → t.primary.encrypted ≡ false → (b : Bool)
        → eqb t.primary.compression 0 ≡ b → unless (cond (not b) (Some 15) None) next ≡ granted a → NoRow tag t × (next ≡ granted a)
    compression_test k v z true p f = (record { known = k; version = v; not_encrypted = z; not_compressed = eqb-true _ _ p }, f)
    compression_test k v z false p f = absurd_numbers (cc)

    encryption_test : is_known tag ≡ true → t.version ≡ 0 → (b : Bool) → t.primary.encrypted ≡ b
        → unless (cond (b || not (eqb t.primary.compression 0)) (Some 15) None) next ≡ granted a → NoRow tag t × (next ≡ granted a)
    encryption_test k v false p f = compression_test k v p (eqb t.primary.compression 0) refl f
    encryption_test k v true p f = absurd_numbers (cc)

    version_test : is_known tag ≡ true → (b : Bool) → eqb t.version 0 ≡ b
        → unless (cond (not b) (Some 14) (cond (t.primary.encrypted || not (eqb t.primary.compression 0)) (Some 15) None)) next ≡ granted a
        → NoRow tag t × (next ≡ granted a)
    version_test k true p f = encryption_test k (eqb-true _ _ p) t.primary.encrypted refl f
    version_test k false p f = absurd_numbers (cc)

    tag_test : (b : Bool) → is_known tag ≡ b
        → unless (cond (not b) (Some 13)
        (cond (not (eqb t.version 0)) (Some 14) (cond (t.primary.encrypted || not (eqb t.primary.compression 0)) (Some 15) None))) next ≡ granted a
        → NoRow tag t × (next ≡ granted a)
    tag_test true p f = version_test p (eqb t.version 0) refl f
    tag_test false p f = absurd_numbers (cc)

pub read_as : (limit tag : ℕ) (s : List ℕ) (r : Record) → read_record limit tag s ≡ granted r → ReadAs limit tag s r
unfolding read_record
read_as limit tag s r e = by (value.reading limit s) refl e
  where
    told_by : (t : Told) → value.reading limit s ≡ granted t → NoRow tag t → (c : Answer Contents) → contents tag (primary_in s t) ≡ c
        → with_told t c ≡ granted r → ReadAs limit tag s r
    told_by t w n (granted c) p f =
        let is : record { told = t; contents = c } ≡ r = cc in
        rw (← is) (record {
          value_tells = w;
          known = n.known;
          version = n.version;
          not_encrypted = n.not_encrypted;
          not_compressed = n.not_compressed;
          primary_tells = p;
        })
    told_by t w n (refused m) p f = absurd_numbers (cc)

    by : (a : Answer Told) → value.reading limit s ≡ a → by_value tag s a ≡ granted r → ReadAs limit tag s r
    by (granted t) w f =
        let n = no_row tag t (with_told t (contents tag (primary_in s t))) r f in
        told_by t w n.0 (contents tag (primary_in s t)) refl n.1
    by (refused m) w f = absurd_numbers (cc)

-- ---- "can be read" is: not refused

pub can_be_read_lem : (limit tag : ℕ) (s : List ℕ) → can_be_read limit tag s ≡ true ↔ ((n : ℕ) → read_record limit tag s ≡ refused n → ⊥)
unfolding can_be_read
can_be_read_lem limit tag s = (never (read_record limit tag s), always (read_record limit tag s))
  where
    never : (a : Answer Record) → is_result a ≡ true → (n : ℕ) → a ≡ refused n → ⊥
    never (granted r) e n f = absurd_numbers (cc)
    never (refused m) e n f = absurd_numbers (cc)

    always : (a : Answer Record) → ((n : ℕ) → a ≡ refused n → ⊥) → is_result a ≡ true
    always (granted r) f = refl
    always (refused m) f = absurd (f m refl)

-- and the record is then there
pub the_record : (limit tag : ℕ) (s : List ℕ) → can_be_read limit tag s ≡ true → (r : Record) × (read_record limit tag s ≡ granted r)
unfolding can_be_read
the_record limit tag s e = by (read_record limit tag s) refl e
  where
    by : (a : Answer Record) → read_record limit tag s ≡ a → is_result a ≡ true → (r : Record) × (read_record limit tag s ≡ granted r)
    by (granted r) w f = (r, w)
    by (refused n) w f = absurd_numbers (cc)

-- ---- a record in a pack: what stands before and after it, and bytes 28 and 29, play no part

pub value_there : (r : tlv.Record) (rest : List ℕ) → take (length r.value) (drop 32 (layout r ++ rest)) ≡ r.value
unfolding layout
value_there r rest = rw (
  append_assoc (tlv.head r) r.value rest,
  drop_at (tlv.head r) (r.value ++ rest) 32 (length_head r),
  take_at r.value rest (length r.value) refl,
)

pub tag_and_value : (limit : ℕ) (front rest : List ℕ) (r : tlv.Record) → Fits r → length (front ++ (layout r ++ rest)) ≤ limit
    → record_at limit (front ++ (layout r ++ rest)) (length front) ≡ at_place r.value (read_record limit r.tag r.value)
unfolding record_at made
tag_and_value limit front rest r fits within =
    let s : List ℕ = front ++ (layout r ++ rest) in
    let long : length s ≡ length front + (32 + length r.value + length rest) = length-append front (layout r ++ rest)
    ∙ ap (λ n. length front + n) (length-append (layout r) rest ∙ ap (λ n. n + length rest) (length_layout r)) in
    let seam : drop (length front) s ≡ layout r ++ rest = drop-append_seam front (layout r ++ rest) in
    let stands : step (drop (length front) s) ≡ found (made r.tag r.value) = ap step seam ∙ layout_step r rest fits in
    let value_is : take (length r.value) (drop 32 (drop (length front) s)) ≡ r.value = ap (λ t. take (length r.value) (drop 32 t)) seam
    ∙ value_there r rest in
    rw (lt-leb (length s) (length front) (omega arith), le-ltb limit (length s) within, stands)
    (ap (λ v. at_place v (read_record limit r.tag v)) value_is)
