-- An identifier (document 01): ULID, bucket and object together, and the rules for each.
use Rattle.std.specs.Prelude.{ℕ, ◌≤◌, ◌≡◌, Bool, true, false, cond, not, ◌&&◌, List, leb, length}
use Rattle.std.specs.Prelude.{Option, None, Some}
use Rattle.std.proofs.Common.{leb-true}
use Rattle.std.proofs.lemmas.Bool.{not-true}
use Rattle.slices.specs.Bytes.{same_bytes, same_bytes_refl, same_bytes_equal}
use Rattle.slices.specs.Logic.{both}
use Rattle.identifier.specs.Texts.{member}
use Rattle.identifier.specs.Ulid.{is_ulid, ulid_length}

-- the byte `/`
abbrev pub slash : ℕ
slash = 47

-- the text has from 1 to so many bytes
unfoldable pub sized : ℕ → List ℕ → Bool
sized most s = leb 1 (length s) && leb (length s) most

-- a bucket: 1 to 63 bytes, no slash
unfoldable pub is_bucket : List ℕ → Bool
is_bucket s = sized 63 s && not (member slash s)

-- an object: 1 to 1,024 bytes
unfoldable pub is_object : List ℕ → Bool
is_object s = sized 1024 s

-- document 01's identifier
pub record Identity : Type 0 where
  pub ulid : List ℕ
  pub bucket : List ℕ
  pub object : List ℕ

abbrev pub identity : List ℕ → List ℕ → List ℕ → Identity
identity u b o = record { ulid = u; bucket = b; object = o }

-- the three texts keep the rules
unfoldable pub is_valid : Identity → Bool
is_valid i = is_ulid i.ulid && is_bucket i.bucket && is_object i.object

-- the identifier that three texts make; none where one of them breaks the rules
unfoldable pub identity_of : List ℕ → List ℕ → List ℕ → Option Identity
identity_of u b o = cond (is_valid (identity u b o)) (Some (identity u b o)) None

-- two are equal when all three texts are
unfoldable pub same_identity : Identity → Identity → Bool
same_identity i j = same_bytes i.ulid j.ulid && same_bytes i.bucket j.bucket && same_bytes i.object j.object

-- ---- what the rules give

pub record Sizes (i : Identity) : Type 0 where
  pub ulid : length i.ulid ≡ 26
  pub bucketleast : 1 ≤ length i.bucket
  pub bucketmost : length i.bucket ≤ 63
  pub objectleast : 1 ≤ length i.object
  pub objectmost : length i.object ≤ 1024

sized_bounds : (most : ℕ) (s : List ℕ) → sized most s ≡ true → (1 ≤ length s) × (length s ≤ most)
unfolding sized
sized_bounds most s e =
    let h = both (leb 1 (length s)) (leb (length s) most) e in
    (leb-true 1 (length s) h.0, leb-true (length s) most h.1)

pub sizes : (i : Identity) → is_valid i ≡ true → Sizes i
unfolding is_valid is_bucket is_object
sizes i e =
    let p = both (is_ulid i.ulid && is_bucket i.bucket) (is_object i.object) e in
    let q = both (is_ulid i.ulid) (is_bucket i.bucket) p.0 in
    let b = sized_bounds 63 i.bucket (both (sized 63 i.bucket) (not (member slash i.bucket)) q.1).0 in
    let o = sized_bounds 1024 i.object p.1 in
    record { ulid = ulid_length i.ulid q.0; bucketleast = b.0; bucketmost = b.1; objectleast = o.0; objectmost = o.1 }

pub no_slash : (i : Identity) → is_valid i ≡ true → member slash i.bucket ≡ false
unfolding is_valid is_bucket
no_slash i e =
    let p = both (is_ulid i.ulid && is_bucket i.bucket) (is_object i.object) e in
    let q = both (is_ulid i.ulid) (is_bucket i.bucket) p.0 in
    not-true (member slash i.bucket) (both (sized 63 i.bucket) (not (member slash i.bucket)) q.1).1

-- ---- identifiers that compare equal are equal

pub same_identity_refl : (i : Identity) → same_identity i i ≡ true
unfolding same_identity
same_identity_refl i = rw (same_bytes_refl i.ulid, same_bytes_refl i.bucket, same_bytes_refl i.object)

pub same_identity_true : (i j : Identity) → same_identity i j ≡ true → i ≡ j
unfolding same_identity
same_identity_true i j e =
    let p = both (same_bytes i.ulid j.ulid && same_bytes i.bucket j.bucket) (same_bytes i.object j.object) e in
    let q = both (same_bytes i.ulid j.ulid) (same_bytes i.bucket j.bucket) p.0 in
    let u = same_bytes_equal i.ulid j.ulid q.0 in
    let b = same_bytes_equal i.bucket j.bucket q.1 in
    let o = same_bytes_equal i.object j.object p.1 in
    rw (u, b, o)
