-- The primary parts of blocks, versions and version deletes (document 01, "The value", and its refusals 16 to 18; request 4's 22; docs/FORMAT.md,
-- Tables 4 to 7).
use Rattle.std.specs.Prelude.{ℕ, Bool, false, cond, ◌||◌, List, [], ◌∷◌, eqb, length}
use Rattle.std.specs.Prelude.{Option, None, Some}
use Rattle.refusals.specs.Answers.{Answer, refused, granted, or_refused, if_once}
use Rattle.msgpack.specs.Items.{Passage, whole, cut, too_deep, pass_item, depth_allowed}
use Rattle.msgpack.specs.Lookup.{Under, found, missing, broken, at_place, if_there}
use Rattle.msgpack.specs.Views.{View, repeats, byte_view}
use Rattle.identifier.specs.Ulid.{is_ulid}
use Rattle.identifier.specs.Identity.{Identity, identity, identity_of}
use Rattle.identifier.specs.Composite.{identity_in}

-- ---- 16: one whole item fills the part, its depth counted from its own outermost container

abbrev pub is_of_length : ℕ → Passage → Bool
is_of_length n (whole m) = eqb m n
is_of_length n cut = false
is_of_length n too_deep = false

unfoldable pub fills : List ℕ → Bool
fills s = is_of_length (length s) (pass_item depth_allowed s)

abbrev pub if_fills : {A : Type 0} → List ℕ → Answer A → Answer A
if_fills s next = cond (fills s) next (refused 16)

-- ---- the keys

abbrev pub bucket_key : List ℕ
bucket_key = 98 ∷ []  -- b

abbrev pub object_key : List ℕ
object_key = 111 ∷ []  -- o

abbrev pub ulid_key : List ℕ
ulid_key = 118 ∷ []  -- v

abbrev pub identifier_key : List ℕ
identifier_key = 73 ∷ []  -- I

abbrev pub deleted_key : List ℕ
deleted_key = 100 ∷ []  -- d

-- provisional in document 001, which prints it so
abbrev pub delete_id_key : List ℕ
delete_id_key = 63 ∷ 63 ∷ 63 ∷ []  -- ???

-- those that are read in each map
abbrev pub identity_keys : List (List ℕ)
identity_keys = ulid_key ∷ bucket_key ∷ object_key ∷ []

abbrev pub block_keys : List (List ℕ)
block_keys = identifier_key ∷ []

abbrev pub version_keys : List (List ℕ)
version_keys = deleted_key ∷ identity_keys

abbrev pub version_delete_keys : List (List ℕ)
version_delete_keys = delete_id_key ∷ identity_keys

-- ---- 17: what stands under a key

abbrev pub texts_by : Option (List ℕ) → Option (List ℕ) → Option (List ℕ) → Option Identity
texts_by ulid bucket object =
    if_there ulid λ u.
    if_there bucket λ b.
    if_there object λ o.
    Some (identity u b o)

module _ {I : Type 0} (view : View I) where
  unfoldable pub text_under : List ℕ → I → Option (List ℕ)
  text_under key m = at_place None view.text (view.under key m)

  -- the texts `v`, `b`, `o`
  unfoldable pub texts_under : I → Option Identity
  texts_under m = texts_by (text_under ulid_key m) (text_under bucket_key m) (text_under object_key m)

  -- the delete flag; absent means false
  unfoldable pub deleted_under : I → Option Bool
  deleted_under m = at_place (Some false) view.boolean (view.under deleted_key m)

-- ---- 18: the rules for texts

-- the identifier of three texts
abbrev pub valid : Identity → Option Identity
valid i = identity_of i.ulid i.bucket i.object

unfoldable pub ulid_of : List ℕ → Option (List ℕ)
ulid_of t = cond (is_ulid t) (Some t) None

-- ---- a block: the identifier under `I`, in one of two shapes

-- an identifier as it stands, its texts tested by no rule
pub data Shape : Type 0 where
  composite : List ℕ → Shape  -- one text
  separate : Identity → Shape  -- a map's three texts

abbrev pub shape_of : Option (List ℕ) → Option Identity → Option Shape
shape_of (Some t) three = Some (composite t)
shape_of None (Some i) = Some (separate i)
shape_of None None = None

module _ {I : Type 0} (view : View I) where
  unfoldable pub shape_at : I → Option Shape
  shape_at i = shape_of (view.text i) (texts_under view i)

  unfoldable pub shape_under : I → Option Shape
  shape_under m = at_place None shape_at (view.under identifier_key m)

abbrev pub identity_by : Shape → Option Identity
identity_by (composite t) = identity_in t
identity_by (separate i) = valid i

-- ---- the primary parts: all tests of types come first, then 22, and then the rules for texts

abbrev pub block_by : Option Shape → Bool → Answer Identity
block_by shape repeated =
    or_refused 17 shape λ i.
    if_once repeated
    (or_refused 18 (identity_by i) granted)

pub record Version : Type 0 where
  pub identifier : Identity
  pub deleted : Bool

abbrev pub version_by : Option Identity → Option Bool → Bool → Answer Version
version_by texts flag repeated =
    or_refused 17 texts λ i.
    or_refused 17 flag λ deleted.
    if_once repeated
    (or_refused 18 (valid i) λ identifier.
    granted (record { identifier = identifier; deleted = deleted }))

-- `identifier` is that of the version that is deleted
pub record VersionDelete : Type 0 where
  pub identifier : Identity
  pub delete_id : List ℕ

abbrev pub version_delete_by : Option Identity → Option (List ℕ) → Bool → Answer VersionDelete
version_delete_by texts delete_text repeated =
    or_refused 17 texts λ i.
    or_refused 17 delete_text λ t.
    if_once repeated
    (or_refused 18 (valid i) λ identifier.
    or_refused 18 (ulid_of t) λ delete_id.
    granted (record { identifier = identifier; delete_id = delete_id }))

-- what is seen of the part m
module _ {I : Type 0} (view : View I) where
  -- whether a key that is read repeats in the map under `I`
  abbrev pub identifier_repeats : Under I → Bool
  identifier_repeats (found i) = repeats view identity_keys i
  identifier_repeats missing = false
  identifier_repeats broken = false

  -- in that map, or in the part's own
  unfoldable pub block_repeats : I → Bool
  block_repeats m = repeats view block_keys m || identifier_repeats (view.under identifier_key m)

  abbrev pub block_seen : I → Answer Identity
  block_seen m = block_by (shape_under view m) (block_repeats m)

  abbrev pub version_seen : I → Answer Version
  version_seen m = version_by (texts_under view m) (deleted_under view m) (repeats view version_keys m)

  abbrev pub version_delete_seen : I → Answer VersionDelete
  version_delete_seen m = version_delete_by (texts_under view m) (text_under view delete_id_key m) (repeats view version_delete_keys m)

unfoldable pub block : List ℕ → Answer Identity
block s = if_fills s (block_seen byte_view s)

unfoldable pub version : List ℕ → Answer Version
version s = if_fills s (version_seen byte_view s)

unfoldable pub version_delete : List ℕ → Answer VersionDelete
version_delete s = if_fills s (version_delete_seen byte_view s)
