-- The header of a value, as document 01's "The value" describes it: what it tells of the two parts, or nothing where it is not as described.
use Rattle.std.specs.Prelude.{ℕ, Bool, true, false, cond, ◌||◌, List, [], ◌∷◌, ◌≡◌, leb, length}
use Rattle.std.specs.Prelude.{Option, None, Some}
use Rattle.refusals.specs.Answers.{Answer, granted, or_refused, if_once}
use Rattle.msgpack.specs.Readers as msgpack
use Rattle.msgpack.specs.Lookup.{Under, found, missing, broken, last_value, at_place, if_there, over}
use Rattle.msgpack.specs.Pairs.{place_told}
use Rattle.msgpack.specs.Views.{View, repeats, byte_view}
use Rattle.value.specs.Fields.{natural_under, bytes_under, is_there}
use Rattle.value.specs.declared.Part.{Part}
use Rattle.value.specs.declared.Told.{Told}
use Rattle.value.specs.declared.HeaderPlaces.{HeaderPlaces}

-- ---- the keys: each is a text of one byte

abbrev pub primary_key : List ℕ
primary_key = 0x65 ∷ []  -- `e`

abbrev pub secondary_key : List ℕ
secondary_key = 0x73 ∷ []  -- `s`

abbrev pub length_key : List ℕ
length_key = 0x6c ∷ []  -- `l`

abbrev pub compression_key : List ℕ
compression_key = 0x63 ∷ []  -- `c`

abbrev pub encryption_key : List ℕ
encryption_key = 0x7a ∷ []  -- `z`

abbrev pub version_key : List ℕ
version_key = 0x76 ∷ []  -- `v`

-- those that are read in the header's map, and in the map in `s`
abbrev pub header_keys : List (List ℕ)
header_keys = primary_key ∷ secondary_key ∷ compression_key ∷ encryption_key ∷ version_key ∷ []

abbrev pub secondary_keys : List (List ℕ)
secondary_keys = length_key ∷ compression_key ∷ encryption_key ∷ []

-- ---- what a header tells beside the bytes under `e`

-- `c` of a part, and whether `z` is there for it
pub record Coding : Type 0 where
  pub compression : ℕ
  pub encrypted : Bool

abbrev pub coding : ℕ → Bool → Coding
coding compression encrypted = record { compression = compression; encrypted = encrypted }

-- without a secondary part, `length` is 0 and `secondary` the primary's
pub record Telling : Type 0 where
  pub version : ℕ
  pub primary : Coding
  pub present : Bool
  pub length : ℕ
  pub secondary : Coding

abbrev pub telling_alone : (version compression : ℕ) → Bool → Telling
telling_alone version compression encrypted =
    record { version = version; primary = coding compression encrypted; present = false; length = 0; secondary = coding compression encrypted }

-- `z` of the secondary part's own map stands for that part, and otherwise the primary's does
abbrev pub telling_with : Telling → (length compression : ℕ) → Bool → Telling
telling_with t length compression encrypted =
    record { version = t.version; primary = t.primary; present = true; length = length; secondary = coding compression (encrypted || t.primary.encrypted) }

-- where the test holds, so much; otherwise nothing
abbrev pub only_if : {A : Type 0} → Bool → Option A → Option A
only_if test a = cond test a None

-- ---- the rules, over what is seen of the header

module _ {I : Type 0} (view : View I) where
  -- where the header m lists no secondary part
  unfoldable pub alone : I → Option Telling
  alone m =
      if_there (natural_under view compression_key m (Some 0)) λ c.
      if_there (natural_under view version_key m (Some 0)) λ v.
      Some (telling_alone v c (is_there view encryption_key m))

  -- with the secondary part of which the map m tells, and which has at most `limit` bytes; `c` of its own stands for that part, and otherwise the
  -- primary's does
  unfoldable pub with_map : ℕ → Telling → I → Option Telling
  with_map limit t m =
      if_there (natural_under view length_key m None) λ l.
      only_if (leb l limit)
      (if_there (natural_under view compression_key m (Some t.primary.compression)) λ c.
      Some (telling_with t l c (is_there view encryption_key m)))

  -- a list of no item, or of one map
  abbrev pub with_items : ℕ → Telling → List I → Option Telling
  with_items limit t [] = Some t
  with_items limit t (m ∷ []) = with_map limit t m
  with_items limit t (m ∷ n ∷ ms) = None

  unfoldable pub with_list : ℕ → Telling → I → Option Telling
  with_list limit t l = if_there (view.items l) (with_items limit t)

  unfoldable pub telling : ℕ → I → Option Telling
  telling limit m = if_there (alone m) λ t. at_place (Some t) (with_list limit t) (view.under secondary_key m)

  -- whether a key that is read repeats in the map that the list under `s` has
  abbrev pub items_repeat : Option (List I) → Bool
  items_repeat (Some []) = false
  items_repeat (Some (m ∷ [])) = repeats view secondary_keys m
  items_repeat (Some (m ∷ n ∷ ms)) = false
  items_repeat None = false

  abbrev pub list_repeats : Under I → Bool
  list_repeats (found l) = items_repeat (view.items l)
  list_repeats missing = false
  list_repeats broken = false

  -- in that map, or in the header's own
  unfoldable pub header_repeats : I → Bool
  header_repeats m = repeats view header_keys m || list_repeats (view.under secondary_key m)

-- ---- the header: bytes under `e` must be there, and B is how they are told

pub record Header (B : Type 0) : Type 0 where
  pub primary : B
  pub told : Telling

abbrev pub header_by : {B : Type 0} → Option B → Option Telling → Option (Header B)
header_by bytes telling = if_there bytes λ b. if_there telling λ t. Some (record { primary = b; told = t })

-- 11, where the header is not as described; then 22, where a key repeats
abbrev pub tested : {A : Type 0} → Bool → Option A → Answer A
tested repeated header = or_refused 11 header λ h. if_once repeated (granted h)

-- ---- as places of the value

abbrev pub part : (start len : ℕ) → Coding → Part
part start len c = record { start = start; len = len; compression = c.compression; encrypted = c.encrypted }

-- the primary part's start and length, and the end of the header, where the secondary part starts. Where there is none document 01 leaves its start free
abbrev pub told_at : (start len end : ℕ) → Telling → Told
told_at start len end t =
    record { version = t.version; primary = part start len t.primary; present = t.present; secondary = part end t.length t.secondary }

abbrev pub told_in : List ℕ → Header msgpack.Part → Told
told_in m h = told_at h.primary.start h.primary.size (length m) h.told

-- the header m, in which a secondary part has at most `limit` bytes
unfoldable pub header : ℕ → List ℕ → Option Told
header limit m = over (told_in m) (header_by (bytes_under primary_key m) (telling byte_view limit m))

-- what is told, without the places
abbrev pub telling_of : Told → Telling
telling_of t =
    record {
      version = t.version;
      primary = coding t.primary.compression t.primary.encrypted;
      present = t.present;
      length = t.secondary.len;
      secondary = coding t.secondary.compression t.secondary.encrypted;
    }

-- ---- for the code's private functions

-- the header m where it lists no secondary part
unfoldable pub header_alone : List ℕ → Option Told
header_alone m = over (told_in m) (header_by (bytes_under primary_key m) (alone byte_view m))

-- t with what is told of a secondary part
abbrev pub told_with : Told → Option Telling → Option Told
told_with t telling = over (told_at t.primary.start t.primary.len t.secondary.start) telling

-- the places of the values of a header's keys, and whether one of them repeats
pub record HeaderAt (m : List ℕ) (p : HeaderPlaces) : Type 0 where
  pub primary : last_value primary_key m ≡ place_told p.e
  pub secondary : last_value secondary_key m ≡ place_told p.s
  pub compression : last_value compression_key m ≡ place_told p.c
  pub encryption : last_value encryption_key m ≡ place_told p.z
  pub version : last_value version_key m ≡ place_told p.v
  pub repeated : repeats byte_view header_keys m ≡ p.repeated
