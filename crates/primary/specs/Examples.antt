-- The rules for keys, for depth and for the order of refusals, on parts written out; antt computes every answer.
use Rattle.std.specs.Prelude.{ℕ, zero, suc, ◌+◌, Bool, true, false, List, [], ◌∷◌, ◌++◌, ◌≡◌, refl, length}
use Rattle.slices.specs.Bytes.{same_bytes}
use Rattle.refusals.specs.Answers.{Answer, refused, granted}
use Rattle.endian.specs.Numbers.{little, big}
use Rattle.endian.specs.Places.{holds, number_at}
use Rattle.msgpack.specs.Formats.{formats, format_of}
use Rattle.msgpack.specs.Items.{head_of, pass_items, pass_head, pass_item}
use Rattle.msgpack.specs.Readers.{is_whole, content_at, read_boolean}
use Rattle.msgpack.specs.Lookup.{key_at, last_where, last_value}
use Rattle.msgpack.specs.Pairs.{times_where, times_of}
use Rattle.msgpack.specs.Views.{repeats, text_at}
use Rattle.identifier.specs.Texts.{member, all, before}
use Rattle.identifier.specs.Ulid.{alphabet, is_character, is_ulid}
use Rattle.identifier.specs.Identity.{sized, is_bucket, is_object, Identity, identity, is_valid, identity_of}
use Rattle.identifier.specs.Composite.{composite_text, bucket_in, object_in, is_composite, identity_in}
use Rattle.primary.specs.Parts.{fills, text_under, texts_under, deleted_under, ulid_of, shape_at, shape_under, block_repeats, block, Version, version, VersionDelete, version_delete}

-- ---- items in their shortest form

abbrev repeated : ℕ → ℕ → List ℕ
repeated zero x = []
repeated (suc n) x = x ∷ repeated n x

-- of fewer than 32 bytes
abbrev text : List ℕ → List ℕ
text t = (0xa0 + length t) ∷ t

abbrev nil : List ℕ
nil = 0xc0 ∷ []

-- so many arrays, one in another
abbrev nested : ℕ → List ℕ
nested n = repeated n 0x91 ++ nil

abbrev joined : List (List ℕ) → List ℕ
joined [] = []
joined (p ∷ l) = p ++ joined l

-- of fewer than 16 pairs
abbrev map_of : List (List ℕ) → List ℕ
map_of pairs = (0x80 + length pairs) ∷ joined pairs

-- ---- an identifier, its texts, and pairs

abbrev low : List ℕ
low = repeated 26 0x30  -- 0

abbrev high : List ℕ
high = 0x37 ∷ repeated 25 0x5a  -- 7Z..Z

abbrev small : List ℕ
small = repeated 26 0x7a  -- z, no character of a ULID

abbrev herd : List ℕ
herd = 0x68 ∷ []  -- h

abbrev flock : List ℕ
flock = 0x66 ∷ []  -- f

abbrev scan : List ℕ
scan = 0x73 ∷ []  -- s

abbrev b : List ℕ → List ℕ
b value = text (0x62 ∷ []) ++ value

abbrev o : List ℕ
o = text (0x6f ∷ []) ++ text scan

abbrev v : List ℕ → List ℕ
v t = text (0x76 ∷ []) ++ text t

abbrev d : List ℕ → List ℕ
d value = text (0x64 ∷ []) ++ value

abbrev I : List ℕ → List ℕ
I value = text (0x49 ∷ []) ++ value

abbrev delete_id : List ℕ → List ℕ
delete_id value = text (0x3f ∷ 0x3f ∷ 0x3f ∷ []) ++ value

-- ---- the tables

pub record Row (A : Type 0) : Type 0 where
  pub part : List ℕ
  pub answer : Answer A

abbrev gives : {A : Type 0} → Answer A → List ℕ → Row A
gives answer part = record { part = part; answer = answer }

-- what the reader answers, row by row
abbrev pub answers : {A : Type 0} → (List ℕ → Answer A) → List (Row A) → List (Answer A)
answers reader [] = []
answers reader (row ∷ rows) = reader row.part ∷ answers reader rows

abbrev pub told : {A : Type 0} → List (Row A) → List (Answer A)
told [] = []
told (row ∷ rows) = row.answer ∷ told rows

abbrev of_bucket : List ℕ → Bool → Answer Version
of_bucket bucket deleted = granted (record { identifier = identity low bucket scan; deleted = deleted })

unfoldable pub versions : List (Row Version)
versions =
    gives (of_bucket herd false) (map_of (b (text herd) ∷ o ∷ v low ∷ []))
    ∷ gives (of_bucket herd true) (map_of (d (0xc3 ∷ []) ∷ v low ∷ o ∷ b (text herd) ∷ []))
    -- a key twice: with equal values, with others, the first of a wrong type; 17 comes first, where the last is
    ∷ gives (refused 22) (map_of (b (text herd) ∷ o ∷ v low ∷ b (text herd) ∷ []))
    ∷ gives (refused 22) (map_of (b (text herd) ∷ o ∷ v low ∷ b (text flock) ∷ []))
    ∷ gives (refused 22) (map_of (b nil ∷ o ∷ v low ∷ b (text flock) ∷ []))
    ∷ gives (refused 17) (map_of (b (text herd) ∷ o ∷ v low ∷ b nil ∷ []))
    -- and before a rule that is broken
    ∷ gives (refused 22) (map_of (b (text herd) ∷ o ∷ o ∷ v small ∷ []))
    -- a key in a wider form, alone and as the second
    ∷ gives (of_bucket flock false) (map_of (o ∷ v low ∷ ((0xd9 ∷ 1 ∷ 0x62 ∷ []) ++ text flock) ∷ []))
    ∷ gives (refused 22) (map_of (b (text herd) ∷ o ∷ v low ∷ ((0xd9 ∷ 1 ∷ 0x62 ∷ []) ++ text flock) ∷ []))
    -- unknown keys, which may repeat
    ∷ gives (of_bucket herd false) (map_of (delete_id nil ∷ I nil ∷ (nil ++ nil) ∷ I nil ∷ (nil ++ nil) ∷ b (text herd) ∷ o ∷ v low ∷ []))
    -- depth 16 and 17
    ∷ gives (of_bucket herd false) (map_of ((nil ++ nested 15) ∷ b (text herd) ∷ o ∷ v low ∷ []))
    ∷ gives (refused 16) (map_of ((nil ++ nested 16) ∷ b (text herd) ∷ o ∷ v low ∷ []))
    -- bytes left over, and byte C1
    ∷ gives (refused 16) (map_of (b (text herd) ∷ o ∷ v low ∷ []) ++ nil)
    ∷ gives (refused 16) (map_of (b (0xc1 ∷ []) ∷ o ∷ v low ∷ []))
    -- no map, no `v`, a wrong type, before a rule that is broken
    ∷ gives (refused 17) nil
    ∷ gives (refused 17) (map_of (b (text herd) ∷ o ∷ []))
    ∷ gives (refused 18) (map_of (b (text herd) ∷ o ∷ v small ∷ []))
    ∷ gives (refused 17) (map_of (d nil ∷ b (text herd) ∷ o ∷ v small ∷ []))
    ∷ []

pub versions_read : answers version versions ≡ told versions
unfolding versions version fills text_at text_under texts_under deleted_under pass_item pass_head pass_items head_of is_whole
    content_at read_boolean key_at same_bytes last_where last_value repeats times_of times_where format_of formats number_at holds little big is_ulid
    is_character alphabet is_bucket is_object is_valid identity_of sized member all
versions_read = refl

unfoldable pub deletes : List (Row VersionDelete)
deletes =
    gives (granted (record { identifier = identity low herd scan; delete_id = high })) (map_of (b (text herd) ∷ o ∷ v low ∷ delete_id (text high) ∷ d nil ∷ []))
    ∷ gives (refused 17) (map_of (b (text herd) ∷ o ∷ v low ∷ []))
    ∷ gives (refused 17) (map_of (b (text herd) ∷ o ∷ v small ∷ delete_id nil ∷ []))
    ∷ gives (refused 18) (map_of (b (text herd) ∷ o ∷ v low ∷ delete_id (text small) ∷ []))
    ∷ gives (refused 22) (map_of (b (text herd) ∷ o ∷ v low ∷ delete_id nil ∷ delete_id (text small) ∷ []))
    ∷ []

pub deletes_read : answers version_delete deletes ≡ told deletes
unfolding deletes version_delete fills text_at text_under texts_under ulid_of pass_item pass_head pass_items head_of is_whole
    content_at key_at same_bytes last_where last_value repeats times_of times_where format_of formats number_at holds little big is_ulid is_character
    alphabet is_bucket is_object is_valid identity_of sized member all
deletes_read = refl

unfoldable pub blocks : List (Row Identity)
blocks =
    -- either shape
    gives (granted (identity low herd scan)) (map_of (I (text (composite_text (identity low herd scan))) ∷ []))
    ∷ gives (granted (identity low herd scan)) (map_of (I (map_of (v low ∷ b (text herd) ∷ o ∷ [])) ∷ []))
    -- a key twice, in the part and in the map under `I`; only the last `I` is looked into
    ∷ gives (refused 22) (map_of (I nil ∷ I (text (composite_text (identity low herd scan))) ∷ []))
    ∷ gives (refused 22) (map_of (I (map_of (v low ∷ b (text herd) ∷ b (text flock) ∷ o ∷ [])) ∷ []))
    ∷ gives (refused 17) (map_of (I (map_of (v low ∷ b (text herd) ∷ b (text flock) ∷ o ∷ [])) ∷ I nil ∷ []))
    ∷ gives (refused 17) (map_of (b (text herd) ∷ o ∷ v low ∷ []))
    ∷ gives (refused 17) (map_of (I nil ∷ []))
    ∷ gives (refused 17) (map_of (I (map_of (v small ∷ b nil ∷ o ∷ [])) ∷ []))
    ∷ gives (refused 18) (map_of (I (text (composite_text (identity small herd scan))) ∷ []))
    ∷ gives (refused 18) (map_of (I (map_of (v small ∷ b (text herd) ∷ o ∷ [])) ∷ []))
    ∷ []

pub blocks_read : answers block blocks ≡ told blocks
unfolding blocks block shape_at shape_under composite_text is_composite identity_in bucket_in object_in before fills text_at
    text_under texts_under pass_item pass_head pass_items head_of is_whole content_at key_at same_bytes last_where last_value
    repeats times_of times_where block_repeats format_of formats number_at holds little big is_ulid is_character alphabet is_bucket is_object is_valid identity_of sized
    member all
blocks_read = refl
