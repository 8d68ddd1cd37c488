-- The keys that document 001 gives for the maps of a record (docs/FORMAT.md, Tables 3, 4, 6, 7 and 8), and those of the headers that our writer writes.
use Rattle.std.specs.Prelude.{ℕ, cond, List, [], ◌∷◌, ◌≡◌, refl, eqb}
use Rattle.value.specs.Header.{primary_key, secondary_key, header_keys}
use Rattle.primary.specs.Parts.{identifier_key, bucket_key, object_key, ulid_key, delete_id_key}
use Rattle.records.specs.Record.{block_tag, version_tag, version_delete_tag, pack_list_tag}
use Rattle.identifier.specs.Ulid.{codes}

-- a letter as a key
abbrev pub letter : ℕ → List ℕ
letter b = b ∷ []

abbrev pub given_in_block : List (List ℕ)
given_in_block = identifier_key ∷ []  -- I

abbrev pub given_in_version : List (List ℕ)
given_in_version =
    bucket_key ∷ object_key ∷ ulid_key  -- b o v
    ∷ letter 0x77 ∷ letter 0x41 ∷ letter 0x6c ∷ letter 0x65 ∷ letter 0x64 ∷ letter 0x4e  -- w A l e d N
    ∷ letter 0x43 ∷ letter 0x70 ∷ letter 0x73 ∷ letter 0x6d ∷ letter 0x68 ∷ letter 0x44 ∷ []  -- C p s m h D

abbrev pub given_in_delete : List (List ℕ)
given_in_delete = bucket_key ∷ object_key ∷ ulid_key ∷ delete_id_key ∷ []  -- b o v ???

abbrev pub given_in_pack_list : List (List ℕ)
given_in_pack_list = identifier_key ∷ letter 0x55 ∷ letter 0x50 ∷ []  -- I U P

-- of the primary part's own map, by the record's tag, which is a known one
unfoldable pub part_keys : ℕ → List (List ℕ)
part_keys tag =
    cond (eqb tag block_tag) given_in_block
    (cond (eqb tag version_tag) given_in_version
    (cond (eqb tag version_delete_tag) given_in_delete
    given_in_pack_list))

-- the keys of the header that our writer writes for a tag, in its order
unfoldable pub written_keys : ℕ → List (List ℕ)
written_keys tag = cond (eqb tag block_tag) (secondary_key ∷ primary_key ∷ []) (primary_key ∷ [])

-- ---- the letters, as request 9's table prints them

-- each character of a text, as a key
unfoldable each : List ℕ → List (List ℕ)
each [] = []
each (b ∷ t) = letter b ∷ each t

header_printed : header_keys ≡ each (codes "esczv")
unfolding each codes
header_printed = refl

block_printed : part_keys block_tag ≡ each (codes "I")
unfolding part_keys each codes
block_printed = refl

version_printed : part_keys version_tag ≡ each (codes "bovwAledNCpsmhD")
unfolding part_keys each codes
version_printed = refl

pack_list_printed : part_keys pack_list_tag ≡ each (codes "IUP")
unfolding part_keys each codes
pack_list_printed = refl

delete_printed : part_keys version_delete_tag ≡ letter 0x62 ∷ letter 0x6f ∷ letter 0x76 ∷ codes "???" ∷ []
unfolding part_keys codes
delete_printed = refl

block_order : written_keys block_tag ≡ each (codes "se")
unfolding written_keys each codes
block_order = refl

version_order : written_keys version_tag ≡ each (codes "e")
unfolding written_keys each codes
version_order = refl
