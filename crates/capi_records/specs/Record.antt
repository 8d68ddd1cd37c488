-- One record at a place of a pack: the answer, sixteen words, and the composite text of its identifier.
use Rattle.std.specs.Prelude.{ℕ, ◌+◌, ◌≤◌, cond, ◌&&◌, List, [], ◌∷◌, ◌++◌, ◌≡◌, leb, length, get_or, take, drop}
use Rattle.slices.specs.Overwriting.{overwritten}
use Rattle.slices.specs.Places.{part_at}
use Rattle.slices.specs.declared.Place.{Place}
use Rattle.refusals.specs.Limit.{pack_limit}
use Rattle.identifier.specs.Composite.{composite_text}
use Rattle.value.specs.declared.Told.{Told}
use Rattle.records.specs.Record.{block_tag, version_tag, version_delete_tag, pack_list_tag, Kind, block, version, version_delete, pack_list, Record, AtPlace, there, refused_at, alone, record_at, told_from, there_from}
use Rattle.records.specs.Answers.{record_in, PlacesInside, IsValue}
use Rattle.records.specs.declared.Kind as declared-kind
use Rattle.records.specs.declared.Kind.TheVariants as kind-answer
use Rattle.records.specs.declared.Record as declared-record
use Rattle.words.specs.Words.{answer, flag}
use Rattle.capi_records.specs.Values.{told_words}
use Rattle.capi_records.specs.declared.record.KindWords.{KindWords}

-- ---- the outcome: with so many words and bytes lent, 19 after all other refusals

abbrev pub if_room : (words bytes : ℕ) → AtPlace → AtPlace
if_room words bytes (there value r) = cond (leb 16 words && leb (length (composite_text r.contents.identifier)) bytes) (there value r) (alone 19)
if_room words bytes (refused_at number place) = refused_at number place
if_room words bytes (alone number) = alone number

unfoldable pub outcome : List ℕ → (at words bytes : ℕ) → AtPlace
outcome pack at words bytes = if_room words bytes (record_at pack_limit pack at)

abbrev pub record_answer : AtPlace → ℕ
record_answer (there value r) = answer 0 0
record_answer (refused_at number place) = answer number place
record_answer (alone number) = answer number 0

-- ---- the words

-- tag, delete flag, and start and length of a delete identifier, which stands at the place
abbrev pub kind_words : ℕ → Kind → KindWords
kind_words place block = record { tag = block_tag; deleted = 0; start = 0; len = 0 }
kind_words place (version deleted) = record { tag = version_tag; deleted = flag deleted; start = 0; len = 0 }
kind_words place (version_delete id) = record { tag = version_delete_tag; deleted = 0; start = place; len = length id }
kind_words place (pack_list entries) = record { tag = pack_list_tag; deleted = 0; start = 0; len = 0 }

-- tag; the value; its parts as `vof_value` tells them, without `v`; delete flag; length of the composite text; delete identifier
unfoldable pub record_words : (start len : ℕ) → Told → KindWords → (text : ℕ) → List ℕ
record_words start len t k text =
    k.tag ∷ start ∷ len ∷ take 9 (told_words (told_from start t)) ++ (k.deleted ∷ text ∷ k.start ∷ k.len ∷ [])

-- ---- lent memory at exit, after a record at a place `at`; a refusal leaves it as it was

abbrev pub words_after : (at place : ℕ) → List ℕ → AtPlace → List ℕ
words_after at place words (there value r) =
    overwritten words 0
    (record_words (at + 32) (length value) r.told (kind_words place r.contents.kind) (length (composite_text r.contents.identifier)))
words_after at place words (refused_at number p) = words
words_after at place words (alone number) = words

abbrev pub text_after : List ℕ → AtPlace → List ℕ
text_after bytes (there value r) = overwritten bytes 0 (composite_text r.contents.identifier)
text_after bytes (refused_at number place) = bytes
text_after bytes (alone number) = bytes

-- ---- where a delete identifier is told. Document 01 speaks of its content: of equal texts in the primary part, any may be told

-- a text stands at a place, between two others
pub record TextAt (pack t : List ℕ) (from place end : ℕ) : Type 0 where
  pub after : from ≤ place
  pub inside : place + length t ≤ end
  pub is : take (length t) (drop place pack) ≡ t

pub record DeleteIdAt (pack : List ℕ) (at place : ℕ) (told : AtPlace) : Type 0 where
  pub text : (value : List ℕ) (r : Record) (id : List ℕ) → told ≡ there value r → r.contents.kind ≡ version_delete id
      → TextAt pack id (at + 32 + r.told.primary.start) place (at + 32 + r.told.primary.start + r.told.primary.len)

-- ---- of a call with lent words and bytes: its answer, and what they then hold. Word 14 is where a delete identifier is told

pub record RecordHolds (pack : List ℕ) (at : ℕ) (words bytes : List ℕ) (r : ℕ) (told id : List ℕ) : Type 0 where
  pub answers : r ≡ record_answer (outcome pack at (length words) (length bytes))
  pub words_told : told ≡ words_after at (get_or told 14 0) words (outcome pack at (length words) (length bytes))
  pub text_told : id ≡ text_after bytes (outcome pack at (length words) (length bytes))
  pub delete_id_lem : DeleteIdAt pack at (get_or told 14 0) (outcome pack at (length words) (length bytes))

-- ---- for the private functions

-- the words of a kind, as it is told
abbrev pub kind_told : declared-kind.Kind → KindWords
kind_told kind-answer.Block = record { tag = block_tag; deleted = 0; start = 0; len = 0 }
kind_told (kind-answer.Version deleted) = record { tag = version_tag; deleted = flag deleted; start = 0; len = 0 }
kind_told (kind-answer.VersionDelete id) = record { tag = version_delete_tag; deleted = 0; start = id.start; len = id.len }
kind_told kind-answer.PackList = record { tag = pack_list_tag; deleted = 0; start = 0; len = 0 }

-- a record that was read at a place, with its value at another
pub record IsRecord (pack : List ℕ) (at : ℕ) (v : Place) (r : declared-record.Record) : Type 0 where
  pub is : there (part_at pack v) (record_in pack r) ≡ there_from (at + 32) (record_at pack_limit pack at)
  pub value : IsValue pack at v
  pub places : PlacesInside pack r
