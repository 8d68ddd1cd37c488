-- What the answers of the code say: the contents of a part at the places told.
use Rattle.std.specs.Prelude.{ℕ, ◌+◌, Bool, cond, List, [], ◌∷◌, ◌≡◌, get_or}
use Rattle.std.specs.Prelude.{Option, None, Some, Result, Ok, Err}
use Rattle.slices.specs.Places.{part_at, Inside}
use Rattle.slices.specs.declared.Place.{Place}
use Rattle.refusals.specs.Answers.{Answer, refused, granted}
use Rattle.msgpack.specs.Readers.{Part}
use Rattle.msgpack.specs.Lookup.{last_value}
use Rattle.msgpack.specs.Pairs.{place_told, PairsRead}
use Rattle.msgpack.specs.declared.Pairs.{Pairs}
use Rattle.identifier.specs.Identity.{Identity, identity}
use Rattle.primary.specs.Parts.{ulid_key, bucket_key, object_key, Version, VersionDelete}
use Rattle.primary.specs.declared.Texts.{Texts}
use Rattle.primary.specs.declared.Fault.{Fault}
use Rattle.primary.specs.declared.Fault.TheVariants.{NotWhole, NotAsDescribed, Repeated, RuleBroken}

-- the number of document 01's refusal
abbrev pub number_of : Fault → ℕ
number_of NotWhole = 16
number_of NotAsDescribed = 17
number_of Repeated = 22
number_of RuleBroken = 18

-- of a part that is one whole map the places told of its keys
abbrev pub places_by : (whole map : Bool) → List ℕ → Result (List ℕ) Fault
places_by whole map places = cond whole (cond map (Ok places) (Err NotAsDescribed)) (Err NotWhole)

-- ---- contents at places

abbrev pub texts_in : List ℕ → Texts → Identity
texts_in s t = identity (part_at s t.ulid) (part_at s t.bucket) (part_at s t.object)

abbrev pub text_of : List ℕ → Option Place → Option (List ℕ)
text_of s (Some t) = Some (part_at s t)
text_of s None = None

-- where a text has its content, whose item stands at a place
abbrev pub placed_at : ℕ → Option Part → Option Place
placed_at at (Some p) = Some (record { start = at + p.start; len = p.size })
placed_at at None = None

abbrev pub texts_of : List ℕ → Option Texts → Option Identity
texts_of s (Some t) = Some (texts_in s t)
texts_of s None = None

abbrev pub block_of : List ℕ → Result Texts Fault → Answer Identity
block_of s (Ok t) = granted (texts_in s t)
block_of s (Err f) = refused (number_of f)

abbrev pub version_of : List ℕ → Result (Texts × Bool) Fault → Answer Version
version_of s (Ok (t, deleted)) = granted (record { identifier = texts_in s t; deleted = deleted })
version_of s (Err f) = refused (number_of f)

abbrev pub version_delete_of : List ℕ → Result (Texts × Place) Fault → Answer VersionDelete
version_delete_of s (Ok (t, d)) = granted (record { identifier = texts_in s t; delete_id = part_at s d })
version_delete_of s (Err f) = refused (number_of f)

-- ---- the places told lie inside the part

pub record AllInside (s : List ℕ) (t : Texts) : Type 0 where
  pub ulid : Inside s t.ulid
  pub bucket : Inside s t.bucket
  pub object : Inside s t.object

pub record TextInside (s : List ℕ) (r : Option Place) : Type 0 where
  pub text : (t : Place) → r ≡ Some t → Inside s t

pub record TextsInside (s : List ℕ) (r : Option Texts) : Type 0 where
  pub texts : (t : Texts) → r ≡ Some t → AllInside s t

pub record BlockInside (s : List ℕ) (r : Result Texts Fault) : Type 0 where
  pub identifier : (t : Texts) → r ≡ Ok t → AllInside s t

pub record VersionInside (s : List ℕ) (r : Result (Texts × Bool) Fault) : Type 0 where
  pub identifier : (t : Texts) (deleted : Bool) → r ≡ Ok (t, deleted) → AllInside s t

pub record DeleteInside (s : List ℕ) (r : Result (Texts × Place) Fault) : Type 0 where
  pub identifier : (t : Texts) (d : Place) → r ≡ Ok (t, d) → AllInside s t
  pub delete_id : (t : Texts) (d : Place) → r ≡ Ok (t, d) → Inside s d

-- ---- what the code knows on the way

-- the places of the values of an identifier's keys in the map m
pub record IdentifierAt (m places : List ℕ) : Type 0 where
  pub ulid : last_value ulid_key m ≡ place_told (get_or places 0 0)
  pub bucket : last_value bucket_key m ≡ place_told (get_or places 1 0)
  pub object : last_value object_key m ≡ place_told (get_or places 2 0)

-- ---- the keys asked for in a block's part, by their codes

-- `I`, and one beside it
abbrev pub beside_block : ℕ → List ℕ
beside_block code = 0x149 ∷ code ∷ 0 ∷ 0 ∷ 0 ∷ 0 ∷ 0 ∷ 0 ∷ []

-- what one pass over the part told, `I` being asked for first
pub record BlockPairs (s : List ℕ) (r : Pairs) : Type 0 where
  pub others : List ℕ
  pub read : PairsRead s (0x149 ∷ others) r
