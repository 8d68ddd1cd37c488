-- The places that are told lie inside, and what stands there: of a part, of the pack, and from the one to the other.
use Prim.Native.Nat.{ℕ}
use mathlib.Core.Bool.{Bool}
use mathlib.Core.List.{List}
use mathlib.Core.Path.{◌≡◌, refl, subst}
use Rattle.std.specs.Prelude.{Ok}
use Rattle.slices.specs.Logic.{absurd_numbers}
use Rattle.slices.specs.Places.{part_at, Inside, Within, shifted_within, shifted_part}
use Rattle.slices.specs.declared.Place.{Place}
use Rattle.primary.specs.Answers.{texts_in, AllInside}
use Rattle.primary.specs.declared.Texts.{Texts}
use Rattle.records.specs.Answers.{kind_in, contents_in, shift_texts, shift_kind, KindInside, ContentsInside, PartInside, ContentsWithin, PlacesInside, RecordInside, IsValue, PlaceInside}
use Rattle.records.specs.declared.Kind.{Kind}
use Rattle.records.specs.declared.Kind.TheVariants.{Block, Version, VersionDelete, PackList}
use Rattle.records.specs.declared.Record.{Record}
use Rattle.records.specs.declared.Placed.{Placed}

-- ---- a part

module _ (part : List ℕ) where
  block_kind_lem : KindInside part Block
  block_kind_lem = record { delete_id_lem = λ id e. absurd_numbers (cc) }

  version_kind : (deleted : Bool) → KindInside part (Version deleted)
  version_kind deleted = record { delete_id_lem = λ id e. absurd_numbers (cc) }

  delete_kind_lem : (id : Place) → Inside part id → KindInside part (VersionDelete id)
  delete_kind_lem id h = record { delete_id_lem = λ other e. let same : id ≡ other = cc in subst (λ t. Inside part t) same h }

  list_kind : KindInside part PackList
  list_kind = record { delete_id_lem = λ id e. absurd_numbers (cc) }

  read_inside : (t : Texts) (k : Kind) → ContentsInside part t k → PartInside part (Ok (t, k))
  read_inside t k h = record {
    contents = λ u l e. let same : ◌≡◌ {A = Texts × Kind} (t, k) (u, l) = cc in subst (λ (p : Texts × Kind). ContentsInside part p.0 p.1) same h;
  }

  pub block_inside : (t : Texts) → AllInside part t → PartInside part (Ok (t, Block))
  block_inside t h = read_inside t Block (record { identifier = h; kind = block_kind_lem })

  pub version_inside : (t : Texts) (deleted : Bool) → AllInside part t → PartInside part (Ok (t, Version deleted))
  version_inside t deleted h = read_inside t (Version deleted) (record { identifier = h; kind = version_kind deleted })

  pub delete_inside : (t : Texts) (id : Place) → AllInside part t → Inside part id → PartInside part (Ok (t, VersionDelete id))
  delete_inside t id h i = read_inside t (VersionDelete id) (record { identifier = h; kind = delete_kind_lem id i })

  pub list_inside : (t : Texts) → AllInside part t → PartInside part (Ok (t, PackList))
  list_inside t h = read_inside t PackList (record { identifier = h; kind = list_kind })

-- ---- from the part of s at a place to s

module _ (s : List ℕ) (p : Place) where
  texts_shifted : (t : Texts) → AllInside (part_at s p) t → texts_in s (shift_texts p.start t) ≡ texts_in (part_at s p) t
  texts_shifted t h = rw (shifted_part s p t.ulid h.ulid, shifted_part s p t.bucket h.bucket, shifted_part s p t.object h.object)

  kind_shifted : (k : Kind) → KindInside (part_at s p) k → kind_in s (part_at s p) (shift_kind p.start k) ≡ kind_in (part_at s p) (part_at s p) k
  kind_shifted Block h = refl
  kind_shifted (Version deleted) h = refl
  kind_shifted (VersionDelete id) h = rw (shifted_part s p id (h.delete_id_lem id refl))
  kind_shifted PackList h = refl

  delete_within : (k : Kind) → KindInside (part_at s p) k → (id : Place) → shift_kind p.start k ≡ VersionDelete id → Within p id
  delete_within Block h id e = absurd_numbers (cc)
  delete_within (Version deleted) h id e = absurd_numbers (cc)
  delete_within (VersionDelete t) h id e =
      subst (λ u. Within p u) (cc) (shifted_within s p t (h.delete_id_lem t refl))
  delete_within PackList h id e = absurd_numbers (cc)

  module _ (t : Texts) (k : Kind) (h : ContentsInside (part_at s p) t k) where
    pub contents_shifted : contents_in s (part_at s p) (shift_texts p.start t) (shift_kind p.start k) ≡ contents_in (part_at s p) (part_at s p) t k
    contents_shifted = rw (texts_shifted t h.identifier, kind_shifted k h.kind)

    pub contents_within : ContentsWithin p (shift_texts p.start t) (shift_kind p.start k)
    contents_within = record {
      ulid = shifted_within s p t.ulid h.identifier.ulid;
      bucket = shifted_within s p t.bucket h.identifier.bucket;
      object = shifted_within s p t.object h.identifier.object;
      delete_id_lem = delete_within k h.kind;
    }

-- ---- a record

module _ (s : List ℕ) where
  pub record_inside : (d : Record) → PlacesInside s d → RecordInside s (Ok d)
  record_inside d h = record { places = λ other e. let same : d ≡ other = cc in rw (← same) h }

-- ---- a place of a pack

module _ (s : List ℕ) (at : ℕ) where
  pub place_inside : (p : Placed) → IsValue s at p.value → PlacesInside s p.«record» → PlaceInside s at (Ok p)
  place_inside p i h = record {
    value = λ q e. let same : p ≡ q = cc in rw (← same) i;
    places = λ q e. let same : p ≡ q = cc in rw (← same) h;
  }
