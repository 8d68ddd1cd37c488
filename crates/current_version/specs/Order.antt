-- Demand 3, order: packs with the same records, each as often, answer alike, where `vr` records that share an identifier have equal values.
use Rattle.std.specs.Prelude.{ℕ, suc, Bool, cond, ◌≡◌}
use mathlib.Core.List.{List, [], ◌∷◌, Memᴰ}
use Rattle.std.specs.Prelude.{Some}
use Rattle.slices.specs.Bytes.{same_bytes}
use Rattle.tlv.specs.Layout.{Record, layout}
use Rattle.identifier.specs.Identity.{Identity}
use Rattle.current_version.specs.Current.{version, role, Placed, Version, version_of}

-- ---- the same records, each as often

-- how often a record with these bytes stands in a list
unfoldable pub how_often : List ℕ → List Record → ℕ
how_often bytes [] = 0
how_often bytes (r ∷ rs) = cond (same_bytes bytes (layout r)) (suc (how_often bytes rs)) (how_often bytes rs)

abbrev pub SameRecords : List Record → List Record → Type 0
SameRecords rs ts = (bytes : List ℕ) → how_often bytes rs ≡ how_often bytes ts

-- `vr` records that share an identifier have equal values
abbrev pub OneValue : ℕ → List Record → Type 0
OneValue limit rs =
    (r s : Record) (i : Identity) (f g : Bool) → Memᴰ r rs → Memᴰ s rs
    → role limit r.tag r.value ≡ version i f → role limit s.tag s.value ≡ version i g → r.value ≡ s.value

pub record Standing (bytes : List ℕ) (rs : List Record) : Type 0 where
  pub at : Record
  pub there : Memᴰ at rs
  pub is : bytes ≡ layout at

-- ---- lists with the same members, in which versions that share an identifier are the same, have the same current version

abbrev pub Alike : List Placed → Type 0
Alike ps = (p q : Placed) (v w : Version) → Memᴰ p ps → Memᴰ q ps → version_of p ≡ Some v → version_of q ≡ Some w
    → v.identifier ≡ w.identifier → p ≡ q
