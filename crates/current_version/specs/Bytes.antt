-- Demand 3 over the bytes of packs: records are the byte strings that a reading finds there.
use Rattle.std.specs.Prelude.{ℕ, suc, ◌+◌, Bool, cond, ◌≡◌, refl, length, take, drop}
use mathlib.Core.List.{List, [], ◌∷◌, ◌++◌, Memᴰ}
use Rattle.std.proofs.Common.{ap, ◌∙◌, take_at}
use Rattle.slices.specs.Bytes.{same_bytes}
use Rattle.tlv.specs.Layout.{Record, layout, layouts, length_layout}
use Rattle.pack.specs.Reading.{reading}
use Rattle.pack.specs.Acceptance.{entry_of, entries_of}
use Rattle.pack.specs.declared.Entry.{Entry}
use Rattle.identifier.specs.Identity.{Identity}
use Rattle.current_version.specs.Current.{version, role, value_of}
use Rattle.current_version.specs.Packs.{Readable, rest_standing}
use Rattle.current_version.specs.Deletion.{is_version}
use Rattle.current_version.specs.Order.{how_often}

-- bytes 0 to 31, and the value
abbrev pub record_bytes : List ℕ → Entry → List ℕ
record_bytes s e = take (32 + e.length) (drop e.start s)

pub bytes_standing : (at : ℕ) (r : Record) (rs : List Record) (s : List ℕ) → drop at s ≡ layout r ++ layouts rs → record_bytes s (entry_of at r) ≡ layout r
bytes_standing at r rs s e = ap (take (32 + length r.value)) e ∙ take_at (layout r) (layouts rs) (32 + length r.value) (length_layout r)

-- ---- all `vr` records of one identifier, taken out: the others byte for byte, end to end and in their order

unfoldable pub kept : ℕ → Identity → List ℕ → List Entry → List ℕ
kept limit i s [] = []
kept limit i s (e ∷ es) = cond (is_version i (role limit e.tag (value_of s e))) (kept limit i s es) (record_bytes s e ++ kept limit i s es)

unfoldable pub taken_out_of : ℕ → Identity → List ℕ → List ℕ
taken_out_of limit i s = kept limit i s (reading limit s).entries

-- ---- how often a record with these bytes stands in a pack

unfoldable pub times_in : List ℕ → List ℕ → List Entry → ℕ
times_in bytes s [] = 0
times_in bytes s (e ∷ es) = cond (same_bytes bytes (record_bytes s e)) (suc (times_in bytes s es)) (times_in bytes s es)

-- the same records, each as often
abbrev pub SameRecordsIn : ℕ → List ℕ → List ℕ → Type 0
SameRecordsIn limit s t = (bytes : List ℕ) → times_in bytes s (reading limit s).entries ≡ times_in bytes t (reading limit t).entries

pub times_standing : (bytes : List ℕ) (at : ℕ) (rs : List Record) (s : List ℕ) → drop at s ≡ layouts rs → times_in bytes s (entries_of at rs) ≡ how_often bytes rs
unfolding times_in how_often layouts entries_of
times_standing bytes at [] s e = refl
times_standing bytes at (r ∷ rs) s e = rw (bytes_standing at r rs s e, times_standing bytes (at + length (layout r)) rs s (rest_standing at r rs s e))

-- `vr` records that share an identifier have equal values
abbrev pub OneValueIn : ℕ → List ℕ → Type 0
OneValueIn limit s =
    (d e : Entry) (i : Identity) (f g : Bool) → Memᴰ d (reading limit s).entries → Memᴰ e (reading limit s).entries
    → role limit d.tag (value_of s d) ≡ version i f → role limit e.tag (value_of s e) ≡ version i g → value_of s d ≡ value_of s e

-- ---- the theorems

pub record Whole (limit : ℕ) (s : List ℕ) : Type 0 where
  pub rs : List Record
  pub readable : Readable limit rs
  pub bytes : layouts rs ≡ s
  pub entries : (reading limit s).entries ≡ entries_of 0 rs
