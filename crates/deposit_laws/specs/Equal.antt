-- A deposited block's record is, byte for byte and header included, what our writer writes for its identifier and data; so two deposited blocks with equal
-- identifier and equal data are equal bytes (request 9).
use Rattle.std.specs.Prelude.{ℕ, ◌+◌, ◌≤◌, ◌≡◌, refl, length, take, drop}
use mathlib.Core.List.Memᴰ
use mathlib.Core.List.{List, [], ◌∷◌, ◌++◌, append_assoc, Memᴰ}
use Rattle.std.proofs.Common.{⊎_elim, sym, ap, subst, ◌∙◌, length-append}
use Rattle.slices.specs.Bytes.{AllBytes}
use Rattle.refusals.specs.Answers.{granted}
use Rattle.tlv.specs.Layout.{Record, Fits, layout, layouts}
use Rattle.pack.specs.declared.Entry.{Entry}
use Rattle.pack.specs.Reading.{Reading, whole, reading}
use Rattle.pack.specs.Acceptance.{AllFit, entry_of, entries_of}
use Rattle.pack.proofs.Acceptance.{accepted_within, accepted_layouts, layouts_accepted}
use Rattle.identifier.specs.Identity.{Identity}
use Rattle.records.specs.Record as records
use Rattle.records.specs.Record.{block_tag, primary_in, read_record, at_place, record_at}
use Rattle.records.specs.Laws.{tag_and_value}
use Rattle.deposit.specs.Packs.{value_at}
use Rattle.deposit_laws.specs.Calls.{value_at_lem}
use Rattle.deposit_laws.specs.Blocks.{data_in}

-- ---- a record of an accepted pack stands between others

pub record Placed (s : List ℕ) (e : Entry) : Type 0 where
  pub front : List ℕ
  pub rest : List ℕ
  pub held : Record
  pub fit : Fits held
  pub split : s ≡ front ++ (layout held ++ rest)
  pub is : e ≡ entry_of (length front) held

placed : (rs : List Record) (front : List ℕ) → AllFit rs → (e : Entry) → Memᴰ e (entries_of (length front) rs) → Placed (front ++ layouts rs) e
unfolding layouts entries_of
placed [] front fit e m = absurd (Memᴰ.not-nil m)
placed (r ∷ rs) front fit e m = ⊎_elim
    (λ (is : e ≡ entry_of (length front) r). record { front = front; rest = layouts rs; held = r; fit = fit.0; split = refl; is = is })
    (λ n. subst (λ s. Placed s e) (append_assoc front (layout r) (layouts rs))
    (placed rs (front ++ layout r) fit.1 e (rw (length-append front (layout r)) n)))
    (Memᴰ.cases_cons m)

pub of_pack : (limit : ℕ) (s : List ℕ) → AllBytes s → (reading limit s).ending ≡ whole → (e : Entry) → Memᴰ e (reading limit s).entries → Placed s e
of_pack limit s bytes accepted e m =
    let within = accepted_within limit s accepted in
    let old = accepted_layouts limit s within bytes accepted in
    let entries = ap (λ (x : Reading). x.entries) (layouts_accepted limit s within old.0 old.1 old.2) in
    subst (λ t. Placed t e) old.2 (placed old.0 [] old.1 e (subst (Memᴰ e) entries m))

-- the record at an entry's start is that of its tag and value
abbrev ReadsBy : ℕ → List ℕ → Entry → Type 0
ReadsBy limit s e =
    record_at limit s e.start ≡ at_place (value_at s e.start e.length) (read_record limit e.tag (value_at s e.start e.length))

pub record_there : (limit : ℕ) (s : List ℕ) → AllBytes s → (reading limit s).ending ≡ whole → (e : Entry) → Memᴰ e (reading limit s).entries
    → ReadsBy limit s e
record_there limit s bytes accepted e m =
    let p = of_pack limit s bytes accepted e m in
    let t : List ℕ = p.front ++ (layout p.held ++ p.rest) in
    let within : length t ≤ limit = subst (λ u. length u ≤ limit) p.split (accepted_within limit s accepted) in
    let here : ReadsBy limit t (entry_of (length p.front) p.held)
    = tag_and_value limit p.front p.rest p.held p.fit within
    ∙ ap (λ v. at_place v (read_record limit p.held.tag v)) (sym (value_at_lem p.front p.rest p.held p.fit)) in
    subst (λ u. ReadsBy limit u e) (sym p.split) (subst (ReadsBy limit t) (sym p.is) here)

-- ---- a block of a pack

-- all its bytes
abbrev pub record_bytes : List ℕ → Entry → List ℕ
record_bytes s e = take (32 + e.length) (drop e.start s)

-- the entry's record reads as a block with this identifier and data
pub record IsBlock (limit : ℕ) (s : List ℕ) (e : Entry) (i : Identity) (d : List ℕ) : Type 0 where
  pub tag : e.tag ≡ block_tag
  pub read : records.Record
  pub reads : read_record limit block_tag (value_at s e.start e.length) ≡ granted read
  pub identifier : read.contents.identifier ≡ i
  pub data_is : data_in (value_at s e.start e.length) read.told ≡ d
