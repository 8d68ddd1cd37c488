-- Two sites' packs: where their records are alike one by one, they are read alike, record by record, and every object is looked up alike.
use Prim.Native.Nat.{ℕ, zero, suc, ◌≤◌}
use Rattle.std.specs.Prelude.{Bool, true, false, cond, ◌≡◌, refl, length}
use mathlib.Core.List.Memᴰ
use mathlib.Core.List.{List, [], ◌∷◌, ◌++◌, map, append_assoc, Memᴰ}
use Rattle.std.proofs.Math.Logic.{⊎_elim}
use Rattle.std.specs.Prelude.{Option, None, Some}
use Rattle.std.proofs.Common.{sym, ◌∙◌, length-append}
use Rattle.std.proofs.Math.Path.{ap, subst}
use Rattle.std.proofs.Math.Seq.{drop-append_seam}
use Rattle.slices.specs.Bytes.{AllBytes}
use Rattle.refusals.specs.Answers.{Answer, refused, granted}
use Rattle.tlv.specs.Layout.{Record, layout, layouts}
use Rattle.pack.specs.declared.Entry.{Entry}
use Rattle.pack.specs.Reading.{Reading, whole, reading}
use Rattle.pack.specs.Acceptance.{AllFit, entry_of, entries_of}
use Rattle.pack.proofs.Acceptance.{layouts_accepted, accepted_layouts, accepted_within}
use Rattle.msgpack.specs.Views.{Each, no_more, and_each}
use Rattle.identifier.specs.Identity.{Identity}
use Rattle.records.specs.Record as records
use Rattle.records.specs.Record.{Kind, Contents, read_record, AtPlace, there, refused_at, alone, at_place, record_at}
use Rattle.records.specs.Laws.{tag_and_value}
use Rattle.records_model.specs.Alike.{AlikeRecordValues, same_value}
use Rattle.records_model.specs.Record.{RecordHeld, record_in}
use Rattle.records_model.specs.AnswersAlike.{AnswersAlike, same_refusal, first_22, second_22, both_read, NumbersAlike, SameRecord}
use Rattle.records_model.proofs.TwoSites.{record_values_alike}
use Rattle.current_version.specs.Current as current
use Rattle.current_version.specs.Current.{Role, unreadable, role_by, role_of, is_looked_at, role, value_of, placed, lookup}
use Rattle.current_version.specs.Packs.{value_standing}
use Rattle.current_version.specs.Alike.{AlikeRoles, versions, deletions, others, unreadables, AlikePlaced, AlikeAnswers}
use Rattle.current_version.proofs.Alike.{lookups_alike}

-- ---- packs alike

-- two records: of one tag, with values alike; bytes 28 and 29 are free
pub record AlikeEntries (s t : List ℕ) (d e : Entry) : Type 0 where
  pub tag : d.tag ≡ e.tag
  pub value : AlikeRecordValues (value_of s d) (value_of t e)

-- both are accepted, and their records are alike one by one
pub record AlikePacks (limit : ℕ) (s t : List ℕ) : Type 0 where
  pub first_accepted : (reading limit s).ending ≡ whole
  pub second_accepted : (reading limit t).ending ≡ whole
  pub entries : Each (AlikeEntries s t) (reading limit s).entries (reading limit t).entries

-- as every accepted pack is to itself, whatever its records hold
pub alike_itself : (limit : ℕ) (s : List ℕ) → (reading limit s).ending ≡ whole → AlikePacks limit s s
alike_itself limit s accepted = record { first_accepted = accepted; second_accepted = accepted; entries = each (reading limit s).entries }
  where
    each : (es : List Entry) → Each (AlikeEntries s s) es es
    each [] = no_more
    each (e ∷ es) = and_each (record { tag = refl; value = same_value (value_of s e) }) (each es)

-- ---- record by record

-- what is told of the record at a place, with no places
abbrev pub held_at : AtPlace → Answer RecordHeld
held_at (there value r) = record_in value (granted r)
held_at (refused_at n place) = refused n
held_at (alone n) = refused n

-- at each record of the one pack and of the other, in order, the same answer
pub data AllAnswersAlike (limit : ℕ) (s t : List ℕ) : List Entry → List Entry → Type 0 where
  no_entries_lem : AllAnswersAlike limit s t [] []
  next_entry_lem : {d e : Entry} {ds es : List Entry} → AnswersAlike SameRecord (held_at (record_at limit s d.start))
      (held_at (record_at limit t e.start)) → AllAnswersAlike limit s t ds es
      → AllAnswersAlike limit s t (d ∷ ds) (e ∷ es)

held_at_place : (value : List ℕ) (a : Answer records.Record) → held_at (at_place value a) ≡ record_in value a
held_at_place value (granted r) = refl
held_at_place value (refused n) = refl

-- the record at an entry's start is that of its tag and value
abbrev ReadsBy : ℕ → List ℕ → Entry → Type 0
ReadsBy limit s e = record_at limit s e.start ≡ at_place (value_of s e) (read_record limit e.tag (value_of s e))

module _ (limit : ℕ) where
  -- behind any bytes
  reads_behind : (front : List ℕ) (rs : List Record) → AllFit rs → length (front ++ layouts rs) ≤ limit → (e : Entry)
      → Memᴰ e (entries_of (length front) rs) → ReadsBy limit (front ++ layouts rs) e
  unfolding layouts entries_of
  reads_behind front [] fit within e m = absurd (Memᴰ.not-nil m)
  reads_behind front (r ∷ rs) fit within e m =
      let s : List ℕ = front ++ (layout r ++ layouts rs) in
      let grouped : (front ++ layout r) ++ layouts rs ≡ s = append_assoc front (layout r) (layouts rs) in
      let value_is : value_of s (entry_of (length front) r) ≡ r.value =
      value_standing (length front) r rs s (drop-append_seam front (layout r ++ layouts rs)) in
      let here : ReadsBy limit s (entry_of (length front) r) =
      tag_and_value limit front (layouts rs) r fit.0 within ∙ ap (λ v. at_place v (read_record limit r.tag v)) (sym value_is) in
      ⊎_elim
      (λ is. subst (ReadsBy limit s) (sym is) here)
      (λ n.
      subst (λ u. ReadsBy limit u e) grouped
      (reads_behind (front ++ layout r) rs fit.1 (rw grouped within) e (rw (length-append front (layout r)) n)))
      (Memᴰ.cases_cons m)

  accepted_reads : (s : List ℕ) → AllBytes s → (reading limit s).ending ≡ whole → (e : Entry) → Memᴰ e (reading limit s).entries → ReadsBy limit s e
  accepted_reads s bytes accepted e m =
      let within = accepted_within limit s accepted in
      let l = accepted_layouts limit s within bytes accepted in
      let read = layouts_accepted limit s within l.0 l.1 l.2 in
      subst (λ u. ReadsBy limit u e) l.2
      (reads_behind [] l.0 l.1 (subst (λ u. length u ≤ limit) (sym l.2) within) e
      (subst (λ (r : Reading). Memᴰ e r.entries) read m))

  entries_alike : {s t : List ℕ} {ds es : List Entry} → ((d : Entry) → Memᴰ d ds → ReadsBy limit s d) → ((e : Entry) → Memᴰ e es → ReadsBy limit t e)
      → Each (AlikeEntries s t) ds es → AllAnswersAlike limit s t ds es
  entries_alike f g no_more = no_entries_lem
  entries_alike {s} {t} f g (and_each {a = d} {b = e} x xs) =
      next_entry_lem {d = d} {e = e}
      (rw (
        f d (Memᴰ.head refl),
        g e (Memᴰ.head refl),
        held_at_place (value_of s d),
        held_at_place (value_of t e),
        x.tag,
      ) (record_values_alike limit e.tag x.value))
      (entries_alike (λ c m. f c (Memᴰ.tail m)) (λ c m. g c (Memᴰ.tail m)) xs)

  -- the answers at the places where the packs' records start
  pub sites_read_alike : (s t : List ℕ) → AllBytes s → AllBytes t → AlikePacks limit s t
      → AllAnswersAlike limit s t (reading limit s).entries (reading limit t).entries
  sites_read_alike s t b c x = entries_alike (accepted_reads s b x.first_accepted) (accepted_reads t c x.second_accepted) x.entries

-- ---- the lookup

-- where the record of an index starts
unfoldable pub start_at : List Entry → ℕ → Option ℕ
start_at [] k = None
start_at (e ∷ es) zero = Some e.start
start_at (e ∷ es) (suc k) = start_at es k

-- two records start there that have one index, each in its pack
pub record SameIndex (ds es : List Entry) (p q : ℕ) : Type 0 where
  pub index : ℕ
  pub first_start : start_at ds index ≡ Some p
  pub second_start : start_at es index ≡ Some q

-- both give nothing; or both find a version, with the same identifier and delete flag, with values alike and at the same index; or both refuse,
-- with numbers alike and at the same index, or the name, with 20
abbrev pub AlikeLookups : ℕ → List ℕ → List ℕ → current.Answer → current.Answer → Type 0
AlikeLookups limit s t = AlikeAnswers NumbersAlike (SameIndex (reading limit s).entries (reading limit t).entries) AlikeRecordValues

-- what a record is to the lookup, by what it holds
abbrev role_held : Answer RecordHeld → Role
role_held (granted r) = role_by r.contents.identifier r.contents.kind
role_held (refused n) = unreadable n

role_held_lem : (value : List ℕ) (a : Answer records.Record) → role_held (record_in value a) ≡ role_of a
role_held_lem value (granted r) = refl
role_held_lem value (refused n) = refl

same_role : (i : Identity) (k : Kind) → AlikeRoles NumbersAlike (role_by i k) (role_by i k)
same_role i records.block = others
same_role i (records.version delete_flag) = versions i delete_flag
same_role i (records.version_delete delete_id) = deletions i
same_role i (records.pack_list entries) = others

roles_held : {a b : Answer RecordHeld} → AnswersAlike SameRecord a b → AlikeRoles NumbersAlike (role_held a) (role_held b)
roles_held (same_refusal n) = unreadables (same_refusal n)
roles_held (first_22 t) = unreadables (first_22 t)
roles_held (second_22 t) = unreadables (second_22 t)
roles_held (both_read {a = r} {b = q} x) =
    subst (λ (c : Contents). AlikeRoles NumbersAlike (role_by r.contents.identifier r.contents.kind) (role_by c.identifier c.kind)) x.contents
    (same_role r.contents.identifier r.contents.kind)

roles_alike : (limit tag : ℕ) {x y : List ℕ} → AlikeRecordValues x y → AlikeRoles NumbersAlike (role limit tag x) (role limit tag y)
unfolding role
roles_alike limit tag {x} {y} z = by (is_looked_at tag)
  where
    by : (t : Bool) → AlikeRoles NumbersAlike (cond t (role_of (read_record limit tag x)) current.other) (cond t (role_of (read_record limit tag y)) current.other)
    by true = rw (← role_held_lem x (read_record limit tag x), ← role_held_lem y (read_record limit tag y)) (roles_held (record_values_alike limit tag z))
    by false = others

placed_alike : (limit : ℕ) {s t : List ℕ} {Place : ℕ → ℕ → Type 0} {ds es : List Entry} → ((p q : ℕ) → SameIndex ds es p q → Place p q)
    → Each (AlikeEntries s t) ds es → Each (AlikePlaced NumbersAlike Place AlikeRecordValues) (map (placed limit s) ds) (map (placed limit t) es)
unfolding start_at
placed_alike limit f no_more = no_more
placed_alike limit {s} {t} f (and_each {a = d} {b = e} x xs) =
    and_each {a = placed limit s d} {b = placed limit t e}
    (record {
      role = rw x.tag (roles_alike limit e.tag x.value);
      start = f d.start e.start (record { index = 0; first_start = refl; second_start = refl });
      value = x.value;
    })
    (placed_alike limit (λ p q i. f p q (record { index = suc i.index; first_start = i.first_start; second_start = i.second_start })) xs)

-- for every bucket and object
pub sites_look_up_alike : (limit : ℕ) (s t bucket object : List ℕ) → AlikePacks limit s t
    → AlikeLookups limit s t (lookup limit s bucket object) (lookup limit t bucket object)
sites_look_up_alike limit s t bucket object x =
    lookups_alike NumbersAlike (SameIndex (reading limit s).entries (reading limit t).entries) AlikeRecordValues limit s t
    x.first_accepted x.second_accepted (placed_alike limit (λ p q i. i) x.entries) bucket object
