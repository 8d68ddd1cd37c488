-- What the list holds while a scan writes to it, one entry a turn, and what it holds at the end.
use Prim.Native.Nat.{ℕ, zero, suc, ◌≤◌}
use mathlib.Core.Bool.{Bool, true, false}
use mathlib.Core.List.{List, [], ◌∷◌, ◌++◌, append_assoc}
use mathlib.Core.Path.{◌≡◌, refl, sym, ap, ◌∙◌}
use native.Mathlib.Omega.{arith}
use borrow.Author.Tests.{leb-true}
use lib.Dec.{leb, ltb}
use lib.ListN.{length, drop, set, get_or}
use lib.Seq.{drop-cons, set_at}
use Rattle.refusals.specs.Limit.{pack_limit}
use Rattle.pack.specs.declared.Entry.{Entry}
use Rattle.pack.specs.Reading.{Reading, Ending, whole, refused, records, reading}
use Rattle.pack.specs.Scan.{no_entry, listed_at, first_entries, first_entries_lem, scanned, written, list_after}

module _ (s : List ℕ) where
  -- the place after i records
  abbrev pub place_after : ℕ → ℕ → ℕ
  place_after zero at = at
  place_after (suc i) at = (listed_at s (place_after i at)).next

  -- the list once i entries are written
  abbrev pub written_to : ℕ → List Entry → List Entry
  written_to zero list = list
  written_to (suc i) list = set (written_to i list) i (listed_at s (place_after i 0)).entry

  length_first : (i at : ℕ) → length (first_entries i s at) ≡ i
  unfolding first_entries
  length_first zero at = refl
  length_first (suc i) at = ap suc (length_first i (listed_at s at).next)

  -- the first record passed first, or last
  place_next : (i at : ℕ) → place_after i (listed_at s at).next ≡ (listed_at s (place_after i at)).next
  place_next zero at = refl
  place_next (suc i) at = ap (λ (p : ℕ). (listed_at s p).next) (place_next i at)

  -- one entry more, at the end
  first_last : (i at : ℕ) → first_entries (suc i) s at ≡ first_entries i s at ++ ((listed_at s (place_after i at)).entry ∷ [])
  unfolding first_entries
  first_last zero at = refl
  first_last (suc i) at =
      let next = (listed_at s at).next in
      ap (λ (es : List Entry). (listed_at s at).entry ∷ es) (first_last i next ∙ ap (λ (p : ℕ). first_entries i s next ++ ((listed_at s p).entry ∷ [])) (place_next i at))

  pub written_is : (i : ℕ) (list : List Entry) → i ≤ length list → written_to i list ≡ first_entries i s 0 ++ drop i list
  unfolding first_entries
  written_is zero list l = refl
  written_is (suc i) list l =
      let front = first_entries i s 0 in
      let e = (listed_at s (place_after i 0)).entry in
      let later = drop (suc i) list in
      ap (λ (es : List Entry). set es i e) (written_is i list (omega arith) ∙ ap (λ (es : List Entry). front ++ es) (drop-cons list i no_entry l))
      ∙ set_at front (get_or list i no_entry) later e i (length_first i 0)
      ∙ sym (ap (λ (es : List Entry). es ++ later) (first_last i 0) ∙ append_assoc front (e ∷ []) later)

-- ---- a scan writes as many entries as it answers

abbrev Writes : List ℕ → Reading → List Entry → Type 0
Writes s r list = (n : ℕ) → n ≡ written (scanned r (length list)) → (first_entries n s 0 ++ drop n list ≡ list_after r list) × (n ≤ length list)

-- none
writes_none : (s : List ℕ) (list : List Entry) (n : ℕ) → n ≡ 0 → (first_entries n s 0 ++ drop n list ≡ list) × (n ≤ length list)
unfolding first_entries
writes_none s list n e = (rw e, omega arith)

writes_entries : (s : List ℕ) (es : List Entry) (ending : Ending) (list : List Entry) → first_entries (length es) s 0 ≡ es → Writes s (record { entries = es; ending = ending }) list
writes_entries s es whole list first n e = go (leb (length es) (length list)) refl
  where
    go : (t : Bool) → leb (length es) (length list) ≡ t → (first_entries n s 0 ++ drop n list ≡ list_after (record { entries = es; ending = whole }) list) × (n ≤ length list)
    go true t =
        let all : n ≡ length es = e ∙ simp t in
        (rw (all, t) (ap (λ (ds : List Entry). ds ++ drop (length es) list) first), omega (arith, leb-true (length es) (length list) t))
    go false t = rw t (writes_none s list n (e ∙ simp t))
writes_entries s es (refused k at) list first n e = writes_none s list n e

pub scan_writes : (s : List ℕ) (list : List Entry) → Writes s (reading pack_limit s) list
unfolding reading
scan_writes s list = go (ltb pack_limit (length s)) refl
  where
    go : (t : Bool) → ltb pack_limit (length s) ≡ t → Writes s (reading pack_limit s) list
    go true t = rw t (writes_none s list)
    go false t = rw t (writes_entries s (records 0 0 s).entries (records 0 0 s).ending list (first_entries_lem (records 0 0 s).entries s 0 refl))
