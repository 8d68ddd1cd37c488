-- What an answer of the scan into a list of 2,048 entries says of the reading, and so of the text.
use Prim.Native.Nat.{ℕ, ◌≤◌}
use mathlib.Core.Bool.{Bool, true, false, cond}
use mathlib.Core.List.{List, ◌++◌}
use mathlib.Core.Path.{◌≡◌, refl, sym, ap, subst, ◌∙◌}
use native.Mathlib.Omega.{arith}
use borrow.Author.Tests.{leb-true, le-leb}
use lib.Dec.{leb}
use lib.ListN.{length, take, drop, length-replicate}
use lib.Seq.{take_at}
use Rattle.slices.specs.Bytes.{AllBytes}
use Rattle.refusals.specs.Limit.{pack_limit}
use Rattle.pack.specs.Reading.{Reading, Ending, whole, refused, Outcome, counted, alone, reading}
use Rattle.pack.specs.Scan.{no_entry, scanned, list_after}
use Rattle.pack.proofs.Acceptance.{accepted_count}
use Rattle.list_pack.specs.Listing.{no_entries}
use Rattle.console.specs.Put.{Put, PutWithRoom, put_then}
use Rattle.console.specs.Text.{refusal_line, refusal_length}
use Rattle.entry_lines.specs.Text.{lines, count_line, count_length}
use Rattle.list_pack.specs.Text.{text}

-- ---- the answers are told apart

counted_same : {n m : ℕ} → counted n ≡ counted m → n ≡ m
counted_same e = cc

refused_same : {n m p q : ℕ} → ◌≡◌ {A = Outcome} (refused n p) (refused m q) → ◌≡◌ {A = Ending} (refused m q) (refused n p)
refused_same e = cc

counted_alone : {P : Type 0} {n m : ℕ} → counted n ≡ alone m → P
counted_alone e = let z : ◌≡◌ {A = ℕ} 0 1 = cc in absurd (omega arith)

counted_refused : {P : Type 0} {n m p : ℕ} → counted n ≡ refused m p → P
counted_refused e = let z : ◌≡◌ {A = ℕ} 0 1 = cc in absurd (omega arith)

refused_alone : {P : Type 0} {n m p : ℕ} → ◌≡◌ {A = Outcome} (refused m p) (alone n) → P
refused_alone e = let z : ◌≡◌ {A = ℕ} 0 1 = cc in absurd (omega arith)

-- ---- what each says

pub record Filled (r : Reading) (n : ℕ) : Type 0 where
  pub accepted : r.ending ≡ whole
  pub count : n ≡ length r.entries
  pub few : n ≤ 2048

pub filled : (r : Reading) (n : ℕ) → counted n ≡ scanned r 2048 → Filled r n
filled r n e = by r.ending refl e
  where
    fit : (t : Bool) → leb (length r.entries) 2048 ≡ t → counted n ≡ cond t (counted (length r.entries)) (alone 19) → r.ending ≡ whole → Filled r n
    fit true p q w = record { accepted = w; count = counted_same q; few = omega (arith, leb-true (length r.entries) 2048 p, counted_same q) }
    fit false p q w = counted_alone q

    by : (f : Ending) → r.ending ≡ f → counted n ≡ scanned (record { entries = r.entries; ending = f }) 2048 → Filled r n
    by whole w q = fit (leb (length r.entries) 2048) refl q w
    by (refused m p) w q = counted_refused q

pub refusal : (r : Reading) (n p : ℕ) → refused n p ≡ scanned r 2048 → r.ending ≡ refused n p
refusal r n p e = by r.ending refl e
  where
    fit : (t : Bool) → refused n p ≡ cond t (counted (length r.entries)) (alone 19) → r.ending ≡ refused n p
    fit true q = counted_refused (sym q)
    fit false q = refused_alone q

    by : (f : Ending) → r.ending ≡ f → refused n p ≡ scanned (record { entries = r.entries; ending = f }) 2048 → r.ending ≡ refused n p
    by whole w q = fit (leb (length r.entries) 2048) q
    by (refused m o) w q = w ∙ refused_same q

-- a pack of 65,536 bytes has at most 2,048 records
few_entries : (s : List ℕ) → AllBytes s → length s ≤ 65536 → (reading pack_limit s).ending ≡ whole → length (reading pack_limit s).entries ≤ 2048
few_entries s bytes h e = omega (arith, accepted_count pack_limit s (omega arith) bytes e)

pub never_short : (s : List ℕ) → AllBytes s → length s ≤ 65536 → alone 19 ≡ scanned (reading pack_limit s) 2048 → ⊥
never_short s bytes h e = by (reading pack_limit s).ending refl e
  where
    r : Reading
    r = reading pack_limit s

    by : (f : Ending) → (reading pack_limit s).ending ≡ f → alone 19 ≡ scanned (record { entries = (reading pack_limit s).entries; ending = f }) 2048 → ⊥
    by whole w q = counted_alone (sym (q ∙ ap (λ (t : Bool). cond t (counted (length (reading pack_limit s).entries)) (alone 19)) (le-leb (length (reading pack_limit s).entries) 2048 (few_entries s bytes h w))))
    by (refused m p) w q = refused_alone (sym q)

-- ---- and so the text

pub no_length : length no_entries ≡ 2048
unfolding no_entries
no_length = length-replicate 2048 no_entry

module _ (r : Reading) (n : ℕ) (f : Filled r n) where
  list_is : list_after r no_entries ≡ r.entries ++ drop (length r.entries) no_entries
  list_is =
      let h : length r.entries ≤ length no_entries = rw no_length (omega (arith, f.count, f.few)) in
      rw (f.accepted, le-leb (length r.entries) (length no_entries) h)

  taken : take n (list_after r no_entries) ≡ r.entries
  taken = ap (take n) list_is ∙ take_at r.entries (drop (length r.entries) no_entries) n (sym f.count)

  text_is : lines (take n (list_after r no_entries)) ++ count_line n ≡ text r
  text_is = rw (taken, f.accepted, f.count)

  pub listing_put : {s0 s1 s2 : List ℕ} {at next : ℕ} → 133120 ≤ length s0 → at ≤ 131072 → Put s0 0 (lines (take n (list_after r no_entries))) s1 at → length s1 ≡ length s0 → PutWithRoom 29 s1 at (count_line n) s2 next → Put s0 0 (text r) s2 next × (next ≤ 133120)
  listing_put {s0} {s1} {s2} {at} {next} room l p same with_room =
      let c = count_length n in
      let q = with_room.fits (omega arith) in
      (subst (λ (t : List ℕ). Put s0 0 t s2 next) text_is (put_then (omega (arith, p.place)) p q), omega (arith, q.place))

pub refusal_put : (r : Reading) (n p : ℕ) {s0 s2 : List ℕ} {next : ℕ} → 133120 ≤ length s0 → r.ending ≡ refused n p → PutWithRoom 53 s0 0 (refusal_line n p) s2 next
    → Put s0 0 (text r) s2 next × (next ≤ 133120)
refusal_put r n p {s0} {s2} {next} room e q =
    let t : refusal_line n p ≡ text r = rw e in
    let put = q.fits (omega arith) in
    (subst (λ (x : List ℕ). Put s0 0 x s2 next) t put, omega (arith, put.place, refusal_length n p))

-- the line of a pack that is too long lies within the buffer
pub too_long_within : {s0 s2 : List ℕ} {next : ℕ} → 53 ≤ length s0 → length s2 ≡ length s0 → PutWithRoom 53 s0 0 (refusal_line 1 0) s2 next → next ≤ length s2
too_long_within room same put = omega (arith, (put.fits (omega arith)).place, refusal_length 1 0, same)
