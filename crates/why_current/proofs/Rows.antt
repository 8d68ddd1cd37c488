-- How the lines of rows are put, one part after the other, and one line after the other.
use Prim.Native.Nat.{ℕ, zero, suc, ◌+◌, ◌*◌, ◌≤◌, ◌<◌}
use mathlib.Core.Bool.{Bool, true, false, cond}
use mathlib.Core.List.{List, ◌++◌, append_assoc, append-nil}
use mathlib.Core.Path.{◌≡◌, refl, sym, ap, subst, ◌∙◌}
use native.Mathlib.Omega.{arith}
use native.Mathlib.Numerals.{add-one}
use borrow.Author.Tests.{ne_eqb}
use lib.Dec.{eqb}
use lib.ListN.{length, get_or, drop, length-append}
use lib.Seq.{get_or-drop}
use Rattle.console.specs.Put.{Put, Next, put_none, put_length, put_then, put_next}
use Rattle.console.specs.Text.{decimal, space, newline, decimal_length}
use Rattle.console.proofs.Lines.{start_put}
use Rattle.why_current.specs.Text.{current_word, marker_words, older_word, repeat_word, removed_word}
use Rattle.why_current.specs.Rows.{reason_text, row_text, rows_text}

-- ---- a reason

pub reason_length : (reason place : ℕ) (ulid : List ℕ) → length ulid ≤ 26 → length (reason_text reason place ulid) ≤ 32
unfolding reason_text
reason_length reason place ulid h = go (eqb reason 2) (eqb reason 3) (eqb reason 4) (eqb reason 1)
  where
    d : length (decimal place) ≤ 20
    d = decimal_length place

    go : (a b c e : Bool) → length (cond a (older_word ++ ulid) (cond b (repeat_word ++ decimal place) (cond c (removed_word ++ decimal place) (cond e marker_words current_word)))) ≤ 32
    go true b c e = rw length-append (omega arith)
    go false true c e = rw length-append (omega (arith, d))
    go false false true e = rw length-append (omega (arith, d))
    go false false false true = omega arith
    go false false false false = omega arith

module _ {s0 s1 : List ℕ} {at m1 : ℕ} (place : ℕ) (ulid : List ℕ) (h : at + 32 ≤ length s0) where
  pub older_put : {s2 : List ℕ} {m2 : ℕ} (reason : ℕ) → reason ≡ 2 → length ulid ≤ 26 → Next s0 at older_word s1 m1 → Next s1 m1 ulid s2 m2 → Put s0 at (reason_text reason place ulid) s2 m2
  unfolding reason_text
  older_put reason e short p q = rw e (put_next (omega arith) (p.fits (omega arith)) q)

  pub repeated_put : {s2 : List ℕ} {m2 : ℕ} (reason : ℕ) → reason ≡ 3 → Next s0 at repeat_word s1 m1 → Next s1 m1 (decimal place) s2 m2 → Put s0 at (reason_text reason place ulid) s2 m2
  unfolding reason_text
  repeated_put reason e p q = let d = decimal_length place in rw e (put_next (omega arith) (p.fits (omega arith)) q)

  pub removed_put : {s2 : List ℕ} {m2 : ℕ} (reason : ℕ) → reason ≡ 4 → Next s0 at removed_word s1 m1 → Next s1 m1 (decimal place) s2 m2 → Put s0 at (reason_text reason place ulid) s2 m2
  unfolding reason_text
  removed_put reason e p q = let d = decimal_length place in rw e (put_next (omega arith) (p.fits (omega arith)) q)

  pub marker_put : (reason : ℕ) → reason ≡ 1 → Next s0 at marker_words s1 m1 → Put s0 at (reason_text reason place ulid) s1 m1
  unfolding reason_text
  marker_put reason e p = rw e (p.fits (omega arith))

  pub current_put : (reason : ℕ) → (reason ≡ 2 → ⊥) → (reason ≡ 3 → ⊥) → (reason ≡ 4 → ⊥) → (reason ≡ 1 → ⊥) → Next s0 at current_word s1 m1
      → Put s0 at (reason_text reason place ulid) s1 m1
  unfolding reason_text
  current_put reason a b c d p = rw (ne_eqb reason 2 a, ne_eqb reason 3 b, ne_eqb reason 4 c, ne_eqb reason 1 d) (p.fits (omega arith))

-- ---- a line

pub row_length : (start reason place : ℕ) (ulid : List ℕ) → length ulid ≤ 26 → length (row_text start reason place ulid) ≤ 54
unfolding row_text
row_length start reason place ulid h = simp length-append (omega (arith, decimal_length start, reason_length reason place ulid h))

pub row_put : {s0 s1 s2 s3 s4 : List ℕ} {at m1 m2 m3 m4 : ℕ} (start reason place : ℕ) (ulid : List ℕ) → length ulid ≤ 26 → at + 54 ≤ length s0
    → Next s0 at (decimal start) s1 m1 → Next s1 m1 space s2 m2 → Put s2 m2 (reason_text reason place ulid) s3 m3 → Next s3 m3 newline s4 m4
    → Put s0 at (row_text start reason place ulid) s4 m4
unfolding row_text
row_put start reason place ulid short h p q r t =
    let d1 = decimal_length start in
    let d2 = reason_length reason place ulid short in
    let l1 = length-append (decimal start) space in
    let l2 = length-append (decimal start ++ space) (reason_text reason place ulid) in
    put_next (omega arith) (put_then (omega arith) (start_put start 33 h p q) r) t

-- ---- one line more

abbrev row_at : List ℕ → ℕ → List ℕ → List ℕ
row_at words k ulid = row_text (get_or words k 0) (get_or words (k + 1) 0) (get_or words (k + 2) 0) ulid

row_behind : (words : List ℕ) (i : ℕ) (ulid : List ℕ) → row_at (drop 3 words) (3 * i) ulid ≡ row_at words (3 * suc i) ulid
row_behind words i ulid =
    let e : (k : ℕ) → 3 + (3 * i + k) ≡ 3 * suc i + k = λ k. omega arith in
    let e0 : 3 + 3 * i ≡ 3 * suc i = omega arith in
    rw (get_or-drop, get_or-drop, get_or-drop, e0, e 1, e 2)

rows_suc : (i : ℕ) (words ulid : List ℕ) → rows_text (suc i) words ulid ≡ rows_text i words ulid ++ row_at words (3 * i) ulid
unfolding rows_text
rows_suc zero words ulid = rw append-nil
rows_suc (suc i) words ulid =
    rw (rows_suc i (drop 3 words) ulid, row_behind words i ulid) (sym (append_assoc (row_at words 0 ulid) (rows_text i (drop 3 words) ulid) (row_at words (3 * suc i) ulid)))

pub record Rows (s0 words ulid : List ℕ) (i : ℕ) (s : List ℕ) (at : ℕ) : Type 0 where
  pub same : length s ≡ length s0
  pub short : at ≤ 54 * i
  pub so_far : Put s0 0 (rows_text i words ulid) s at

pub no_rows_lem : (s0 words ulid : List ℕ) → Rows s0 words ulid 0 s0 0
unfolding rows_text
no_rows_lem s0 words ulid = record { same = refl; short = omega arith; so_far = put_none s0 }

pub more_rows : {s0 s s' : List ℕ} {at next : ℕ} (words ulid : List ℕ) (i : ℕ) → i < 2048 → length ulid ≤ 26 → 110592 ≤ length s0 → Rows s0 words ulid i s at
    → Put s at (row_at words (3 * i) ulid) s' next → Rows s0 words ulid (i + 1) s' next
more_rows {s0} {s} {s'} {at} {next} words ulid i few short room v p =
    let l = row_length (get_or words (3 * i) 0) (get_or words (3 * i + 1) 0) (get_or words (3 * i + 2) 0) ulid short in
    let b : at ≤ 54 * i = v.short in
    let m : length s ≡ length s0 = v.same in
    let fits : at + length (row_at words (3 * i) ulid) ≤ length s = omega arith in
    record {
      same = put_length fits p ∙ m;
      short = omega (arith, p.place);
      so_far = subst (λ (t : List ℕ). Put s0 0 t s' next) (sym (ap (λ (k : ℕ). rows_text k words ulid) (add-one i) ∙ rows_suc i words ulid)) (put_then (omega (arith, v.so_far.place)) v.so_far p);
    }
