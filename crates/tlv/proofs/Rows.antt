-- Whether a row of the refusal sheet applies, from what the code compared.
use Prim.Native.Nat.{ℕ, ◌+◌, ◌-◌, ◌≤◌, ◌<◌}
use mathlib.Core.Bool.{true, false, not}
use mathlib.Core.List.{List}
use mathlib.Core.Path.{◌≡◌, sym, ap, ◌∙◌}
use native.Mathlib.Omega.{arith}
use borrow.Author.Tests.{eq-eqb, ne_eqb, lt-ltb, le-ltb}
use lib.Dec.{eqb}
use lib.ListN.{length, take, drop}
use Rattle.refusals.specs.Sheet.{lowest}
use Rattle.xxh64.specs.Xxh64.{xxh64}
use Rattle.tlv.specs.Layout.{field}
use Rattle.tlv.specs.Found.{value_rows, header_of, found, fault, found_unless, header, header_found}
use Rattle.tlv.specs.declared.RecordHeader.{RecordHeader}

pub agrees : {r x y : ℕ} → r ≡ x → r ≡ y → not (eqb x y) ≡ false
agrees {r} {x} {y} p q = ap not (eq-eqb x y (sym p ∙ q))

pub differs : {r x y : ℕ} → r ≡ x → (r ≡ y → ⊥) → not (eqb x y) ≡ true
differs {r} {x} {y} p q = ap not (ne_eqb x y (λ e. q (p ∙ e)))

-- ---- the value's rows, for a header that has been found; n is the hash of what the code took for the value

module _ (s : List ℕ) (h : RecordHeader) (whole : header s ≡ found h) where
  length_field : field s 8 8 ≡ h.length
  unfolding header_of
  length_field = ap (λ (g : RecordHeader). g.length) (header_found s h whole).1

  hash_field : field s 16 8 ≡ h.hash
  unfolding header_of
  hash_field = ap (λ (g : RecordHeader). g.hash) (header_found s h whole).1

  value_hash_lem : (n : ℕ) → n ≡ xxh64 (take ((32 + h.length) - 32) (drop 32 s)) → n ≡ xxh64 (take h.length (drop 32 s))
  value_hash_lem n e =
      let w : (32 + h.length) - 32 ≡ h.length = omega arith in
      rw w at e

  pub value_cut : length s - 32 < h.length → fault 7 ≡ found_unless (lowest (value_rows s)) h
  unfolding value_rows lowest
  value_cut l = rw (length_field, lt-ltb (length s - 32) h.length l)

  pub value_differs : h.length ≤ length s - 32 → (n : ℕ) → n ≡ xxh64 (take ((32 + h.length) - 32) (drop 32 s)) → (h.hash ≡ n → ⊥) → fault 8 ≡ found_unless (lowest (value_rows s)) h
  unfolding value_rows lowest
  value_differs l n e d =
      rw (length_field, hash_field, le-ltb (length s - 32) h.length l, ne_eqb h.hash (xxh64 (take h.length (drop 32 s))) (λ q. d (q ∙ sym (value_hash_lem n e))))

  pub value_agrees : h.length ≤ length s - 32 → (n : ℕ) → n ≡ xxh64 (take ((32 + h.length) - 32) (drop 32 s)) → h.hash ≡ n → found h ≡ found_unless (lowest (value_rows s)) h
  unfolding value_rows lowest
  value_agrees l n e q =
      rw (length_field, hash_field, le-ltb (length s - 32) h.length l, eq-eqb h.hash (xxh64 (take h.length (drop 32 s))) (q ∙ value_hash_lem n e))
