-- An identifier held by value: what its arrays and lengths come to, and the array that a text was copied into.
use Prim.Native.Nat.{ℕ, zero, suc, ◌-◌}
use mathlib.Core.Path.{◌≡◌, ap, ◌∙◌}
use mathlib.Core.List.{List, append-nil}
use native.Mathlib.Nat.{zero-add, sub-zero, zero-sub, suc-sub-suc}
use native.Mathlib.Omega.{arith}
use lib.ListN.{length, drop, replicate, length-replicate}
use Rattle.slices.specs.Overwriting.{overwritten}
use Rattle.identifier.specs.Identity.{identity}
use Rattle.held_identifier.specs.Held.{padded, held, zeros}
use Rattle.held_identifier.specs.declared.Identifier.{Identifier}

-- ---- a text in an array of zeros

drop_replicate : (k n : ℕ) → ◌≡◌ {A = List ℕ} (drop k (replicate n 0)) (replicate (n - k) 0)
drop_replicate zero n = rw sub-zero
drop_replicate (suc k) zero = rw zero-sub
drop_replicate (suc k) (suc n) = drop_replicate k n ∙ rw suc-sub-suc

pad_is : (n : ℕ) (s : List ℕ) → overwritten (replicate n 0) 0 s ≡ padded n s
unfolding overwritten padded
pad_is n s = rw (zero-add, drop_replicate)

pad_whole : (n : ℕ) (s : List ℕ) → length s ≡ n → padded n s ≡ s
unfolding padded
pad_whole n s h = let z : n - length s ≡ 0 = omega arith in rw (z, append-nil s)

pub zeros_lengths : (z : Identifier) → z ≡ zeros → (length z.ulid ≡ 26) × (length z.bucket ≡ 63) × (length z.object ≡ 1024)
unfolding zeros
zeros_lengths z e = (ap (λ y. length y.ulid) e, ap (λ y. length y.bucket) e, ap (λ y. length y.object) e ∙ length-replicate {A = ℕ} 1024 0)

pub hold_is : (z : Identifier) (u b o u' b' o' : List ℕ) → z ≡ zeros → length u ≡ 26
    → u' ≡ overwritten z.ulid 0 u → b' ≡ overwritten z.bucket 0 b → o' ≡ overwritten z.object 0 o
    → record { ulid = u'; bucket = b'; bucketlen = length b; object = o'; objectlen = length o } ≡ held (identity u b o)
unfolding zeros held
hold_is z u b o u' b' o' ez h eu eb eo =
    let p : u' ≡ u = eu ∙ ap (λ y. overwritten y.ulid 0 u) ez ∙ pad_is 26 u ∙ pad_whole 26 u h in
    let q : b' ≡ padded 63 b = eb ∙ ap (λ y. overwritten y.bucket 0 b) ez ∙ pad_is 63 b in
    let r : o' ≡ padded 1024 o = eo ∙ ap (λ y. overwritten y.object 0 o) ez ∙ pad_is 1024 o in
    rw (p, q, r)
