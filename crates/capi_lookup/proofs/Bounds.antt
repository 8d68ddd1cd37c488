-- The place that a lookup's refusal tells, of the pack or of a record, is within the limit on a pack's length: a record starts inside the pack.
use Prim.Native.Nat.{ℕ, ◌≤◌}
use mathlib.Core.List.{List, map, Memᴰ}
use mathlib.Core.Logic.{⊎_elim}
use mathlib.Core.Path.{◌≡◌, refl, ap, ◌∙◌}
use native.Mathlib.Omega.{arith}
use Rattle.pack.specs.Reading.{reading}
use Rattle.pack.specs.Bounds.{Bounded, reading_bounded}
use Rattle.current_version.specs.Current.{Placed, placed, refused_at, lookup}
use Rattle.current_version.specs.Exactly.{FirstUnreadable}
use Rattle.current_version.proofs.Exactly.{lookup_exactly}

pub lookup_bounded : (limit : ℕ) (s bucket object : List ℕ) (n p : ℕ) → lookup limit s bucket object ≡ refused_at n p → p ≤ limit
lookup_bounded limit s bucket object n p e =
    let r = reading_bounded limit s in
    ⊎_elim (r.place n p) (λ u. unread r u.1) ((lookup_exactly limit s bucket object (refused_at n p)).0 e).1
  where
    unread : Bounded 0 limit (reading limit s) → FirstUnreadable (map (placed limit s) (reading limit s).entries) n p → p ≤ limit
    unread r u =
        let m : Memᴰ u.at (map (placed limit s) (reading limit s).entries) = rw u.cut (mathlib.Core.List.Memᴰ.append_right u.front (mathlib.Core.List.Memᴰ.head refl)) in
        let o = mathlib.Core.List.Memᴰ.of_map (placed limit s) (reading limit s).entries m in
        let place : o.0.start ≡ p = ap (λ (x : Placed). x.start) o.2 ∙ u.stands in
        omega (arith, r.starts o.0 o.1)
