-- Too deep, both ways: the definition says so exactly where the relation does.
use Prim.Native.Nat.{ℕ}
use Rattle.std.specs.Prelude.{List, ◌++◌, ◌≡◌}
use Rattle.std.proofs.Common.{append_assoc}
use Rattle.msgpack_model.specs.Encoding.{TooDeep, here, inside}

-- ---- every encoding of a value that is deeper than the allowance

-- what follows plays no part
pub deep_more : {a : ℕ} {s : List ℕ} → TooDeep a s → (t : List ℕ) → TooDeep a (s ++ t)
deep_more (here {h = h} x rest) t = rw append_assoc (here x (rest ++ t))
deep_more (inside {h = h} {e = e} {t = r} x xs d l y) t =
    let joined : (h ++ (e ++ r)) ++ t ≡ h ++ (e ++ (r ++ t)) = simp append_assoc in
    rw joined (inside x xs d l (deep_more y t))
