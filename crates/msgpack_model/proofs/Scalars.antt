-- The scalar that stands at the front of a list, from its head: what an encoding's value is, and that it is encoded there.
use Rattle.std.specs.Prelude.{ℕ, ◌+◌, ◌≤◌, List, ◌++◌, ◌≡◌, refl, length, take, drop}
use Rattle.std.proofs.Common.{sym, ap, ◌∙◌, not-suc-le-zero, arith, take-append-drop}
use Rattle.slices.specs.Bytes.{AllBytes}
use Rattle.msgpack.specs.Formats.{unused_kind}
use Rattle.msgpack.specs.Items.{whole, head_of, pass_item}
use Rattle.msgpack.specs.PassingLaws.{flat_whole}
use Rattle.msgpack_model.specs.Values.{Value, depth}
use Rattle.msgpack_model.specs.Encoding.{Encodes, scalar, array, map}
use Rattle.msgpack_model.specs.Heads.{scalar_flat}
use Rattle.msgpack_model.proofs.Sound.{sound}
use Rattle.msgpack_model.specs.Scalars.{scalar_at, ScalarFront, flat_value, There}

-- ---- and back

flat_there : (s : List ℕ) (n : ℕ) (v : Value) (e : List ℕ) → e ≡ take n s → n ≤ length s → depth v ≤ 0 → Encodes v e → There s (scalar_at s)
flat_there s n v e q l d (scalar x) =
    let whole_list : e ++ drop n s ≡ s = ap (λ r. r ++ drop n s) q ∙ take-append-drop n s in
    let is : scalar_at s ≡ v = rw whole_list at (flat_value (scalar_flat x) (drop n s)) in
    record { size = n; within = l; encoded = rw (is, ← q) (scalar x) }
flat_there s n v e q l d (array x xs) = absurd (not-suc-le-zero d)
flat_there s n v e q l d (map x xs) = absurd (not-suc-le-zero d)

pub scalar_there : (s : List ℕ) → AllBytes s → ScalarFront s → There s (scalar_at s)
scalar_there s bytes f =
    let n : ℕ = (head_of s).size + (head_of s).count in
    let p : pass_item 0 s ≡ whole n
    = sym (flat_whole 0 s (head_of s) refl f.holds_none (λ (u : (head_of s).kind ≡ unused_kind). omega (arith, f.some_kind)) f.fits) in
    let x = sound 0 s n bytes p in
    flat_there s n x.value (take n s) refl f.fits x.shallow x.encoded
