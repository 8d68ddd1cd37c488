-- The header, behind which the value stands already.
use Prim.Native.Nat.{ℕ, ◌+◌, ◌-◌, ◌≤◌}
use mathlib.Core.List.{List, ◌++◌, append_assoc, append-nil}
use mathlib.Core.Path.{◌≡◌, refl, ap, ◌∙◌}
use native.Mathlib.Omega.{arith}
use lib.ListN.{length, take, drop, length-append}
use Rattle.slices.specs.Overwriting.{overwritten, overwritten_there}
use Rattle.endian.specs.Numbers.{big_bytes}
use Rattle.xxh64.specs.Xxh64.{xxh64}
use Rattle.tlv.specs.Layout.{fields, bytes_of, head, layout, length_front, length_head}
use Rattle.tlv.specs.Found.{made}
use Rattle.tlv.specs.declared.RecordHeader.{RecordHeader}
use Rattle.writer.specs.Putting.{Puts, field_bytes}
use Rattle.writer.specs.Writing.{record_of}
use Rattle.writer.proofs.Chains.{puts_both, overwritten_before}

-- bytes 0..29
front_fields : (tag : ℕ) (value : List ℕ) → field_bytes (made tag value) ≡ bytes_of (fields (record_of tag value))
unfolding field_bytes made bytes_of fields
front_fields tag value = simp (append_assoc, append-nil)

-- with the hash of their bytes, where they stand
pub header_put : (s t u : List ℕ) (at n m : ℕ) (h : RecordHeader) (tag hash : ℕ) (value : List ℕ) → h ≡ made tag value → at + 32 ≤ length s
    → Puts s at (field_bytes h) t n → n ≡ at + 30 → hash ≡ xxh64 (take (n - at) (drop at t)) → Puts t n (big_bytes 2 hash) u m
    → u ≡ overwritten s at (head (record_of tag value))
unfolding head
header_put s t u at n m h tag hash value e fits p k x q =
    let b = bytes_of (fields (record_of tag value)) in
    let f : field_bytes h ≡ b = ap field_bytes e ∙ front_fields tag value in
    let l : length (field_bytes h) ≡ 30 = ap length f ∙ length_front (record_of tag value) in
    let r : n - at ≡ length (field_bytes h) = omega arith in
    let there : take (n - at) (drop at t) ≡ field_bytes h = rw (p.left, r) (overwritten_there s at (field_bytes h) (omega arith)) in
    let g : hash ≡ xxh64 b = x ∙ ap xxh64 (there ∙ f) in
    let same : field_bytes h ++ big_bytes 2 hash ≡ b ++ big_bytes 2 (xxh64 b) = rw (f, g) refl in
    let whole : at + length (b ++ big_bytes 2 (xxh64 b)) ≤ length s = rw (length_head (record_of tag value)) fits in
    (puts_both (field_bytes h) (big_bytes 2 hash) same p q whole).left

-- the value, and then the header in front of it, are the record
pub record_put : (s t u : List ℕ) (used n tag : ℕ) (value : List ℕ) → used + (32 + length value) ≤ length s
    → Puts s (used + 32) value t n → u ≡ overwritten t used (head (record_of tag (take (length value) (drop (used + 32) t))))
    → u ≡ overwritten s used (layout (record_of tag value))
unfolding layout
record_put s t u used n tag value fits p e =
    let r = record_of tag value in
    let l : length (head r) ≡ 32 = length_head r in
    let there : take (length value) (drop (used + 32) t) ≡ value = rw p.left (overwritten_there s (used + 32) value (omega arith)) in
    let w : t ≡ overwritten s (used + length (head r)) value = rw l p.left in
    e ∙ ap (λ (v : List ℕ). overwritten t used (head (record_of tag v))) there ∙ ap (λ (x : List ℕ). overwritten x used (head r)) w
    ∙ overwritten_before s used (head r) value (rw (length-append, l) fits)
