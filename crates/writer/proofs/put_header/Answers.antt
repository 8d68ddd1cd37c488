-- The fields, and then the hash of their bytes where they stand.
use Prim.Native.Nat.{ℕ, ◌+◌, ◌-◌}
use mathlib.Core.Path.{◌≡◌, ap, ◌∙◌}
use native.Mathlib.Omega.{arith}
use lib.ListN.{take, drop}
use Rattle.tlv.specs.Found.{made}
use Rattle.writer.proofs.Headers.{header_put}
use Rattle.writer.proofs.put_header.Goals as goal

pub returns : goal.returns
returns c =
    let at-xxh64 = c in
    let at-put-fields = at-xxh64 in
    let at-make = at-put-fields in
    let entry = at-make in
    let a = entry.args in
    let s = drop (a.at + 32) a.out.now in
    let k : a.at + 32 + a.value - (a.at + 32) ≡ a.value = omega arith in
    let made-there = at-make.make-h.ensures ∙ ap (λ (n : ℕ). made a.tag (take n s)) k in
    header_put _ _ _ _ _ _ _ _ _ (take a.value s) made-there (omega arith) at-put-fields.put_fields-hash.ensures.puts at-put-fields.put_fields-hash.ensures.value at-xxh64.xxh64-n.ensures c.put_number.ensures.puts
