-- The fields end to end.
use mathlib.Core.Path.{refl}
use native.Mathlib.Omega.{arith}
use lib.ListN.{length-append}
use Rattle.endian.specs.Numbers.{length_big_bytes}
use Rattle.writer.specs.Putting.{field_bytes}
use Rattle.writer.proofs.Chains.{puts_both}
use Rattle.writer.proofs.put_fields.Goals as goal

pub returns-clause-puts : goal.returns-clause-puts
unfolding field_bytes
returns-clause-puts c =
    let at-put-number6 = c in
    let at-put-number5 = at-put-number6 in
    let at-put-number4 = at-put-number5 in
    let at-put-number3 = at-put-number4 in
    let at-put-number2 = at-put-number3 in
    let at-put-number = at-put-number2 in
    let entry = at-put-number in
    let fits = entry.requires in
    let a = puts_both _ _ refl at-put-number.put_number-length.ensures.puts at-put-number2.put_number-hash.ensures.puts (simp (length-append, length_big_bytes) (omega (arith, fits))) in
    let b = puts_both _ _ refl a at-put-number3.put_number-version.ensures.puts (simp (length-append, length_big_bytes) (omega (arith, fits))) in
    let d = puts_both _ _ refl b at-put-number4.put_number-tag.ensures.puts (simp (length-append, length_big_bytes) (omega (arith, fits))) in
    let e = puts_both _ _ refl d at-put-number5.put_number-hash_type.ensures.puts (simp (length-append, length_big_bytes) (omega (arith, fits))) in
    let f = puts_both _ _ refl e at-put-number6.put_number-spare.ensures.puts (simp (length-append, length_big_bytes) (omega (arith, fits))) in
    let g = puts_both _ _ refl f c.put_number.ensures.puts (simp (length-append, length_big_bytes) (omega (arith, fits))) in
    g

pub returns-clause-value : goal.returns-clause-value
unfolding field_bytes
returns-clause-value c =
    let at-put-number6 = c in
    let at-put-number5 = at-put-number6 in
    let at-put-number4 = at-put-number5 in
    let at-put-number3 = at-put-number4 in
    let at-put-number2 = at-put-number3 in
    let at-put-number = at-put-number2 in
    omega (arith, at-put-number.put_number-length.ensures.value, at-put-number2.put_number-hash.ensures.value, at-put-number3.put_number-version.ensures.value, at-put-number4.put_number-tag.ensures.value, at-put-number5.put_number-hash_type.ensures.value, at-put-number6.put_number-spare.ensures.value, c.put_number.ensures.value)
