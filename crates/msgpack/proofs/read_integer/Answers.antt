-- `msgpack::read_integer` meets its contract: an integer has 8 bytes at most, so its number is read.
use mathlib.Core.Path.{◌≡◌, sym, ap, ◌∙◌}
use native.Mathlib.Omega.{arith}
use lib.ListN.{length, take, drop}
use Rattle.slices.specs.Bytes.{AllBytes}
use Rattle.endian.specs.Numbers.{big}
use Rattle.endian.specs.Places.{Within, read_number, read_missing}
use Rattle.msgpack.specs.Formats.{integer_kind}
use Rattle.msgpack.specs.Items.{Head, head_read}
use Rattle.msgpack.specs.Readers.{read_integer}
use Rattle.msgpack.specs.ReaderLaws.{IsWhole, is_whole_lem, has_byte}
use Rattle.msgpack.proofs.Integers.{integer_narrow, part_lt}
use Rattle.msgpack.proofs.Forms.{integer_form}
use Rattle.msgpack.proofs.read_integer.Goals as goal
use Rattle.msgpack.proofs.read_integer.Goals.{Then-is_whole}

bytes : (c : Then-is_whole) → AllBytes c.args.s.now
bytes c = record { below = λ k. (c.type_inv.s k).fits }

whole_head : (c : Then-is_whole) → IsWhole integer_kind (head_read c.head_at-h.result) (length c.args.s.now)
whole_head c = is_whole_lem integer_kind (head_read c.head_at-h.result) _ (sym c.is_whole.ensures ∙ c.if-is_whole.true)

-- so the number can be read
within : (c : Then-is_whole) → Within (length c.args.s.now) c.head_at-h.result.size c.head_at-h.result.count
within c =
    let is = c.head_at-h.ensures.is in
    record {
      narrow = omega (arith, ap (λ (h : Head). h.count) is, integer_narrow c.args.s.now (bytes c) (sym (ap (λ (h : Head). h.kind) is) ∙ (whole_head c).of_kind));
      inside = (whole_head c).inside;
    }

pub bounds-s-0 : goal.bounds-s-0
bounds-s-0 c =
    let t = c in
    has_byte t.args.s.now (rw (← t.head_at-h.ensures.is, (whole_head (goal.at.bounds-s-0 t).Then-is_whole).of_kind) (omega arith))

pub integer_of-requires : goal.integer_of-requires
integer_of-requires c =
    let w = (goal.at.integer_of-requires c).Then-is_whole in
    let n : c.in_ok-n.n ≡ big (take c.head_at-h.result.count (drop c.head_at-h.result.size c.args.s.now)) = read_number big _ _ _ (within w) _ _ (c.read_big.ensures) c.in_ok-n.was in
    ((within w).narrow, rw n (part_lt _ _ _ (bytes w) (within w).inside))

pub returns-in_ok-n-clause-result_value : goal.returns-in_ok-n-clause-result_value
unfolding read_integer
returns-in_ok-n-clause-result_value c =
    let n : c.in_ok-n.n ≡ big (take c.head_at-h.result.count (drop c.head_at-h.result.size c.args.s.now)) =
    read_number big _ _ _ (within (goal.at.returns-in_ok-n-clause-result_value c).Then-is_whole) _ _ (c.read_big.ensures) c.in_ok-n.was in
    c.integer_of.ensures.value ∙ rw (← c.head_at-h.ensures.is, sym c.is_whole.ensures ∙ c.if-is_whole.true, n)

pub returns-in_ok-n-clause-short : goal.returns-in_ok-n-clause-short
unfolding read_integer
returns-in_ok-n-clause-short c =
    let w = (goal.at.returns-in_ok-n-clause-short c).Then-is_whole in
    let h = c.head_at-h in
    let n : c.in_ok-n.n ≡ big (take h.result.count (drop h.result.size c.args.s.now)) = read_number big _ _ _ (within w) _ _ (c.read_big.ensures) c.in_ok-n.was in
    c.integer_of.ensures.form ∙ integer_form c.args.s.now (bytes w) (head_read h.result) h.ensures.is (sym c.is_whole.ensures ∙ c.if-is_whole.true) _ n

pub returns-in_err-n : goal.returns-in_err-n
returns-in_err-n c = absurd (read_missing big _ _ _ (within (goal.at.returns-in_err-n c).Then-is_whole) _ c.read_big.ensures c.in_err-n.was)

pub returns-else-is_whole-clause-result_value : goal.returns-else-is_whole-clause-result_value
unfolding read_integer
returns-else-is_whole-clause-result_value c =
    let nothing = sym c.is_whole.ensures ∙ c.if-is_whole.false in
    rw (← c.head_at-h.ensures.is, nothing)

pub returns-else-is_whole-clause-short : goal.returns-else-is_whole-clause-short
unfolding read_integer
returns-else-is_whole-clause-short c =
    let nothing = sym c.is_whole.ensures ∙ c.if-is_whole.false in
    rw (← c.head_at-h.ensures.is, nothing)
