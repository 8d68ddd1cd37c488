-- `xxh64::xxh64` meets its contract. The accumulators of the stripes converge, or there are none; the finish takes what is left.
use Rattle.std.proofs.Common.{◌≡◌, ◌*◌, ◌/◌, length, drop, sym, ap, ◌∙◌, ap₂, mul_comm, arith}
use lib.Seq.{take-length}
use Rattle.slices.specs.Lists.{part_to_end}
use Rattle.xxh64.specs.Parts.{finish, xxh64_finish}
use Rattle.xxh64.proofs.Laws.{stripes_more, short_finish}
use Rattle.xxh64.proofs.xxh64.Goals as goal

pub slice_bounds-all-end : goal.slice_bounds-all-end
slice_bounds-all-end c = sym (ap length (take-length c.args.s.now))

pub finish-requires : goal.finish-requires
finish-requires c = omega (arith, ap length (take-length c.args.s.now), c.if-n-lt32.true)

pub returns-then-n-lt32 : goal.returns-then-n-lt32
returns-then-n-lt32 c =
    let s = c.args.s.now in
    c.finish.ensures ∙ ap (finish _ _) (take-length s) ∙ short_finish s c.if-n-lt32.true

pub stripes-requires : goal.stripes-requires
stripes-requires c = omega (arith, ap length (take-length c.args.s.now))

pub returns : goal.returns
returns c =
    let s = c.args.s.now in
    let r = c.stripes.ensures in
    let f = c.fresh.ensures in
    let many : length s / 32 ≡ 0 → ⊥ = λ e. omega (arith, c.if-n-lt32.false) in
    let whole = take-length s in
    c.finish-2.ensures
    ∙ ap₂ (λ acc t. finish acc (length s) t)
    (c.converge-acc.ensures
    ∙ stripes_more s (length s / 32) many (rw (whole, f.0) at r.acc1_value) (rw (whole, f.1) at r.acc2_value) (rw (whole, f.2) at r.acc3_value) (rw (whole, f.3) at r.acc4_value))
    (part_to_end (32 * (length s / 32)) s ∙ ap (λ n. drop n s) (mul_comm 32 (length s / 32)))
    ∙ xxh64_finish s
