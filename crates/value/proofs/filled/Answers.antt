-- `value::filled` meets its contract: what is left after the header is compared with the secondary length.
use mathlib.Core.Bool.{Bool, true, false, ◌||◌}
use mathlib.Core.Path.{◌≡◌, sym, ◌∙◌}
use Rattle.std.proofs.lemmas.Result.{err_from_is_err_and}
use Rattle.std.specs.Prelude.{Option, None, Some}
use borrow.Author.Tests.{eq-eqb, ne_eqb}
use native.Mathlib.Omega.{arith}
use Rattle.slices.specs.Logic.{absurd_numbers}
use Rattle.refusals.specs.Limit.{pack_limit}
use Rattle.refusals.specs.Answers.{refused, granted}
use Rattle.msgpack.specs.Views.{repeats, byte_view}
use Rattle.value.specs.Header.{secondary_key, header_keys, list_repeats, header_repeats, tested, header}
use Rattle.value.specs.declared.Told.{Told}
use lib.ListN.{take, length}
use lib.Seq.{length-take-le}
use Prim.Native.Nat.{ℕ, ◌+◌}
use Rattle.value.proofs.filled.Goals as goal
use Rattle.value.proofs.filled.Goals.{In_ok-told}

-- what the header's own keys add to what the list under `s` settled
told_once : (a b : Bool) (o : Option Told) (t : Told) → granted t ≡ tested b o → a ≡ false → tested (a || b) o ≡ granted t
told_once a b o t e n = rw n (sym e)

told_twice : (a b : Bool) (o : Option Told) (t : Told) → granted t ≡ tested b o → a ≡ true → tested (a || b) o ≡ refused 22
told_twice a b (Some u) t e n = rw n
told_twice a b None t e n = absurd_numbers (cc)

refused_so : (a b : Bool) (o : Option Told) (k : ℕ) → refused k ≡ tested b o → tested (a || b) o ≡ refused k
refused_so a b None k e = sym e
refused_so true true (Some u) k e = sym e
refused_so false true (Some u) k e = sym e
refused_so a false (Some u) k e = absurd_numbers (cc)

pub slice_bounds-header-end : goal.slice_bounds-header-end
slice_bounds-header-end c = sym (length-take-le _ _ c.requires.0)

pub header-requires : goal.header-requires
header-requires c = c.requires.1

-- what the header told
header_told : (c : In_ok-told) → granted c.in_ok-told.told
    ≡ tested (list_repeats byte_view (byte_view.under secondary_key (take c.args.n c.args.value.now)))
    (header pack_limit (take c.args.n c.args.value.now))
header_told c = c.in_ok-told.ensures

pub returns-then-repeated : goal.returns-then-repeated
unfolding header_repeats
returns-then-repeated c =
    let k = c in
    let a = k in
    rw (told_twice _ _ _ _ (header_told (goal.at.returns-then-repeated k).In_ok-told) (a.requires.1.repeated ∙ c.if-repeated.true))

pub returns-then-fills : goal.returns-then-fills
unfolding header_repeats
returns-then-fills c =
    let e = c in
    let k = e in
    let a = k in
    let t = k.in_ok-told.told in
    let is = c.if-fills.true in
    let l : a.args.n + t.secondary.len ≡ length a.args.value.now = omega (arith, a.requires.0, is) in
    rw (told_once _ _ _ _ (header_told (goal.at.returns-then-fills k).In_ok-told) (a.requires.1.repeated ∙ e.if-repeated.false), eq-eqb _ _ l)

pub returns-else-fills : goal.returns-else-fills
unfolding header_repeats
returns-else-fills c =
    let e = c in
    let k = e in
    let a = k in
    let t = k.in_ok-told.told in
    let l : a.args.n + t.secondary.len ≡ length a.args.value.now → ⊥ = λ q. c.if-fills.false (omega arith) in
    rw (told_once _ _ _ _ (header_told (goal.at.returns-else-fills k).In_ok-told) (a.requires.1.repeated ∙ e.if-repeated.false), ne_eqb _ _ l)

pub returns-in_err-told : goal.returns-in_err-told
unfolding header_repeats
returns-in_err-told c =
    let p = err_from_is_err_and c.from_residual.result c.from_residual.ensures.1 in
    rw (p.1, p.2, refused_so (repeats byte_view header_keys _) _ _ _ c.in_err-told.ensures)
