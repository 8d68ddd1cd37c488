-- `words::tell` meets its contract: the words are stored exactly where there is room, and that is what is answered.
use Prim.Native.Nat.{ℕ, ◌+◌}
use mathlib.Core.Path.{◌≡◌, sym, ap, ◌∙◌}
use mathlib.Core.Bool.{true, false}
use native.Mathlib.Omega.{arith}
use lib.Dec.{leb}
use lib.ListN.{length}
use Rattle.words.proofs.tell.Goals as goal

pub returns-then-not-store-clause-answer : goal.returns-then-not-store-clause-answer
returns-then-not-store-clause-answer c =
    let called = c in
    let args = called.args in
    let none_before : length args.numbers.now ≡ 0 + length args.numbers.now = omega arith in
    let few : leb (length args.numbers.now) (length args.told.now) ≡ false
    = ap (λ (n : ℕ). leb n (length args.told.now)) none_before ∙ sym called.store.ensures.value ∙ c.if-not-store.true in
    rw (c.answer.ensures, few)

pub returns-then-not-store-clause-told : goal.returns-then-not-store-clause-told
returns-then-not-store-clause-told c =
    let called = c in
    called.store.ensures.told_after

pub returns-clause-answer : goal.returns-clause-answer
returns-clause-answer c =
    let called = c in
    let args = called.args in
    let none_before : length args.numbers.now ≡ 0 + length args.numbers.now = omega arith in
    let enough : leb (length args.numbers.now) (length args.told.now) ≡ true
    = ap (λ (n : ℕ). leb n (length args.told.now)) none_before ∙ sym called.store.ensures.value ∙ c.if-not-store.false in
    rw (c.answer-2.ensures, enough)

pub returns-clause-told : goal.returns-clause-told
returns-clause-told c =
    let called = c in
    called.store.ensures.told_after
