-- `capi_pipe::tell` meets its contract: nothing is written before there is room.
use mathlib.Core.Bool.{true, false}
use Prim.Native.Nat.{◌+◌}
use mathlib.Core.Path.{◌≡◌, refl, sym, ap, ◌∙◌}
use native.Mathlib.Omega.{arith}
use lib.Dec.{leb}
use lib.ListN.{length}
use borrow.Author.Rules.{rules}
use Rattle.capi_pipe.proofs.tell.Goals as goal

pub returns-then-not-store-clause-answer : goal.returns-then-not-store-clause-answer
returns-then-not-store-clause-answer c =
    let stored = c.store.ensures in
    let six : length c.args.row ≡ 6 = search rules in
    let short : leb 6 (length c.args.told.now) ≡ false = ap (λ n. leb n (length c.args.told.now)) {x = 6} {y = 0 + length c.args.row} (omega arith) ∙ sym stored.value ∙ c.if-not-store.true in
    rw short c.answer.ensures

pub returns-then-not-store-clause-state : goal.returns-then-not-store-clause-state
returns-then-not-store-clause-state c =
    let stored = c.store.ensures in
    let six : length c.args.row ≡ 6 = search rules in
    let short : leb 6 (length c.args.told.now) ≡ false = ap (λ n. leb n (length c.args.told.now)) {x = 6} {y = 0 + length c.args.row} (omega arith) ∙ sym stored.value ∙ c.if-not-store.true in
    rw short refl

pub returns-then-not-store-clause-told : goal.returns-then-not-store-clause-told
returns-then-not-store-clause-told c =
    let stored = c.store.ensures in
    let six : length c.args.row ≡ 6 = search rules in
    stored.told_after

pub returns-clause-answer : goal.returns-clause-answer
returns-clause-answer c =
    let stored = c.store.ensures in
    let six : length c.args.row ≡ 6 = search rules in
    let long : leb 6 (length c.args.told.now) ≡ true = ap (λ n. leb n (length c.args.told.now)) {x = 6} {y = 0 + length c.args.row} (omega arith) ∙ sym stored.value ∙ c.if-not-store.false in
    rw long c.answer-2.ensures

pub returns-clause-state : goal.returns-clause-state
returns-clause-state c =
    let stored = c.store.ensures in
    let six : length c.args.row ≡ 6 = search rules in
    let long : leb 6 (length c.args.told.now) ≡ true = ap (λ n. leb n (length c.args.told.now)) {x = 6} {y = 0 + length c.args.row} (omega arith) ∙ sym stored.value ∙ c.if-not-store.false in
    rw long c.write_state.ensures

pub returns-clause-told : goal.returns-clause-told
returns-clause-told c =
    let stored = c.store.ensures in
    let six : length c.args.row ≡ 6 = search rules in
    stored.told_after
