-- `capi_lookup::tell` meets its contract: nothing is written before both have room.
use borrow.Author.Tests.{not-true, not-false}
use native.Mathlib.Omega.{arith}
use Rattle.capi_lookup.proofs.Versions.{few_words, few_bytes, both_told}
use Rattle.std.proofs.Common.{ap, not}
use Rattle.capi_lookup.proofs.tell.Goals as goal

pub returns-then-told-lt4 : goal.returns-then-told-lt4
returns-then-told-lt4 c =
    let e = few_words c.args.told.now c.args.ulid.now c.args.row c.args.text.now (omega arith) in
    rw c.answer.ensures (record { answer = e.0; told = e.1.0; ulid = e.1.1 })

pub returns-then-not-write_bytes : goal.returns-then-not-write_bytes
returns-then-not-write_bytes c =
    let w = c.write_bytes in
    let e =
    few_bytes c.args.told.now c.args.ulid.now c.args.row c.args.text.now (omega arith)
    (not-true _ (rw w.ensures.value at (ap not c.if-not-write_bytes.true))) in
    rw (c.answer-then-not-write_bytes.ensures, w.ensures.out_after) (record { answer = e.0; told = e.1.0; ulid = e.1.1 })

pub returns : goal.returns
returns c =
    let w = c.write_bytes in
    let e =
    both_told c.args.told.now c.args.ulid.now c.args.row c.args.text.now (omega arith) (omega arith)
    (not-false _ (rw w.ensures.value at (ap not c.if-not-write_bytes.false))) in
    rw (c.answer-2.ensures, c.store.ensures.told_after, w.ensures.out_after) (record { answer = e.0; told = e.1.0; ulid = e.1.1 })
