-- `block_of_byte::find_in` meets its contract: the blocks of the entry that holds the byte are walked.
use borrow.Author.Tests.{not-true, not-false}
use Rattle.block_of_byte.proofs.Walking.{starts_before, held_stands, not_counted, offset_in, block_here, no_block_here, entry_found, block_found}
use Rattle.block_of_byte.proofs.find_in.Goals as goal

pub returns-then-not-held-clause-result_value : goal.returns-then-not-held-clause-result_value
returns-then-not-held-clause-result_value c =
    let a = c in
    not_counted _ _ _ a.requires _ (not-true _ c.if-not-held.true)

pub returns-then-not-held-clause-inside : goal.returns-then-not-held-clause-inside
returns-then-not-held-clause-inside c =
    let a = c in
    entry_found _ _ _ (held_stands _ _ _ a.requires)

pub overflow_sub-byte : goal.overflow_sub-byte
overflow_sub-byte c = let a = c in starts_before _ _ _ a.requires

pub block_in-requires : goal.block_in-requires
block_in-requires c = let a = c in offset_in _ _ _ a.requires (not-false _ c.if-not-held.false)

pub returns-in-Some-clause-result_value : goal.returns-in-Some-clause-result_value
returns-in-Some-clause-result_value c =
    let b = c in
    let o = b in
    let a = o in
    block_here _ _ _ a.requires (not-false _ o.if-not-held.false) _ _ b.block_in.ensures _ c.in-Some.is

pub returns-in-Some-clause-inside : goal.returns-in-Some-clause-inside
returns-in-Some-clause-inside c =
    let b = c in
    let o = b in
    let a = o in
    block_found _ _ _ _ (held_stands _ _ _ a.requires)

pub returns-in-None-clause-result_value : goal.returns-in-None-clause-result_value
returns-in-None-clause-result_value c =
    let b = c in
    let o = b in
    let a = o in
    no_block_here _ _ _ a.requires (not-false _ o.if-not-held.false) _ _ b.block_in.ensures c.in-None.is

pub returns-in-None-clause-inside : goal.returns-in-None-clause-inside
returns-in-None-clause-inside c =
    let b = c in
    let o = b in
    let a = o in
    entry_found _ _ _ (held_stands _ _ _ a.requires)
