-- `deposit::keep_rules` meets its contract, rule by rule.
use Rattle.deposit.proofs.Rules.{breaks_23, breaks_24, breaks_25, breaks_26, breaks_27, breaks_28, keeps_all}
use Rattle.deposit.proofs.keep_rules.Goals as goal

pub returns-then-not-all_short : goal.returns-then-not-all_short
returns-then-not-all_short c =
    breaks_23 _ _ _ _ _ (rw (c.all_short-2.ensures, c.all_short.ensures) at c.if-not-all_short.true)

pub returns-then-not-header_keys_are_given-part_keys_are_given : goal.returns-then-not-header_keys_are_given-part_keys_are_given
returns-then-not-header_keys_are_given-part_keys_are_given c =
    let k23 = rw (c.all_short-2.ensures, c.all_short.ensures) at c.if-not-all_short.false in
    breaks_24 _ _ _ _ _ k23 (rw (c.part_keys_are_given.ensures, c.header_keys_are_given.ensures) at c.if-not-header_keys_are_given-part_keys_are_given.true)

pub returns-then-not-header_is_in_order : goal.returns-then-not-header_is_in_order
returns-then-not-header_is_in_order c =
    let k23 = rw (c.all_short-2.ensures, c.all_short.ensures) at c.if-not-all_short.false in
    let k24 = rw (c.part_keys_are_given.ensures, c.header_keys_are_given.ensures) at c.if-not-header_keys_are_given-part_keys_are_given.false in
    breaks_25 _ _ _ _ _ k23 k24 (rw c.header_is_in_order.ensures at c.if-not-header_is_in_order.true)

pub returns-then-not-is_block_plain : goal.returns-then-not-is_block_plain
returns-then-not-is_block_plain c =
    let k23 = rw (c.all_short-2.ensures, c.all_short.ensures) at c.if-not-all_short.false in
    let k24 = rw (c.part_keys_are_given.ensures, c.header_keys_are_given.ensures) at c.if-not-header_keys_are_given-part_keys_are_given.false in
    let k25 = rw c.header_is_in_order.ensures at c.if-not-header_is_in_order.false in
    breaks_26 _ _ _ _ _ k23 k24 k25 (rw c.is_block_plain.ensures at c.if-not-is_block_plain.true)

pub returns-then-not-is_spare_zero : goal.returns-then-not-is_spare_zero
returns-then-not-is_spare_zero c =
    let k23 = rw (c.all_short-2.ensures, c.all_short.ensures) at c.if-not-all_short.false in
    let k24 = rw (c.part_keys_are_given.ensures, c.header_keys_are_given.ensures) at c.if-not-header_keys_are_given-part_keys_are_given.false in
    let k25 = rw c.header_is_in_order.ensures at c.if-not-header_is_in_order.false in
    let k26 = rw c.is_block_plain.ensures at c.if-not-is_block_plain.false in
    breaks_27 _ _ _ _ _ k23 k24 k25 k26 (rw c.is_spare_zero.ensures at c.if-not-is_spare_zero.true)

pub returns-then-not-is_bucket_name : goal.returns-then-not-is_bucket_name
returns-then-not-is_bucket_name c =
    let k23 = rw (c.all_short-2.ensures, c.all_short.ensures) at c.if-not-all_short.false in
    let k24 = rw (c.part_keys_are_given.ensures, c.header_keys_are_given.ensures) at c.if-not-header_keys_are_given-part_keys_are_given.false in
    let k25 = rw c.header_is_in_order.ensures at c.if-not-header_is_in_order.false in
    let k26 = rw c.is_block_plain.ensures at c.if-not-is_block_plain.false in
    let k27 = rw c.is_spare_zero.ensures at c.if-not-is_spare_zero.false in
    breaks_28 _ _ _ _ _ k23 k24 k25 k26 k27 (rw c.is_bucket_name.ensures at c.if-not-is_bucket_name.true)

pub returns : goal.returns
returns c =
    let k23 = rw (c.all_short-2.ensures, c.all_short.ensures) at c.if-not-all_short.false in
    let k24 = rw (c.part_keys_are_given.ensures, c.header_keys_are_given.ensures) at c.if-not-header_keys_are_given-part_keys_are_given.false in
    let k25 = rw c.header_is_in_order.ensures at c.if-not-header_is_in_order.false in
    let k26 = rw c.is_block_plain.ensures at c.if-not-is_block_plain.false in
    let k27 = rw c.is_spare_zero.ensures at c.if-not-is_spare_zero.false in
    keeps_all _ _ _ _ _ k23 k24 k25 k26 k27 (rw c.is_bucket_name.ensures at c.if-not-is_bucket_name.false)
