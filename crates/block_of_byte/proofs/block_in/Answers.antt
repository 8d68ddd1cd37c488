-- `block_of_byte::block_in` meets its contract: what all blocks tell is what those from the k-th on tell, after the block found before them.
use Prim.Native.Nat.{ℕ}
use Rattle.std.specs.Prelude.{Option, Some}
use mathlib.Core.Path.{◌≡◌, sym, ap, ◌∙◌}
use native.Mathlib.Omega.{arith}
use lib.ListN.{drop}
use Rattle.msgpack.specs.Readers.{integer_read}
use Rattle.value.specs.Fields.{read_natural}
use Rattle.block_of_byte.specs.Answers.{moved_by, at_most}
use Rattle.block_of_byte.proofs.Walking as walking
use Rattle.block_of_byte.proofs.Walking.{delta_read, length_there, length_fits, source_fits, stops, goes_on, ends, walk_starts, block_is}
use Rattle.block_of_byte.proofs.block_in.Goals as goal
use Rattle.block_of_byte.proofs.block_in.Goals.{After-length_at, After-source_length, In_ok-n, In_ok-len}

pub overflow_sub-last : goal.overflow_sub-last
overflow_sub-last c = omega (arith, c.requires.some_block)

pub loop-k-init : goal.loop-k-init
loop-k-init c = walk_starts _ _ _ _ _ c.requires

-- the length of a block
read : (c : After-length_at)
    → read_natural (drop c.loop-k.at c.args.part.now) ≡ c.length_at.result
read c =
    let l = c.loop-k in
    walking.length_read_lem _ _ _ _ _ _ _ _ _ _ _ _ _ _ _ _ _ l.invariant (omega arith) _ c.length_at.ensures

read-2 : (c : In_ok-len)
    → read_natural (drop c.loop-k.at c.args.part.now) ≡ c.length_at.result
read-2 c =
    let l = c.loop-k in
    walking.length_read_lem _ _ _ _ _ _ _ _ _ _ _ _ _ _ _ _ _ l.invariant (omega arith) _ c.length_at.ensures

length_read_lem : (c : In_ok-len)
    → read_natural (drop c.loop-k.at c.args.part.now) ≡ Some c.in_ok-len.len
length_read_lem c = read-2 c ∙ c.in_ok-len.was

pub returns-in_err-len : goal.returns-in_err-len
returns-in_err-len c =
    let l = c.loop-k in
    absurd (length_there _ _ _ _ _ _ _ _ _ _ _ _ _ _ _ _ _ l.invariant (omega arith) (read (goal.at.returns-in_err-len c).After-length_at ∙ c.in_err-len.was))

pub returns-in_err-moved : goal.returns-in_err-moved
returns-in_err-moved c =
    let l = c.loop-k in
    let nothing = sym (ap integer_read c.in_err-moved.was) ∙ c.delta_at.ensures in
    rw c.from_residual-in_err-moved.ensures
    (stops _ _ _ _ _ _ _ _ _ _ _ _ _ _ _ _ _ l.invariant (omega arith) (ap (λ d. at_most l.source (moved_by c.args.stride d)) nothing) ∙ sym (block_is _ _ _ _ _ c.requires))

abbrev source_told-2 : After-source_length → Option ℕ
source_told-2 l =
    let a = l.args in
    at_most l.loop-k.source (moved_by a.stride (delta_read a.part.now a.e.deltas l.loop-k.k l.loop-k.delta))

moved : (c : After-source_length) → c.source_length.result ≡ source_told-2 c
moved c =
    let l = c in
    c.source_length.ensures ∙ ap (λ d. at_most l.loop-k.source (moved_by l.args.stride d)) (sym (ap integer_read c.in_ok-moved.was) ∙ c.delta_at.ensures)

abbrev source_told-3 : In_ok-n → Option ℕ
source_told-3 l =
    let a = l.args in
    at_most l.loop-k.source (moved_by a.stride (delta_read a.part.now a.e.deltas l.loop-k.k l.loop-k.delta))

moved-2 : (c : In_ok-n) → c.source_length.result ≡ source_told-3 c
moved-2 c =
    let l = c in
    c.source_length.ensures ∙ ap (λ d. at_most l.loop-k.source (moved_by l.args.stride d)) (sym (ap integer_read c.in_ok-moved.was) ∙ c.delta_at.ensures)

source_told_lem : (c : In_ok-n) → Some c.in_ok-n.n ≡ source_told-3 c
source_told_lem c = sym c.in_ok-n.was ∙ moved-2 c

pub returns-in_err-n : goal.returns-in_err-n
returns-in_err-n c =
    let d = c in
    let k = d in
    let l = k.loop-k in
    rw c.from_residual-in_err-n.ensures
    (stops _ _ _ _ _ _ _ _ _ _ _ _ _ _ _ _ _ l.invariant (omega arith) (sym c.in_err-n.was ∙ moved (goal.at.returns-in_err-n d).After-source_length)
    ∙ sym (block_is _ _ _ _ _ k.requires))

pub overflow_add-start : goal.overflow_add-start
overflow_add-start c =
    let k = c in
    let l = k.loop-k in
    omega (arith, length_fits _ _ _ _ _ _ _ _ _ _ _ _ _ _ _ _ _ l.invariant (omega arith) _ (length_read_lem (goal.at.overflow_add-start k).In_ok-len), l.invariant.end)

pub overflow_sub-stored : goal.overflow_sub-stored
overflow_sub-stored c =
    let k = c in
    let l = k.loop-k in
    length_fits _ _ _ _ _ _ _ _ _ _ _ _ _ _ _ _ _ l.invariant (omega arith) _ (length_read_lem (goal.at.overflow_sub-stored k).In_ok-len)

pub overflow_sub-source : goal.overflow_sub-source
overflow_sub-source c =
    let n = c in
    let l = n.loop-k in
    source_fits _ _ _ _ _ _ _ _ _ _ _ _ _ _ _ _ _ l.invariant (omega arith) _ (source_told_lem (goal.at.overflow_sub-source n).In_ok-n)

pub loop-k-preserved : goal.loop-k-preserved
loop-k-preserved c =
    let n = c in
    let k = n in
    let l = k.loop-k in
    let b = c.saturating_sub-behind.ensures in
    rw b
    (goes_on _ _ _ _ _ _ _ _ _ _ _ _ _ _ _ _ _ l.invariant (omega arith) _ _ (length_read_lem (goal.at.loop-k-preserved k).In_ok-len) (source_told_lem (goal.at.loop-k-preserved n).In_ok-n) _ c.noted-found.ensures _ _
    c.after-at.ensures c.delta_after-delta.ensures)

pub returns : goal.returns
returns c =
    let a = c in
    let l = a.loop-k in
    ends _ _ _ _ _ _ _ _ _ _ _ _ _ _ _ _ _ l.invariant (omega arith) c.noted.result c.noted.ensures ∙ sym (block_is _ _ _ _ _ a.requires)
