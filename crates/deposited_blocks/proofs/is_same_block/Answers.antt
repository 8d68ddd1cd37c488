-- `deposited_blocks::is_same_block` meets its contract: what it answers is the definition's, and the bytes are the theorem's.
use Rattle.std.proofs.Common.{ℕ, List, get_or, Fits, w8}
use mathlib.Core.Bool.{◌&&◌}
use Rattle.std.specs.Prelude.{None}
use mathlib.Core.Path.{sym, subst}
use Rattle.slices.specs.Bytes.{AllBytes}
use Rattle.deposited_blocks.proofs.Told.{Answers, answers, no_first}
use Rattle.deposited_blocks.proofs.is_same_block.Goals as goal

-- what is lent is bytes
all_bytes : (s : List ℕ) → ((k : ℕ) → Fits w8 (get_or s k 0)) → AllBytes s
all_bytes s fits = record { below = λ k. (fits k).fits }

pub returns-in_default-clause-value : goal.returns-in_default-clause-value
returns-in_default-clause-value c =
    (no_first _ _ (all_bytes _ c.type_inv.first) (all_bytes _ c.type_inv.second) _ _ c.in_default.ensures).0

pub returns-in_default-clause-bytes : goal.returns-in_default-clause-bytes
returns-in_default-clause-bytes c =
    (no_first _ _ (all_bytes _ c.type_inv.first) (all_bytes _ c.type_inv.second) _ _ c.in_default.ensures).1

pub returns-in_default-deposited_block-clause-value : goal.returns-in_default-deposited_block-clause-value
returns-in_default-deposited_block-clause-value c =
    (answers _ _ (all_bytes _ c.type_inv.first) (all_bytes _ c.type_inv.second) _ _ _ None c.in-Some.ensures c.in_default-deposited_block.ensures).0

pub returns-in_default-deposited_block-clause-bytes : goal.returns-in_default-deposited_block-clause-bytes
returns-in_default-deposited_block-clause-bytes c =
    (answers _ _ (all_bytes _ c.type_inv.first) (all_bytes _ c.type_inv.second) _ _ _ None c.in-Some.ensures c.in_default-deposited_block.ensures).1

pub returns : goal.returns
returns c =
    let e = subst (Answers _ _ (all_bytes _ c.type_inv.first) (all_bytes _ c.type_inv.second) _ _) (sym (λ i. c.same_texts.ensures i && c.same_part.ensures i))
    (answers _ _ (all_bytes _ c.type_inv.first) (all_bytes _ c.type_inv.second) _ _ _ _ c.in-Some.ensures c.in-Some-deposited_block.ensures) in
    record { value = e.0; bytes = e.1 }
