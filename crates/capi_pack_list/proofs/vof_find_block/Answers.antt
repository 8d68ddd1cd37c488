-- `capi_pack_list::vof_find_block` meets its contract: each arm is how what was found is told.
use Rattle.std.specs.Prelude.{Ok}
use mathlib.Core.Path.{ap, ◌∙◌}
use native.Mathlib.Omega.{arith}
use Rattle.block_of_byte.specs.Answers.{found_of}
use Rattle.capi_pack_list.proofs.PackLists.{find_refused, found_nowhere, found_entry_lem, found_block_lem}
use Rattle.capi_pack_list.proofs.vof_find_block.Goals as goal

pub returns-in-Ok-Nowhere-clause-answer : goal.returns-in-Ok-Nowhere-clause-answer
returns-in-Ok-Nowhere-clause-answer c =
    let told = c in
    let find = told.find in
    let lemma = found_nowhere _ _ _ find.result find.ensures.result_value (told.in-Ok-Nowhere.is ∙ ap Ok told.in-Ok-Nowhere.field-0-is) in
    told.tell.ensures.answer ∙ lemma.0

pub returns-in-Ok-Nowhere-clause-told : goal.returns-in-Ok-Nowhere-clause-told
returns-in-Ok-Nowhere-clause-told c =
    let told = c in
    let find = told.find in
    let lemma = found_nowhere _ _ _ find.result find.ensures.result_value (told.in-Ok-Nowhere.is ∙ ap Ok told.in-Ok-Nowhere.field-0-is) in
    told.tell.ensures.told ∙ lemma.1

pub returns-in-Ok-Entry-clause-answer : goal.returns-in-Ok-Entry-clause-answer
returns-in-Ok-Entry-clause-answer c =
    let told = c in
    let known = told in
    let find = known.find in
    let lemma = found_entry_lem _ _ _ find.result find.ensures.result_value find.ensures.inside _ _ (known.in-Ok-Entry.is ∙ ap Ok known.in-Ok-Entry.field-0-is) in
    told.tell-in-Ok-Entry.ensures.answer ∙ lemma.0

pub returns-in-Ok-Entry-clause-told : goal.returns-in-Ok-Entry-clause-told
returns-in-Ok-Entry-clause-told c =
    let told = c in
    let known = told in
    let find = known.find in
    let lemma = found_entry_lem _ _ _ find.result find.ensures.result_value find.ensures.inside _ _ (known.in-Ok-Entry.is ∙ ap Ok known.in-Ok-Entry.field-0-is) in
    told.tell-in-Ok-Entry.ensures.told ∙ lemma.1

pub returns-in-Ok-Block-clause-answer : goal.returns-in-Ok-Block-clause-answer
returns-in-Ok-Block-clause-answer c =
    let told = c in
    let known = told in
    let find = known.find in
    let lemma = found_block_lem _ _ _ find.result find.ensures.result_value find.ensures.inside _ _ _ (known.in-Ok-Block.is ∙ ap Ok known.in-Ok-Block.field-0-is) in
    told.tell-in-Ok-Block.ensures.answer ∙ lemma.0

pub returns-in-Ok-Block-clause-told : goal.returns-in-Ok-Block-clause-told
returns-in-Ok-Block-clause-told c =
    let told = c in
    let known = told in
    let find = known.find in
    let lemma = found_block_lem _ _ _ find.result find.ensures.result_value find.ensures.inside _ _ _ (known.in-Ok-Block.is ∙ ap Ok known.in-Ok-Block.field-0-is) in
    told.tell-in-Ok-Block.ensures.told ∙ lemma.1

pub returns-in-Err : goal.returns-in-Err
returns-in-Err c =
    let find = c.find in
    let e = find_refused _ _ _ find.result find.ensures.result_value _ (ap (found_of _) c.in-Err.is) (omega (arith, c.from.ensures, c.from.type_inv)) in
    rw (c.answer.ensures, c.from.ensures) (record { answer = e.0; told = e.1 })
