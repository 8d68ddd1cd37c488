-- `capi_pack::scan::vof_find_hash` meets its contract: above 2^34 words it refuses, and else the word is what was found, with no bit cut off.
use mathlib.Core.Path.{sym, ap, ◌∙◌}
use Prim.Native.Nat.{ℕ, ◌%◌, ◌^◌}
use native.Mathlib.Omega.{arith}
use Rattle.words.specs.Words.{answer, answer_whole}
use Rattle.capi_pack.specs.Search.{search_word, search_refused, search_within, search_word_most}
use Rattle.capi_pack.proofs.scan.vof_find_hash.Goals as goal

pub returns-then-told-gt-SEARCHED : goal.returns-then-told-gt-SEARCHED
returns-then-told-gt-SEARCHED c =
    let b = c in
    c.answer.ensures ∙ sym (search_refused b.args.hash b.args.told.now c.if-told-gt-SEARCHED.true)

pub returns : goal.returns
returns c =
    let b = c in
    let told = b.args.told.now in
    let most = search_word_most b.args.hash told in
    let within = c.if-told-gt-SEARCHED.false in
    c.answer-2.ensures ∙ ap (λ (k : ℕ). answer 0 k % 2 ^ 64) c.find.ensures
    ∙ answer_whole 0 (search_word b.args.hash told) (omega arith) (omega arith) ∙ sym (search_within b.args.hash told (omega arith))
