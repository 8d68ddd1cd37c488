-- `capi_writing::word_of` meets its contract: a count within the limit fits beside the number.
use Prim.Native.Nat.{◌<◌}
use mathlib.Core.Path.{sym, ap, ◌∙◌}
use native.Mathlib.Omega.{arith}
use Rattle.refusals.specs.Unwritten.{number_of}
use Rattle.writer.specs.Writing.{answer_of}
use Rattle.words.specs.Words.{answer_whole}
use Rattle.capi_writing.specs.Write.{written_word}
use Rattle.capi_writing.proofs.word_of.Goals as goal

pub returns-in-Ok : goal.returns-in-Ok
returns-in-Ok c =
    let is = c.in-Ok.is in
    let within = c.requires.within _ is in
    c.answer.ensures ∙ answer_whole 0 _ (omega arith) (omega arith) ∙ ap (λ w. written_word (answer_of w)) (sym is)

pub returns-in-Err : goal.returns-in-Err
returns-in-Err c =
    let small : number_of c.in-Err.f < 256 = omega (arith, c.from.ensures, c.from.type_inv) in
    c.answer-in-Err.ensures ∙ rw c.from.ensures (answer_whole (number_of c.in-Err.f) 0 small (omega arith)) ∙ ap (λ w. written_word (answer_of w)) (sym c.in-Err.is)
