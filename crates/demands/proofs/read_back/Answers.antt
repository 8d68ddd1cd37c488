-- `demands::read_back` meets its contract: a count lies in the buffer, and the answer is the reading's on the front.
use Rattle.std.proofs.Common.{sym, ap, ◌∙◌}
use Rattle.std.proofs.lemmas.Result.{err_from_is_err_and}
use lib.Seq.{length-take-le}
use Rattle.writer.specs.Writing.{answer_of}
use Rattle.demands.specs.Answers.{counted, of_front, read_behind}
use Rattle.demands.proofs.ReadBacks.{inside_read, inside_unwritten}
use Rattle.demands.proofs.read_back.Goals as goal

pub slice_bounds-read_at-end : goal.slice_bounds-read_at-end
slice_bounds-read_at-end c = sym (length-take-le _ _ (c.requires.inside _ c.in_ok-count.was))

pub returns-clause-result_value : goal.returns-clause-result_value
returns-clause-result_value c =
    ap (counted c.in_ok-count.count) c.read_at.ensures.result_value
    ∙ ap (λ w. of_front (read_behind c.args.used) c.args.buf.now (answer_of w)) (sym c.in_ok-count.was)

pub returns-clause-inside : goal.returns-clause-inside
returns-clause-inside c = inside_read _ _ _ c.read_at.ensures.inside

pub returns-in_err-count-clause-result_value : goal.returns-in_err-count-clause-result_value
returns-in_err-count-clause-result_value c =
    let p = err_from_is_err_and c.from_residual.result c.from_residual.ensures.1 in
    rw (p.1, p.2) (ap (λ w. of_front (read_behind c.args.used) c.args.buf.now (answer_of w)) (sym c.in_err-count.was))

pub returns-in_err-count-clause-inside : goal.returns-in_err-count-clause-inside
returns-in_err-count-clause-inside c =
    let p = err_from_is_err_and c.from_residual.result c.from_residual.ensures.1 in
    rw p.1 (inside_unwritten _ _ _)
