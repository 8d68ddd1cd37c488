-- The texts of a struct that is admitted are those of a valid identifier, and its block is stored.
use mathlib.Core.Path.{◌≡◌, refl, sym, ap, ◌∙◌}
use Rattle.std.specs.Prelude.{Some}
use Rattle.std.proofs.lemmas.Result.{err_from_is_err_and}
use Rattle.held_identifier.specs.Held.{named}
use Rattle.writer.specs.Writing.{block, of_identity}
use Rattle.writer.proofs.Calls.{Call, call_stores, call_unnamed, no_identifier}
use Rattle.writer.proofs.write_block.Goals as goal
use Rattle.writer.proofs.write_block.Goals.{After-store_block, After-from_residual}

stored : (c : After-store_block) → Call c.args.used (of_identity (λ i. block i c.args.content.now) (named c.args.id)) c.args.buf.now c.store_block.result c.store_block.new.buf
stored c = rw c.in_ok-texts.ensures.0 (call_stores _ _ (block _ c.args.content.now) _ _ c.in_ok-texts.ensures.1 c.store_block.ensures)

nothing : (c : After-from_residual) → Call c.args.used (of_identity (λ i. block i c.args.content.now) (named c.args.id)) c.args.buf.now c.from_residual.result c.args.buf.now
nothing c =
    let e = err_from_is_err_and c.from_residual.result c.from_residual.ensures.1 in
    rw (e.1, e.2, c.in_err-texts.ensures.0) (call_unnamed _ _ (λ i. block i c.args.content.now) _ (λ i f. no_identifier _ i c.in_err-texts.ensures.1 f))

pub store_block-requires : goal.store_block-requires
store_block-requires c = c.in_ok-texts.ensures.1

pub returns-clause-answer : goal.returns-clause-answer
returns-clause-answer c = (stored (goal.at.returns-clause-answer c).After-store_block).answer

pub returns-clause-buffer : goal.returns-clause-buffer
returns-clause-buffer c = (stored (goal.at.returns-clause-buffer c).After-store_block).buffer

pub returns-in_err-texts-clause-answer : goal.returns-in_err-texts-clause-answer
returns-in_err-texts-clause-answer c = (nothing c).answer

pub returns-in_err-texts-clause-buffer : goal.returns-in_err-texts-clause-buffer
returns-in_err-texts-clause-buffer c = (nothing c).buffer
