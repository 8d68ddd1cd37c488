-- The texts of a struct that is admitted are those of a valid identifier, and its version delete is stored.
use mathlib.Core.Path.{◌≡◌, refl, sym, ap, ◌∙◌}
use Rattle.std.specs.Prelude.{Some}
use Rattle.std.proofs.lemmas.Result.{err_from_is_err_and}
use Rattle.held_identifier.specs.Held.{named}
use Rattle.writer.specs.Writing.{deletion, of_identity}
use Rattle.writer.proofs.Calls.{Call, call_stores, call_unnamed, no_identifier, no_ulid_lem}
use Rattle.writer.proofs.write_delete_of.Goals as goal
use Rattle.writer.proofs.write_delete_of.Goals.{After-store_deletion, After-from_residual}

stored : (c : After-store_deletion) → Call c.args.used (of_identity (λ i. deletion i c.args.deleteid.now) (named c.args.id)) c.args.buf.now c.store_deletion.result c.store_deletion.new.buf
stored c =
    let valid = c.in_ok-texts.ensures.1 in
    let ulid = sym c.is_ulid.ensures ∙ c.if-not-is_ulid.false in
    rw c.in_ok-texts.ensures.0 (call_stores _ _ (deletion _ c.args.deleteid.now) _ _ (rw valid ulid) c.store_deletion.ensures)

nothing : (c : After-from_residual) → Call c.args.used (of_identity (λ i. deletion i c.args.deleteid.now) (named c.args.id)) c.args.buf.now c.from_residual.result c.args.buf.now
nothing c =
    let e = err_from_is_err_and c.from_residual.result c.from_residual.ensures.1 in
    rw (e.1, e.2, c.in_err-texts.ensures.0)
    (call_unnamed _ _ (λ i. deletion i c.args.deleteid.now) _ (λ i f. rw (no_identifier _ i c.in_err-texts.ensures.1 f) refl))

pub store_deletion-requires : goal.store_deletion-requires
store_deletion-requires c = (c.in_ok-texts.ensures.1, sym c.is_ulid.ensures ∙ c.if-not-is_ulid.false)

pub returns-clause-answer : goal.returns-clause-answer
returns-clause-answer c = (stored (goal.at.returns-clause-answer c).After-store_deletion).answer

pub returns-clause-buffer : goal.returns-clause-buffer
returns-clause-buffer c = (stored (goal.at.returns-clause-buffer c).After-store_deletion).buffer

pub returns-in_err-texts-clause-answer : goal.returns-in_err-texts-clause-answer
returns-in_err-texts-clause-answer c = (nothing c).answer

pub returns-in_err-texts-clause-buffer : goal.returns-in_err-texts-clause-buffer
returns-in_err-texts-clause-buffer c = (nothing c).buffer

pub returns-then-not-is_ulid-clause-answer : goal.returns-then-not-is_ulid-clause-answer
returns-then-not-is_ulid-clause-answer c =
    let refuses = sym c.is_ulid.ensures ∙ c.if-not-is_ulid.true in
    (call_unnamed _ _ (λ i. deletion i c.args.deleteid.now) (named c.args.id) (λ i e. no_ulid_lem i c.args.deleteid.now refuses)).answer

pub returns-then-not-is_ulid-clause-buffer : goal.returns-then-not-is_ulid-clause-buffer
returns-then-not-is_ulid-clause-buffer c =
    let refuses = sym c.is_ulid.ensures ∙ c.if-not-is_ulid.true in
    (call_unnamed _ _ (λ i. deletion i c.args.deleteid.now) (named c.args.id) (λ i e. no_ulid_lem i c.args.deleteid.now refuses)).buffer
