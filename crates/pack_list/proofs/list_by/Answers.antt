-- `pack_list::list_by` meets its contract, rule by rule.
use Rattle.std.specs.Prelude.{◌≡◌, Option, Result, Ok, Err, MatchResult, IsErrAnd}
use Rattle.std.proofs.Common.{refl, subst}
use borrow.Author.Rules.{rules}
use Rattle.std.proofs.lemmas.Result.{err_from_is_err_and}
use Rattle.slices.specs.Logic.{absurd_numbers}
use Rattle.primary.specs.declared.Texts.{Texts}
use Rattle.primary.specs.declared.Fault.{Fault as IdentifierFault}
use Rattle.pack_list.specs.declared.Fault.TheVariants.{Part}
use Rattle.pack_list.specs.declared.Numbers.{Numbers}
use Rattle.pack_list.specs.declared.Survey.{Survey}
use Rattle.pack_list.specs.declared.Held.{Held}
use Rattle.pack_list.specs.Answers.{fault_beside, list_by}
use Rattle.pack_list.proofs.list_by.Goals as goal
use Rattle.pack_list.proofs.list_by.Goals.{In_ok-identifier}

module _ {A E D : Type 0} (P : E → D → Type 0) where
  was_ok : (r : Result A E) (s : Result A D) (x : A) → MatchResult r (λ y. s ≡ Ok y) (λ e. IsErrAnd s (P e)) → s ≡ Ok x → r ≡ Ok x
  was_ok (Ok y) s x m e = cc
  was_ok (Err f) s x m e = let p = err_from_is_err_and s m in let q = p.1 in absurd_numbers (cc)

  was_err : (r : Result A E) (s : Result A D) (d : D) → MatchResult r (λ y. s ≡ Ok y) (λ e. IsErrAnd s (P e)) → s ≡ Err d → (f : E) × (r ≡ Err f) × P f d
  was_err (Ok y) s d m e = absurd_numbers (cc)
  was_err (Err f) s d m e = (f, refl, subst (λ (t : Result A D). IsErrAnd t (P f)) e m)

kept : (c : In_ok-identifier) → c.args.identifier ≡ Ok c.in_ok-identifier.identifier
kept c = was_ok _ c.args.identifier c.map_err.result _ c.map_err.ensures.cases c.in_ok-identifier.was

refused : (r : Result Texts IdentifierFault) (f : IdentifierFault) (entries : Numbers) (all : Survey) (holder : Option Held) → r ≡ Err f
    → Err (Part (fault_beside f all.repeated)) ≡ list_by r entries all holder
refused r f entries all holder e = rw e

pub returns-in_err-identifier : goal.returns-in_err-identifier
returns-in_err-identifier c =
    let e = err_from_is_err_and c.from_residual.result c.from_residual.ensures.1 in
    let w = was_err _ c.args.identifier c.map_err.result _ c.map_err.ensures.cases c.in_err-identifier.was in
    let post = w.2 in
    let same : c.in_err-identifier.field-0.0 ≡ fault_beside w.0 c.args.all.repeated = search rules in
    rw (e.1, e.2, same) (refused _ _ c.args.entries c.args.all c.args.holder w.1)

pub returns-then-all : goal.returns-then-all
returns-then-all c = rw (kept (goal.at.returns-then-all c).In_ok-identifier, c.if-all.true)

pub returns-then-not-all : goal.returns-then-not-all
returns-then-not-all c = rw (kept (goal.at.returns-then-not-all c).In_ok-identifier, c.if-all.false, c.if-not-all.true)

pub returns-then-not-all-2 : goal.returns-then-not-all-2
returns-then-not-all-2 c =
    rw (kept (goal.at.returns-then-not-all-2 c).In_ok-identifier, c.if-all.false, c.if-not-all.false, c.if-not-all-2.true)

pub returns : goal.returns
returns c =
    rw (kept (goal.at.returns c).In_ok-identifier, c.if-all.false, c.if-not-all.false, c.if-not-all-2.false)
