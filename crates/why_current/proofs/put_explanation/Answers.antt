-- `why_current::put_explanation` meets its contract. Each arm puts the text of the explanation; the arm of a list that is too short is never reached.
use Prim.Native.Nat.{ℕ, ◌/◌}
use mathlib.Core.List.{List}
use mathlib.Core.Path.{◌≡◌, refl, sym, ap, ◌∙◌}
use native.Mathlib.Omega.{arith}
use lib.ListN.{length}
use Rattle.refusals.specs.Limit.{pack_limit}
use Rattle.pack.specs.Reading as pack
use Rattle.pack.specs.Scan.{fitted}
use Rattle.current_version.specs.Current.{lookup}
use Rattle.explanation.specs.Reasons.{Answer, explain}
use Rattle.lookup.specs.Answers.{fault_number, fault_place}
use Rattle.lookup.specs.declared.Fault as lookup-code
use Rattle.lookup.specs.declared.Fault.TheVariants as lookup-fault
use Rattle.explanation.specs.Answers.{outcome, refusal_of, explained_of, told_after, ulid_found}
use Rattle.std.specs.Prelude.{Err}
use Rattle.explanation.specs.declared.Fault.TheVariants.{Lookup}
use Rattle.why_current.specs.Rows.{no_rows}
use Rattle.why_current.proofs.Answers.{Told, told, never_short, lines_put, refusal_put, alone_put, rows_length}
use Rattle.why_current.proofs.put_explanation.Goals as goal
use Rattle.why_current.proofs.put_explanation.Goals.{After-explain, After-part, In-Ok}

-- what the library answers, and what it tells
abbrev explanation : After-explain → Answer
explanation c = explain pack_limit c.args.pack.now c.bucket.result.now c.object.result.now

answer : (c : After-explain) → explained_of c.explain.result ≡ fitted (outcome (explanation c)) (length no_rows / 3)
answer c = c.explain.ensures.answer ∙ ap (λ (rows : List ℕ). fitted (outcome (explanation c)) (length rows / 3)) c.no_rows-told.ensures

words : (c : After-explain) → c.explain.new.told ≡ told_after (explanation c) no_rows
words c = c.explain.ensures.told ∙ ap (told_after (explanation c)) c.no_rows-told.ensures

is_told : (c : In-Ok) → explained_of c.explain.result ≡ fitted (outcome (explain pack_limit c.args.pack.now c.bucket.result.now c.object.result.now)) (length no_rows / 3)
    → Told c.args.pack.now c.bucket.result.now c.object.result.now c.in-Ok.e.count
is_told c e = told _ _ _ _ (ap explained_of (sym c.in-Ok.is) ∙ e)

-- the ULID of the current version
ulid : (c : After-part) → c.part.result.now ≡ ulid_found (lookup pack_limit c.args.pack.now c.bucket.result.now c.object.result.now)
ulid c = c.part.ensures.result_value ∙ c.explain.ensures.ulid.is c.in-Ok.e c.in-Ok.is

pub put_rows-requires : goal.put_rows-requires
put_rows-requires c =
    let t = is_told (goal.at.put_rows-requires c).In-Ok (answer (goal.at.put_rows-requires c).After-explain) in
    ((t.few, omega (arith, t.few, c.explain.auto.told, ap length c.no_rows-told.ensures, rows_length)), rw (ulid c) t.short, c.requires.1)

pub returns-in-Ok : goal.returns-in-Ok
returns-in-Ok c =
    (lines_put c.args.name.now c.args.pack.now c.bucket.result.now c.object.result.now c.bucket.ensures c.object.ensures _ _ _ (is_told (goal.at.returns-in-Ok c).In-Ok (answer (goal.at.returns-in-Ok c).After-explain)) (words (goal.at.returns-in-Ok c).After-explain) (ulid (goal.at.returns-in-Ok c).After-part) c.put_rows.ensures.0, c.put_rows.ensures.1)

-- a refusal of another kind has a place
refused_told : (f : lookup-code.Fault) → (f ≡ lookup-fault.Inadmissible → ⊥) → pack.refused (fault_number f) (fault_place f) ≡ refusal_of f
refused_told lookup-fault.Inadmissible h = absurd (h refl)
refused_told (lookup-fault.Pack f) h = refl
refused_told (lookup-fault.Unreadable f at) h = refl

pub returns-in-Inadmissible : goal.returns-in-Inadmissible
returns-in-Inadmissible c =
    let is = c.in-Err-Lookup.is ∙ ap Err (c.in-Err-Lookup.field-0-is ∙ ap Lookup (sym c.in-Err-Lookup.f-is ∙ c.in-Inadmissible.is)) in
    alone_put c.args.name.now c.args.pack.now _ _ c.bucket.ensures c.object.ensures c.requires.1 (ap explained_of (sym is) ∙ answer (goal.at.returns-in-Inadmissible c).After-explain) c.put_refusal_alone.ensures

pub returns-in_default : goal.returns-in_default
returns-in_default c =
    let f = c.in-Err-Lookup.f in
    let is = c.in-Err-Lookup.is ∙ ap Err c.in-Err-Lookup.field-0-is in
    let told = refused_told f (λ e. c.in_default.not-Inadmissible (c.in-Err-Lookup.f-is ∙ e)) ∙ ap explained_of (sym is) ∙ answer (goal.at.returns-in_default c).After-explain in
    refusal_put c.args.name.now c.args.pack.now _ _ c.bucket.ensures c.object.ensures (fault_number f) (fault_place f) c.requires.1 told
    (rw (c.from.ensures ∙ ap fault_number c.in-Err-Lookup.f-is, c.place.ensures ∙ ap fault_place c.in-Err-Lookup.f-is) at c.put_refusal.ensures)

pub returns-in-Err-NoRoom : goal.returns-in-Err-NoRoom
returns-in-Err-NoRoom c =
    let is = c.in-Err-NoRoom.is ∙ ap Err c.in-Err-NoRoom.field-0-is in
    absurd (never_short c.args.pack.now _ _ (record { below = λ k. (c.type_inv.pack k).fits }) c.requires.0 (ap explained_of (sym is) ∙ answer (goal.at.returns-in-Err-NoRoom c).After-explain))
