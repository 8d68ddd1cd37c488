-- `capi_lookup::look_up` meets its contract: each arm is how the lookup's answer is told.
use mathlib.Core.List.{[], ◌∷◌}
use mathlib.Core.Path.{ap, ◌∙◌}
use native.Mathlib.Omega.{arith}
use Rattle.std.specs.Prelude.{Ok}
use Rattle.slices.specs.Places.{part_at}
use Rattle.words.specs.Words.{flag}
use Rattle.capi_lookup.proofs.Versions.{Tells, answers_nothing, answers_found, answers_fault}
use Rattle.capi_lookup.proofs.look_up.Goals as goal

pub returns-in-Ok-None : goal.returns-in-Ok-None
returns-in-Ok-None c =
    let looked = c.lookup_with in
    let told = c.tell.ensures in
    let is = c.in-Ok-None.is ∙ ap Ok c.in-Ok-None.field-0-is in
    let e =
    answers_nothing c.args.pack.now c.args.bucket.now c.args.object.now c.args.out.now c.args.ulid.now looked.result looked.ensures.result_value is _ _ _
    (told.answer, (told.told, told.ulid)) in
    record { answer = e.0; told = e.1.0; ulid = e.1.1; scratch = looked.ensures.scratch }

pub returns-in-Ok-Some : goal.returns-in-Ok-Some
returns-in-Ok-Some c =
    let looked = c.lookup_with in
    let v = c.in-Ok-Some.v in
    let told = c.tell-in-Ok-Some in
    let is = c.in-Ok-Some.is ∙ ap Ok c.in-Ok-Some.field-0-is in
    let words : Tells c.args.out.now c.args.ulid.now (1 ∷ v.start ∷ v.len ∷ flag v.deleted ∷ []) (part_at c.args.pack.now v.identifier.ulid)
    told.result told.new.told told.new.ulid
    = rw (← c.part.ensures.result_value, ← c.flag.ensures) (told.ensures.answer, (told.ensures.told, told.ensures.ulid)) in
    let e =
    answers_found c.args.pack.now c.args.bucket.now c.args.object.now c.args.out.now c.args.ulid.now looked.result looked.ensures.result_value v is
    (looked.ensures.inside.version v is) _ _ _ words in
    record { answer = e.0; told = e.1.0; ulid = e.1.1; scratch = looked.ensures.scratch }

pub returns-in-Err : goal.returns-in-Err
returns-in-Err c =
    let looked = c.lookup_with in
    let e =
    answers_fault c.args.pack.now c.args.bucket.now c.args.object.now c.args.out.now c.args.ulid.now looked.result looked.ensures.result_value _ c.in-Err.is
    (omega (arith, c.from.ensures, c.from.type_inv)) in
    rw (c.answer.ensures, c.from.ensures, c.place.ensures) (record { answer = e.0; told = e.1.0; ulid = e.1.1; scratch = looked.ensures.scratch })
