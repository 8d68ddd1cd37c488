-- `capi_lookup::vof_current_with` meets its contract: without room for a version the memory is not used, and with room only the lookup refuses.
use native.Mathlib.Omega.{arith}
use Rattle.refusals.specs.Limit.{pack_limit}
use Rattle.current_version.specs.Current.{lookup}
use Rattle.lookup.specs.Answers.{scratch_kept}
use Rattle.capi_lookup.proofs.Versions.{scratch_answered}
use Rattle.capi_lookup.proofs.vof_current_with.Goals as goal

pub returns-then-out-lt4-clause-scratch : goal.returns-then-out-lt4-clause-scratch
returns-then-out-lt4-clause-scratch c = scratch_kept _ _

pub returns-then-ulid-lt26-clause-scratch : goal.returns-then-ulid-lt26-clause-scratch
returns-then-ulid-lt26-clause-scratch c = scratch_kept _ _

pub returns-clause-scratch : goal.returns-clause-scratch
returns-clause-scratch c =
    let found = lookup pack_limit c.args.pack.now c.args.bucket.now c.args.object.now in
    let looked = c.look_up.ensures in
    scratch_answered found _ _ _ _ _ looked.answer looked.scratch (omega arith) (omega arith)
