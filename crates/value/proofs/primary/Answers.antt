-- `value::primary` meets its contract: the parts of a value that is read lie inside it.
use mathlib.Core.Path.{◌≡◌, sym}
use native.Mathlib.Omega.{arith}
use Rattle.refusals.specs.Limit.{pack_limit}
use Rattle.refusals.specs.Answers.{granted}
use Rattle.value.specs.Reading.{reading}
use Rattle.value.specs.ReadingLaws.{PartsInside, parts_inside}
use Rattle.value.proofs.primary.Goals as goal
use Rattle.value.proofs.primary.Goals.{In-Ok}

is_told : (c : In-Ok) → reading pack_limit c.args.value.now ≡ granted c.in-Ok.t
is_told c = sym c.in-Ok.ensures

inside : (c : In-Ok) → PartsInside c.args.value.now c.in-Ok.t
inside c = parts_inside pack_limit _ _ (is_told c)

pub part_of-requires : goal.part_of-requires
part_of-requires c = let i = inside (goal.at.part_of-requires c).In-Ok in
    omega (arith, i.primary_first, i.secondary_last)
