-- `deposited_blocks::deposited_block` meets its contract, call by call.
use Rattle.std.proofs.Common.{◌≡◌, Some, Result, Ok, sym, ◌∙◌}
use Rattle.std.specs.Result.{result_ok}
use Rattle.refusals.specs.Limit.{pack_limit}
use Rattle.pack.specs.Reading.{counted}
use Rattle.pack.specs.Walk.{entry, nth_yield}
use Rattle.pack.specs.Reading.{reading}
use Rattle.deposit.specs.Packs.{deposit}
use Rattle.deposited_blocks.proofs.Told.{not_deposited, is_deposited, no_record, no_entry, is_entry, no_block, not_read, block_told}
use Rattle.deposited_blocks.proofs.deposited_block.Goals as goal
use Rattle.deposited_blocks.proofs.deposited_block.Goals.{In_ok-ok, In_ok-e}

count_is : (c : In_ok-ok) → counted c.in_ok-ok.field-0 ≡ deposit pack_limit c.args.pack.now
count_is c = is_deposited pack_limit c.args.pack.now c.check.result c.check.ensures _ (sym c.ok.ensures.value ∙ c.in_ok-ok.was)

entry_is : (c : In_ok-e) → entry c.in_ok-e.e ≡ nth_yield (reading pack_limit c.args.pack.now) c.args.n
entry_is c = is_entry pack_limit c.args.pack.now c.args.n c.nth.result c.nth.ensures _ (sym c.ok-2.ensures.value ∙ c.in_ok-ok-2.was ∙ rw c.in_ok-e.was)

pub returns-in_err-ok : goal.returns-in_err-ok
returns-in_err-ok c =
    rw c.from_residual.ensures (not_deposited pack_limit _ c.args.n c.check.result c.check.ensures (sym c.ok.ensures.value ∙ c.in_err-ok.was))

pub returns-in_err-ok-2 : goal.returns-in_err-ok-2
returns-in_err-ok-2 c =
    rw c.from_residual-in_err-ok-2.ensures
    (no_record pack_limit _ c.args.n _ (count_is (goal.at.returns-in_err-ok-2 c).In_ok-ok) c.nth.result c.nth.ensures (sym c.ok-2.ensures.value ∙ c.in_err-ok-2.was))

pub returns-in_err-e : goal.returns-in_err-e
returns-in_err-e c =
    rw c.from_residual-in_err-e.ensures
    (no_entry pack_limit _ c.args.n _ (count_is (goal.at.returns-in_err-e c).In_ok-ok) c.nth.result c.nth.ensures (sym c.ok-2.ensures.value ∙ c.in_ok-ok-2.was ∙ rw c.in_err-e.was))

pub returns-then-e-ne-BLOCK : goal.returns-then-e-ne-BLOCK
returns-then-e-ne-BLOCK c = no_block pack_limit _ c.args.n _ (count_is (goal.at.returns-then-e-ne-BLOCK c).In_ok-ok) _ (entry_is (goal.at.returns-then-e-ne-BLOCK c).In_ok-e) c.if-e-ne-BLOCK.true

pub returns-in_err-placed : goal.returns-in_err-placed
returns-in_err-placed c =
    rw c.from_residual-in_err-placed.ensures
    (not_read pack_limit _ c.args.n _ (count_is (goal.at.returns-in_err-placed c).In_ok-ok) _ (entry_is (goal.at.returns-in_err-placed c).In_ok-e) c.if-e-ne-BLOCK.false c.read_at.result c.read_at.ensures.result_value
    (sym c.ok-3.ensures.value ∙ c.in_err-placed.was))

pub returns : goal.returns
returns c =
    block_told pack_limit _ c.args.n _ (count_is (goal.at.returns c).In_ok-ok) _ (entry_is (goal.at.returns c).In_ok-e) c.if-e-ne-BLOCK.false c.read_at.result c.read_at.ensures.result_value _
    (sym c.ok-3.ensures.value ∙ c.in_ok-placed.was)
