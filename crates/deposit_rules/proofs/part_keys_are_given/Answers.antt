-- `deposit_rules::part_keys_are_given` meets its contract, by the tag.
use Rattle.std.proofs.Common.{◌≡◌, arith}
use Rattle.records.specs.Record.{block_tag, version_tag, version_delete_tag}
use Rattle.deposit_rules.proofs.Tables.{block_coded, version_coded, delete_coded, pack_list_coded, part_of_block, part_of_version, part_of_delete, part_of_other}
use Rattle.deposit_rules.proofs.part_keys_are_given.Goals as goal

pub returns-in-25195 : goal.returns-in-25195
returns-in-25195 c = rw (part_of_block _ c.in-25195.is) (c.are_among.ensures.are _ block_coded)

pub returns-in-30322 : goal.returns-in-30322
returns-in-30322 c = rw (part_of_version _ c.in-30322.is) (c.are_among-in-30322.ensures.are _ version_coded)

pub returns-in-30308 : goal.returns-in-30308
returns-in-30308 c = rw (part_of_delete _ c.in-30308.is) (c.are_among-in-30308.ensures.are _ delete_coded)

pub returns-in_default : goal.returns-in_default
returns-in_default c = rw (part_of_other _ (λ (e : c.args.tag ≡ block_tag). omega (arith, e)) (λ (e : c.args.tag ≡ version_tag). omega (arith, e)) (λ (e : c.args.tag ≡ version_delete_tag). omega (arith, e))) (c.are_among-in_default.ensures.are _ pack_list_coded)
