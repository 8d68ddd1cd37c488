-- What stands under `s`, and then the key `e`.
use mathlib.Core.List.{◌++◌}
use mathlib.Core.Path.{refl}
use Rattle.msgpack_heads.specs.Heads.{map_head}
use Rattle.writer.specs.Values.{secondary_header, primary_header, block_header}
use Rattle.writer.proofs.Chains.{first_fits, next_fits, puts_both}
use Rattle.writer.proofs.put_block_header.Goals as goal

pub put_secondary-key-requires : goal.put_secondary-key-requires
unfolding block_header
put_secondary-key-requires c = first_fits (map_head 2 ++ secondary_header c.args.l) (primary_header c.args.n) refl _ _ c.requires.1

pub put_primary-requires : goal.put_primary-requires
unfolding block_header
put_primary-requires c =
    let at-put-secondary = c in
    let entry = at-put-secondary in
    (entry.requires.0, next_fits _ _ refl at-put-secondary.put_secondary-key.ensures entry.requires.1)

pub returns : goal.returns
unfolding block_header
returns c =
    let at-put-secondary = c in
    let entry = at-put-secondary in
    puts_both _ _ refl at-put-secondary.put_secondary-key.ensures c.put_primary.ensures entry.requires.1
