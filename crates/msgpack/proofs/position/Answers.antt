-- `msgpack::position` meets its contract: the iterator finds the first key with the code.
use Rattle.std.proofs.Common.{arith, rules, tests, eqb}
use Rattle.std.proofs.lemmas.Iterator.{YieldsList-from_slice}
use Rattle.std.proofs.lemmas.Iterator.Search.{position_from_yields_List}
use Rattle.msgpack.proofs.Codes.{position_told}
use Rattle.msgpack.proofs.position.Goals as goal

pub returns : goal.returns
returns c =
    let found
    = position_from_yields_List (λ k. eqb k c.args.code) _ _ c.position.result c.position.ensures.ran (YieldsList-from_slice _ c.iter.ensures.rest)
    (λ x b q k. search (rules, tests)) in
    rw (c.unwrap_or.ensures, found) (position_told c.args.code c.args.keys 8 (omega arith))
