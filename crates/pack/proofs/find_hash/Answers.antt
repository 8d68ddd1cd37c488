-- `pack::find_hash` meets its contract: the library finds the first entry that the closure accepts.
use Rattle.std.proofs.Common.{◌≡◌, rules}
use Rattle.std.proofs.lemmas.Iterator.{IsFirst-from_position, YieldsList-from_slice}
use borrow.Author.Tests.{tests}
use Rattle.pack.proofs.Search.{position_is}
use Rattle.pack.proofs.find_hash.Goals as goal

pub returns : goal.returns
returns c =
    let a = c.args in
    position_is a.hash a.entries.now _
    (IsFirst-from_position _ _ _ (λ e. e.hash ≡ a.hash) (λ e. e.hash ≡ a.hash → ⊥) c.position.ensures.ran (YieldsList-from_slice a.entries.now c.iter.ensures.rest)
    (λ x q k. search (rules, tests)) (λ x q k. search (rules, tests)))
