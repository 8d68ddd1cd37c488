-- `primary::from_map` meets its contract: the map is read in one pass, then its texts, and then whether a key repeats.
use Rattle.std.specs.Prelude.{Some}
use mathlib.Core.Path.{◌≡◌, ◌∙◌}
use lib.ListN.{drop}
use Rattle.slices.specs.Lists.{part_to_end}
use Rattle.msgpack.specs.Pairs.{PairsRead}
use Rattle.msgpack.specs.Views.{byte_view}
use Rattle.primary.specs.Parts.{texts_under}
use Rattle.primary.specs.Answers.{texts_in}
use Rattle.primary.proofs.Readings.{no_texts_are}
use Rattle.primary.proofs.Keys.{identifier_keys, map_identifier, no_identifier, map_repeats}
use borrow.Author.Tests.{not-false, not-true}
use Rattle.primary.proofs.from_map.Goals as goal
use Rattle.primary.proofs.from_map.Goals.{After-read_pairs-pairs, In-Some}

-- what is told of the rest of the part
read : (c : After-read_pairs-pairs) → PairsRead (drop c.args.at c.args.part.now) identifier_keys c.read_pairs-pairs.result
read c = rw part_to_end at c.read_pairs-pairs.ensures

pub returns-then-not-pairs-clause-result_value : goal.returns-then-not-pairs-clause-result_value
returns-then-not-pairs-clause-result_value c =
    let w = c.requires.1 in
    rw (← no_texts_are _ (no_identifier _ _ (read (goal.at.returns-then-not-pairs-clause-result_value c).After-read_pairs-pairs) w.size w.is (not-true _ c.if-not-pairs.true)))

pub texts_under-requires : goal.texts_under-requires
texts_under-requires c =
    let a = c in
    let w = a.requires.1 in
    (a.requires.0, map_identifier _ _ (read (goal.at.texts_under-requires c).After-read_pairs-pairs) w.size w.is (not-false _ c.if-not-pairs.false))

-- the texts
texts : (c : In-Some) → Some (texts_in c.args.part.now c.in-Some.t)
    ≡ texts_under byte_view (drop c.args.at c.args.part.now)
texts c =
    let u = c in
    u.in-Some.ensures.result_value

pub returns-then-repeated-inner-clause-result_value : goal.returns-then-repeated-inner-clause-result_value
returns-then-repeated-inner-clause-result_value c =
    let k = c in
    let p = k in
    let a = p in
    let w = a.requires.1 in
    rw (← texts (goal.at.returns-then-repeated-inner-clause-result_value k).In-Some, map_repeats _ _ (read (goal.at.returns-then-repeated-inner-clause-result_value p).After-read_pairs-pairs) w.size w.is a.args.repeated ∙ c.if-repeated-inner.true)

pub returns-clause-result_value : goal.returns-clause-result_value
returns-clause-result_value c =
    let k = c in
    let p = k in
    let a = p in
    let w = a.requires.1 in
    c.from_texts.ensures.result_value ∙ rw (← texts (goal.at.returns-clause-result_value k).In-Some, map_repeats _ _ (read (goal.at.returns-clause-result_value p).After-read_pairs-pairs) w.size w.is a.args.repeated ∙ c.if-repeated-inner.false)
