-- `pipe::take` meets its contract: a case for a state that is not well formed, and one for each phase.
use borrow.Author.Rules.{rules}
use mathlib.Core.Bool.{true}
use mathlib.Core.Path.{◌≡◌, sym, ◌∙◌}
use lib.ListN.{length}
use Rattle.pipe.specs.Limit.{pipe_limit}
use Rattle.pipe.specs.Taking.{fits}
use Rattle.pipe.specs.Step.{take_unfit}
use Rattle.pipe.specs.States.{progress_of}
use Rattle.pipe.proofs.Calls.{header_facts, header_is, value_facts, value_is, standing_is, refused_stays, ended_stays}
use Rattle.pipe.proofs.take.Goals as goal
use Rattle.pipe.proofs.take.Goals.{Else-not-well_formed, Start}

pub returns-then-not-well_formed : goal.returns-then-not-well_formed
returns-then-not-well_formed c =
    let s = c in
    c.still.ensures
    ∙ sym (take_unfit pipe_limit (progress_of s.args.state) s.args.part.now (sym c.well_formed-2.ensures ∙ c.if-not-well_formed.true))

-- the state is well formed
fit : (c : Else-not-well_formed) → fits pipe_limit (progress_of c.args.state) ≡ true
fit c = sym c.well_formed-2.ensures ∙ c.if-not-well_formed.false

long : (s : Start) → length s.args.state.header ≡ 32
long s = search rules

pub take_header-requires : goal.take_header-requires
take_header-requires c =
    let s = c in
    header_facts s.args.state (fit (goal.at.take_header-requires c).Else-not-well_formed) c.in-Header.is (long (goal.at.take_header-requires s).Start)

pub take_value-requires-clause-count_bound : goal.take_value-requires-clause-count_bound
take_value-requires-clause-count_bound c =
    let s = c in
    let f = value_facts s.args.state (fit (goal.at.take_value-requires-clause-count_bound c).Else-not-well_formed) c.in-Value.is in
    f.0

pub take_value-requires-clause-records_le_start : goal.take_value-requires-clause-records_le_start
take_value-requires-clause-records_le_start c =
    let s = c in
    let f = value_facts s.args.state (fit (goal.at.take_value-requires-clause-records_le_start c).Else-not-well_formed) c.in-Value.is in
    (f.1, search rules)

pub returns-in-Header : goal.returns-in-Header
returns-in-Header c =
    let s = c in
    c.take_header.ensures ∙ header_is s.args.state (fit (goal.at.returns-in-Header c).Else-not-well_formed) c.in-Header.is s.args.part.now

pub returns-in-Value : goal.returns-in-Value
returns-in-Value c =
    let s = c in
    c.take_value.ensures ∙ value_is s.args.state (fit (goal.at.returns-in-Value c).Else-not-well_formed) c.in-Value.is s.args.part.now

pub returns-in-Refused : goal.returns-in-Refused
returns-in-Refused c =
    let s = c in
    let p = c.in-Refused in
    c.standing.ensures
    ∙ standing_is s.args.state (fit (goal.at.returns-in-Refused c).Else-not-well_formed) (refused_stays s.args.state p.field-0 p.field-1 p.is) s.args.part.now

pub returns-in-Ended : goal.returns-in-Ended
returns-in-Ended c =
    let s = c in
    c.standing-in-Ended.ensures
    ∙ standing_is s.args.state (fit (goal.at.returns-in-Ended c).Else-not-well_formed) (ended_stays s.args.state c.in-Ended.is) s.args.part.now
