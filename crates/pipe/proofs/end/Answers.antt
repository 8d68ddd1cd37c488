-- `pipe::end` meets its contract: a case for a state that is not well formed, and one for each phase.
use borrow.Author.Rules.{rules}
use mathlib.Core.Bool.{true}
use mathlib.Core.Path.{◌≡◌, sym, ◌∙◌}
use lib.ListN.{length}
use Rattle.pipe.specs.Limit.{pipe_limit}
use Rattle.pipe.specs.Taking.{fits, finish}
use Rattle.pipe.specs.States.{progress_of}
use Rattle.pipe.proofs.Calls.{empty_ends, header_ends, value_ends, standing_ends, refused_stays, ended_stays}
use Rattle.pipe.proofs.end.Goals as goal
use Rattle.pipe.proofs.end.Goals.{Else-not-well_formed, Start}

pub returns-then-not-well_formed : goal.returns-then-not-well_formed
unfolding finish
returns-then-not-well_formed c = rw (sym c.well_formed-2.ensures ∙ c.if-not-well_formed.true) c.still.ensures

-- the state is well formed
fit : (c : Else-not-well_formed) → fits pipe_limit (progress_of c.args.state) ≡ true
fit c = sym c.well_formed-2.ensures ∙ c.if-not-well_formed.false

long : (s : Start) → length s.args.state.header ≡ 32
long s = search rules

pub returns-then-state-eq0 : goal.returns-then-state-eq0
returns-then-state-eq0 c =
    let s = c in
    c.close.ensures ∙ empty_ends s.args.state (fit (goal.at.returns-then-state-eq0 c).Else-not-well_formed) c.in-Header.is c.if-state-eq0.true

pub returns-else-state-eq0 : goal.returns-else-state-eq0
returns-else-state-eq0 c =
    let s = c in
    c.refuse.ensures
    ∙ header_ends s.args.state (fit (goal.at.returns-else-state-eq0 c).Else-not-well_formed) c.in-Header.is (long (goal.at.returns-else-state-eq0 s).Start) c.if-state-eq0.false

pub returns-in-Value : goal.returns-in-Value
returns-in-Value c =
    let s = c in
    c.refuse-in-Value.ensures ∙ value_ends s.args.state (fit (goal.at.returns-in-Value c).Else-not-well_formed) c.in-Value.is

pub returns-in-Refused : goal.returns-in-Refused
returns-in-Refused c =
    let s = c in
    let p = c.in-Refused in
    c.standing.ensures ∙ standing_ends s.args.state (fit (goal.at.returns-in-Refused c).Else-not-well_formed) (refused_stays s.args.state p.field-0 p.field-1 p.is)

pub returns-in-Ended : goal.returns-in-Ended
returns-in-Ended c =
    let s = c in
    c.standing-in-Ended.ensures ∙ standing_ends s.args.state (fit (goal.at.returns-in-Ended c).Else-not-well_formed) (ended_stays s.args.state c.in-Ended.is)
