-- `pipe::announced` meets its contract: each event of the call that announces the end is an ending.
use mathlib.Core.Path.{◌≡◌, sym, ap, ◌∙◌}
use Rattle.pipe.specs.Taking.{Call, close}
use Rattle.pipe.specs.Feeding.{ending_in}
use Rattle.pipe.specs.States.{progress_of, notice_of}
use Rattle.pipe.specs.declared.Event.{Event}
use Rattle.pipe.proofs.Handing.{ending_of_notice, finish_ending}
use Rattle.pipe.proofs.announced.Goals as goal
use Rattle.pipe.proofs.announced.Goals.{After-end}

-- what the event says
says : (c : After-end) (e : Event) → c.end.result.event ≡ e → ending_of_notice (notice_of e) ≡ ending_in (close (progress_of c.args.state))
says c e q =
    ap (λ (x : Event). ending_of_notice (notice_of x)) (sym q)
    ∙ ap (λ (d : Call). ending_of_notice d.notice) c.end.ensures
    ∙ finish_ending (progress_of c.args.state) c.requires

pub returns-in-Refusal : goal.returns-in-Refusal
returns-in-Refusal c = says (goal.at.returns-in-Refusal c).After-end _ c.in-Refusal.is

pub returns-in-Wanted : goal.returns-in-Wanted
returns-in-Wanted c = says (goal.at.returns-in-Wanted c).After-end _ c.in-Wanted.is

pub returns-in-Complete : goal.returns-in-Complete
returns-in-Complete c = says (goal.at.returns-in-Complete c).After-end _ c.in-Complete.is

pub returns-in-Over : goal.returns-in-Over
returns-in-Over c = says (goal.at.returns-in-Over c).After-end _ c.in-Over.is

pub returns-in-Malformed : goal.returns-in-Malformed
returns-in-Malformed c = says (goal.at.returns-in-Malformed c).After-end _ c.in-Malformed.is
