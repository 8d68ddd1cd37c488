-- `pack_list::survey_entries` meets its contract: what all entries tell is what those from a place on tell, after those before it.
use Prim.Native.Nat.{◌-◌}
use Rattle.pack_list.proofs.Surveys.{SurveyedTo}
use Rattle.pack_list.proofs.survey_entries.Given as goal

abbrev pub invariant-loop-k : goal.invariant-loop-k
invariant-loop-k l = SurveyedTo l.part l.fn.entries l.byte l.at l.k l.all l.holder

abbrev pub decreases-loop-k : goal.decreases-loop-k
decreases-loop-k l = l.fn.entries.count - l.k
