-- `stream_pack::put_verdict` meets its contract: each arm is the line of what is told.
use mathlib.Core.Path.{refl}
use Rattle.pipe.specs.States.{progress_of}
use Rattle.stream_pack.proofs.Verdicts.{no_verdict, count_verdict, refusal_verdict}
use Rattle.stream_pack.proofs.put_verdict.Goals as goal

pub returns-in-Over : goal.returns-in-Over
returns-in-Over c =
    count_verdict (progress_of c.args.state) c.requires.0 c.end.result c.end.ensures c.requires.1 _ c.in-Over.is c.put_count.ensures

pub returns-in-Refusal : goal.returns-in-Refusal
returns-in-Refusal c =
    refusal_verdict (progress_of c.args.state) c.requires.0 c.end.result c.end.ensures c.requires.1 _ _ c.in-Refusal.is c.put_refusal.ensures

pub returns-in-Wanted : goal.returns-in-Wanted
returns-in-Wanted c = no_verdict (progress_of c.args.state) c.requires.0 c.end.result c.end.ensures c.in-Wanted.is c.args.out.now refl

pub returns-in-Complete : goal.returns-in-Complete
returns-in-Complete c = no_verdict (progress_of c.args.state) c.requires.0 c.end.result c.end.ensures c.in-Complete.is c.args.out.now refl

pub returns-in-Malformed : goal.returns-in-Malformed
returns-in-Malformed c = no_verdict (progress_of c.args.state) c.requires.0 c.end.result c.end.ensures c.in-Malformed.is c.args.out.now refl
