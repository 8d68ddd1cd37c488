-- How the code keeps what is between two calls, and what each of its answers says. Bytes of the arrays past those that are held play no part.
use Rattle.std.specs.Prelude.{take}
use Rattle.xxh64.specs.Parts.{hashing_of}
use Rattle.pipe.specs.Taking as pipe
use Rattle.pipe.specs.Taking.{Going, in_header, in_value, Progress, going, refused, ended, Notice, wanted, complete, refusal, over, malformed, Call}
use Rattle.pipe.specs.declared.Phase.{Phase}
use Rattle.pipe.specs.declared.State.{State}
use Rattle.pipe.specs.declared.Event.{Event}
use Rattle.pipe.specs.declared.Taken.{Taken}

-- where the record starts, and how many were complete before it
abbrev pub record_at : State → pipe.Phase → Going
record_at s p = record { start = s.start; records = s.records; phase = p }

abbrev pub progress_in : Phase → State → Progress
progress_in Phase.Header s = going (record_at s (in_header (take s.held s.header)))
progress_in Phase.Value s = going (record_at s (in_value s.header (hashing_of s.hash)))
progress_in (Phase.Refused n place) s = refused n place
progress_in Phase.Ended s = ended s.records

abbrev pub progress_of : State → Progress
progress_of s = progress_in s.phase s

abbrev pub notice_of : Event → Notice
notice_of Event.Wanted = wanted
notice_of (Event.Complete e) = complete e
notice_of (Event.Refusal n place) = refusal n place
notice_of (Event.Over records) = over records
notice_of Event.Malformed = malformed

abbrev pub call_of : Taken → Call
call_of t = record { after = progress_of t.state; notice = notice_of t.event; taken = t.taken }
