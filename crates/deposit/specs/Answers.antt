-- What the answers of the code say.
use Rattle.std.specs.Prelude.{ℕ}
use Rattle.std.specs.Prelude.{Option, None, Some, Result, Ok, Err}
use Rattle.pack.specs.Reading as pack
use Rattle.pack.specs.Reading.{Outcome, counted, refused}
use Rattle.records.specs.Answers as records
use Rattle.deposit.specs.declared.RecordFault.{RecordFault}
use Rattle.deposit.specs.declared.RecordFault.TheVariants.{Unreadable, NotShort, KeyNotGiven, HeaderOrder, BlockForm, SpareNotZero, BucketName}
use Rattle.deposit.specs.declared.Fault.{Fault}
use Rattle.deposit.specs.declared.Fault.TheVariants as fault

abbrev pub number_of : RecordFault → ℕ
number_of (Unreadable f) = records.number_of f
number_of NotShort = 23
number_of KeyNotGiven = 24
number_of HeaderOrder = 25
number_of BlockForm = 26
number_of SpareNotZero = 27
number_of BucketName = 28

abbrev pub fault_number : Fault → ℕ
fault_number (fault.Pack f) = pack.fault_number f
fault_number (fault.Record f at) = number_of f

abbrev pub fault_place : Fault → ℕ
fault_place (fault.Pack f) = pack.fault_place f
fault_place (fault.Record f at) = at

abbrev pub kept_of : Result (Unit {0}) RecordFault → Option ℕ
kept_of (Ok u) = None
kept_of (Err f) = Some (number_of f)

abbrev pub outcome_of : Result ℕ Fault → Outcome
outcome_of (Ok n) = counted n
outcome_of (Err f) = refused (fault_number f) (fault_place f)
