-- Demand 3, deletion, with the writer's call in it: on the front as long as the count returned, the lookup answers as on the front before
-- without the versions of the identifier that is deleted.
use Rattle.std.specs.Prelude.{ℕ, List, ◌≡◌}
use Rattle.std.specs.Prelude.{Option, None, Some}
use Rattle.refusals.specs.Answers as refusals
use Rattle.refusals.specs.Answers.{refused, granted, is_result}
use Rattle.identifier.specs.Identity.{Identity}
use Rattle.primary.specs.Parts as primary
use Rattle.records.specs.Record.{version_delete_tag, Contents, read_record, of_version_delete}
use Rattle.records_model.specs.Record.{RecordHeld, with_held, is_held}
use Rattle.records_model.specs.Written.{held_alone}
use Rattle.writer.specs.Writing.{Item, block, version, version_delete, pack_list, deletion, tag_of, value_of, admitted, written, buffer_after}
use Rattle.writer_laws.specs.Meaning.{held_of}
use Rattle.writer_laws.proofs.Meaning.{item_reads}
use Rattle.writer_laws.specs.Calls.{record_for}
use Rattle.writer_laws.specs.Refusals.{written_exactly}
use Rattle.current_version.specs.Current.{Answer, is_name, lookup}
use Rattle.current_version.specs.Packs.{ReadablePack, SameAnswer}
use Rattle.current_version.specs.Bytes.{taken_out_of}

-- ---- the identifier that a call deletes: the one that a part handed in reads as, or the one that was handed in

abbrev pub named_by : refusals.Answer primary.VersionDelete → Option Identity
named_by (granted v) = Some v.identifier
named_by (refused n) = None

abbrev pub deleted_by : Option Item → Option Identity
deleted_by None = None
deleted_by (Some (block i d)) = None
deleted_by (Some (version p)) = None
deleted_by (Some (version_delete p)) = named_by (primary.version_delete p)
deleted_by (Some (pack_list p)) = None
deleted_by (Some (deletion i u)) = Some i

-- ---- the sentence: an answer after a call is that for the pack before, with all `vr` records of the identifier taken out

pub record TakesOut (limit : ℕ) (asked : Option Item) (before bucket object : List ℕ) (answer : Answer) : Type 0 where
  pub identifier : Identity
  pub is_deleted_lem : deleted_by asked ≡ Some identifier
  -- what is left is accepted, and its `vr` and `vd` records can all be read
  pub left : ReadablePack limit (taken_out_of limit identifier before)
  pub same : SameAnswer answer (lookup limit (taken_out_of limit identifier before) bucket object)

-- ---- what is written as a `vd` reads as a deletion of the identifier

pub record Deletes (item : Item) : Type 0 where
  pub identifier : Identity
  pub is_deleted_lem : deleted_by (Some item) ≡ Some identifier
  pub held : RecordHeld
  pub is_held : held_of item ≡ granted held
  pub names : held.contents.identifier ≡ identifier
