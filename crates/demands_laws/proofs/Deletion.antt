-- Demand 3, deletion, with the writer's call in it: on the front as long as the count returned, the lookup answers as on the front before
-- without the versions of the identifier that is deleted.
use Rattle.std.specs.Prelude.{ℕ, ◌^◌, ◌<◌, true, List, ◌≡◌, refl, length, take}
use Rattle.std.specs.Prelude.{Some}
use Rattle.std.proofs.Common.{sym, ap, ◌∙◌, arith}
use Rattle.slices.specs.Bytes.{AllBytes}
use Rattle.slices.specs.Logic.{absurd_numbers}
use Rattle.refusals.specs.Answers as refusals
use Rattle.refusals.specs.Answers.{refused, granted, is_result}
use Rattle.primary.specs.Parts as primary
use Rattle.records.specs.Record.{version_delete_tag, Contents, read_record, of_version_delete}
use Rattle.records_model.specs.Record.{with_held, is_held}
use Rattle.records_model.specs.Written.{held_alone}
use Rattle.writer.specs.Writing.{Item, block, version, version_delete, pack_list, deletion, tag_of, value_of, admitted, written, buffer_after}
use Rattle.writer_laws.proofs.Meaning.{item_reads}
use Rattle.writer_laws.specs.Calls.{record_for}
use Rattle.writer_laws.specs.Refusals.{written_exactly}
use Rattle.current_version.specs.Current.{is_name, lookup}
use Rattle.current_version.specs.Packs.{ReadablePack}
use Rattle.current_version.proofs.Bytes.{taken_out_lem, deletion_answers_as_taken_out}
use Rattle.writer_laws.specs.Added.{record_appended, total, value_within, before_bytes, item_handed, item_fits}
use Rattle.demands_laws.specs.Deletion.{named_by, TakesOut, Deletes}

-- ---- what is written as a `vd` reads as a deletion of the identifier

deletes : (item : Item) → tag_of item ≡ version_delete_tag → admitted item ≡ true → Deletes item
deletes (block i d) t a = absurd (omega arith)
deletes (version p) t a = absurd (omega arith)
deletes (version_delete p) t a = by (primary.version_delete p) refl a
  where
    by : (r : refusals.Answer primary.VersionDelete) → primary.version_delete p ≡ r → is_result r ≡ true → Deletes (version_delete p)
    by (granted v) e f = record {
      identifier = v.identifier;
      is_deleted_lem = ap named_by e;
      held = _;
      is_held = ap (λ r. with_held (held_alone p) (of_version_delete r)) e;
      names = refl;
    }
    by (refused n) e f = absurd_numbers (cc)
deletes (pack_list p) t a = absurd (omega arith)
deletes (deletion i u) t a = record { identifier = i; is_deleted_lem = refl; held = _; is_held = refl; names = refl }

-- ---- the theorem

module _ (limit : ℕ) (small : limit < 2 ^ 32) (item : Item) (used n : ℕ) (buf : List ℕ) (wrote : written limit (length buf) used (Some item) ≡ granted n) where
  -- DELETION
  pub deletion_takes_out : (bucket object : List ℕ) → tag_of item ≡ version_delete_tag
      → AllBytes (buffer_after limit used (Some item) buf) → ReadablePack limit (take used buf) → is_name bucket object ≡ true
      → TakesOut limit (Some item) (take used buf) bucket object (lookup limit (take n (buffer_after limit used (Some item) buf)) bucket object)
  deletion_takes_out bucket object tag all readable name =
      let w = (written_exactly limit (length buf) used item n).0 wrote in
      let bytes = before_bytes limit small item used n buf wrote all in
      let d = deletes item tag w.0 in
      let h = is_held (value_of item) (read_record limit (tag_of item) (value_of item)) d.held
      (item_reads limit small item (item_handed limit small item used n buf wrote all) w.0 (value_within limit small item used n buf wrote) ∙ d.is_held) in
      let names : h.found.contents.identifier ≡ d.identifier = ap (λ (c : Contents). c.identifier) h.same_contents ∙ d.names in
      record {
        identifier = d.identifier;
        is_deleted_lem = cc d.is_deleted_lem;
        left = taken_out_lem limit d.identifier (take used buf) bytes readable;
        same = rw (record_appended limit small item used n buf wrote, ← names)
            (deletion_answers_as_taken_out limit (take used buf) (record_for item) h.found bucket object bytes readable
            (item_fits limit small item used n buf wrote all) tag (ap (λ t. read_record limit t (value_of item)) (sym tag) ∙ h.is)
            (total limit small item used n buf wrote) name);
      }
