-- A record by what its header and primary part tell as values: refusals 10 to 18, 21 and 22 over the data model.
use Rattle.std.specs.Prelude.{ℕ, cond, List, ◌++◌, ◌≡◌, refl, eqb}
use Rattle.std.specs.Prelude.{Option, None, Some}
use Rattle.std.proofs.Common.{ap}
use Rattle.slices.specs.Logic.{absurd_numbers}
use Rattle.refusals.specs.Sheet.{lowest}
use Rattle.refusals.specs.Answers.{Answer, refused, granted, unless}
use Rattle.msgpack_model.specs.Values.{Value}
use Rattle.msgpack_model.specs.Encoding.{Encodes}
use Rattle.value.specs.Header.{telling_of}
use Rattle.value.specs.Reading.{reading}
use Rattle.value.specs.declared.Told.{Told}
use Rattle.records.specs.Record.{block_tag, version_tag, version_delete_tag, Contents, of_block, of_version, of_version_delete, of_pack_list, contents, Record, told_rows, primary_in, with_told, by_value, read_record}
use Rattle.records_model.specs.Header.{Held, holds}
use Rattle.records_model.specs.HeaderReads.{held_in, answer_in, value_reads}
use Rattle.records_model.specs.Primary.{block, version, version_delete, pack_list, block_reads, version_reads, version_delete_reads, pack_list_reads}

-- ---- the primary part p of a record with this tag, which is a known one

unfoldable pub contents_of : ℕ → Value → Answer Contents
contents_of tag p =
    cond (eqb tag block_tag) (of_block (block p))
    (cond (eqb tag version_tag) (of_version (version p))
    (cond (eqb tag version_delete_tag) (of_version_delete (version_delete p))
    (of_pack_list (pack_list p))))

pub contents_reads : (tag : ℕ) {p : Value} {e : List ℕ} → Encodes p e → contents tag e ≡ contents_of tag p
unfolding contents contents_of
contents_reads tag x = rw (block_reads x, version_reads x, version_delete_reads x, pack_list_reads x)

-- ---- what a record holds, with no places

pub record RecordHeld : Type 0 where
  pub held : Held
  pub contents : Contents

abbrev pub record_in : List ℕ → Answer Record → Answer RecordHeld
record_in s (granted r) = granted (record { held = held_in s r.told; contents = r.contents })
record_in s (refused n) = refused n

abbrev pub with_held : Held → Answer Contents → Answer RecordHeld
with_held h (granted c) = granted (record { held = h; contents = c })
with_held h (refused n) = refused n

abbrev pub by_held : ℕ → Answer Held → Answer RecordHeld
by_held tag (granted h) = unless (lowest (told_rows tag h.told)) (with_held h (contents tag h.primary))
by_held tag (refused n) = refused n

-- of the record with this tag whose value is the header m and what follows it
unfoldable pub record_holds : ℕ → ℕ → Value → List ℕ → Answer RecordHeld
record_holds limit tag m rest = by_held tag (holds limit m rest)

-- every encoding is read so
pub record_reads : (limit tag : ℕ) {v : Value} {e : List ℕ} → Encodes v e → (rest : List ℕ)
    → record_in (e ++ rest) (read_record limit tag (e ++ rest)) ≡ record_holds limit tag v rest
unfolding read_record record_holds told_rows
record_reads limit tag {e = e} x rest = rw (← value_reads limit x rest) (by (reading limit (e ++ rest)))
  where
    with_told_lem : (t : Told) (r : Option ℕ) (c : Answer Contents) → record_in (e ++ rest) (unless r (with_told t c)) ≡ unless r (with_held (held_in (e ++ rest) t) c)
    with_told_lem t (Some n) c = refl
    with_told_lem t None (granted c) = refl
    with_told_lem t None (refused n) = refl

    by : (a : Answer Told) → record_in (e ++ rest) (by_value tag (e ++ rest) a) ≡ by_held tag (answer_in (e ++ rest) a)
    by (granted t) = with_told_lem t (lowest (told_rows tag (telling_of t))) (contents tag (primary_in (e ++ rest) t))
    by (refused n) = refl

-- ---- from what is held back to the record, which tells it by places

pub record IsHeld (s : List ℕ) (a : Answer Record) (h : RecordHeld) : Type 0 where
  pub found : Record
  pub is : a ≡ granted found
  pub same_held : held_in s found.told ≡ h.held
  pub same_contents : found.contents ≡ h.contents

pub is_held : (s : List ℕ) (a : Answer Record) (h : RecordHeld) → record_in s a ≡ granted h → IsHeld s a h
is_held s (granted r) h e =
    let is : record { held = held_in s r.told; contents = r.contents } ≡ h = cc in
    record { found = r; is = refl; same_held = ap (λ (k : RecordHeld). k.held) is; same_contents = ap (λ (k : RecordHeld). k.contents) is }
is_held s (refused n) h e = absurd_numbers (cc)
