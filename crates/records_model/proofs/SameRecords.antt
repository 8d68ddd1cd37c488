-- What a value and a record hold is the same for headers alike.
use Rattle.std.specs.Prelude.{ℕ, Bool, true, false, cond, List, ◌≡◌, refl, leb, eqb, length}
use Rattle.std.specs.Prelude.{Option, None, Some}
use Rattle.std.proofs.Common.{ap}
use Rattle.refusals.specs.Sheet.{lowest}
use Rattle.refusals.specs.Answers.{Answer, refused, granted, unless}
use Rattle.msgpack.specs.Items.{depth_allowed}
use Rattle.msgpack_model.specs.Values.{Value, depth}
use Rattle.value.specs.Header.{Telling, Header}
use Rattle.records.specs.Record.{block_tag, version_tag, version_delete_tag, Contents, of_block, of_version, of_version_delete, of_pack_list, contents, told_rows}
use Rattle.records_model.specs.Alike.{Alike, AlikeBytes, same_bytes_lem, encodings, same_depth}
use Rattle.records_model.specs.Header.{Held, filled_by, holds}
use Rattle.records_model.specs.Primary.{block, version, version_delete, pack_list}
use Rattle.records_model.specs.Record.{contents_of, contents_reads, with_held, by_held, record_holds}
use Rattle.records_model.specs.AnswersAlike.{AnswersAlike, same_refusal, first_22, second_22, both_read, same_answers, SameHeld, SameRecord}
use Rattle.records_model.specs.SameReading.{SameHeader}
use Rattle.records_model.proofs.SameReading.{same_header, same_block_lem, same_version, same_version_delete, same_pack_list}

-- ---- the value

pub same_held : {v w : Value} → Alike v w → (limit : ℕ) (rest : List ℕ) → AnswersAlike SameHeld (holds limit v rest) (holds limit w rest)
unfolding holds
same_held {v} {w} x limit rest = rw (same_depth x) (by (leb (depth w) depth_allowed) (same_header x limit))
  where
    filled : (b : Bool) (t : Telling) {d e : List ℕ} → AlikeBytes d e
        → AnswersAlike SameHeld (cond b (granted (record { primary = d; secondary = rest; told = t })) (refused 12))
        (cond b (granted (record { primary = e; secondary = rest; told = t })) (refused 12))
    filled true t y = both_read (record { primary = y; secondary = refl; told = refl })
    filled false t y = same_refusal 12

    by : (t : Bool) {a b : Answer (Header (List ℕ))} → AnswersAlike SameHeader a b
        → AnswersAlike SameHeld (cond t (filled_by rest a) (refused 10)) (cond t (filled_by rest b) (refused 10))
    by true (both_read {a = k} {b = l} y) = rw y.told (filled (eqb l.told.length (length rest)) l.told y.primary)
    by true (same_refusal n) = same_refusal n
    by true (first_22 t) = first_22 t
    by true (second_22 t) = second_22 t
    by false y = same_refusal 10

-- ---- the contents of the primary part

-- what f makes of the answers, a refusal staying what it is
through : {A B : Type 0} (f : A → B) {a b : Answer A} → AnswersAlike (λ c d. c ≡ d) a b → (g : Answer A → Answer B) → ((c : A) → g (granted c) ≡ granted (f c))
    → ((n : ℕ) → g (refused n) ≡ refused n) → AnswersAlike (λ c d. c ≡ d) (g a) (g b)
through f (same_refusal n) g r s = rw (s n) (same_refusal n)
through f (first_22 {n = n} t) g r s = rw (s 22, s n) (first_22 t)
through f (second_22 {n = n} t) g r s = rw (s n, s 22) (second_22 t)
through f (both_read {a = a} {b = b} e) g r s = rw (r a, r b) (both_read (ap f e))

same_contents_of : {p q : Value} → Alike p q → (tag : ℕ) → AnswersAlike (λ c d. c ≡ d) (contents_of tag p) (contents_of tag q)
unfolding contents_of
same_contents_of {p} {q} x tag = by (eqb tag block_tag) (eqb tag version_tag) (eqb tag version_delete_tag)
  where
    by : (a b d : Bool)
        → AnswersAlike (λ (c e : Contents). c ≡ e)
        (cond a (of_block (block p)) (cond b (of_version (version p)) (cond d (of_version_delete (version_delete p)) (of_pack_list (pack_list p)))))
        (cond a (of_block (block q)) (cond b (of_version (version q)) (cond d (of_version_delete (version_delete q)) (of_pack_list (pack_list q)))))
    by true b d = through _ (same_block_lem x) of_block (λ c. refl) (λ n. refl)
    by false true d = through _ (same_version x) of_version (λ c. refl) (λ n. refl)
    by false false true = through _ (same_version_delete x) of_version_delete (λ c. refl) (λ n. refl)
    by false false false = through _ (same_pack_list x) of_pack_list (λ c. refl) (λ n. refl)

same_contents : (tag : ℕ) {e f : List ℕ} → AlikeBytes e f → AnswersAlike (λ c d. c ≡ d) (contents tag e) (contents tag f)
same_contents tag (same_bytes_lem e) = same_answers (contents tag e)
same_contents tag (encodings x y z) = rw (contents_reads tag x, contents_reads tag y) (same_contents_of z tag)

-- ---- the record

same_record : (tag : ℕ) {a b : Answer Held} → AnswersAlike SameHeld a b → AnswersAlike SameRecord (by_held tag a) (by_held tag b)
same_record tag (same_refusal n) = same_refusal n
same_record tag (first_22 t) = first_22 t
same_record tag (second_22 t) = second_22 t
same_record tag (both_read {a = h} {b = g} s) =
    let rows : lowest (told_rows tag h.told) ≡ lowest (told_rows tag g.told) = ap (λ (t : Telling). lowest (told_rows tag t)) s.told in
    rw rows (by (lowest (told_rows tag g.told)))
  where
    with_contents : {c d : Answer Contents} → AnswersAlike (λ a b. a ≡ b) c d → AnswersAlike SameRecord (with_held h c) (with_held g d)
    with_contents (same_refusal n) = same_refusal n
    with_contents (first_22 t) = first_22 t
    with_contents (second_22 t) = second_22 t
    with_contents (both_read e) = both_read (record { held = s; contents = e })

    by : (o : Option ℕ) → AnswersAlike SameRecord (unless o (with_held h (contents tag h.primary))) (unless o (with_held g (contents tag g.primary)))
    by (Some n) = same_refusal n
    by None = with_contents (same_contents tag s.primary)

pub same_records : {v w : Value} → Alike v w → (limit tag : ℕ) (rest : List ℕ)
    → AnswersAlike SameRecord (record_holds limit tag v rest) (record_holds limit tag w rest)
unfolding record_holds
same_records x limit tag rest = same_record tag (same_held x limit rest)
