-- `primary::texts_under` meets its contract: the three texts in turn, none where one is missing.
use Rattle.std.specs.Prelude.{None, Some}
use mathlib.Core.Path.{◌≡◌, refl, ◌∙◌}
use lib.ListN.{get_or, drop}
use Rattle.slices.specs.Places.{part_at}
use Rattle.msgpack.specs.Views.{byte_view}
use Rattle.primary.specs.Parts.{ulid_key, bucket_key, object_key, text_under}
use Rattle.primary.proofs.Places.{text_told, told_within}
use Rattle.primary.proofs.Readings.{texts_are}
use Rattle.primary.proofs.texts_under.Goals as goal
use Rattle.primary.proofs.texts_under.Goals.{In_ok-ulid, In_ok-bucket, In_ok-object}

-- the text that stands under each key
ulid : (c : In_ok-ulid) → Some (part_at c.args.part.now c.in_ok-ulid.ulid) ≡ text_under byte_view ulid_key (drop c.args.at c.args.part.now)
ulid c = c.in_ok-ulid.ensures.result_value ∙ text_told _ _ (get_or c.args.places 0 0) c.requires.1.ulid

bucket : (c : In_ok-bucket) → Some (part_at c.args.part.now c.in_ok-bucket.bucket) ≡ text_under byte_view bucket_key (drop c.args.at c.args.part.now)
bucket c = c.in_ok-bucket.ensures.result_value ∙ text_told _ _ (get_or c.args.places 1 0) c.requires.1.bucket

object : (c : In_ok-object) → Some (part_at c.args.part.now c.in_ok-object.object) ≡ text_under byte_view object_key (drop c.args.at c.args.part.now)
object c = c.in_ok-object.ensures.result_value ∙ text_told _ _ (get_or c.args.places 2 0) c.requires.1.object

pub text_under-requires : goal.text_under-requires
text_under-requires c = told_within c.args.part.now c.args.at c.requires.0 ulid_key (get_or c.args.places 0 0) c.requires.1.ulid

pub text_under-requires-2 : goal.text_under-requires-2
text_under-requires-2 c = told_within c.args.part.now c.args.at c.requires.0 bucket_key (get_or c.args.places 1 0) c.requires.1.bucket

pub text_under-requires-3 : goal.text_under-requires-3
text_under-requires-3 c = told_within c.args.part.now c.args.at c.requires.0 object_key (get_or c.args.places 2 0) c.requires.1.object

pub returns-in_err-ulid-clause-result_value : goal.returns-in_err-ulid-clause-result_value
returns-in_err-ulid-clause-result_value c =
    rw c.from_residual.ensures
    (texts_are _ None _ _ (c.in_err-ulid.ensures.result_value ∙ text_told _ _ (get_or c.args.places 0 0) c.requires.1.ulid) refl refl)

pub returns-in_err-bucket-clause-result_value : goal.returns-in_err-bucket-clause-result_value
returns-in_err-bucket-clause-result_value c =
    rw c.from_residual-in_err-bucket.ensures
    (texts_are _ _ None _ (ulid (goal.at.returns-in_err-bucket-clause-result_value c).In_ok-ulid)
    (c.in_err-bucket.ensures.result_value ∙ text_told _ _ (get_or c.args.places 1 0) c.requires.1.bucket) refl)

pub returns-in_err-object-clause-result_value : goal.returns-in_err-object-clause-result_value
returns-in_err-object-clause-result_value c =
    let at = goal.at.returns-in_err-object-clause-result_value c in
    rw c.from_residual-in_err-object.ensures
    (texts_are _ _ _ None (ulid at.In_ok-ulid) (bucket at.In_ok-bucket)
    (c.in_err-object.ensures.result_value ∙ text_told _ _ (get_or c.args.places 2 0) c.requires.1.object))

pub returns-clause-result_value : goal.returns-clause-result_value
returns-clause-result_value c =
    let at = goal.at.returns-clause-result_value c in
    texts_are _ _ _ _ (ulid at.In_ok-ulid) (bucket at.In_ok-bucket) (object at.In_ok-object)
