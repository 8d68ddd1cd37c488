-- One record added by a call: it stands directly after the pack so far and reads as what was handed in, and the records before it read as
-- they did.
use Rattle.std.specs.Prelude.{ℕ, ◌^◌, ◌<◌, ◌≡◌, length, take}
use mathlib.Core.List.{List, [], ◌++◌, append-nil}
use Rattle.std.specs.Prelude.{Some}
use Rattle.std.proofs.Common.{sym, subst₂, ◌∙◌, length-take-le}
use Rattle.std.proofs.Math.Path.{ap}
use Rattle.slices.specs.Bytes.{AllBytes}
use Rattle.refusals.specs.Answers.{granted}
use Rattle.pack.specs.Acceptance.{entry_of}
use Rattle.writer.specs.Writing.{Item, item_bytes, written, buffer_after}
use Rattle.writer_laws.specs.Calls.{record_for}
use Rattle.writer_laws.specs.Refusals.{written_exactly}
use Rattle.writer_laws.specs.ReadBack.{Means}
use Rattle.writer_laws.proofs.ReadBack.{means_there}
use Rattle.writer_laws.specs.Added.{record_appended, told_inside, total, value_within, item_handed}

-- ---- the call

module _ (limit : ℕ) (small : limit < 2 ^ 32) (item : Item) (used n : ℕ) (buf : List ℕ) (wrote : written limit (length buf) used (Some item) ≡ granted n) where
  -- what holds of every slice: it is bytes
  module _ (all : AllBytes (buffer_after limit used (Some item) buf)) where
    pub added_means : Means limit (take n (buffer_after limit used (Some item) buf)) item (entry_of used (record_for item))
    added_means =
        let w = (written_exactly limit (length buf) used item n).0 wrote in
        let front : take n (buffer_after limit used (Some item) buf) ≡ take used buf ++ (item_bytes item ++ [])
        = record_appended limit small item used n buf wrote ∙ ap (λ t. take used buf ++ t) (sym (append-nil (item_bytes item))) in
        subst₂ (λ s k. Means limit s item (entry_of k (record_for item))) (sym front) (length-take-le used buf (told_inside limit small item used n buf wrote))
        (means_there limit small item (take used buf) [] (item_handed limit small item used n buf wrote all) w.0 (rw append-nil (total limit small item used n buf wrote)) (value_within limit small item used n buf wrote))
