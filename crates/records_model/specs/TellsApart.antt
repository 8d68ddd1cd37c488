-- The relations that "two sites read alike" is said with tell things apart: what differs in one respect alone is not related.
use Rattle.std.specs.Prelude.{ℕ, List, ◌⊎◌, ◌≡◌, refl}
use Rattle.std.proofs.Common.{inl, inr, subst, subst₂}
use Rattle.slices.specs.Logic.{absurd_numbers}
use Rattle.refusals.specs.Answers.{Answer, refused, granted, is_result}
use Rattle.msgpack_model.specs.Values.{Value}
use Rattle.msgpack_model.specs.Encoding.{Encodes}
use Rattle.msgpack_model.proofs.Unique.{one_value}
use Rattle.value.specs.Header.{Telling}
use Rattle.records.specs.Record.{Contents}
use Rattle.records_model.specs.Alike.{Alike, same, AlikeBytes, same_bytes_lem, encodings}
use Rattle.records_model.specs.Record.{RecordHeld}
use Rattle.records_model.specs.AnswersAlike.{TypeFault, in_header_lem, in_part, AnswersAlike, same_refusal, first_22, second_22, both_read, SameRecord}

-- ---- values

-- bytes that hold values unlike
pub encodings_differ : {v w : Value} {e f : List ℕ} → Encodes v e → Encodes w f → (Alike v w → ⊥) → AlikeBytes e f → ⊥
encodings_differ {v = v} x y d (same_bytes_lem e) = d (subst (Alike v) (one_value x y) (same v))
encodings_differ x y d (encodings p q z) = d (subst₂ Alike (one_value p x) (one_value q y) z)

-- ---- answers

module _ {A : Type 0} {R : A → A → Type 0} where
  -- of numbers one is 22, and the other one that depends on the order of pairs
  pub numbers_differ : (n m : ℕ) → (n ≡ m → ⊥) → (n ≡ 22 → TypeFault m → ⊥) → (m ≡ 22 → TypeFault n → ⊥) → AnswersAlike R (refused n) (refused m) → ⊥
  numbers_differ n m d e f (same_refusal k) = d refl
  numbers_differ n m d e f (first_22 t) = e refl t
  numbers_differ n m d e f (second_22 t) = f refl t

  both_results : {a b : Answer A} → AnswersAlike R a b → is_result a ≡ is_result b
  both_results (same_refusal n) = refl
  both_results (first_22 t) = refl
  both_results (second_22 t) = refl
  both_results (both_read r) = refl

  pub read_is_not_refused : (a : A) (n : ℕ) → (AnswersAlike R (granted a) (refused n) → ⊥) × (AnswersAlike R (refused n) (granted a) → ⊥)
  read_is_not_refused a n = (λ x. let e = both_results x in absurd_numbers (cc), λ x. let e = both_results x in absurd_numbers (cc))

  pub results_differ : (a b : A) → (R a b → ⊥) → AnswersAlike R (granted a) (granted b) → ⊥
  results_differ a b d (both_read r) = d r

pub type_faults : {n : ℕ} → TypeFault n → (n ≡ 11) ⊎ (n ≡ 17)
type_faults in_header_lem = inl refl
type_faults in_part = inr refl

-- ---- records

module _ (r : RecordHeld) where
  abbrev but : (primary secondary : List ℕ) → Telling → Contents → RecordHeld
  but primary secondary told c = record { held = record { primary = primary; secondary = secondary; told = told }; contents = c }

  pub primary_parts_differ : (part : List ℕ) → (AlikeBytes r.held.primary part → ⊥)
      → SameRecord r (but part r.held.secondary r.held.told r.contents) → ⊥
  primary_parts_differ part d x = d x.held.primary

  pub secondary_parts_differ : (part : List ℕ) → (r.held.secondary ≡ part → ⊥)
      → SameRecord r (but r.held.primary part r.held.told r.contents) → ⊥
  secondary_parts_differ part d x = d x.held.secondary

  -- `v`, and `c` and `z` of both parts
  pub tellings_differ : (t : Telling) → (r.held.told ≡ t → ⊥)
      → SameRecord r (but r.held.primary r.held.secondary t r.contents) → ⊥
  tellings_differ t d x = d x.held.told

  pub contents_differ : (c : Contents) → (r.contents ≡ c → ⊥)
      → SameRecord r (but r.held.primary r.held.secondary r.held.told c) → ⊥
  contents_differ c d x = d x.contents
