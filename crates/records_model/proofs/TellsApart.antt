-- The relations that "two sites read alike" is said with tell things apart: what differs in one respect alone is not related.
use Rattle.std.specs.Prelude.{ℕ, ◌+◌, Bool, true, false, cond, List, [], ◌∷◌, ◌++◌, ◌≡◌, refl, ltb}
use Rattle.std.proofs.Common.{sym, subst, subst₂, ◌∙◌}
use Rattle.std.specs.Prelude.{Some, None}
use Rattle.slices.specs.Bytes.{same_bytes, same_bytes_refl}
use Rattle.slices.specs.Logic.{absurd_numbers}
use Rattle.msgpack.specs.Lookup.{found}
use Rattle.msgpack.specs.Views.{Both, both, Each, and_each, SameUnder, both_found}
use Rattle.msgpack_model.specs.Values.{Value, Boolean, Text, Binary, Array, Map, no_values_lem, value, no_pairs, pair}
use Rattle.msgpack_model.specs.Encoding.{Encodes}
use Rattle.msgpack_model.proofs.Unique.{unique, one_value}
use Rattle.msgpack_model.proofs.Unique as model
use Rattle.msgpack_model.specs.Views.{found_by}
use Rattle.records_model.specs.Alike.{Alike, same, AlikeBytes, AlikeRecordValues, same_value, headers, alike_binary}
use Rattle.records_model.proofs.Alike.{seen_alike}
use Rattle.records_model.specs.TellsApart.{encodings_differ}

-- ---- values

pub texts_differ : (s t : List ℕ) → (s ≡ t → ⊥) → Alike (Text s) (Text t) → ⊥
texts_differ s t d x = let e : Some s ≡ Some t = seen_alike.text x in d (cc)

pub booleans_differ : Alike (Boolean false) (Boolean true) → ⊥
booleans_differ x = let e : Some false ≡ Some true = seen_alike.boolean x in absurd_numbers (cc)

-- the order of an array counts
pub items_differ : (v w : Value) → (Alike v w → ⊥) → Alike (Array (value v (value w no_values_lem))) (Array (value w (value v no_values_lem))) → ⊥
items_differ v w d x = by (seen_alike.items x)
  where
    by : Both (Each Alike) (Some (v ∷ w ∷ [])) (Some (w ∷ v ∷ [])) → ⊥
    by (both (and_each y ys)) = d y

-- what stands under a key
pub values_of_a_key_differ : (key : List ℕ) (v w : Value) → (Alike v w → ⊥)
    → Alike (Map (pair (Text key) v no_pairs)) (Map (pair (Text key) w no_pairs)) → ⊥
values_of_a_key_differ key v w d x = by (same_bytes key key) (same_bytes_refl key) (seen_alike.under key x)
  where
    at : SameUnder Alike (found v) (found w) → ⊥
    at (both_found y) = d y

    by : (t : Bool) → t ≡ true
        → (ltb 1 (cond t 1 0 + 0) ≡ false → SameUnder Alike (found_by (cond t (Some v) None)) (found_by (cond t (Some w) None))) → ⊥
    by true e under = at (under refl)
    by false e under = absurd_numbers (cc)

pub embedded_values_differ : {v w : Value} {e f : List ℕ} → Encodes v e → Encodes w f → (Alike v w → ⊥) → Alike (Binary e) (Binary f) → ⊥
embedded_values_differ {e = e} {f = f} x y d z = by (alike_binary z)
  where
    by : Both AlikeBytes (Some e) (Some f) → ⊥
    by (both b) = encodings_differ x y d b

-- of records: another header, or another secondary part
module _ {v w : Value} {e f : List ℕ} (x : Encodes v e) (y : Encodes w f) (secondary other : List ℕ) where
  both_parts : (s t : List ℕ) → s ≡ e ++ secondary → t ≡ f ++ other → AlikeRecordValues s t → Alike v w × (secondary ≡ other)
  both_parts s t p q (same_value r) =
      let h : e ++ secondary ≡ f ++ other = sym p ∙ q in
      (subst (Alike v) (unique x y secondary other h) (same v), (model.same_bytes_lem x y secondary other h).rest)
  both_parts s t p q (headers a b z r) = (
    subst₂ Alike (unique a x r secondary p) (unique b y r other q) z,
    sym (model.same_bytes_lem a x r secondary p).rest ∙ (model.same_bytes_lem b y r other q).rest,
  )

  pub headers_differ : (Alike v w → ⊥) → AlikeRecordValues (e ++ secondary) (f ++ other) → ⊥
  headers_differ d z = d (both_parts _ _ refl refl z).0

  pub behind_headers_differ : (secondary ≡ other → ⊥) → AlikeRecordValues (e ++ secondary) (f ++ other) → ⊥
  behind_headers_differ d z = d (both_parts _ _ refl refl z).1
