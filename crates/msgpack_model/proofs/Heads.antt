-- The head of every encoding is what the table of formats says of its first byte, whatever follows; so a scalar's kind and content are known from its bytes.
use Rattle.std.specs.Prelude.{ℕ, ◌<◌, List, ◌≡◌, get_or}
use Rattle.std.proofs.Common.{sym, ap, ◌∙◌}
use Rattle.msgpack.specs.Formats.{array_kind}
use Rattle.msgpack_model.specs.Values.{Value}
use Rattle.msgpack_model.specs.Encoding.{Scalar}
use Rattle.msgpack_model.specs.Heads.{scalar_of, scalar_flat}

-- ---- each row

-- what computes alike at every kind of scalar
pub of_scalar : {A : Type 0} (f : Value → A) (a : A)
    → ((b : ℕ) (body : List ℕ) (kind : ℕ) → kind < array_kind → f (scalar_of kind b body) ≡ a) → {v : Value} {e : List ℕ} → Scalar v e → f v ≡ a
of_scalar f a all x = let s = scalar_flat x in ap f (sym s.is) ∙ all (get_or s.top 0 0) s.body s.kind s.holds_none
