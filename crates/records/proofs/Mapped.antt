-- What was mapped, from what `map_err` gave.
use Rattle.std.specs.Prelude.{◌≡◌, Result, Ok, Err, MatchResult, IsErrAnd}
use Rattle.std.proofs.Common.{refl, subst}
use Rattle.std.proofs.lemmas.Result.{err_from_is_err_and}
use Rattle.slices.specs.Logic.{absurd_numbers}

module _ {A E D : Type 0} (P : E → D → Type 0) where
  pub was_ok : (r : Result A E) (s : Result A D) (x : A) → MatchResult r (λ y. s ≡ Ok y) (λ e. IsErrAnd s (P e)) → s ≡ Ok x → r ≡ Ok x
  was_ok (Ok y) s x m e = cc
  was_ok (Err f) s x m e = let p = err_from_is_err_and s m in let q = p.1 in absurd_numbers (cc)

  pub was_err : (r : Result A E) (s : Result A D) (d : D) → MatchResult r (λ y. s ≡ Ok y) (λ e. IsErrAnd s (P e)) → s ≡ Err d → (f : E) × (r ≡ Err f) × P f d
  was_err (Ok y) s d m e = absurd_numbers (cc)
  was_err (Err f) s d m e = (f, refl, subst (λ (t : Result A D). IsErrAnd t (P f)) e m)
