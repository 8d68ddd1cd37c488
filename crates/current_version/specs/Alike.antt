-- Two packs whose records are alike one by one are looked up alike. What alike means of refusals' numbers, of places and of values is left open here.
use Rattle.std.specs.Prelude.{ℕ, Bool, List, ◌≡◌}
use Rattle.std.proofs.Math.Path.{refl}
use Rattle.identifier.specs.Identity.{Identity}
use Rattle.current_version.specs.Current.{Role, version, deletion, other, unreadable, Placed, Version, Answer, nothing, found, refused_at, alone}

-- ---- records alike

-- the same to a lookup; of two that cannot be read, numbers alike
pub data AlikeRoles (Number : ℕ → ℕ → Type 0) : Role → Role → Type 0 where
  versions : (i : Identity) (delete_flag : Bool) → AlikeRoles Number (version i delete_flag) (version i delete_flag)
  deletions : (i : Identity) → AlikeRoles Number (deletion i) (deletion i)
  others : AlikeRoles Number other other
  unreadables : {n m : ℕ} → Number n m → AlikeRoles Number (unreadable n) (unreadable m)

pub record AlikePlaced (Number Place : ℕ → ℕ → Type 0) (Bytes : List ℕ → List ℕ → Type 0) (p q : Placed) : Type 0 where
  pub role : AlikeRoles Number p.role q.role
  pub start : Place p.start q.start
  pub value : Bytes p.value q.value

-- ---- answers alike

-- the same identifier and delete flag, of records alike
pub record AlikeVersions (Place : ℕ → ℕ → Type 0) (Bytes : List ℕ → List ℕ → Type 0) (v w : Version) : Type 0 where
  pub identifier : v.identifier ≡ w.identifier
  pub delete_flag : v.delete_flag ≡ w.delete_flag
  pub value : Bytes v.value w.value
  pub start : Place v.start w.start

pub data AlikeAnswers (Number Place : ℕ → ℕ → Type 0) (Bytes : List ℕ → List ℕ → Type 0) : Answer → Answer → Type 0 where
  both_nothing : AlikeAnswers Number Place Bytes nothing nothing
  both_found : {v w : Version} → AlikeVersions Place Bytes v w → AlikeAnswers Number Place Bytes (found v) (found w)
  both_refused : {n m p q : ℕ} → Number n m → Place p q → AlikeAnswers Number Place Bytes (refused_at n p) (refused_at m q)
  both_alone : (n : ℕ) → AlikeAnswers Number Place Bytes (alone n) (alone n)

-- ---- what is equal in answers alike, whatever was left open

pub data Outline : Type 0 where
  nothing_told : Outline
  version_told : Identity → Bool → Outline  -- whether it is a delete marker
  refusal_told : Outline

abbrev pub outline : Answer → Outline
outline nothing = nothing_told
outline (found v) = version_told v.identifier v.delete_flag
outline (refused_at n place) = refusal_told
outline (alone n) = refusal_told

pub same_outline : {Number Place : ℕ → ℕ → Type 0} {Bytes : List ℕ → List ℕ → Type 0} {a b : Answer} → AlikeAnswers Number Place Bytes a b
    → outline a ≡ outline b
same_outline both_nothing = refl
same_outline (both_found x) = λ i. version_told (x.identifier i) (x.delete_flag i)
same_outline (both_refused n p) = refl
same_outline (both_alone n) = refl
