-- THE MEANING OF PASSING OVER AN ITEM, for lists of bytes: whole, too deep, cut.
use Rattle.std.specs.Prelude.{ℕ, List, ◌++◌, ◌↔◌, ◌≡◌, refl, take, drop}
use Rattle.std.proofs.Common.{append_assoc, sym, ap, ◌∙◌, take-append-drop, length-take-le}
use Rattle.slices.specs.Bytes.{AllBytes}
use Rattle.slices.specs.Logic.{absurd_numbers}
use Rattle.msgpack.specs.Items.{Passage, whole, cut, too_deep, pass_item}
use Rattle.msgpack.specs.PassingLaws.{bounded}
use Rattle.msgpack_model.specs.Encoding.{TooDeep}
use Rattle.msgpack_model.proofs.Complete.{complete}
use Rattle.msgpack_model.proofs.Sound.{sound}
use Rattle.msgpack_model.specs.Deep.{deep_more}
use Rattle.msgpack_model.proofs.Deep.{deep, deep_means}
use Rattle.msgpack_model.specs.Passing.{WholeItem}

whole_passed : (a : ℕ) (s : List ℕ) (n : ℕ) → WholeItem a s n → pass_item a s ≡ whole n
whole_passed a s n x =
    rw take-append-drop at (complete x.encodes.encoded a x.encodes.shallow (drop n s)) ∙ ap whole (length-take-le n s x.within)

module _ (a : ℕ) (s : List ℕ) (bytes : AllBytes s) where
  pub whole_iff : (n : ℕ) → pass_item a s ≡ whole n ↔ WholeItem a s n
  whole_iff n = (λ p. record { within = (bounded a s n p).within; encodes = sound a s n bytes p }, whole_passed a s n)

  pub too_deep_iff : pass_item a s ≡ too_deep ↔ TooDeep a s
  too_deep_iff = (deep_means a s bytes, λ x. deep x)

  pub cut_iff : pass_item a s ≡ cut ↔ (((n : ℕ) → WholeItem a s n → ⊥) × (TooDeep a s → ⊥))
  cut_iff = (λ p. (no_item p, no_deep p), λ x. neither x.0 x.1)
    where
      no_item : pass_item a s ≡ cut → (n : ℕ) → WholeItem a s n → ⊥
      no_item p n x = let q : pass_item a s ≡ whole n = whole_passed a s n x in absurd_numbers (cc)

      no_deep : pass_item a s ≡ cut → TooDeep a s → ⊥
      no_deep p x = let q : pass_item a s ≡ too_deep = deep x in absurd_numbers (cc)

      by : ((n : ℕ) → WholeItem a s n → ⊥) → (TooDeep a s → ⊥) → (r : Passage) → pass_item a s ≡ r → pass_item a s ≡ cut
      by f g (whole n) e = absurd (f n (record { within = (bounded a s n e).within; encodes = sound a s n bytes e }))
      by f g cut e = e
      by f g too_deep e = absurd (g (deep_means a s bytes e))

      neither : ((n : ℕ) → WholeItem a s n → ⊥) → (TooDeep a s → ⊥) → pass_item a s ≡ cut
      neither f g = by f g (pass_item a s) refl

  -- what follows plays no part
  pub whole_more : (n : ℕ) → pass_item a s ≡ whole n → (t : List ℕ) → pass_item a (s ++ t) ≡ whole n
  whole_more n p t =
      let x = sound a s n bytes p in
      let l = (bounded a s n p).within in
      let joined : take n s ++ (drop n s ++ t) ≡ s ++ t = sym (append_assoc (take n s) (drop n s) t) ∙ ap (λ r. r ++ t) (take-append-drop n s) in
      rw joined at (complete x.encoded a x.shallow (drop n s ++ t)) ∙ ap whole (length-take-le n s l)

  pub too_deep_more : pass_item a s ≡ too_deep → (t : List ℕ) → pass_item a (s ++ t) ≡ too_deep
  too_deep_more p t = deep (deep_more (deep_means a s bytes p) t)
