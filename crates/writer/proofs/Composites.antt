-- A composite text, written behind its head.
use Prim.Native.Nat.{ℕ, ◌+◌, ◌≤◌}
use mathlib.Core.Bool.{true}
use mathlib.Core.List.{List}
use Rattle.std.specs.Prelude.{Option, Some}
use mathlib.Core.Path.{◌≡◌, refl, sym, ap, ◌∙◌}
use native.Mathlib.Omega.{arith}
use lib.ListN.{length}
use Rattle.slices.specs.Overwriting.{written_bytes, length_overwritten}
use Rattle.msgpack_heads.specs.Heads.{text_head, next_place}
use Rattle.identifier.specs.Identity.{Identity, is_valid}
use Rattle.identifier.specs.Composite.{composite_text}
use Rattle.held_identifier.specs.Writing.{left, write_done}
use Rattle.writer.specs.Values.{text_item}
use Rattle.writer.specs.Putting.{Puts, told_place}
use Rattle.writer.proofs.Chains.{first_fits, next_fits, puts_both, head_put}

-- n is the length of the text, as it was computed
module _ (s : List ℕ) {t : List ℕ} (at : ℕ) {n r : ℕ} {told : Option ℕ} (i : Identity) (size : length (composite_text i) ≡ n)
    (answer : told ≡ next_place (length s) at (text_head n)) (written : t ≡ written_bytes s at (text_head n)) (place : r ≡ told_place told)
    (fits : at + length (text_item (composite_text i)) ≤ length s) where
  head : Puts s at (text_head (length (composite_text i))) t r
  unfolding text_item
  head = head_put {told = told} (rw size answer) (rw size written) place (first_fits (text_head (length (composite_text i))) (composite_text i) refl at (length s) fits)

  room : r + length (composite_text i) ≤ length t
  unfolding text_item
  room = next_fits (text_head (length (composite_text i))) (composite_text i) refl head fits

  pub composite_room : r + n ≤ length s
  unfolding text_item
  composite_room =
      let f = first_fits (text_head (length (composite_text i))) (composite_text i) refl at (length s) fits in
      omega (arith, room, size, ap length head.left, length_overwritten s at (text_head (length (composite_text i))) f)

  pub composite_put : {u : List ℕ} → is_valid i ≡ true → u ≡ left (Some i) t r → Puts s at (text_item (composite_text i)) u (r + n)
  unfolding text_item
  composite_put {u} valid e =
      let text : Puts t r (composite_text i) u (r + n) = record { left = e ∙ (write_done i t r valid room).1; place = ap (λ (k : ℕ). r + k) (sym size) } in
      puts_both (text_head (length (composite_text i))) (composite_text i) refl head text fits
