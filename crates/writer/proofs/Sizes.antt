-- How long the heads are.
use Prim.Native.Nat.{ℕ, suc, ◌+◌, ◌≤◌, ◌<◌}
use mathlib.Core.Bool.{Bool, true, false, cond}
use mathlib.Core.Path.{◌≡◌, refl, sym, ap, ◌∙◌}
use native.Mathlib.Omega.{arith}
use borrow.Author.Tests.{lt-ltb, le-ltb}
use lib.Dec.{ltb}
use lib.ListN.{length}
use Rattle.endian.specs.Numbers.{length_big_bytes}
use Rattle.msgpack_heads.specs.Heads.{Form, form, form_bytes, sized_form, text_form, unsigned_form, text_head, binary_head, unsigned_integer}

form_length : (f g : Form) (n : ℕ) → f ≡ g → length (form_bytes f n) ≡ suc g.width
form_length f g n e = ap suc (length_big_bytes f.width n) ∙ ap (λ (h : Form). suc h.width) e

abbrev chosen : ℕ → Bool → Bool → Form
chosen first s t = cond s (form first 1) (cond t (form (first + 1) 2) (form (first + 2) 4))

-- the sized forms are as long, whatever their first byte
sized_length : (a b n : ℕ) → length (form_bytes (sized_form a n) n) ≡ length (form_bytes (sized_form b n) n)
unfolding sized_form
sized_length a b n = go (ltb n 256) (ltb n 65536)
  where
    go : (s t : Bool) → length (form_bytes (chosen a s t) n) ≡ length (form_bytes (chosen b s t) n)
    go true t = refl
    go false true = refl
    go false false = refl

module _ (n : ℕ) where
  pub binary_short : n < 256 → 2 ≡ length (binary_head n)
  unfolding sized_form
  binary_short h = sym (form_length (sized_form 0xc4 n) (form 0xc4 1) n (rw (lt-ltb n 256 h)))

  pub binary_middle : 256 ≤ n → n < 65536 → 3 ≡ length (binary_head n)
  unfolding sized_form
  binary_middle l h = sym (form_length (sized_form 0xc4 n) (form 0xc5 2) n (rw (le-ltb n 256 l, lt-ltb n 65536 h)))

  pub binary_long : 65536 ≤ n → 5 ≡ length (binary_head n)
  unfolding sized_form
  binary_long l = sym (form_length (sized_form 0xc4 n) (form 0xc6 4) n (let k : 256 ≤ n = omega arith in rw (le-ltb n 256 k, le-ltb n 65536 l)))

  pub text_short : n < 32 → 1 ≡ length (text_head n)
  unfolding text_form
  text_short h = sym (form_length (text_form n) (form (0xa0 + n) 0) n (rw (lt-ltb n 32 h)))

  pub text_long : 32 ≤ n → length (binary_head n) ≡ length (text_head n)
  unfolding text_form
  text_long l =
      let e : text_form n ≡ sized_form 0xd9 n = rw (le-ltb n 32 l) in
      sized_length 0xc4 0xd9 n ∙ ap (λ (f : Form). length (form_bytes f n)) (sym e)

  pub unsigned_short : n < 128 → 1 ≡ length (unsigned_integer n)
  unfolding unsigned_form
  unsigned_short h = sym (form_length (unsigned_form n) (form n 0) n (rw (lt-ltb n 128 h)))

  pub unsigned_long : 128 ≤ n → n < 4294967296 → length (binary_head n) ≡ length (unsigned_integer n)
  unfolding unsigned_form
  unsigned_long l h =
      let e : unsigned_form n ≡ sized_form 0xcc n = rw (le-ltb n 128 l, lt-ltb n 4294967296 h) in
      sized_length 0xc4 0xcc n ∙ ap (λ (f : Form). length (form_bytes f n)) (sym e)
