-- What the readers say of the form at the front, from the head that was read.
use Prim.Native.Nat.{ℕ, ◌-◌, ◌<◌}
use mathlib.Core.Bool.{true}
use mathlib.Core.List.{List}
use Rattle.std.specs.Prelude.{Some}
use mathlib.Core.Path.{◌≡◌, sym, ap, ◌∙◌}
use native.Mathlib.Omega.{arith}
use borrow.Author.Tests.{eq-eqb}
use lib.Dec.{eqb}
use lib.ListN.{length, get_or, take, drop}
use Rattle.slices.specs.Bytes.{AllBytes}
use Rattle.endian.specs.Numbers.{big}
use Rattle.msgpack.specs.Formats.{unused_kind, integer_kind}
use Rattle.msgpack.specs.Items.{Head, head_of}
use Rattle.msgpack.specs.Readers.{plus, minus, is_whole, content_at, integer_of, read_integer, integer_read, integer_short, count_at}
use Rattle.msgpack.specs.Short.{short_width, signed_well, is_short, is_short_integer, short_front, length_read, count_read, IntegerTold}
use Rattle.msgpack.specs.declared.Integer.{Integer}
use Rattle.msgpack.specs.PassingLaws.{head_within}
use Rattle.msgpack.specs.ShortLaws.{and_true, integer_short_lem, other_short}
use Rattle.msgpack.specs.ReaderLaws.{is_whole_lem}

module _ (kind : ℕ) (s : List ℕ) (h : Head) (e : h ≡ head_of s) where
  -- the head is of a kind that is used
  used : unused_kind < kind → h.kind ≡ kind → (head_of s).kind ≡ unused_kind → ⊥
  used l k u = let here : (head_of s).kind ≡ kind = sym (ap (λ (h : Head). h.kind) e) ∙ k in omega arith

  pub some_size : unused_kind < kind → h.kind ≡ kind → 0 < h.size
  some_size l k = let size : h.size ≡ (head_of s).size = ap (λ (h : Head). h.size) e in omega (arith, (head_within s).begun (used l k))

  module _ (bytes : AllBytes s) (l : integer_kind < kind) where
    count_form : h.kind ≡ kind → eqb (h.size - 1) (short_width h.kind (plus h.count)) ≡ is_short (get_or s 0 0) (plus h.count)
    count_form k =
        let none : (head_of s).kind ≡ integer_kind → ⊥ = λ i. let here : (head_of s).kind ≡ kind = sym (ap (λ (h : Head). h.kind) e) ∙ k in omega arith in
        rw e (other_short s bytes (used (omega arith) k) none (head_of s).count)

    pub content_form : is_whole kind h (length s) ≡ true
        → eqb (h.size - 1) (short_width h.kind (plus h.count)) ≡ short_front s (length_read (content_at kind s))
    unfolding content_at
    content_form w = count_form (is_whole_lem kind h (length s) w).of_kind ∙ rw (← e, w)

    pub counted_form : h.kind ≡ kind → eqb (h.size - 1) (short_width h.kind (plus h.count)) ≡ short_front s (count_read (count_at kind s))
    unfolding count_at
    counted_form k = count_form k ∙ rw (← e, eq-eqb _ _ k)

-- below 0 each form is as signed as it has to be
pub negative_told : (b w m : ℕ) (r : Integer) → (integer_read (Some r) ≡ Some (minus m)) × (integer_short (Some r) ≡ eqb w (short_width integer_kind (minus m)))
    → IntegerTold b w (minus m) r
unfolding is_short_integer signed_well
negative_told b w m r t = record { value = t.0; form = t.1 ∙ sym (and_true _) }

pub integer_form : (s : List ℕ) (bytes : AllBytes s) (h : Head) → h ≡ head_of s → is_whole integer_kind h (length s) ≡ true
    → (n : ℕ) → n ≡ big (take h.count (drop h.size s))
    → is_short_integer (get_or s 0 0) h.count (integer_of (get_or s 0 0) h.count n) ≡ short_front s (read_integer s)
unfolding read_integer
integer_form s bytes h e w n q =
    let k = (is_whole_lem integer_kind h (length s) w).of_kind in
    let here : (head_of s).kind ≡ integer_kind = sym (ap (λ (h : Head). h.kind) e) ∙ k in
    let form : is_short_integer (get_or s 0 0) h.count (integer_of (get_or s 0 0) h.count n) ≡ is_short (get_or s 0 0) (integer_of (get_or s 0 0) h.count n)
    = rw e (integer_short_lem s bytes (used integer_kind s h e (omega arith) k) here (integer_of (get_or s 0 0) (head_of s).count n)) in
    form ∙ rw (← e, w, q)
