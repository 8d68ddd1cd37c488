-- Laws of forms: the form of the item at the front, from its head; and that what the readers of `msgpack` say of it is the same.
use Rattle.std.specs.Prelude.{ℕ, ◌-◌, ◌≤◌, Bool, List, ◌≡◌, length, get_or, take, drop}
use Rattle.std.proofs.Math.Bool.{true, false, cond}
use Rattle.std.specs.Prelude.{Option, None, Some}
use Rattle.std.proofs.Math.Path.{refl}
use Rattle.std.proofs.Common.{sym, ap, ◌∙◌}
use native.Mathlib.Omega.{arith}
use borrow.Author.Tests.{eq-eqb, ne_eqb, eqb-true, le-leb}
use Rattle.std.proofs.Math.Dec.{eqb}
use Rattle.slices.specs.Bytes.{AllBytes}
use Rattle.slices.specs.Logic.{absurd_numbers}
use Rattle.endian.specs.Numbers.{big}
use Rattle.msgpack.specs.Formats.{unused_kind, boolean_kind, integer_kind, text_kind, extension_kind, array_kind}
use Rattle.msgpack.specs.Items.{head_of}
use Rattle.msgpack.specs.Readers.{is_whole, Part, part, content_at, Int, plus, integer_of, read_integer, Counted, counted, count_at}
use Rattle.msgpack.specs.Short.{short_width, is_short, short_front, length_read, count_read}
use Rattle.msgpack.specs.ShortLaws.{other_short}
use Rattle.msgpack.specs.ReaderLaws.{is_whole_lem}
use Rattle.msgpack_forms.specs.Items.{argument_of, argument_at, Form, form_by, integer_form_by, form_at}

module _ (s : List ℕ) where
  integer_by_lem : (r : Option Int) → form_by (get_or s 0 0) r ≡ integer_form_by (short_front s r) r
  integer_by_lem None = refl
  integer_by_lem (Some i) = refl

  -- an integer's, by what its reader says
  pub integer_form : (head_of s).kind ≡ integer_kind → form_at s ≡ integer_form_by (short_front s (read_integer s)) (read_integer s)
  unfolding argument_at
  integer_form k = rw (eq-eqb _ _ k) (integer_by_lem (read_integer s))

  -- of any other, by the length of its head
  pub other_form : AllBytes s → ((head_of s).kind ≡ unused_kind → ⊥) → ((head_of s).kind ≡ integer_kind → ⊥) → (n : ℕ)
      → n ≡ argument_of (head_of s).kind (get_or s 0 0) (head_of s).count
      → form_at s ≡ record { argument = plus n; short = eqb ((head_of s).size - 1) (short_width (head_of s).kind (plus n)) }
  unfolding argument_at
  other_form bytes used k n e = rw (ne_eqb _ _ k, ← e, other_short s bytes used k n)

  -- ---- where a reader finds something, it says of the form what `form_at` does

  integer_kind_lem : (i : Int) → read_integer s ≡ Some i → (head_of s).kind ≡ integer_kind
  unfolding read_integer
  integer_kind_lem i e = by (is_whole integer_kind (head_of s) (length s)) refl e
    where
      by : (t : Bool) → is_whole integer_kind (head_of s) (length s) ≡ t
          → cond t (Some (integer_of (get_or s 0 0) (head_of s).count (big (take (head_of s).count (drop (head_of s).size s))))) None ≡ Some i
          → (head_of s).kind ≡ integer_kind
      by true w q = (is_whole_lem integer_kind (head_of s) (length s) w).of_kind
      by false w q = absurd_numbers (cc)

  pub integer_said : (i : Int) → read_integer s ≡ Some i → short_front s (read_integer s) ≡ (form_at s).short
  integer_said i e = sym (ap (λ (f : Form). f.short) (integer_form (integer_kind_lem i e)) ∙ rw e)

  of_count : text_kind ≤ (head_of s).kind → ((head_of s).kind ≡ extension_kind → ⊥) → is_short (get_or s 0 0) (plus (head_of s).count) ≡ (form_at s).short
  unfolding argument_at argument_of
  of_count l x =
      let no_integer : (head_of s).kind ≡ integer_kind → ⊥ = λ e. omega arith in
      let no_boolean : (head_of s).kind ≡ boolean_kind → ⊥ = λ e. omega arith in
      rw (ne_eqb _ _ no_integer, ne_eqb _ _ no_boolean, ne_eqb _ _ x, le-leb _ _ l)

  module _ (kind : ℕ) where
    pub content_said : text_kind ≤ kind → (kind ≡ extension_kind → ⊥) → (p : Part) → content_at kind s ≡ Some p
        → short_front s (length_read (content_at kind s)) ≡ (form_at s).short
    unfolding content_at
    content_said l x p e = by (is_whole kind (head_of s) (length s)) refl e
      where
        by : (t : Bool) → is_whole kind (head_of s) (length s) ≡ t → cond t (Some (part (head_of s).size (head_of s).count)) None ≡ Some p
            → short_front s (length_read (cond t (Some (part (head_of s).size (head_of s).count)) None)) ≡ (form_at s).short
        by true w q = let k = (is_whole_lem kind (head_of s) (length s) w).of_kind in of_count (rw k l) (λ (i : (head_of s).kind ≡ extension_kind). x (sym k ∙ i))
        by false w q = absurd_numbers (cc)

    pub count_said : array_kind ≤ kind → (c : Counted) → count_at kind s ≡ Some c → short_front s (count_read (count_at kind s)) ≡ (form_at s).short
    unfolding count_at
    count_said l c e = by (eqb (head_of s).kind kind) refl e
      where
        by : (t : Bool) → eqb (head_of s).kind kind ≡ t → cond t (Some (counted (head_of s).count (head_of s).size)) None ≡ Some c
            → short_front s (count_read (cond t (Some (counted (head_of s).count (head_of s).size)) None)) ≡ (form_at s).short
        by true w q =
            let k : (head_of s).kind ≡ kind = eqb-true _ _ w in
            of_count (omega arith) (λ (i : (head_of s).kind ≡ extension_kind). omega arith)
        by false w q = absurd_numbers (cc)
