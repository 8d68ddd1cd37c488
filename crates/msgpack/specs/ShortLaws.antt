-- Laws of the short form: what the head at the front says of its first byte's format, and so of its form.
use Rattle.std.specs.Prelude.{ℕ, ◌+◌, ◌-◌, ◌<◌, Bool, true, cond, ◌&&◌, List, [], ◌∷◌, ◌≡◌, refl, eqb, get_or}
use Rattle.std.proofs.Math.Bool.{false}
use Rattle.std.specs.Prelude.{Option, None, Some}
use Rattle.std.proofs.Common.{sym, ◌∙◌, arith}
use borrow.Author.Tests.{eq-eqb, ne_eqb, eqb-true}
use Rattle.slices.specs.Bytes.{AllBytes}
use Rattle.slices.specs.Tables.{agree}
use Rattle.endian.specs.Numbers.{little, big}
use Rattle.endian.specs.Places.{number_at}
use Rattle.msgpack.specs.Formats.{unused_kind, integer_kind, kind_of, width_of, amount_of, formats, format_of}
use Rattle.msgpack.specs.Items.{head_by, head_of}
use Rattle.msgpack.specs.Readers.{Int, plus}
use Rattle.msgpack.specs.Short.{short_width, argument_width, is_signed, signed_well, is_short, is_short_integer}
use Rattle.msgpack.specs.HeadLaws.{NumberRead, number_read}

-- ---- the first byte's format, and the head

-- an integer's format has no number that counts
integer_width : (b : ℕ) → b < 256 → kind_of (format_of b) ≡ integer_kind → width_of (format_of b) ≡ 0
unfolding format_of formats
integer_width b h k =
    let all : cond (eqb (kind_of (format_of b)) integer_kind) (eqb (width_of (format_of b)) 0) true ≡ true
    = agree (λ k. cond (eqb (kind_of (format_of k)) integer_kind) (eqb (width_of (format_of k)) 0) true) (λ k. true) 256 refl b h in
    eqb-true (width_of (format_of b)) 0 (rw (eq-eqb _ _ k) at all)

-- only integers have signed forms
signed_integer : (b : ℕ) → b < 256 → (kind_of (format_of b) ≡ integer_kind → ⊥) → is_signed b ≡ false
unfolding format_of formats is_signed
signed_integer b h k =
    rw (ne_eqb _ _ k) at (agree (λ k. cond (eqb (kind_of (format_of k)) integer_kind) false (is_signed k)) (λ k. false) 256 refl b h)

pub nothing_read : (s : List ℕ) (w n : ℕ) → w ≡ 0 → NumberRead big s 1 w n → n ≡ 0
unfolding big little
nothing_read s w n z r = r.is ∙ rw z

-- what the head says of its first byte's format
pub record HeadFormat (s : List ℕ) : Type 0 where
  pub kind : kind_of (format_of (get_or s 0 0)) ≡ (head_of s).kind
  pub width : argument_width (get_or s 0 0) ≡ cond (eqb (head_of s).kind integer_kind) (head_of s).count ((head_of s).size - 1)

head_format : (s : List ℕ) → AllBytes s → ((head_of s).kind ≡ unused_kind → ⊥) → HeadFormat s
unfolding head_of argument_width
head_format [] bytes used = absurd (used refl)
head_format (b ∷ t) bytes used = by (number_at big (b ∷ t) 1 (width_of (format_of b))) refl used
  where
    said : (n : ℕ) → number_at big (b ∷ t) 1 (width_of (format_of b)) ≡ Some n
        → cond (eqb (kind_of (format_of b)) integer_kind) (amount_of (format_of b)) (width_of (format_of b))
        ≡ cond (eqb (kind_of (format_of b)) integer_kind) (amount_of (format_of b) + n) (1 + width_of (format_of b) - 1)
    said n e = go (eqb (kind_of (format_of b)) integer_kind) refl
      where
        go : (i : Bool) → eqb (kind_of (format_of b)) integer_kind ≡ i
            → cond i (amount_of (format_of b)) (width_of (format_of b)) ≡ cond i (amount_of (format_of b) + n) (1 + width_of (format_of b) - 1)
        go true i =
            let none_counted = integer_width b (bytes.below 0) (eqb-true _ _ i) in
            omega (arith, nothing_read (b ∷ t) (width_of (format_of b)) n none_counted (number_read big (b ∷ t) 1 (width_of (format_of b)) n e))
        go false i = omega arith

    by : (r : Option ℕ) → number_at big (b ∷ t) 1 (width_of (format_of b)) ≡ r → ((head_by (format_of b) r).kind ≡ unused_kind → ⊥) → HeadFormat (b ∷ t)
    by None e u = absurd (u refl)
    by (Some n) e u = record { kind = rw e; width = rw e (said n e) }

-- ---- the form at the front, from its head

pub and_true : (t : Bool) → (t && true) ≡ t
and_true true = refl
and_true false = refl

module _ (s : List ℕ) (bytes : AllBytes s) (used : (head_of s).kind ≡ unused_kind → ⊥) where
  at_front : HeadFormat s
  at_front = head_format s bytes used

  -- an integer's, by its width
  pub integer_short_lem : (head_of s).kind ≡ integer_kind → (i : Int) → is_short_integer (get_or s 0 0) (head_of s).count i ≡ is_short (get_or s 0 0) i
  unfolding is_short is_short_integer
  integer_short_lem k i = rw (at_front.width, at_front.kind, k)

  -- of any other, by the length of its head
  pub other_short : ((head_of s).kind ≡ integer_kind → ⊥) → (n : ℕ)
      → eqb ((head_of s).size - 1) (short_width (head_of s).kind (plus n)) ≡ is_short (get_or s 0 0) (plus n)
  unfolding is_short signed_well
  other_short k n =
      let unsigned : is_signed (get_or s 0 0) ≡ false
      = signed_integer (get_or s 0 0) (bytes.below 0) (λ (i : kind_of (format_of (get_or s 0 0)) ≡ integer_kind). k (sym at_front.kind ∙ i)) in
      rw (at_front.width, at_front.kind, ne_eqb _ _ k, unsigned, and_true)
