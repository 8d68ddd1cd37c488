-- Heads: the one at the front of a list, by its first byte's format; how large it can be; and the one at a place.
use Prim.Native.Nat.{ℕ, ◌+◌, ◌-◌, ◌≤◌, ◌<◌}
use mathlib.Core.List.{List, [], ◌∷◌}
use Rattle.std.specs.Prelude.{None, Some}
use mathlib.Core.Path.{◌≡◌, refl, sym, ap, ◌∙◌}
use native.Mathlib.Nat.{not-suc-le-zero, add-zero, add_assoc}
use native.Mathlib.Omega.{arith}
use borrow.Author.Tests.{lt-ltb, le-ltb}
use lib.Dec.{leb}
use lib.ListN.{length, get_or, drop, length-drop}
use lib.Seq.{get_or-drop, drop-drop}
use Rattle.slices.specs.Bytes.{AllBytes, drop_bytes}
use Rattle.slices.specs.Logic.{leb_shift}
use Rattle.endian.specs.Numbers.{little, big}
use Rattle.endian.specs.Places.{holds, number_at, number_there}
use Rattle.msgpack.specs.Formats.{integer_kind, text_kind, array_kind, map_kind, Format, format, kind_of, width_of, amount_of, format_of}
use Rattle.msgpack.specs.Items.{head, no_head, head_by, head_of, HeadAt}
use Rattle.msgpack.specs.HeadLaws.{number_read, read_small, Narrow, narrow}

no_bytes : (s : List ℕ) → length s ≡ 0 → HeadAt s no_head
unfolding head_of
no_bytes [] h = record { is = refl; inside = omega arith; small = omega arith }
no_bytes (b ∷ t) h = absurd (omega arith)

by_format : (s : List ℕ) (f : Format) → 0 < length s → f ≡ format_of (get_or s 0 0) → head_of s ≡ head_by f (number_at big s 1 (width_of f))
unfolding head_of
by_format [] f h e = absurd (not-suc-le-zero h)
by_format (b ∷ t) f h e = rw e

module _ (s : List ℕ) (f : Format) (there : 0 < length s) (e : f ≡ format_of (get_or s 0 0)) where
  format_narrow : get_or s 0 0 < 256 → Narrow (width_of f) (amount_of f)
  format_narrow l = rw e (narrow (get_or s 0 0) l)

  head_read_lem : AllBytes s → (n : ℕ) → number_at big s 1 (width_of f) ≡ Some n → HeadAt s (head (kind_of f) (1 + width_of f) (amount_of f + n))
  head_read_lem bytes n q =
      let r = number_read big s 1 (width_of f) n q in
      let w = format_narrow (bytes.below 0) in
      let small = read_small s 1 (width_of f) n bytes w.width_small r in
      record { is = rw (by_format s f there e, q); inside = r.within.inside; small = omega (arith, w.amount_small) }

  head_unread : number_at big s 1 (width_of f) ≡ None → HeadAt s no_head
  head_unread q = record { is = rw (by_format s f there e, q); inside = omega arith; small = omega arith }

-- ---- at a place

-- a number at a place is one of the rest
number_from : (s : List ℕ) (at i w : ℕ) → at ≤ length s → number_at big s (at + i) w ≡ number_at big (drop at s) i w
unfolding number_at holds
number_from s at i w h =
    let e : leb (at + i + w) (length s) ≡ leb (i + w) (length s - at) = ap (λ (n : ℕ). leb n (length s)) (add_assoc at i w) ∙ sym (leb_shift at (i + w) (length s) h) in
    rw (drop-drop i at s, length-drop at s, e)

module _ (s : List ℕ) (at : ℕ) (f : Format) (there : at < length s) (e : f ≡ format_of (get_or s at 0)) where
  more : 0 < length (drop at s)
  more = omega (arith, length-drop at s)

  first : f ≡ format_of (get_or (drop at s) 0 0)
  first = e ∙ ap format_of (sym (get_or-drop at s 0 0 ∙ ap (λ (k : ℕ). get_or s k 0) (add-zero at)))

  pub narrow_at : AllBytes s → Narrow (width_of f) (amount_of f)
  narrow_at bytes = format_narrow (drop at s) f more first ((drop_bytes at bytes).below 0)

  pub head_read_at : AllBytes s → (n : ℕ) → number_at big s (at + 1) (width_of f) ≡ Some n → HeadAt (drop at s) (head (kind_of f) (1 + width_of f) (amount_of f + n))
  head_read_at bytes n q = head_read_lem (drop at s) f more first (drop_bytes at bytes) n (sym (number_from s at 1 (width_of f) (omega arith)) ∙ q)

  pub head_unread_at : number_at big s (at + 1) (width_of f) ≡ None → HeadAt (drop at s) no_head
  head_unread_at q = head_unread (drop at s) f more first (sym (number_from s at 1 (width_of f) (omega arith)) ∙ q)

pub nothing_at : (s : List ℕ) (at : ℕ) → length s ≤ at → HeadAt (drop at s) no_head
nothing_at s at h = no_bytes (drop at s) (omega (arith, length-drop at s))

-- a head of one byte
pub short_at : (s : List ℕ) (at kind amount : ℕ) → at < length s → AllBytes s → format kind 0 amount ≡ format_of (get_or s at 0) → HeadAt (drop at s) (head kind 1 amount)
unfolding big little
short_at s at kind amount there bytes e =
    rw (add-zero amount) at (head_read_at s at (format kind 0 amount) there e bytes 0 (number_there big s (at + 1) 0 (record { narrow = omega arith; inside = omega arith })))

-- ---- formats by ranges of first bytes

module _ (b : ℕ) where
  pub positive : b < 0x80 → format integer_kind 0 0 ≡ format_of b
  unfolding format_of
  positive h = rw (lt-ltb b 0x80 h)

  pub fixmap : 0x80 ≤ b → b < 0x90 → format map_kind 0 (b - 0x80) ≡ format_of b
  unfolding format_of
  fixmap l h = rw (le-ltb b 0x80 l, lt-ltb b 0x90 h)

  pub fixarray : 0x90 ≤ b → b < 0xa0 → format array_kind 0 (b - 0x90) ≡ format_of b
  unfolding format_of
  fixarray l h = rw (le-ltb b 0x80 (omega arith), le-ltb b 0x90 l, lt-ltb b 0xa0 h)

  pub fixtext : 0xa0 ≤ b → b < 0xc0 → format text_kind 0 (b - 0xa0) ≡ format_of b
  unfolding format_of
  fixtext l h = rw (le-ltb b 0x80 (omega arith), le-ltb b 0x90 (omega arith), le-ltb b 0xa0 l, lt-ltb b 0xc0 h)

  pub negative : 0xe0 ≤ b → format integer_kind 0 0 ≡ format_of b
  unfolding format_of
  negative l = rw (le-ltb b 0x80 (omega arith), le-ltb b 0x90 (omega arith), le-ltb b 0xa0 (omega arith), le-ltb b 0xc0 (omega arith), le-ltb b 0xe0 l)
