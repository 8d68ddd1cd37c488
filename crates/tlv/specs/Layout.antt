-- The bytes of a record, as document 01's table "The record" lays them out.
use Rattle.std.specs.Prelude.{ℕ, suc, ◌+◌, ◌%◌, ◌<◌, ◌≤◌, ◌^◌, List, [], ◌∷◌, ◌++◌, ◌≡◌, refl, length, get_or, take, drop}
use Rattle.std.proofs.Common.{append_assoc, sym, ap, ◌∙◌, arith, length-append, length-drop, drop_at, take_at, take-add, drop-drop, length-take-le}
use Rattle.std.proofs.Math.Seq.{split_at}
use Rattle.slices.specs.Bytes.{AllBytes, none_bytes, append_bytes, take_bytes, drop_bytes}
use Rattle.endian.specs.Numbers.{big, big_bytes, length_big_bytes, big_bytes_bytes, big_of_bytes, bytes_of_big}
use Rattle.xxh64.specs.Xxh64.{xxh64}

-- what a record's bytes are free to say: bytes 28..29, which nobody interprets, the tag, and the value
pub record Record : Type 0 where
  pub spare : ℕ
  pub tag : ℕ
  pub value : List ℕ

-- bytes 0..7, as a number
abbrev pub magic : ℕ
magic = 0x89544C560D0A1A0A

-- a field is a number of so many bytes, big-endian; fields stand end to end
pub record Field : Type 0 where
  pub width : ℕ
  pub number : ℕ

unfoldable pub bytes_of : List Field → List ℕ
bytes_of [] = []
bytes_of (f ∷ fs) = big_bytes f.width f.number ++ bytes_of fs

-- the fields of bytes 0..29
unfoldable pub fields : Record → List Field
fields r =
    record { width = 8; number = magic }
    ∷ record { width = 8; number = length r.value }
    ∷ record { width = 8; number = xxh64 r.value }
    ∷ record { width = 1; number = 0 }
    ∷ record { width = 2; number = r.tag }
    ∷ record { width = 1; number = 8 }
    ∷ record { width = 2; number = r.spare }
    ∷ []

-- bytes 0..31: the fields, and the hash of their bytes, of which two bytes hold the remainder by 65,536
unfoldable pub head : Record → List ℕ
head r = bytes_of (fields r) ++ big_bytes 2 (xxh64 (bytes_of (fields r)))

-- the record's bytes
unfoldable pub layout : Record → List ℕ
layout r = head r ++ r.value

-- records end to end
unfoldable pub layouts : List Record → List ℕ
layouts [] = []
layouts (r ∷ rs) = layout r ++ layouts rs

-- what a record holds fits its fields
pub record Fits (r : Record) : Type 0 where
  pub spare : r.spare < 2 ^ 16
  pub tag : r.tag < 2 ^ 16
  pub value : length r.value < 2 ^ 64
  pub bytes : AllBytes r.value

-- ---- fields end to end: what stands where, and that fields which are cut from bytes are those bytes again

-- the number of w bytes at a place
unfoldable pub field : List ℕ → ℕ → ℕ → ℕ
field s at w = big (take w (drop at s))

abbrev pub width : List Field → ℕ
width [] = 0
width (f ∷ fs) = f.width + width fs

pub length_bytes_of : (fs : List Field) → length (bytes_of fs) ≡ width fs
unfolding bytes_of
length_bytes_of [] = refl
length_bytes_of (f ∷ fs) = rw (length-append, length_big_bytes, length_bytes_of fs)

pub bytes_of_bytes : (fs : List Field) → AllBytes (bytes_of fs)
unfolding bytes_of
bytes_of_bytes [] = none_bytes
bytes_of_bytes (f ∷ fs) = append_bytes (big_bytes f.width f.number) (big_bytes_bytes f.width f.number) (bytes_of_bytes fs)

bytes_of_append : (fs gs : List Field) → bytes_of (fs ++ gs) ≡ bytes_of fs ++ bytes_of gs
unfolding bytes_of
bytes_of_append [] gs = refl
bytes_of_append (f ∷ fs) gs = rw (bytes_of_append fs gs) (sym (append_assoc (big_bytes f.width f.number) (bytes_of fs) (bytes_of gs)))

-- the number that follows the fields fs
pub field_after : (fs : List Field) (w n : ℕ) (rest : List ℕ) → field (bytes_of fs ++ (big_bytes w n ++ rest)) (width fs) w ≡ n % 256 ^ w
unfolding field
field_after fs w n rest =
    rw (drop_at (bytes_of fs) (big_bytes w n ++ rest) (width fs) (length_bytes_of fs), take_at (big_bytes w n) rest w (length_big_bytes w n)) (big_of_bytes w n)

-- the k-th field, which the widths of those before it place
abbrev pub nth : List Field → ℕ → Field
nth fs k = get_or fs k (record { width = 0; number = 0 })

pub field_nth : (fs : List Field) (k : ℕ) (rest : List ℕ) → k < length fs
    → field (bytes_of fs ++ rest) (width (take k fs)) (nth fs k).width ≡ (nth fs k).number % 256 ^ (nth fs k).width
unfolding bytes_of
field_nth fs k rest h =
    let f = nth fs k in
    let after = bytes_of (drop (suc k) fs) in
    ap (λ (gs : List Field). field (bytes_of gs ++ rest) (width (take k fs)) f.width) (split_at fs k (record { width = 0; number = 0 }) h)
    ∙ rw (
      bytes_of_append (take k fs) (f ∷ drop (suc k) fs),
      append_assoc (bytes_of (take k fs))
          (big_bytes f.width f.number ++ after) rest,
      append_assoc (big_bytes f.width f.number) after rest,
    )
    (field_after (take k fs) f.width f.number (after ++ rest))

-- fields of these widths, cut from s
abbrev pub cut : List ℕ → ℕ → List ℕ → List Field
cut [] at s = []
cut (w ∷ ws) at s = record { width = w; number = field s at w } ∷ cut ws (at + w) s

abbrev pub sum : List ℕ → ℕ
sum [] = 0
sum (w ∷ ws) = w + sum ws

pub bytes_of_cut : (ws : List ℕ) (at : ℕ) (s : List ℕ) → AllBytes s → at + sum ws ≤ length s → bytes_of (cut ws at s) ≡ take (sum ws) (drop at s)
unfolding bytes_of field
bytes_of_cut [] at s bytes h = refl
bytes_of_cut (w ∷ ws) at s bytes h =
    let l : length (take w (drop at s)) ≡ w = length-take-le w (drop at s) (rw length-drop (omega arith)) in
    let first : big_bytes w (big (take w (drop at s))) ≡ take w (drop at s)
    = rw l at (bytes_of_big (take w (drop at s)) (take_bytes w (drop at s) (drop_bytes at bytes))) in
    rw (first, bytes_of_cut ws (at + w) s bytes (omega arith), take-add w (sum ws) (drop at s), drop-drop w at s)

-- ---- the lengths of a record's parts

pub length_front : (r : Record) → length (bytes_of (fields r)) ≡ 30
unfolding fields
length_front r = length_bytes_of (fields r)

pub length_head : (r : Record) → length (head r) ≡ 32
unfolding head
length_head r = rw (length-append, length_front r, length_big_bytes)

pub length_layout : (r : Record) → length (layout r) ≡ 32 + length r.value
unfolding layout
length_layout r = rw (length-append, length_head r)

pub head_bytes : (r : Record) → AllBytes (head r)
unfolding head
head_bytes r = append_bytes (bytes_of (fields r)) (bytes_of_bytes (fields r)) (big_bytes_bytes 2 (xxh64 (bytes_of (fields r))))

pub layout_bytes : (r : Record) → AllBytes r.value → AllBytes (layout r)
unfolding layout
layout_bytes r bytes = append_bytes (head r) (head_bytes r) bytes
