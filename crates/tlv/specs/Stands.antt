-- That a record stands at the front of a list, as facts; and the two theorems that tie them: the step of a reader finds a record exactly where they
-- hold, and they hold exactly where the list begins with a record's layout.
use Rattle.std.specs.Prelude.{ℕ, ◌+◌, ◌-◌, ◌%◌, ◌≤◌, ◌<◌, ◌^◌, Bool, true, false, not, cond, ◌≡◌, refl, eqb, drop}
use mathlib.Core.List.{List, [], ◌∷◌, ◌++◌, append_assoc, append-nil}
use Rattle.std.specs.Prelude.{None}
use Rattle.std.proofs.Math.Path.{sym, ap}
use Rattle.std.proofs.Common.{subst, ◌∙◌, arith, lit<, length-append, drop_at, length-take-le}
use Rattle.std.proofs.Math.Nat.{mod-eq_of_lt}
use borrow.Author.Tests.{eqb-true, eq-eqb, ne_eqb, ltb-false, le-ltb, not-false}
use Rattle.std.proofs.Math.ListN.{length, take, length-drop}
use Rattle.std.proofs.Math.Seq.{take_at, take-add}
use Rattle.slices.specs.Bytes.{AllBytes, take_bytes, drop_bytes}
use Rattle.refusals.specs.Sheet.{lowest, lowest_none}
use Rattle.endian.specs.Numbers.{big_bytes, big_bytes_mod, big_lt}
use Rattle.xxh64.specs.Xxh64.{xxh64, xxh64_lt}
use Rattle.tlv.specs.Layout.{Record, Fits, magic, field, fields, bytes_of, layout, head, bytes_of_cut, field_after, field_nth, length_front, length_head, length_layout}
use Rattle.tlv.specs.Found.{header_rows, value_rows, header_of, made, end, found, found_unless, found_unless_lem, step}
use Rattle.tlv.specs.declared.RecordHeader.{RecordHeader}

-- none of the refusals 2 to 8 applies to what stands at the front of s, and h is its header
pub record Stands (s : List ℕ) (h : RecordHeader) : Type 0 where
  pub header : header_of s ≡ h
  pub long : 32 + h.length ≤ length s
  pub magic : field s 0 8 ≡ magic
  pub version : field s 24 1 ≡ 0
  pub hash_type : field s 27 1 ≡ 8
  pub header_hash : field s 30 2 ≡ xxh64 (take 30 s) % 65536
  pub value_hash : field s 16 8 ≡ xxh64 (take (field s 8 8) (drop 32 s))

-- ---- the step finds a record exactly where one stands

same : (x y : ℕ) → not (eqb x y) ≡ false → x ≡ y
same x y e = eqb-true x y (not-false (eqb x y) e)

all_passed : (s : List ℕ) → lowest (header_rows s ++ value_rows s) ≡ None → Stands s (header_of s)
unfolding header_rows value_rows header_of
all_passed s none-applies =
    let r2 = lowest_none _ _ none-applies in
    let r3 = lowest_none _ _ r2.1 in
    let r4 = lowest_none _ _ r3.1 in
    let r5 = lowest_none _ _ r4.1 in
    let r6 = lowest_none _ _ r5.1 in
    let r7 = lowest_none _ _ r6.1 in
    let r8 = lowest_none _ _ r7.1 in
    record {
      header = refl;
      long = omega (arith, ltb-false (length s) 32 r2.0, ltb-false (length s - 32) (field s 8 8) r7.0);
      magic = same _ _ r3.0;
      version = same _ _ r4.0;
      hash_type = same _ _ r5.0;
      header_hash = same _ _ r6.0;
      value_hash = same _ _ r8.0;
    }

pub step_stands : (s : List ℕ) (h : RecordHeader) → step s ≡ found h → Stands s h
unfolding step
step_stands s h e = go (eqb (length s) 0) e
  where
    go : (t : Bool) → cond t end (found_unless (lowest (header_rows s ++ value_rows s)) (header_of s)) ≡ found h → Stands s h
    go true e = absurd (let z : ◌≡◌ {A = ℕ} 0 1 = cc in omega arith)
    go false e =
        let f = found_unless_lem (lowest (header_rows s ++ value_rows s)) (header_of s) h e in
        subst (λ (g : RecordHeader). Stands s g) f.1 (all_passed s f.0)

pub stands_step : (s : List ℕ) (h : RecordHeader) → Stands s h → step s ≡ found h
unfolding step header_rows value_rows lowest
stands_step s h f =
    let l : field s 8 8 ≡ h.length = (unfold header_of in ap (λ (g : RecordHeader). g.length) f.header) in
    let n : length s ≡ 0 → ⊥ = λ e. omega (arith, f.long) in
    rw (
      ne_eqb (length s) 0 n,
      le-ltb (length s) 32 (omega (arith, f.long)),
      f.magic,
      f.version,
      f.hash_type,
      eq-eqb _ _
          f.header_hash,
      le-ltb (length s - 32) (field s 8 8) (omega (arith, f.long)),
      eq-eqb _ _ f.value_hash,
      f.header,
    )

-- ---- a record stands exactly where the layout of one does

-- the record that stands at the front of s
unfoldable pub record_of : List ℕ → Record
record_of s = record { spare = field s 28 2; tag = field s 25 2; value = take (field s 8 8) (drop 32 s) }

module _ (r : Record) (rest : List ℕ) (fits : Fits r) where
  -- what follows the fields of bytes 0..29
  tail : List ℕ
  tail = big_bytes 2 (xxh64 (bytes_of (fields r))) ++ (r.value ++ rest)

  split : layout r ++ rest ≡ bytes_of (fields r) ++ tail
  unfolding layout head tail
  split = simp append_assoc

  value_there : drop 32 (layout r ++ rest) ≡ r.value ++ rest
  unfolding layout
  value_there = rw append_assoc (drop_at (head r) (r.value ++ rest) 32 (length_head r))

  at_8 : field (layout r ++ rest) 8 8 ≡ length r.value
  unfolding fields
  at_8 = rw split (field_nth (fields r) 1 tail (lit< tt)) ∙ mod-eq_of_lt fits.value

  at_25 : field (layout r ++ rest) 25 2 ≡ r.tag
  unfolding fields
  at_25 = rw split (field_nth (fields r) 4 tail (lit< tt)) ∙ mod-eq_of_lt fits.tag

  pub layout_stands : Stands (layout r ++ rest) (made r.tag r.value)
  unfolding fields header_of made tail
  layout_stands =
      let s = layout r ++ rest in
      let at_16 : field s 16 8 ≡ xxh64 r.value = rw split (field_nth (fields r) 2 tail (lit< tt)) ∙ mod-eq_of_lt (xxh64_lt r.value) in
      let front : take 30 s ≡ bytes_of (fields r) = rw split (take_at (bytes_of (fields r)) tail 30 (length_front r)) in
      record {
        header = λ i. record { tag = at_25 i; length = at_8 i; hash = at_16 i };
        long = rw (length-append, length_layout r) (omega arith);
        magic = rw split (field_nth (fields r) 0 tail (lit< tt));
        version = rw split (field_nth (fields r) 3 tail (lit< tt));
        hash_type = rw split (field_nth (fields r) 5 tail (lit< tt));
        header_hash = rw front (rw split (field_after (fields r) 2 (xxh64 (bytes_of (fields r))) (r.value ++ rest)));
        value_hash = rw (at_16, at_8, value_there, take_at r.value rest (length r.value) refl);
      }

  pub record_of_layout : record_of (layout r ++ rest) ≡ r
  unfolding fields record_of tail
  record_of_layout =
      let s = layout r ++ rest in
      let at_28 : field s 28 2 ≡ r.spare = rw split (field_nth (fields r) 6 tail (lit< tt)) ∙ mod-eq_of_lt fits.spare in
      let value : take (field s 8 8) (drop 32 s) ≡ r.value = rw (at_8, value_there) (take_at r.value rest (length r.value) refl) in
      λ i. record { spare = at_28 i; tag = at_25 i; value = value i }

  -- what follows a record plays no part in reading it
  pub layout_step : step (layout r ++ rest) ≡ found (made r.tag r.value)
  layout_step = stands_step (layout r ++ rest) (made r.tag r.value) layout_stands

module _ (s : List ℕ) (h : RecordHeader) (bytes : AllBytes s) (stands : Stands s h) where
  length_field : field s 8 8 ≡ h.length
  unfolding header_of
  length_field = ap (λ (g : RecordHeader). g.length) stands.header

  value_length : length (record_of s).value ≡ h.length
  unfolding record_of
  value_length = rw length_field (length-take-le h.length (drop 32 s) (rw length-drop (omega (arith, stands.long))))

  field_lt : (at w : ℕ) → at + w ≤ length s → field s at w < 256 ^ w
  unfolding field
  field_lt at w inside =
      rw (length-take-le w (drop at s) (rw length-drop (omega arith))) at (big_lt (take w (drop at s)) (take_bytes w (drop at s) (drop_bytes at bytes)))

  pub stands_fits : Fits (record_of s)
  unfolding record_of
  stands_fits = record {
    spare = field_lt 28 2 (omega (arith, stands.long));
    tag = field_lt 25 2 (omega (arith, stands.long));
    value = rw (value_length, ← length_field) (field_lt 8 8 (omega (arith, stands.long)));
    bytes = take_bytes (field s 8 8) (drop 32 s) (drop_bytes 32 bytes);
  }

  -- bytes 0..29 are the record's fields
  front : bytes_of (fields (record_of s)) ≡ take 30 s
  unfolding fields record_of
  front =
      (λ i. bytes_of (
      record { width = 8; number = sym stands.magic i }
      ∷ record { width = 8; number = (value_length ∙ sym length_field) i }
      ∷ record { width = 8; number = sym stands.value_hash i }
      ∷ record { width = 1; number = sym stands.version i }
      ∷ record { width = 2; number = field s 25 2 }
      ∷ record { width = 1; number = sym stands.hash_type i }
      ∷ record { width = 2; number = field s 28 2 }
      ∷ []
      ))
      ∙ bytes_of_cut (8 ∷ 8 ∷ 8 ∷ 1 ∷ 2 ∷ 1 ∷ 2 ∷ []) 0 s bytes (omega (arith, stands.long))

  -- and bytes 30..31 their hash
  hash_bytes : big_bytes 2 (xxh64 (take 30 s)) ≡ take 2 (drop 30 s)
  unfolding bytes_of
  hash_bytes =
      sym (big_bytes_mod 2 (xxh64 (take 30 s)))
      ∙ rw (← stands.header_hash) (sym (append-nil (big_bytes 2 (field s 30 2))) ∙ bytes_of_cut (2 ∷ []) 30 s bytes (omega (arith, stands.long)))

  pub stands_layout : layout (record_of s) ≡ take (32 + h.length) s
  unfolding layout head record_of
  stands_layout = rw (front, hash_bytes, ← take-add 30 2 s, length_field, ← take-add 32 h.length s)

  pub stands_made : made (record_of s).tag (record_of s).value ≡ h
  unfolding made record_of header_of
  stands_made =
      (λ i. record { tag = field s 25 2; length = (value_length ∙ sym length_field) i; hash = sym stands.value_hash i }) ∙ stands.header
