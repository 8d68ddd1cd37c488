-- The parts of a value that is read lie inside it: the primary part in the header, and the secondary part is all that follows the header.
use Rattle.std.specs.Prelude.{ℕ, ◌+◌, ◌≤◌, Bool, true, false, cond, List, ◌≡◌, refl, eqb, length, take, drop}
use Rattle.std.specs.Prelude.{Option, None, Some}
use Rattle.std.proofs.Common.{sym, ap, ◌∙◌, arith, eq-eqb, eqb-true, length-drop, take_all, length-take-le}
use Rattle.slices.specs.Logic.{absurd_numbers}
use Rattle.std.specs.Borrow.{Bor}
use Rattle.slices.specs.Lists.{part_length, part_of_front}
use Rattle.slices.specs.Places.{address_tells}
use Rattle.refusals.specs.Answers.{granted, refused}
use Rattle.msgpack.specs.Formats.{binary_kind}
use Rattle.msgpack.specs.Items.{Passage, whole, cut, too_deep, pass_over, depth_allowed}
use Rattle.msgpack.specs.Readers.{read_binary}
use Rattle.msgpack.specs.Readers as msgpack
use Rattle.msgpack.specs.Lookup.{ValuePlace, found, missing, broken, last_value, at_place, over}
use Rattle.msgpack.specs.Views.{byte_view}
use Rattle.msgpack.specs.PassingLaws.{bounded}
use Rattle.msgpack.specs.ReaderLaws.{part_inside}
use Rattle.msgpack.specs.LookupLaws.{value_inside}
use Rattle.value.specs.Fields.{shifted, bytes_under}
use Rattle.value.specs.Header.{primary_key, Telling, telling, header_repeats, header_by, tested, told_at, told_in, header}
use Rattle.value.specs.Reading.{filled, by_item, reading, IsPart}
use Rattle.value.specs.declared.Part.{Part}
use Rattle.value.specs.declared.Told.{Told}

-- ---- the header

-- the bytes of a key lie within the map
bytes_inside : (key m : List ℕ) (p : msgpack.Part) → bytes_under key m ≡ Some p → p.start + p.size ≤ length m
unfolding bytes_under
bytes_inside key m p e = by (last_value key m) refl e
  where
    at : (k : ℕ) (r : Option msgpack.Part) → k ≤ length m → read_binary (drop k m) ≡ r → shifted k r ≡ Some p → p.start + p.size ≤ length m
    at k (Some b) l q f =
        let is : msgpack.part (k + b.start) b.size ≡ p = cc in
        rw (← is) (omega (arith, part_inside binary_kind (drop k m) b q, length-drop k m))
    at k None l q f = absurd_numbers (cc)

    by : (r : ValuePlace) → last_value key m ≡ r → at_place None (λ k. shifted k (read_binary (drop k m))) r ≡ Some p → p.start + p.size ≤ length m
    by (found k) q f = at k (read_binary (drop k m)) (omega (arith, value_inside key m k q)) refl f
    by missing q f = absurd_numbers (cc)
    by broken q f = absurd_numbers (cc)

-- t is told by the header m
record Placed (m : List ℕ) (t : Told) : Type 0 where
  primary_is : bytes_under primary_key m ≡ Some (msgpack.part t.primary.start t.primary.len)
  after_header : t.secondary.start ≡ length m

header_placed : (limit : ℕ) (m : List ℕ) (t : Told) → header limit m ≡ Some t → Placed m t
unfolding header
header_placed limit m t e = by (bytes_under primary_key m) refl (telling byte_view limit m) e
  where
    by : (b : Option msgpack.Part) → bytes_under primary_key m ≡ b → (u : Option Telling) → over (told_in m) (header_by b u) ≡ Some t → Placed m t
    by (Some b) q (Some u) f = let is : told_at b.start b.size (length m) u ≡ t = cc in rw (← is) (record { primary_is = q; after_header = refl })
    by (Some b) q None f = absurd_numbers (cc)
    by None q u f = absurd_numbers (cc)

-- the primary part is what stands under `e`
pub primary_is : (limit : ℕ) (m : List ℕ) (t : Told) → header limit m ≡ Some t
    → bytes_under primary_key m ≡ Some (msgpack.part t.primary.start t.primary.len)
primary_is limit m t e = (header_placed limit m t e).primary_is

-- ---- the value

-- s is a value of which t is told: the header is the first item, no key that is read repeats in it, and the secondary part is all that follows
pub record IsTold (limit : ℕ) (s : List ℕ) (t : Told) : Type 0 where
  pub first_item : pass_over s ≡ whole t.secondary.start
  pub header_tells : header limit (take t.secondary.start s) ≡ Some t
  pub once : header_repeats byte_view (take t.secondary.start s) ≡ false
  pub fills : t.secondary.start + t.secondary.len ≡ length s

header_end : (limit : ℕ) (s : List ℕ) (n : ℕ) (t : Told) → pass_over s ≡ whole n → header limit (take n s) ≡ Some t → t.secondary.start ≡ n
header_end limit s n t w e = (header_placed limit (take n s) t e).after_header ∙ length-take-le n s (bounded depth_allowed s n w).within

pub is_told : (limit : ℕ) (s : List ℕ) (t : Told) → reading limit s ≡ granted t → IsTold limit s t
unfolding reading
is_told limit s t e = by (pass_over s) refl e
  where
    fill : (n : ℕ) → pass_over s ≡ whole n → (r : Bool) → header_repeats byte_view (take n s) ≡ r → (d : Option Told) → header limit (take n s) ≡ d
        → filled n s (tested r d) ≡ granted t → IsTold limit s t
    fill n w r o None q f = absurd_numbers (cc)
    fill n w true o (Some u) q f = absurd_numbers (cc)
    fill n w false o (Some u) q f = test (eqb (n + u.secondary.len) (length s)) refl f
      where
        test : (b : Bool) → eqb (n + u.secondary.len) (length s) ≡ b → cond b (granted u) (refused 12) ≡ granted t → IsTold limit s t
        test true g h =
            let is : u ≡ t = cc in
            let end = header_end limit s n u w q in
            rw (← is) (record {
              first_item = rw end w;
              header_tells = ap (λ (k : ℕ). header limit (take k s)) end ∙ q;
              once = ap (λ (k : ℕ). header_repeats byte_view (take k s)) end ∙ o;
              fills = rw end (eqb-true _ _ g);
            })
        test false g h = absurd_numbers (cc)

    by : (r : Passage) → pass_over s ≡ r → by_item limit s r ≡ granted t → IsTold limit s t
    by (whole n) w f = fill n w (header_repeats byte_view (take n s)) refl (header limit (take n s)) refl f
    by cut w f = absurd_numbers (cc)
    by too_deep w f = absurd_numbers (cc)

pub told_is : (limit : ℕ) (s : List ℕ) (t : Told) → IsTold limit s t → reading limit s ≡ granted t
unfolding reading
told_is limit s t i = rw (i.first_item, i.header_tells, i.once, eq-eqb _ _ i.fills)

-- ---- the parts lie inside

pub record PartsInside (s : List ℕ) (t : Told) : Type 0 where
  pub primary_first : t.primary.start + t.primary.len ≤ t.secondary.start
  pub secondary_last : t.secondary.start + t.secondary.len ≡ length s

pub parts_inside : (limit : ℕ) (s : List ℕ) (t : Told) → reading limit s ≡ granted t → PartsInside s t
parts_inside limit s t e =
    let i = is_told limit s t e in
    let n : ℕ = t.secondary.start in
    let l : length (take n s) ≡ n = length-take-le n s (bounded depth_allowed s n i.first_item).within in
    record {
      primary_first = rw l at (bytes_inside primary_key (take n s) _ (primary_is limit (take n s) t i.header_tells));
      secondary_last = i.fills;
    }

-- ---- what the parts hold

module _ (limit : ℕ) (s : List ℕ) (t : Told) (e : reading limit s ≡ granted t) where
  -- the primary part holds the bytes under `e` of the header
  pub primary_content : take t.primary.len (drop t.primary.start s)
      ≡ msgpack.content (take t.secondary.start s) (msgpack.part t.primary.start t.primary.len)
  primary_content =
      let i = parts_inside limit s t e in
      sym (part_of_front s t.secondary.start t.primary.start t.primary.len (omega (arith, i.secondary_last)) i.primary_first)

  -- the secondary part holds all that follows the header
  pub secondary_content : take t.secondary.len (drop t.secondary.start s) ≡ drop t.secondary.start s
  secondary_content =
      let i = parts_inside limit s t e in
      take_all t.secondary.len (drop t.secondary.start s) (omega (arith, i.secondary_last, length-drop t.secondary.start s))

-- ---- where a slice is lent from

-- a slice is one part of the value only: equal bytes elsewhere in it are another part
pub one_start : (s : Bor (List ℕ)) (p q : Part) (r : Bor (List ℕ)) → IsPart s p r → IsPart s q r → p.start ≡ q.start
one_start s p q r a b = address_tells s (omega (arith, a.inside)) (omega (arith, b.inside)) (sym a.address ∙ b.address)

pub one_length : (s : Bor (List ℕ)) (p q : Part) (r : Bor (List ℕ)) → IsPart s p r → IsPart s q r → p.len ≡ q.len
one_length s p q r a b = sym (long p a) ∙ long q b
  where
    long : (p : Part) → IsPart s p r → length r.now ≡ p.len
    long p i = ap length i.content ∙ part_length s.now p.start p.len i.inside
