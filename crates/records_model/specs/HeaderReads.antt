-- Every encoding of a header is read as the header is, and a value holds what its header and the bytes after it say.
use Rattle.std.specs.Prelude.{ℕ, ◌+◌, ◌≤◌, Bool, List, ◌++◌, ◌≡◌, eqb, length, take, drop}
use Rattle.std.proofs.Math.Bool.{true, false, cond}
use Rattle.std.specs.Prelude.{Option, None, Some}
use Rattle.std.proofs.Math.Path.{refl, ap}
use Rattle.std.proofs.Common.{sym, ◌∙◌, arith, leb-true, leb-false, eq-eqb, ne_eqb, eqb-true, length-append, drop-drop}
use Rattle.std.proofs.lemmas.Bool.{eqb-false}
use Rattle.std.proofs.Math.Dec.{leb}
use Rattle.std.proofs.Math.Seq.{take-append_seam, drop-append_seam}
use Rattle.refusals.specs.Answers.{Answer, refused, granted}
use Rattle.msgpack.specs.Items.{whole, depth_allowed}
use Rattle.msgpack.specs.Readers.{content, content_of_part, read_binary}
use Rattle.msgpack.specs.Readers as msgpack
use Rattle.msgpack.specs.Lookup.{Under, found, missing, broken, last_value, at_place, over}
use Rattle.msgpack.specs.Views.{front_of, byte_view, SameUnder, both_found, both_missing, both_broken}
use Rattle.msgpack_model.specs.Values.{Value, depth, as_binary}
use Rattle.msgpack_model.specs.Encoding.{Encodes}
use Rattle.msgpack_model.proofs.Complete.{complete}
use Rattle.msgpack_model.proofs.Deep.{deeper}
use Rattle.msgpack_model.proofs.Readers.{binary_reads}
use Rattle.msgpack_model.specs.Views.{value_view, Shows, shown}
use Rattle.msgpack_model.proofs.Views.{bytes_alike, keys_alike}
use Rattle.value.specs.Fields.{shifted}
use Rattle.value.specs.Fields as bytes-fields
use Rattle.value.specs.Header.{primary_key, header_keys, secondary_keys, Telling, telling, header_repeats, Header, header_by, tested, told_in, telling_of}
use Rattle.value.specs.Header as bytes
use Rattle.value.specs.HeadersAlike.{telling_alike, header_repeats_alike}
use Rattle.value.specs.Reading as value-reading
use Rattle.value.specs.Reading.{reading}
use Rattle.value.specs.ReadingLaws.{is_told, primary_content, secondary_content}
use Rattle.value.specs.declared.Told.{Told}
use Rattle.records_model.specs.Header.{bytes_under, header, Held, filled_by, holds}

-- ---- what the reading tells, with no places

-- of the header m
abbrev pub header_in : List ℕ → Told → Header (List ℕ)
header_in m t = record { primary = take t.primary.len (drop t.primary.start m); told = telling_of t }

-- of the value s
abbrev pub held_in : List ℕ → Told → Held
held_in s t =
    record {
      primary = take t.primary.len (drop t.primary.start s);
      secondary = take t.secondary.len (drop t.secondary.start s);
      told = telling_of t;
    }

abbrev pub answer_in : List ℕ → (Answer Told) → Answer Held
answer_in s (granted t) = granted (held_in s t)
answer_in s (refused n) = refused n

-- ---- the header

-- the bytes at a place, by their content
bytes_at_lem : (s : List ℕ) (p : ℕ) → over (content s) (shifted p (read_binary (drop p s))) ≡ content_of_part (drop p s) (read_binary (drop p s))
bytes_at_lem s p = by (read_binary (drop p s))
  where
    by : (r : Option msgpack.Part) → over (content s) (shifted p r) ≡ content_of_part (drop p s) r
    by (Some b) = ap (λ l. Some (take b.size l)) (sym (drop-drop b.start p s))
    by None = refl

module _ {s : List ℕ} {v : Value} (x : Shows s v) where
  bytes_under_lem : over (content s) (bytes-fields.bytes_under primary_key s) ≡ bytes_under primary_key v
  unfolding bytes-fields.bytes_under
  bytes_under_lem = by (last_value primary_key s) (keys_alike header_keys x).0
    where
      by : (r : Under ℕ) {o : Under Value} → SameUnder Shows (front_of s r) o
          → over (content s) (at_place None (λ p. shifted p (read_binary (drop p s))) r) ≡ at_place None as_binary o
      by (found p) (both_found y) = bytes_at_lem s p ∙ ap (λ t. content_of_part t (read_binary t)) y.is ∙ binary_reads y.encodes y.rest
      by missing both_missing = refl
      by broken both_broken = refl

  pub header_reads : (limit : ℕ) → over (header_in s) (bytes.header limit s) ≡ header limit v
  unfolding bytes.header header
  header_reads limit =
      rw (← bytes_under_lem, ← telling_alike byte_view value_view Shows bytes_alike limit s v (keys_alike header_keys x) (λ l a b q i y. keys_alike secondary_keys y))
      (by (bytes-fields.bytes_under primary_key s) (telling byte_view limit s))
    where
      by : (b : Option msgpack.Part) (t : Option Telling) → over (header_in s) (over (told_in s) (header_by b t)) ≡ header_by (over (content s) b) t
      by (Some b) (Some t) = refl
      by (Some b) None = refl
      by None t = refl

-- ---- the value

beyond : (n a b : ℕ) → eqb (n + a) (n + b) ≡ eqb a b
beyond n a b = by (eqb a b) refl
  where
    by : (t : Bool) → eqb a b ≡ t → eqb (n + a) (n + b) ≡ t
    by true e = eq-eqb (n + a) (n + b) (omega (arith, eqb-true a b e))
    by false e = ne_eqb (n + a) (n + b) (λ (i : n + a ≡ n + b). eqb-false a b e (omega arith))

-- where the reading tells t
module _ (limit : ℕ) {v : Value} {e : List ℕ} (x : Encodes v e) (d : depth v ≤ depth_allowed) (rest : List ℕ) (t : Told)
    (told : reading limit (e ++ rest) ≡ granted t) where
  after_header : t.secondary.start ≡ length e
  after_header =
      let w : whole t.secondary.start ≡ whole (length e) = sym (is_told limit (e ++ rest) t told).first_item ∙ complete x depth_allowed d rest in
      cc

  primary_held : take t.primary.len (drop t.primary.start (e ++ rest)) ≡ (header_in e t).primary
  primary_held = primary_content limit (e ++ rest) t told ∙ rw (after_header, take-append_seam e rest)

  secondary_held : take t.secondary.len (drop t.secondary.start (e ++ rest)) ≡ rest
  secondary_held = secondary_content limit (e ++ rest) t told ∙ rw (after_header, drop-append_seam e rest)

module _ (limit : ℕ) {v : Value} {e : List ℕ} (x : Encodes v e) (rest : List ℕ) where
  by_header : depth v ≤ depth_allowed
      → reading limit (e ++ rest) ≡ value-reading.filled (length e) (e ++ rest) (tested (header_repeats byte_view e) (bytes.header limit e))
  unfolding reading
  by_header d = rw (complete x depth_allowed d rest, take-append_seam e rest)

  whole_reads : depth v ≤ depth_allowed → answer_in (e ++ rest) (reading limit (e ++ rest)) ≡ filled_by rest (tested (header_repeats value_view v) (header limit v))
  whole_reads d =
      rw (← header_reads (shown x d) limit, ← header_repeats_alike byte_view value_view Shows bytes_alike e v (shown x d))
      (by (header_repeats byte_view e) refl (bytes.header limit e) refl)
    where
      by : (r : Bool) → header_repeats byte_view e ≡ r → (h : Option Told) → bytes.header limit e ≡ h
          → answer_in (e ++ rest) (reading limit (e ++ rest)) ≡ filled_by rest (tested r (over (header_in e) h))
      by r o None q = rw (by_header d, q)
      by true o (Some t) q = rw (by_header d, q, o)
      by false o (Some t) q = test (eqb t.secondary.len (length rest)) refl
        where
          fills : eqb (length e + t.secondary.len) (length (e ++ rest)) ≡ eqb t.secondary.len (length rest)
          fills = rw length-append (beyond (length e) t.secondary.len (length rest))

          test : (b : Bool) → eqb t.secondary.len (length rest) ≡ b
              → answer_in (e ++ rest) (reading limit (e ++ rest))
              ≡ cond b (granted (record { primary = (header_in e t).primary; secondary = rest; told = telling_of t })) (refused 12)
          test true l =
              let told : reading limit (e ++ rest) ≡ granted t = by_header d ∙ rw (q, o, fills, l) in
              rw (told, primary_held limit x d rest t told, secondary_held limit x d rest t told)
          test false l = rw (by_header d, q, o, fills, l)

  -- a value with this header holds what the header and the bytes after it say
  pub value_reads : answer_in (e ++ rest) (reading limit (e ++ rest)) ≡ holds limit v rest
  unfolding holds reading
  value_reads = by (leb (depth v) depth_allowed) refl
    where
      by : (t : Bool) → leb (depth v) depth_allowed ≡ t
          → answer_in (e ++ rest) (reading limit (e ++ rest)) ≡ cond t (filled_by rest (tested (header_repeats value_view v) (header limit v))) (refused 10)
      by true l = whole_reads (leb-true _ _ l)
      by false l = rw (deeper x depth_allowed (leb-false _ _ l) rest)
