-- What each reader says of an encoding is what the value is, whatever follows; and it says so only where such a value is encoded.
use Rattle.std.specs.Prelude.{ℕ, ◌+◌, ◌≤◌, ◌<◌, Bool, true, false, ◌&&◌, List, ◌++◌, ◌≡◌, leb, eqb, length, get_or, take, drop}
use Rattle.std.proofs.Math.Bool.{cond}
use Rattle.std.proofs.Common.{append_assoc, ap, ◌∙◌, arith, le-leb, ne_eqb, eqb-true, length-append, length-drop, length-take-le}
use Rattle.std.specs.Prelude.{Some, None as nothing}
use Rattle.std.proofs.Math.Path.{refl}
use Rattle.std.proofs.Math.Seq.{drop-append_seam}
use Rattle.slices.specs.Bytes.{AllBytes}
use Rattle.slices.specs.Logic.{absurd_numbers}
use Rattle.slices.specs.Tables.{agree}
use Rattle.endian.specs.Numbers.{big}
use Rattle.msgpack.specs.Formats.{boolean_kind, integer_kind, text_kind, binary_kind, array_kind, map_kind}
use Rattle.msgpack.specs.Items.{Head, head, head_of}
use Rattle.msgpack.specs.Readers.{is_whole, Part, part, content, content_of_part, content_at, read_text, read_binary, read_boolean, Int, integer_of, read_integer, Counted, counted, count_at, read_array, read_map}
use Rattle.msgpack.specs.ReaderLaws.{is_whole_lem}
use Rattle.msgpack_model.specs.Values.{Value, Boolean, Integer, Text, Binary, Values, Pairs, count_values, count_pairs, as_boolean, as_integer, as_text, as_binary, as_array, as_map}
use Rattle.msgpack_model.specs.Encoding.{ArrayHead, MapHead, Scalar, Encodes, scalar, array, map}
use Rattle.msgpack_model.specs.Heads.{scalar_of, scalar_flat, array_begins, map_begins}
use Rattle.msgpack_model.proofs.Heads.{of_scalar}
use Rattle.msgpack_model.specs.Rows.{Front, no_item, scalar_item, array_item, map_item_lem}
use Rattle.msgpack_model.proofs.Rows.{front_read}
use Rattle.msgpack_model.specs.Scalars.{content_of, scalar_at, ScalarFront, flat_front, flat_value, There}
use Rattle.msgpack_model.proofs.Scalars.{scalar_there}
use Rattle.msgpack_model.specs.Readers.{ArrayRead, is_array, no_array, MapRead, is_map, no_map}

-- ---- at a scalar

integer_by_lem : (kind b w : ℕ) (body : List ℕ) → length body ≡ w → kind < 8
    → cond (eqb kind integer_kind && true) (Some (integer_of b w (big body))) nothing ≡ as_integer (scalar_of kind b body)
unfolding scalar_of
integer_by_lem kind b w body size h =
    rw (← size) (agree (λ k. cond (eqb k integer_kind && true) (Some (integer_of b (length body) (big body))) nothing)
    (λ k. as_integer (scalar_of k b body)) 8 refl kind h)

module _ (s : List ℕ) (f : ScalarFront s) where
  content_size : length (content_of s) ≡ (head_of s).count
  content_size = length-take-le (head_of s).count (drop (head_of s).size s) (rw length-drop (omega (arith, f.fits)))

  fits : leb ((head_of s).size + (head_of s).count) (length s) ≡ true
  fits = le-leb _ _ f.fits

  kind_small : (head_of s).kind < 8
  kind_small = f.holds_none

  integer_scalar : read_integer s ≡ as_integer (scalar_at s)
  unfolding read_integer is_whole
  integer_scalar = rw fits (integer_by_lem (head_of s).kind (get_or s 0 0) (head_of s).count (content_of s) content_size kind_small)

  boolean_scalar : read_boolean s ≡ as_boolean (scalar_at s)
  unfolding read_boolean is_whole scalar_of
  boolean_scalar =
      rw fits
      (agree (λ k. cond (eqb k boolean_kind && true) (Some (eqb (get_or s 0 0) 0xc3)) nothing)
      (λ k. as_boolean (scalar_of k (get_or s 0 0) (content_of s))) 8 refl (head_of s).kind kind_small)

  text_scalar : content_of_part s (read_text s) ≡ as_text (scalar_at s)
  unfolding content_at is_whole scalar_of
  text_scalar =
      rw fits
      (agree (λ k. content_of_part s (cond (eqb k text_kind && true) (Some (part (head_of s).size (head_of s).count)) nothing))
      (λ k. as_text (scalar_of k (get_or s 0 0) (content_of s))) 8 refl (head_of s).kind kind_small)

  binary_scalar : content_of_part s (read_binary s) ≡ as_binary (scalar_at s)
  unfolding content_at is_whole scalar_of
  binary_scalar =
      rw fits
      (agree (λ k. content_of_part s (cond (eqb k binary_kind && true) (Some (part (head_of s).size (head_of s).count)) nothing))
      (λ k. as_binary (scalar_of k (get_or s 0 0) (content_of s))) 8 refl (head_of s).kind kind_small)

-- ---- each reader, of every encoding

array_head_lem : (vs : Values) (h e rest : List ℕ) → ArrayHead (count_values vs) h → head_of ((h ++ e) ++ rest) ≡ head array_kind (length h) (count_values vs)
array_head_lem vs h e rest x = rw append_assoc (array_begins x (e ++ rest))

map_head_lem : (ps : Pairs) (h e rest : List ℕ) → MapHead (count_pairs ps) h → head_of ((h ++ e) ++ rest) ≡ head map_kind (length h) (count_pairs ps)
map_head_lem ps h e rest x = rw append_assoc (map_begins x (e ++ rest))

pub integer_reads : {v : Value} {e : List ℕ} → Encodes v e → (rest : List ℕ) → read_integer (e ++ rest) ≡ as_integer v
unfolding read_integer is_whole
integer_reads (scalar {e = e} x) rest = let f = scalar_flat x in integer_scalar (e ++ rest) (flat_front f rest) ∙ ap as_integer (flat_value f rest)
integer_reads (array {vs = vs} {h = h} {e = e} x xs) rest = rw (array_head_lem vs h e rest x)
integer_reads (map {ps = ps} {h = h} {e = e} x xs) rest = rw (map_head_lem ps h e rest x)

pub boolean_reads : {v : Value} {e : List ℕ} → Encodes v e → (rest : List ℕ) → read_boolean (e ++ rest) ≡ as_boolean v
unfolding read_boolean is_whole
boolean_reads (scalar {e = e} x) rest = let f = scalar_flat x in boolean_scalar (e ++ rest) (flat_front f rest) ∙ ap as_boolean (flat_value f rest)
boolean_reads (array {vs = vs} {h = h} {e = e} x xs) rest = rw (array_head_lem vs h e rest x)
boolean_reads (map {ps = ps} {h = h} {e = e} x xs) rest = rw (map_head_lem ps h e rest x)

pub text_reads : {v : Value} {e : List ℕ} → Encodes v e → (rest : List ℕ) → content_of_part (e ++ rest) (read_text (e ++ rest)) ≡ as_text v
unfolding content_at is_whole
text_reads (scalar {e = e} x) rest = let f = scalar_flat x in text_scalar (e ++ rest) (flat_front f rest) ∙ ap as_text (flat_value f rest)
text_reads (array {vs = vs} {h = h} {e = e} x xs) rest = rw (array_head_lem vs h e rest x)
text_reads (map {ps = ps} {h = h} {e = e} x xs) rest = rw (map_head_lem ps h e rest x)

pub binary_reads : {v : Value} {e : List ℕ} → Encodes v e → (rest : List ℕ) → content_of_part (e ++ rest) (read_binary (e ++ rest)) ≡ as_binary v
unfolding content_at is_whole
binary_reads (scalar {e = e} x) rest = let f = scalar_flat x in binary_scalar (e ++ rest) (flat_front f rest) ∙ ap as_binary (flat_value f rest)
binary_reads (array {vs = vs} {h = h} {e = e} x xs) rest = rw (array_head_lem vs h e rest x)
binary_reads (map {ps = ps} {h = h} {e = e} x xs) rest = rw (map_head_lem ps h e rest x)

behind_head : (h e rest : List ℕ) → drop (length h) ((h ++ e) ++ rest) ≡ e ++ rest
behind_head h e rest = rw (append_assoc h e rest, drop-append_seam h (e ++ rest))

behind_inside : (h e rest : List ℕ) → length h ≤ length ((h ++ e) ++ rest)
behind_inside h e rest = rw (append_assoc h e rest, length-append h (e ++ rest)) (omega arith)

array_count : (vs : Values) (h e rest : List ℕ) → ArrayHead (count_values vs) h → read_array ((h ++ e) ++ rest) ≡ Some (counted (count_values vs) (length h))
unfolding count_at
array_count vs h e rest x = rw (array_head_lem vs h e rest x)

map_count : (ps : Pairs) (h e rest : List ℕ) → MapHead (count_pairs ps) h → read_map ((h ++ e) ++ rest) ≡ Some (counted (count_pairs ps) (length h))
unfolding count_at
map_count ps h e rest x = rw (map_head_lem ps h e rest x)

map_no_array : (ps : Pairs) (h e rest : List ℕ) → MapHead (count_pairs ps) h → read_array ((h ++ e) ++ rest) ≡ nothing
unfolding count_at
map_no_array ps h e rest x = rw (map_head_lem ps h e rest x)

array_no_map : (vs : Values) (h e rest : List ℕ) → ArrayHead (count_values vs) h → read_map ((h ++ e) ++ rest) ≡ nothing
unfolding count_at
array_no_map vs h e rest x = rw (array_head_lem vs h e rest x)

-- a scalar is neither
scalar_no_count : (kind : ℕ) (s : List ℕ) → array_kind ≤ kind → ScalarFront s → count_at kind s ≡ nothing
unfolding count_at
scalar_no_count kind s l f = rw (ne_eqb (head_of s).kind kind (λ (e : (head_of s).kind ≡ kind). omega (arith, f.holds_none)))

pub scalar_no_array : {v : Value} {e : List ℕ} → Scalar v e → as_array v ≡ nothing
unfolding scalar_of
scalar_no_array = of_scalar as_array nothing λ b body. agree (λ k. as_array (scalar_of k b body)) (λ k. nothing) 8 refl

pub scalar_no_map : {v : Value} {e : List ℕ} → Scalar v e → as_map v ≡ nothing
unfolding scalar_of
scalar_no_map = of_scalar as_map nothing λ b body. agree (λ k. as_map (scalar_of k b body)) (λ k. nothing) 8 refl

pub array_reads : {v : Value} {e : List ℕ} → Encodes v e → (rest : List ℕ) → ArrayRead (e ++ rest) rest (read_array (e ++ rest)) (as_array v)
array_reads (scalar {e = e} x) rest = rw (scalar_no_count array_kind (e ++ rest) (omega arith) (flat_front (scalar_flat x) rest), scalar_no_array x) no_array
array_reads (array {vs = vs} {h = h} {e = e} x xs) rest =
    rw (array_count vs h e rest x) (is_array (behind_inside h e rest) (behind_head h e rest) xs)
array_reads (map {ps = ps} {h = h} {e = e} x xs) rest = rw (map_no_array ps h e rest x) no_array

pub map_reads : {v : Value} {e : List ℕ} → Encodes v e → (rest : List ℕ) → MapRead (e ++ rest) rest (read_map (e ++ rest)) (as_map v)
map_reads (scalar {e = e} x) rest = rw (scalar_no_count map_kind (e ++ rest) (omega arith) (flat_front (scalar_flat x) rest), scalar_no_map x) no_map
map_reads (array {vs = vs} {h = h} {e = e} x xs) rest = rw (array_no_map vs h e rest x) no_map
map_reads (map {ps = ps} {h = h} {e = e} x xs) rest =
    rw (map_count ps h e rest x) (is_map (behind_inside h e rest) (behind_head h e rest) xs)

-- ---- and only there

record WholeOf (kind : ℕ) (s : List ℕ) : Type 0 where
  of_kind : (head_of s).kind ≡ kind
  scalar_front : ScalarFront s

whole_of : (kind : ℕ) (s : List ℕ) → 0 < kind → kind < array_kind → is_whole kind (head_of s) (length s) ≡ true → WholeOf kind s
whole_of kind s some_kind holds_none e =
    let w = is_whole_lem kind (head_of s) (length s) e in
    record { of_kind = w.of_kind; scalar_front = record { some_kind = rw w.of_kind some_kind; holds_none = rw w.of_kind holds_none; fits = w.inside } }

-- what a test that holds leads to
told : {A : Type 0} {B : Type 0} (t : Bool) (x : A) (y : A) → cond t (Some x) nothing ≡ Some y → (t ≡ true → x ≡ y → B) → B
told true x y e f = f refl (cc)
told false x y e f = absurd_numbers (cc)

pub integer_only : (s : List ℕ) (i : Int) → AllBytes s → read_integer s ≡ Some i → There s (Integer i)
unfolding read_integer scalar_of
integer_only s i bytes e = told _ _ i e λ t q.
    let w = whole_of integer_kind s (omega arith) (omega arith) t in
    let x = scalar_there s bytes w.scalar_front in
    let size : length (content_of s) ≡ (head_of s).count = content_size s w.scalar_front in
    rw (← q) (rw (w.of_kind, size) at x)

pub boolean_only : (s : List ℕ) (b : Bool) → AllBytes s → read_boolean s ≡ Some b → There s (Boolean b)
unfolding read_boolean scalar_of
boolean_only s b bytes e = told _ _ b e λ t q.
    let w = whole_of boolean_kind s (omega arith) (omega arith) t in
    rw (← q) (rw w.of_kind at (scalar_there s bytes w.scalar_front))

pub text_only : (s : List ℕ) (p : Part) → AllBytes s → read_text s ≡ Some p → There s (Text (content s p))
unfolding content_at scalar_of
text_only s p bytes e = told _ _ p e λ t q.
    let w = whole_of text_kind s (omega arith) (omega arith) t in
    rw (← q) (rw w.of_kind at (scalar_there s bytes w.scalar_front))

pub binary_only : (s : List ℕ) (p : Part) → AllBytes s → read_binary s ≡ Some p → There s (Binary (content s p))
unfolding content_at scalar_of
binary_only s p bytes e = told _ _ p e λ t q.
    let w = whole_of binary_kind s (omega arith) (omega arith) t in
    rw (← q) (rw w.of_kind at (scalar_there s bytes w.scalar_front))

-- a head that is told is whole, and is such a head
front_array : (s : List ℕ) (h : Head) → Front s h → h.kind ≡ array_kind → (h.size ≤ length s) × ArrayHead h.count (take h.size s)
front_array s h (no_item g z) k = absurd (omega arith)
front_array s h (scalar_item kind size count l x) k = absurd (omega arith)
front_array s h (array_item size count l x) k = (l, x)
front_array s h (map_item_lem size count l x) k = absurd (omega arith)

front_map : (s : List ℕ) (h : Head) → Front s h → h.kind ≡ map_kind → (h.size ≤ length s) × MapHead h.count (take h.size s)
front_map s h (no_item g z) k = absurd (omega arith)
front_map s h (scalar_item kind size count l x) k = absurd (omega arith)
front_map s h (array_item size count l x) k = absurd (omega arith)
front_map s h (map_item_lem size count l x) k = (l, x)

pub array_only : (s : List ℕ) (c : Counted) → AllBytes s → read_array s ≡ Some c → (c.size ≤ length s) × ArrayHead c.count (take c.size s)
unfolding count_at
array_only s c bytes e = told _ _ c e λ t q. rw (← q) (front_array s (head_of s) (front_read s bytes) (eqb-true _ _ t))

pub map_only : (s : List ℕ) (c : Counted) → AllBytes s → read_map s ≡ Some c → (c.size ≤ length s) × MapHead c.count (take c.size s)
unfolding count_at
map_only s c bytes e = told _ _ c e λ t q. rw (← q) (front_map s (head_of s) (front_read s bytes) (eqb-true _ _ t))
