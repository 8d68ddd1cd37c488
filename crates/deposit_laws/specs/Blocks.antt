-- A deposited block is, byte for byte, what our writer writes for its identifier and data; so equal identifiers and equal data are equal bytes (request 9).
use Rattle.std.specs.Prelude.{ℕ, ◌^◌, ◌≤◌, ◌<◌, Bool, true, false, cond, List, [], ◌∷◌, ◌++◌, ◌≡◌, refl, leb, eqb, length, take, drop}
use Rattle.std.proofs.Common.{append-nil, sym, ap, ap₂, subst, ◌∙◌, arith, eqb-true, take-append-drop, length-take, length-drop, take_all}
use Rattle.std.specs.Prelude.{Option, None, Some}
use Rattle.slices.specs.Bytes.{AllBytes, take_bytes, drop_bytes, same_bytes}
use Rattle.slices.specs.Logic.{absurd_numbers}
use Rattle.refusals.specs.Answers.{Answer, refused, granted, or_refused}
use Rattle.msgpack.specs.Items.{Passage, whole, cut, too_deep, pass_over, depth_allowed}
use Rattle.msgpack.specs.Readers.{Int, plus, minus}
use Rattle.msgpack.specs.Lookup.{Under, found, missing, broken, if_there, over}
use Rattle.msgpack.specs.Views.{text_at, byte_view, repeats, SameUnder, both_found, Both, both as both_there, neither, Each, and_each}
use Rattle.msgpack_forms.specs.Items.{all_short}
use Rattle.msgpack_model.specs.Values.{Value, Nil, Boolean, Integer, Float, Text, Binary, Extension, Array, Map, Values, no_values_lem, value, Pairs, no_pairs, pair, depth, as_text, as_integer, as_binary, as_array, as_map}
use Rattle.msgpack_model.specs.Encoding.{Encodes, scalar, map, text, next_pair}
use Rattle.msgpack_model.proofs.Readers.{scalar_no_map}
use Rattle.msgpack_model.proofs.Short.{short_once}
use Rattle.msgpack_model.proofs.Sound.{sound}
use Rattle.msgpack_model.specs.Views.{Shows, list_of, value_view}
use Rattle.msgpack_model.proofs.Views.{bytes_alike, keys_alike}
use Rattle.identifier.specs.Identity.{Identity, is_valid}
use Rattle.identifier.specs.Composite.{composite_text, identity_in, reads_text}
use Rattle.value.specs.Fields.{natural_under, is_there, at_least_zero}
use Rattle.value.specs.Header.{primary_key, secondary_key, length_key, telling_alone, telling_with, only_if, alone, with_map, with_list, telling, header_repeats, header_by, tested}
use Rattle.value.specs.Reading.{reading}
use Rattle.value.specs.ReadingLaws.{is_told, parts_inside, secondary_content}
use Rattle.value.specs.declared.Told.{Told}
use Rattle.primary.specs.Parts as primary
use Rattle.primary.specs.Parts.{identifier_key, is_of_length, fills, shape_at, shape_under, block_repeats}
use Rattle.records.specs.Record as records
use Rattle.records.specs.Record.{block_tag, Contents, contents, of_block, Record, primary_in, read_record}
use Rattle.records.specs.Laws.{read_as}
use Rattle.records_model.specs.Header.{header, Held, filled_by, holds}
use Rattle.records_model.specs.HeaderReads.{held_in, answer_in, value_reads}
use Rattle.records_model.specs.Primary.{block, block_reads}
use Rattle.records_model.specs.Written as values
use Rattle.writer.specs.Values.{block_header, block_part, block_value}
use Rattle.writer_laws.specs.Encoded.{block_header_encodes, block_part_encodes}
use Rattle.writer_laws.specs.Short.{block_header_short, block_part_short}
use Rattle.deposit_rules.specs.Letters.{written_keys}
use Rattle.deposit.specs.Exactly.{LengthAlone, IdentifierAlone, Keeps}
use Rattle.deposit_laws.specs.Keys.{keys_of_map, keys_read, under_read}
use Rattle.deposit_laws.specs.Written.{each_length}

-- ---- a value by what it is

text_is : (v : Value) (t : List ℕ) → as_text v ≡ Some t → v ≡ Text t
text_is Nil t e = absurd_numbers (cc)
text_is (Boolean b) t e = absurd_numbers (cc)
text_is (Integer i) t e = absurd_numbers (cc)
text_is (Float x) t e = absurd_numbers (cc)
text_is (Text x) t e = let same : x ≡ t = cc in ap Text same
text_is (Binary x) t e = absurd_numbers (cc)
text_is (Extension n x) t e = absurd_numbers (cc)
text_is (Array vs) t e = absurd_numbers (cc)
text_is (Map ps) t e = absurd_numbers (cc)

integer_is : (v : Value) (i : Int) → as_integer v ≡ Some i → v ≡ Integer i
integer_is Nil i e = absurd_numbers (cc)
integer_is (Boolean b) i e = absurd_numbers (cc)
integer_is (Integer j) i e = let same : j ≡ i = cc in ap Integer same
integer_is (Float x) i e = absurd_numbers (cc)
integer_is (Text x) i e = absurd_numbers (cc)
integer_is (Binary x) i e = absurd_numbers (cc)
integer_is (Extension n x) i e = absurd_numbers (cc)
integer_is (Array vs) i e = absurd_numbers (cc)
integer_is (Map ps) i e = absurd_numbers (cc)

binary_is : (v : Value) (p : List ℕ) → as_binary v ≡ Some p → v ≡ Binary p
binary_is Nil p e = absurd_numbers (cc)
binary_is (Boolean b) p e = absurd_numbers (cc)
binary_is (Integer i) p e = absurd_numbers (cc)
binary_is (Float x) p e = absurd_numbers (cc)
binary_is (Text x) p e = absurd_numbers (cc)
binary_is (Binary x) p e = let same : x ≡ p = cc in ap Binary same
binary_is (Extension n x) p e = absurd_numbers (cc)
binary_is (Array vs) p e = absurd_numbers (cc)
binary_is (Map ps) p e = absurd_numbers (cc)

array_is : (v : Value) (vs : Values) → as_array v ≡ Some vs → v ≡ Array vs
array_is Nil vs e = absurd_numbers (cc)
array_is (Boolean b) vs e = absurd_numbers (cc)
array_is (Integer i) vs e = absurd_numbers (cc)
array_is (Float x) vs e = absurd_numbers (cc)
array_is (Text x) vs e = absurd_numbers (cc)
array_is (Binary x) vs e = absurd_numbers (cc)
array_is (Extension n x) vs e = absurd_numbers (cc)
array_is (Array ws) vs e = let same : ws ≡ vs = cc in ap Array same
array_is (Map ps) vs e = absurd_numbers (cc)

map_is : (v : Value) (ps : Pairs) → as_map v ≡ Some ps → v ≡ Map ps
map_is Nil ps e = absurd_numbers (cc)
map_is (Boolean b) ps e = absurd_numbers (cc)
map_is (Integer i) ps e = absurd_numbers (cc)
map_is (Float x) ps e = absurd_numbers (cc)
map_is (Text x) ps e = absurd_numbers (cc)
map_is (Binary x) ps e = absurd_numbers (cc)
map_is (Extension n x) ps e = absurd_numbers (cc)
map_is (Array vs) ps e = absurd_numbers (cc)
map_is (Map qs) ps e = let same : qs ≡ ps = cc in ap Map same

-- ---- a map by its keys

-- of one key
record OneKey (a : List ℕ) (v : Value) : Type 0 where
  held : Value
  is : v ≡ Map (pair (Text a) held no_pairs)

one_key : (a : List ℕ) (v : Value) → keys_of_map (as_map v) ≡ Some a ∷ [] → OneKey a v
one_key a v e = by (as_map v) refl e
  where
    by : (o : Option Pairs) → as_map v ≡ o → keys_of_map o ≡ Some a ∷ [] → OneKey a v
    by None q f = absurd_numbers (cc)
    by (Some no_pairs) q f = absurd_numbers (cc)
    by (Some (pair k x no_pairs)) q f =
        let key : as_text k ≡ Some a = cc in
        record { held = x; is = map_is v _ q ∙ ap (λ w. Map (pair w x no_pairs)) (text_is k a key) }
    by (Some (pair k x (pair l y ps))) q f = absurd_numbers (cc)

-- of two
record TwoKeys (a b : List ℕ) (v : Value) : Type 0 where
  first : Value
  second : Value
  is : v ≡ Map (pair (Text a) first (pair (Text b) second no_pairs))

two_keys : (a b : List ℕ) (v : Value) → keys_of_map (as_map v) ≡ Some a ∷ Some b ∷ [] → TwoKeys a b v
two_keys a b v e = by (as_map v) refl e
  where
    by : (o : Option Pairs) → as_map v ≡ o → keys_of_map o ≡ Some a ∷ Some b ∷ [] → TwoKeys a b v
    by None q f = absurd_numbers (cc)
    by (Some no_pairs) q f = absurd_numbers (cc)
    by (Some (pair k x no_pairs)) q f = absurd_numbers (cc)
    by (Some (pair k x (pair l y no_pairs))) q f =
        let key : as_text k ≡ Some a = cc in
        let other : as_text l ≡ Some b = cc in
        record {
          first = x;
          second = y;
          is = map_is v _ q ∙ ap₂ (λ w u. Map (pair w x (pair u y no_pairs))) (text_is k a key) (text_is l b other);
        }
    by (Some (pair k x (pair l y (pair m z ps)))) q f = absurd_numbers (cc)

-- ---- the header: what it holds settles what stands in it

abbrev header_of : Value → Value → Value
header_of z y =
    Map (pair (Text secondary_key) (Array (value (Map (pair (Text length_key) z no_pairs)) no_values_lem))
    (pair (Text primary_key) y no_pairs))

record HeaderHolds (y z : Value) (rest : List ℕ) (h : Held) : Type 0 where
  primary_is : y ≡ Binary h.primary
  length_is : z ≡ Integer (plus (length rest))

header_holds : (limit : ℕ) (z y : Value) (rest : List ℕ) (h : Held) → holds limit (header_of z y) rest ≡ granted h → HeaderHolds y z rest h
unfolding holds header header_repeats repeats telling alone with_list with_map natural_under is_there same_bytes
header_holds limit z y rest h e = by (leb (depth (header_of z y)) depth_allowed) (as_binary y) refl (as_integer z) refl e
  where
    filled : (p : List ℕ) (l : ℕ) → as_binary y ≡ Some p → as_integer z ≡ Some (plus l) → (f : Bool) → eqb l (length rest) ≡ f
        → cond f (granted (record { primary = p; secondary = rest; told = telling_with (telling_alone 0 0 false) l 0 false })) (refused 12) ≡ granted h
        → HeaderHolds y z rest h
    filled p l b j true q g =
        let is : record { primary = p; secondary = rest; told = telling_with (telling_alone 0 0 false) l 0 false } ≡ h = cc in
        let same : p ≡ h.primary = ap (λ (x : Held). x.primary) is in
        record {
          primary_is = binary_is y p b ∙ ap Binary same;
          length_is = integer_is z (plus l) j ∙ ap (λ n. Integer (plus n)) (eqb-true l (length rest) q);
        }
    filled p l b j false q g = absurd_numbers (cc)

    within : (p : List ℕ) (l : ℕ) → as_binary y ≡ Some p → as_integer z ≡ Some (plus l) → (t : Bool)
        → filled_by rest (tested false (header_by (Some p) (only_if t (Some (telling_with (telling_alone 0 0 false) l 0 false))))) ≡ granted h
        → HeaderHolds y z rest h
    within p l b j true g = filled p l b j (eqb l (length rest)) refl g
    within p l b j false g = absurd_numbers (cc)

    by : (d : Bool) (b : Option (List ℕ)) → as_binary y ≡ b → (j : Option Int) → as_integer z ≡ j
        → cond d (filled_by rest (tested false (header_by b (if_there (at_least_zero j) λ l.
        only_if (leb l limit) (Some (telling_with (telling_alone 0 0 false) l 0 false)))))) (refused 10) ≡ granted h → HeaderHolds y z rest h
    by false b pb j pj g = absurd_numbers (cc)
    by true None pb j pj g = absurd_numbers (cc)
    by true (Some p) pb None pj g = absurd_numbers (cc)
    by true (Some p) pb (Some (minus n)) pj g = absurd_numbers (cc)
    by true (Some p) pb (Some (plus l)) pj g = within p l pb pj (leb l limit) g

-- ---- the value of an item that is passed over

record Item (s : List ℕ) (n : ℕ) : Type 0 where
  held : Value
  encodes : Encodes held (take n s)
  shows : Shows s held

item_of : (s : List ℕ) (n : ℕ) → AllBytes s → pass_over s ≡ whole n → Item s n
item_of s n bytes w =
    let x = sound depth_allowed s n bytes w in
    record {
      held = x.value;
      encodes = x.encoded;
      shows = record { front = take n s; rest = drop n s; is = sym (take-append-drop n s); encodes = x.encoded; shallow = x.shallow };
    }

-- ---- the primary part

text_bytes : {t e : List ℕ} → Encodes (Text t) e → AllBytes t
text_bytes (scalar (text h b)) = b

composite_there : {t part : List ℕ} → Encodes (Map (pair (Text identifier_key) (Text t) no_pairs)) part → AllBytes t
composite_there (scalar s) = let z = scalar_no_map s in absurd_numbers (cc)
composite_there (map x (next_pair y z w)) = text_bytes z

abbrev WholePart : List ℕ → Identity → Type 0
WholePart part i =
    (pass_over part ≡ whole (length part)) × (cond (is_of_length (length part) (pass_over part)) (primary.block_seen byte_view part) (refused 16) ≡ granted i)

part_whole : (part : List ℕ) (c : Contents) → contents block_tag part ≡ granted c
    → (pass_over part ≡ whole (length part)) × (primary.block part ≡ granted c.identifier)
unfolding contents primary.block fills
part_whole part c e = by (pass_over part) refl e
  where
    told : (a : Answer Identity) → of_block a ≡ granted c → a ≡ granted c.identifier
    told (granted i) q = let is : record { identifier = i; kind = records.block } ≡ c = cc in rw (← is)
    told (refused n) q = absurd_numbers (cc)

    test : (n : ℕ) (t : Bool) → eqb n (length part) ≡ t → pass_over part ≡ whole n → of_block (cond t (primary.block_seen byte_view part) (refused 16)) ≡ granted c
        → WholePart part c.identifier
    test n true q w f = (
      w ∙ ap whole (eqb-true n (length part) q),
      ap (λ p. cond (is_of_length (length part) p) (primary.block_seen byte_view part) (refused 16)) w
          ∙ ap (λ t. cond t (primary.block_seen byte_view part) (refused 16)) q ∙ told (primary.block_seen byte_view part) f,
    )
    test n false q w f = absurd_numbers (cc)

    by : (p : Passage) → pass_over part ≡ p → of_block (cond (is_of_length (length part) p) (primary.block_seen byte_view part) (refused 16)) ≡ granted c
        → WholePart part c.identifier
    by (whole n) w f = test n (eqb n (length part)) refl w f
    by cut w f = absurd_numbers (cc)
    by too_deep w f = absurd_numbers (cc)

-- a text under `I` that reads as an identifier is its composite text
composite_is : (t : List ℕ) (i : Identity) → block (Map (pair (Text identifier_key) (Text t) no_pairs)) ≡ granted i
    → (is_valid i ≡ true) × (t ≡ composite_text i)
unfolding block block_repeats repeats shape_under shape_at same_bytes
composite_is t i e = by (identity_in t) refl e
  where
    by : (o : Option Identity) → identity_in t ≡ o → or_refused 18 o granted ≡ granted i → (is_valid i ≡ true) × (t ≡ composite_text i)
    by (Some j) q f = let same : j ≡ i = cc in let r = reads_text t i (q ∙ ap Some same) in (r.0, sym r.1)
    by None q f = absurd_numbers (cc)

record PartIs (part : List ℕ) (i : Identity) : Type 0 where
  valid : is_valid i ≡ true
  bytes : AllBytes (composite_text i)
  is : part ≡ block_part i

part_is : (part : List ℕ) (c : Contents) → AllBytes part → contents block_tag part ≡ granted c → all_short part ≡ true → IdentifierAlone part
    → PartIs part c.identifier
unfolding same_bytes
part_is part c bytes reads short only =
    let w = part_whole part c reads in
    let x = item_of part (length part) bytes w.0 in
    let k = one_key identifier_key x.held (sym (keys_read x.shows) ∙ only.keys) in
    let y = under k.held (byte_view.under identifier_key part) (sym (under_read identifier_key x.shows) ∙ only.under)
    (subst (λ v. SameUnder Shows (byte_view.under identifier_key part) (value_view.under identifier_key v)) k.is
    (keys_alike (identifier_key ∷ []) x.shows).0) in
    let v : x.held ≡ Map (pair (Text identifier_key) (Text only.text) no_pairs)
    = k.is ∙ ap (λ u. Map (pair (Text identifier_key) u no_pairs)) (text_is k.held only.text (y ∙ only.is_text_lem)) in
    let all : take (length part) part ≡ part = take_all (length part) part (omega arith) in
    let e : Encodes (Map (pair (Text identifier_key) (Text only.text) no_pairs)) part
    = subst (λ u. Encodes u part) v (subst (Encodes x.held) all x.encodes) in
    let i = composite_is only.text c.identifier (sym (block_reads e) ∙ w.1) in
    let f : Encodes (values.block_part c.identifier) part
    = subst (λ t. Encodes (Map (pair (Text identifier_key) (Text t) no_pairs)) part) i.1 e in
    let composite : AllBytes (composite_text c.identifier) = composite_there f in
    record {
      valid = i.0;
      bytes = composite;
      is = short_once f (block_part_encodes c.identifier i.0 composite) [] [] (rw append-nil short)
          (block_part_short c.identifier i.0 composite []);
    }
  where
    under : (h : Value) (o : Under (List ℕ)) → o ≡ found only.item → SameUnder Shows o (found h) → as_text h ≡ text_at only.item
    under h (found t) q (both_found z) = let same : t ≡ only.item = cc in sym (bytes_alike.text z) ∙ ap text_at same
    under h missing q z = elim z [ ]
    under h broken q z = elim z [ ]

-- ---- what stands under `s`

abbrev is_some : {A : Type 0} → Option A → Bool
is_some (Some a) = true
is_some None = false

-- both are there, or neither is
both_there_too : {A B : Type 0} {R : A → B → Type 0} {a : Option A} {b : Option B} → Both R a b → is_some a ≡ is_some b
both_there_too (both_there r) = refl
both_there_too neither = refl

-- a list of one item that has this key alone
record ListIs (x : Value) : Type 0 where
  held : Value
  is : x ≡ Array (value (Map (pair (Text length_key) held no_pairs)) no_values_lem)

module _ (s : List ℕ) (only : LengthAlone s) where
  one_item : (x : Value) (q : Option Values) → as_array x ≡ q → Both (Each Shows) (Some (only.map_in ∷ [])) (over list_of q) → ListIs x
  one_item x None a y = absurd_numbers (cc (both_there_too y))
  one_item x (Some no_values_lem) a (both_there r) = absurd (omega (arith, each_length r))
  one_item x (Some (value w no_values_lem)) a (both_there (and_each z r)) =
      let k = one_key length_key w (sym (keys_read z) ∙ only.keys) in
      record { held = k.held; is = array_is x _ a ∙ ap (λ u. Array (value u no_values_lem)) k.is }
  one_item x (Some (value w (value u vs))) a (both_there r) = absurd (omega (arith, each_length r))

  list_is : (x : Value) (o : Under (List ℕ)) → o ≡ found only.list → SameUnder Shows o (found x) → ListIs x
  list_is x (found l) p (both_found z) =
      let same : l ≡ only.list = cc in
      one_item x (as_array x) refl
      (subst (λ o. Both (Each Shows) o (value_view.items x)) (ap (λ t. byte_view.items t) same ∙ only.items) (bytes_alike.items z))
  list_is x missing p z = elim z [ ]
  list_is x broken p z = elim z [ ]

-- ---- the whole value

-- the secondary part, which is a block's data
abbrev pub data_in : List ℕ → Told → List ℕ
data_in s t = take t.secondary.len (drop t.secondary.start s)

-- THE THEOREM: a value that reads as a block and keeps the profile is the writer's, for the identifier and the data that are read
pub block_is : (limit : ℕ) → limit < 2 ^ 32 → (s : List ℕ) → AllBytes s → length s ≤ limit → (r : Record) → read_record limit block_tag s ≡ granted r
    → (spare : ℕ) → Keeps block_tag spare s (primary_in s r.told) r.contents.identifier.bucket
    → s ≡ block_value r.contents.identifier (data_in s r.told)
unfolding written_keys block_value same_bytes
block_is limit small s bytes within r reads spare keeps =
    let a = read_as limit block_tag s r reads in
    let t = is_told limit s r.told a.value_tells in
    let inside = parts_inside limit s r.told a.value_tells in
    let n : ℕ = r.told.secondary.start in
    let d : List ℕ = drop n s in
    let part : List ℕ = primary_in s r.told in
    let x = item_of s n bytes t.first_item in
    let k = two_keys secondary_key primary_key x.held (sym (keys_read x.shows) ∙ keeps.order) in
    let plain = keeps.plain refl in
    let l = list_is s plain.length_alone k.first (byte_view.under secondary_key s)
    (sym (under_read secondary_key x.shows) ∙ plain.length_alone.under)
    (subst (λ v. SameUnder Shows (byte_view.under secondary_key s) (value_view.under secondary_key v)) k.is
    (keys_alike (secondary_key ∷ []) x.shows).0) in
    let v : x.held ≡ header_of l.held k.second
    = k.is ∙ ap (λ u. Map (pair (Text secondary_key) u (pair (Text primary_key) k.second no_pairs))) l.is in
    let whole_is : take n s ++ d ≡ s = take-append-drop n s in
    let told : holds limit x.held d ≡ granted (held_in s r.told)
    = sym (value_reads limit x.encodes d)
    ∙ subst (λ u. answer_in u (reading limit u) ≡ granted (held_in s r.told)) (sym whole_is) (ap (answer_in s) a.value_tells) in
    let h = header_holds limit l.held k.second d (held_in s r.told)
    (subst (λ u. holds limit u d ≡ granted (held_in s r.told)) v told) in
    let is_header : x.held ≡ values.block_header (length d) part
    = v ∙ ap₂ (λ z y. header_of z y) h.length_is h.primary_is in
    let part_bytes : AllBytes part = take_bytes r.told.primary.len (drop r.told.primary.start s) (drop_bytes r.told.primary.start bytes) in
    let p = part_is part r.contents part_bytes a.primary_tells keeps.short_part plain.identifier_alone in
    let size : length part < 2 ^ 32
    = omega (arith, length-take r.told.primary.len (drop r.told.primary.start s), inside.primary_first, inside.secondary_last) in
    let long : length d < 2 ^ 64 = omega (arith, length-drop n s) in
    let e : Encodes (values.block_header (length d) part) (take n s) = subst (λ u. Encodes u (take n s)) is_header x.encodes in
    let front : take n s ≡ block_header (length d) (length part) ++ part
    = short_once e (block_header_encodes part part_bytes size (length d) long) d d
    (subst (λ u. all_short u ≡ true) (sym whole_is) keeps.short_header) (block_header_short part part_bytes size d (length d) long) in
    let data_is : data_in s r.told ≡ d = secondary_content limit s r.told a.value_tells in
    rw data_is (sym whole_is ∙ ap (λ u. u ++ d) (front ∙ ap (λ q. block_header (length d) (length q) ++ q) p.is))
