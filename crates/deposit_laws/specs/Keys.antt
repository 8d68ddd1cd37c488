-- The keys of a map, and what stands under them, in bytes are those of the value that the bytes encode.
use Rattle.std.specs.Prelude.{ℕ, suc, ◌+◌, ◌≤◌, List, [], ◌∷◌, ◌++◌, ◌≡◌, refl, length, drop}
use Rattle.std.proofs.Common.{append_assoc, sym, ap, ap₂, ◌∙◌, arith, drop-drop}
use Rattle.std.specs.Prelude.{Option, None, Some}
use Rattle.std.proofs.Math.Seq.{drop-append_seam}
use Rattle.slices.specs.Logic.{absurd_numbers}
use Rattle.msgpack.specs.Items.{pass_item, depth_allowed}
use Rattle.msgpack.specs.Readers.{Counted, content_of_part, read_text}
use Rattle.msgpack.specs.Pairs.{inside_allowed, pair_at}
use Rattle.msgpack.specs.Views.{text_at, byte_view}
use Rattle.msgpack_model.specs.Values.{Value, Pairs, no_pairs, pair, count_pairs, depth, pairs_depth, as_text, as_map}
use Rattle.msgpack_model.specs.Encoding.{Encodes, scalar, array, map, EncodesPairs, no_pair, next_pair}
use Rattle.msgpack_model.proofs.Complete.{complete}
use Rattle.msgpack_model.specs.Readers.{MapRead, is_map, no_map}
use Rattle.msgpack_model.proofs.Readers.{text_reads, scalar_no_map, map_reads}
use Rattle.msgpack_model.specs.Views.{Shows}
use Rattle.deposit_rules.specs.Keys.{Key, keys_from, keys_by, keys_of}
use Rattle.deposit_rules.specs.Blocks.{under_whole}

-- the texts of the keys, in their order
abbrev pub keys_in : Pairs → List Key
keys_in no_pairs = []
keys_in (pair k v ps) = as_text k ∷ keys_in ps

abbrev pub keys_of_map : Option Pairs → List Key
keys_of_map (Some ps) = keys_in ps
keys_of_map None = None ∷ []

text_there : {v : Value} {e : List ℕ} → Encodes v e → (s rest : List ℕ) → s ≡ e ++ rest → text_at s ≡ as_text v
unfolding text_at
text_there x s rest h = ap (λ t. content_of_part t (read_text t)) h ∙ text_reads x rest

pairs_keys : (s : List ℕ) {ps : Pairs} {e : List ℕ} → EncodesPairs ps e → pairs_depth ps ≤ inside_allowed → (from : ℕ) (rest : List ℕ)
    → drop from s ≡ e ++ rest → keys_from (count_pairs ps) s from ≡ keys_in ps
unfolding keys_from pair_at
pairs_keys s no_pair d from rest h = refl
pairs_keys s (next_pair {k = k} {e = e} {f = f} {g = g} x z xs) d from rest h =
    let joined : (e ++ (f ++ g)) ++ rest ≡ e ++ (f ++ (g ++ rest)) = simp append_assoc in
    let here : drop from s ≡ e ++ (f ++ (g ++ rest)) = h ∙ joined in
    let to_value : drop (from + length e) s ≡ f ++ (g ++ rest) = sym (drop-drop (length e) from s)
    ∙ ap (drop (length e)) here ∙ drop-append_seam e (f ++ (g ++ rest)) in
    let to_next : drop (from + length e + length f) s ≡ g ++ rest = sym (drop-drop (length f) (from + length e) s)
    ∙ ap (drop (length f)) to_value ∙ drop-append_seam f (g ++ rest) in
    let text : text_at (drop from s) ≡ as_text k = text_there x (drop from s) (f ++ (g ++ rest)) here in
    let more = pairs_keys s xs (omega arith) (from + length e + length f) rest to_next in
    rw (
      ap (pass_item inside_allowed) here ∙ complete x inside_allowed (omega arith) (f ++ (g ++ rest)),
      ap (pass_item inside_allowed) to_value ∙ complete z inside_allowed (omega arith) (g ++ rest),
    )
    (ap₂ (λ (t : Key) (ts : List Key). t ∷ ts) text more)

-- what a map holds stands less deep
map_depth : {v : Value} {e : List ℕ} → Encodes v e → (ps : Pairs) → as_map v ≡ Some ps → depth v ≡ suc (pairs_depth ps)
map_depth (scalar x) ps q = absurd_numbers (cc (scalar_no_map x))
map_depth (array x xs) ps q = absurd_numbers (cc)
map_depth (map {ps = qs} x xs) ps q = let is : qs ≡ ps = cc in rw is

pub keys_read : {s : List ℕ} {v : Value} → Shows s v → keys_of s ≡ keys_of_map (as_map v)
unfolding keys_of
keys_read {s} {v} x = rw x.is (by (as_map v) (map_depth x.encodes) (map_reads x.encodes x.rest))
  where
    by : {c : Option Counted} (o : Option Pairs) → ((ps : Pairs) → o ≡ Some ps → depth v ≡ suc (pairs_depth ps)) → MapRead (x.front ++ x.rest) x.rest c o
        → keys_by (x.front ++ x.rest) c ≡ keys_of_map o
    by o inner (is_map {ps = ps} l k ys) = pairs_keys (x.front ++ x.rest) ys (omega (arith, inner ps refl, x.shallow)) _ x.rest k
    by o inner no_map = refl

-- what stands under a key of a whole item
pub under_read : (key : List ℕ) {s : List ℕ} {v : Value} → Shows s v → under_whole key s ≡ byte_view.under key s
unfolding under_whole
under_read key {s} x = rw (ap (pass_item depth_allowed) x.is ∙ complete x.encodes depth_allowed x.shallow x.rest)
