-- The last value of a key is the one that the map's value has, and the key stands as often as in it; and where the key does not repeat, the
-- order of pairs plays no part.
use Rattle.std.specs.Prelude.{ℕ, suc, ◌+◌, ◌≤◌, Bool, true, false, cond, ◌≡◌, refl}
use mathlib.Core.List.{List, ◌++◌, append_assoc}
use Rattle.std.specs.Prelude.{Option, Some, None as nothing}
use Rattle.std.proofs.Math.Path.{sym, ap}
use Rattle.std.proofs.Common.{◌∙◌, arith, ne_eqb, drop-drop}
use Rattle.std.proofs.Math.ListN.{length, drop}
use Rattle.std.proofs.Math.Seq.{drop-append_seam, drop-append-add}
use Rattle.msgpack.specs.Formats.{map_kind}
use Rattle.msgpack.specs.Items.{head_of, pass_item, depth_allowed}
use Rattle.msgpack.specs.Readers.{Part, content_of_part, read_text}
use Rattle.msgpack.specs.Lookup.{content_is, key_at, ValuePlace, found, missing, last_where, last_value}
use Rattle.msgpack.specs.Pairs.{times_where, times_of}
use Rattle.msgpack_model.specs.Values.{Value, Map, Pairs, count_pairs, depth, pairs_depth, as_map}
use Rattle.msgpack_model.specs.Encoding.{MapHead, Encodes, scalar, array, map, EncodesPairs, no_pair, next_pair}
use Rattle.msgpack_model.specs.Heads.{scalar_flat, array_begins, map_begins}
use Rattle.msgpack_model.proofs.Complete.{complete}
use Rattle.msgpack_model.specs.Scalars.{flat_front}
use Rattle.msgpack_model.proofs.Readers.{text_reads, scalar_no_map}
use Rattle.msgpack_model.specs.Lookup.{is_text, key_is, last_from, last_in, FoundAt, value_there, none_there, MapLookup, in_map, not_map, times_key, times_in, Reordered, any_order}

-- ---- the key at the front

pub key_reads : (key : List ℕ) {v : Value} {e : List ℕ} → Encodes v e → (rest : List ℕ) → key_at key (e ++ rest) ≡ key_is key v
unfolding key_at
key_reads key {e = e} x rest = by (read_text (e ++ rest)) ∙ ap (is_text key) (text_reads x rest)
  where
    by : (p : Option Part) → content_is key (e ++ rest) p ≡ is_text key (content_of_part (e ++ rest) p)
    by (Some p) = refl
    by nothing = refl

-- ---- the value that is found

better : {s : List ℕ} {p best : ValuePlace} {v known : Option Value} (t : Bool) → FoundAt s p v → FoundAt s best known
    → FoundAt s (cond t p best) (cond t v known)
better true x y = x
better false x y = y

one_pair : (a : ℕ) (key : List ℕ) {k v : Value} {e f : List ℕ} → Encodes k e → Encodes v f → depth k ≤ a → depth v ≤ a
    → (count from : ℕ) (t : List ℕ) (best : ValuePlace)
    → last_where (pass_item a) (key_at key) (suc count) from (e ++ (f ++ t)) best
    ≡ last_where (pass_item a) (key_at key) count (from + length e + length f) t (cond (key_is key k) (found (from + length e)) best)
unfolding last_where
one_pair a key {e = e} {f = f} x y dk dv count from t best =
    let tail : drop (length e + length f) (e ++ (f ++ t)) ≡ t = drop-append-add e (f ++ t) (length f) ∙ drop-append_seam f t in
    rw (complete x a dk (f ++ t), drop-append_seam e (f ++ t), complete y a dv t, tail, key_reads key x (f ++ t))

module _ (a : ℕ) (key s : List ℕ) where
  pairs_found : {ps : Pairs} {e : List ℕ} → EncodesPairs ps e → pairs_depth ps ≤ a → (from : ℕ) (rest : List ℕ)
      → drop from s ≡ e ++ rest → (best : ValuePlace) (known : Option Value) → FoundAt s best known
      → FoundAt s (last_where (pass_item a) (key_at key) (count_pairs ps) from (e ++ rest) best) (last_from key ps known)
  unfolding last_where
  pairs_found no_pair d from rest h best known y = y
  pairs_found (next_pair {k = k} {v = v} {ps = ps} {e = e} {f = f} {g = g} x z xs) d from rest h best known y =
      let joined : (e ++ (f ++ g)) ++ rest ≡ e ++ (f ++ (g ++ rest)) = simp append_assoc in
      let to_value : drop (from + length e) s ≡ f ++ (g ++ rest) = sym (drop-drop (length e) from s)
      ∙ ap (drop (length e)) (h ∙ joined) ∙ drop-append_seam e (f ++ (g ++ rest)) in
      let to_next : drop (from + length e + length f) s ≡ g ++ rest = sym (drop-drop (length f) (from + length e) s)
      ∙ ap (drop (length f)) to_value ∙ drop-append_seam f (g ++ rest) in
      rw (joined, one_pair a key x z (omega arith) (omega arith) (count_pairs ps) from (g ++ rest) best)
      (pairs_found xs (omega arith) (from + length e + length f) rest to_next (cond (key_is key k) (found (from + length e)) best)
      (cond (key_is key k) (Some v) known)
      (better (key_is key k) (value_there (g ++ rest) to_value z) y))

-- ---- the last value in the map at the front

map_found : (key : List ℕ) (ps : Pairs) (h e : List ℕ) → MapHead (count_pairs ps) h → EncodesPairs ps e
    → pairs_depth ps ≤ depth_allowed → (rest : List ℕ) → FoundAt ((h ++ e) ++ rest) (last_value key ((h ++ e) ++ rest)) (last_in key ps)
unfolding last_value
map_found key ps h e x xs d rest =
    let behind : drop (length h) ((h ++ e) ++ rest) ≡ e ++ rest = rw (append_assoc h e rest, drop-append_seam h (e ++ rest)) in
    let top = rw (← append_assoc h e rest) at (map_begins x (e ++ rest)) in
    rw (top, behind) (pairs_found depth_allowed key ((h ++ e) ++ rest) xs d (length h) rest behind missing nothing none_there)

pub last_value_lem : (key : List ℕ) {v : Value} {e : List ℕ} → Encodes v e → depth v ≤ depth_allowed → (rest : List ℕ) → MapLookup key (e ++ rest) (as_map v)
unfolding last_value
last_value_lem key (scalar {e = e} x) d rest =
    let f = flat_front (scalar_flat x) rest in
    rw (scalar_no_map x) (not_map (rw (ne_eqb (head_of (e ++ rest)).kind map_kind (λ (k : (head_of (e ++ rest)).kind ≡ map_kind). omega (arith, f.holds_none)))))
last_value_lem key (array {h = h} {e = e} x xs) d rest = not_map (rw (append_assoc h e rest, array_begins x (e ++ rest)))
last_value_lem key (map {ps = ps} {h = h} {e = e} x xs) d rest = in_map (map_found key ps h e x xs (omega arith) rest)

-- ---- how often a key stands in a map

pairs_counted : (a : ℕ) (key : List ℕ) {ps : Pairs} {e : List ℕ} → EncodesPairs ps e → pairs_depth ps ≤ a → (rest : List ℕ)
    → times_where (pass_item a) (key_at key) (count_pairs ps) (e ++ rest) ≡ times_key key ps
unfolding times_where
pairs_counted a key no_pair d rest = refl
pairs_counted a key (next_pair {e = e} {f = f} {g = g} x z xs) d rest =
    let t : List ℕ = g ++ rest in
    let joined : (e ++ (f ++ g)) ++ rest ≡ e ++ (f ++ (g ++ rest)) = simp append_assoc in
    let tail : drop (length e + length f) (e ++ (f ++ t)) ≡ t = drop-append-add e (f ++ t) (length f) ∙ drop-append_seam f t in
    rw (
      joined,
      complete x a (omega arith) (f ++ t),
      drop-append_seam e (f ++ t),
      complete z a (omega arith) t,
      tail,
      key_reads key x (f ++ t),
      pairs_counted a key xs (omega arith) rest,
    )

pub times_read : (key : List ℕ) {v : Value} {e : List ℕ} → Encodes v e → depth v ≤ depth_allowed → (rest : List ℕ)
    → times_of key (e ++ rest) ≡ times_in key (as_map v)
unfolding times_of
times_read key (scalar {e = e} x) d rest =
    let f = flat_front (scalar_flat x) rest in
    rw (
      complete (scalar x) depth_allowed d rest,
      scalar_no_map x,
      ne_eqb (head_of (e ++ rest)).kind map_kind (λ (k : (head_of (e ++ rest)).kind ≡ map_kind). omega (arith, f.holds_none)),
    )
times_read key (array {h = h} {e = e} x xs) d rest = rw (complete (array x xs) depth_allowed d rest, append_assoc h e rest, array_begins x (e ++ rest))
times_read key (map {h = h} {e = e} x xs) d rest =
    let behind : drop (length h) ((h ++ e) ++ rest) ≡ e ++ rest = rw (append_assoc h e rest, drop-append_seam h (e ++ rest)) in
    let top = rw (← append_assoc h e rest) at (map_begins x (e ++ rest)) in
    rw (complete (map x xs) depth_allowed d rest, top, behind) (pairs_counted depth_allowed key xs (omega arith) rest)

-- ---- the order of pairs

map_lookup : (key : List ℕ) {ps : Pairs} {e : List ℕ} → Encodes (Map ps) e → depth (Map ps) ≤ depth_allowed → (rest : List ℕ)
    → FoundAt (e ++ rest) (last_value key (e ++ rest)) (last_in key ps)
map_lookup key x d rest = in_map_found (last_value_lem key x d rest)
  where
    in_map_found : {s : List ℕ} {ps : Pairs} → MapLookup key s (Some ps) → FoundAt s (last_value key s) (last_in key ps)
    in_map_found (in_map y) = y

-- any two encodings of maps with the same pairs, in any order: what is found in both is one value, or both have none
pub same_found : (key : List ℕ) {ps qs : Pairs} {e f : List ℕ} → Encodes (Map ps) e → Encodes (Map qs) f → Reordered ps qs → times_key key ps ≤ 1
    → depth (Map ps) ≤ depth_allowed → depth (Map qs) ≤ depth_allowed → (r q : List ℕ)
    → FoundAt (e ++ r) (last_value key (e ++ r)) (last_in key ps) × FoundAt (f ++ q) (last_value key (f ++ q)) (last_in key ps)
same_found key x y o once dp dq r q = (map_lookup key x dp r, rw (any_order key o once) (map_lookup key y dq q))
