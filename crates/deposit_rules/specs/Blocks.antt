-- What the deposit profile (request 9) asks of a block beyond its keys: of what stands under `s` in its header, and under `I` in its primary part.
use Rattle.std.specs.Prelude.{ℕ, Bool, true, false, ◌&&◌, List, [], ◌∷◌}
use Rattle.std.specs.Prelude.{Option, None, Some}
use Rattle.msgpack.specs.Items.{pass_over}
use Rattle.msgpack.specs.Lookup.{Under, found, missing, broken, if_whole, last_value}
use Rattle.msgpack.specs.Views.{text_at, front_of, byte_view}
use Rattle.value.specs.Header.{secondary_key, length_key}
use Rattle.primary.specs.Parts.{identifier_key}
use Rattle.deposit_rules.specs.Keys.{keys_of, are_these}

-- what stands under a key of the map at the front, where that is whole
unfoldable pub under_whole : List ℕ → List ℕ → Under (List ℕ)
under_whole key s = front_of s (if_whole (pass_over s) (λ n. last_value key s))

abbrev pub is_one_map : List (List ℕ) → Option (List (List ℕ)) → Bool
is_one_map keys (Some (m ∷ [])) = are_these keys (keys_of m)
is_one_map keys (Some []) = false
is_one_map keys (Some (m ∷ n ∷ ms)) = false
is_one_map keys None = false

abbrev pub is_one_map_under : List (List ℕ) → Under (List ℕ) → Bool
is_one_map_under keys (found l) = is_one_map keys (byte_view.items l)
is_one_map_under keys missing = false
is_one_map_under keys broken = false

-- `s` is a list of one map, whose only key is `l`
unfoldable pub has_length_alone : List ℕ → Bool
has_length_alone header = is_one_map_under (length_key ∷ []) (under_whole secondary_key header)

abbrev pub is_there : {A : Type 0} → Option A → Bool
is_there (Some a) = true
is_there None = false

abbrev pub is_text_under : Under (List ℕ) → Bool
is_text_under (found i) = is_there (text_at i)
is_text_under missing = false
is_text_under broken = false

-- `I` is the only key, and a text stands under it
unfoldable pub has_identifier_alone : List ℕ → Bool
has_identifier_alone part = are_these (identifier_key ∷ []) (keys_of part) && is_text_under (under_whole identifier_key part)
