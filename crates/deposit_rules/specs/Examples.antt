-- Headers and primary parts of blocks written out, on both sides of each rule; antt computes every answer.
use Rattle.std.specs.Prelude.{ℕ, true, false, List, [], ◌∷◌, ◌++◌, map, ◌≡◌, refl}
use Rattle.slices.specs.Bytes.{same_bytes}
use Rattle.endian.specs.Numbers.{little, big}
use Rattle.endian.specs.Places.{holds, number_at}
use Rattle.msgpack.specs.Formats.{formats, format_of}
use Rattle.msgpack.specs.Items.{head_of, pass_items, pass_head, pass_item}
use Rattle.msgpack.specs.Readers.{is_whole, content_at, count_at}
use Rattle.msgpack.specs.Lookup.{key_at, last_where, last_value}
use Rattle.msgpack.specs.Pairs.{pair_at}
use Rattle.msgpack.specs.Views.{text_at, items_from}
use Rattle.value.specs.Header.{header_keys}
use Rattle.records.specs.Record.{block_tag, version_tag}
use Rattle.deposit_rules.specs.Keys.{keys_from, keys_of, is_one_of, are_among, are_these}
use Rattle.deposit_rules.specs.Letters.{written_keys}
use Rattle.deposit_rules.specs.Blocks.{under_whole, has_length_alone, has_identifier_alone}

-- a letter as an item, in its short form and in a longer one
abbrev letter_item : ℕ → List ℕ
letter_item b = 0xa1 ∷ b ∷ []

abbrev longer : ℕ → List ℕ
longer b = 0xd9 ∷ 1 ∷ b ∷ []

-- the pairs of a block's header, with these maps in `s`, and no byte in `e`
abbrev listed : List ℕ → List ℕ
listed maps = letter_item 0x73 ++ maps

abbrev embedded : List ℕ
embedded = letter_item 0x65 ++ (0xc4 ∷ 0 ∷ [])

abbrev length_map : List ℕ
length_map = 0x81 ∷ letter_item 0x6c ++ (0 ∷ [])  -- {l: 0}

abbrev uncompressed : List ℕ
uncompressed = letter_item 0x63 ++ (0 ∷ [])  -- c: 0

-- the keys of a block's header, and of another's, in the writer's order
orders : map (λ h. are_these (written_keys block_tag) (keys_of h))
    ((0x82 ∷ listed (0x91 ∷ length_map) ++ embedded)  -- {s, e}
    ∷ (0x82 ∷ longer 0x73 ++ (0x90 ∷ []) ++ embedded)  -- the same keys, one in a longer form: 23 tells that
    ∷ (0x82 ∷ embedded ++ listed (0x91 ∷ length_map))  -- {e, s}
    ∷ (0x83 ∷ listed (0x91 ∷ length_map) ++ embedded ++ uncompressed)  -- {s, e, c}
    ∷ (0x81 ∷ embedded)  -- {e}
    ∷ []) ≡ true ∷ true ∷ false ∷ false ∷ false ∷ []
unfolding written_keys keys_of keys_from pair_at are_these same_bytes text_at content_at is_whole count_at head_of pass_item pass_head pass_items format_of formats
    number_at holds little big
orders = refl

others_order : map (λ h. are_these (written_keys version_tag) (keys_of h)) ((0x81 ∷ embedded) ∷ (0x82 ∷ embedded ++ uncompressed) ∷ []) ≡ true ∷ false ∷ []
unfolding written_keys keys_of keys_from pair_at are_these same_bytes text_at content_at is_whole count_at head_of pass_item pass_head pass_items format_of formats
    number_at holds little big
others_order = refl

-- keys that are given: `x` is not, nor is a number, nor a text of two letters
given_keys : map (λ h. are_among header_keys (keys_of h))
    ((0x82 ∷ embedded ++ uncompressed) ∷ (0x81 ∷ letter_item 0x78 ++ (0 ∷ [])) ∷ (0x81 ∷ 0x65 ∷ 0 ∷ []) ∷ (0x81 ∷ 0xa2 ∷ 0x65 ∷ 0x65 ∷ 0 ∷ []) ∷ [])
    ≡ true ∷ false ∷ false ∷ false ∷ []
unfolding keys_of keys_from pair_at are_among is_one_of same_bytes text_at content_at is_whole count_at head_of pass_item pass_head pass_items format_of formats
    number_at holds little big
given_keys = refl

-- `s`: one map with `l` alone
lengths : map (λ maps. has_length_alone (0x82 ∷ listed maps ++ embedded))
    ((0x91 ∷ length_map)
    ∷ (0x90 ∷ [])
    ∷ (0x92 ∷ length_map ++ length_map)
    ∷ (0x91 ∷ 0x82 ∷ letter_item 0x6c ++ (0 ∷ []) ++ uncompressed)
    ∷ (0x91 ∷ 0x81 ∷ uncompressed)
    ∷ length_map
    ∷ []) ≡ true ∷ false ∷ false ∷ false ∷ false ∷ false ∷ []
unfolding has_length_alone under_whole last_value last_where key_at items_from keys_of keys_from pair_at are_these same_bytes text_at content_at is_whole count_at head_of
    pass_item pass_head pass_items format_of formats number_at holds little big
lengths = refl

-- `I` alone, as text
identifiers : map has_identifier_alone
    ((0x81 ∷ letter_item 0x49 ++ letter_item 0x78)
    ∷ (0x81 ∷ letter_item 0x49 ++ (0xc4 ∷ 1 ∷ 0x78 ∷ []))
    ∷ (0x81 ∷ letter_item 0x4a ++ letter_item 0x78)
    ∷ (0x82 ∷ letter_item 0x49 ++ letter_item 0x78 ++ letter_item 0x4a ++ letter_item 0x78)
    ∷ (0x80 ∷ [])
    ∷ []) ≡ true ∷ false ∷ false ∷ false ∷ false ∷ []
unfolding has_identifier_alone under_whole last_value last_where key_at keys_of keys_from pair_at are_these same_bytes text_at content_at is_whole count_at head_of
    pass_item pass_head pass_items format_of formats number_at holds little big
identifiers = refl
