-- When a record keeps the deposit profile, without computation; and which number is given where it does not.
use Rattle.std.specs.Prelude.{ℕ, Bool, true, false, cond, ◌&&◌, ◌↔◌, ◌≡◌, refl, eqb}
use mathlib.Core.List.{List, [], ◌∷◌, map, Memᴰ}
use Rattle.std.specs.Prelude.{Option, None, Some}
use Rattle.std.proofs.Common.{ap, ◌∙◌}
use borrow.Author.Tests.{eq-eqb, eqb-true}
use Rattle.slices.specs.Logic.{absurd_numbers, both}
use Rattle.msgpack.specs.Lookup.{Under, found, missing, broken}
use Rattle.msgpack.specs.Views.{text_at, byte_view}
use Rattle.msgpack_forms.specs.Items.{all_short}
use Rattle.value.specs.Header.{secondary_key, length_key, header_keys}
use Rattle.primary.specs.Parts.{identifier_key}
use Rattle.records.specs.Record.{block_tag}
use Rattle.deposit_rules.specs.Keys.{Key, keys_of, are_these, Listed, these_exactly}
use Rattle.deposit_rules.specs.Letters.{part_keys, written_keys}
use Rattle.deposit_rules.specs.Blocks.{under_whole, is_one_map, is_one_map_under, has_length_alone, is_there, is_text_under, has_identifier_alone}
use Rattle.deposit_rules.specs.Buckets.{BucketName}
use Rattle.deposit.specs.Profile.{is_block_plain}

-- ---- 26: a block's two maps

-- under `s` stands a list of one map, whose only key is `l`
pub record LengthAlone (header : List ℕ) : Type 0 where
  pub list : List ℕ
  pub map_in : List ℕ
  pub under : under_whole secondary_key header ≡ found list
  pub items : byte_view.items list ≡ Some (map_in ∷ [])
  pub keys : keys_of map_in ≡ Some length_key ∷ []

-- `I` is the only key, and under it stands a text
pub record IdentifierAlone (part : List ℕ) : Type 0 where
  pub keys : keys_of part ≡ Some identifier_key ∷ []
  pub item : List ℕ
  pub text : List ℕ
  pub under : under_whole identifier_key part ≡ found item
  pub is_text_lem : text_at item ≡ Some text

pub length_exactly : (header : List ℕ) → has_length_alone header ≡ true ↔ LengthAlone header
unfolding has_length_alone
length_exactly header = (is (under_whole secondary_key header) refl, back)
  where
    items : (l : List ℕ) → under_whole secondary_key header ≡ found l → (o : Option (List (List ℕ))) → byte_view.items l ≡ o
        → is_one_map (length_key ∷ []) o ≡ true → LengthAlone header
    items l u (Some (m ∷ [])) i e = record { list = l; map_in = m; under = u; items = i; keys = (these_exactly (length_key ∷ []) (keys_of m)).0 e }
    items l u (Some []) i e = absurd_numbers (cc)
    items l u (Some (m ∷ n ∷ ms)) i e = absurd_numbers (cc)
    items l u None i e = absurd_numbers (cc)

    is : (o : Under (List ℕ)) → under_whole secondary_key header ≡ o → is_one_map_under (length_key ∷ []) o ≡ true → LengthAlone header
    is (found l) u e = items l u (byte_view.items l) refl e
    is missing u e = absurd_numbers (cc)
    is broken u e = absurd_numbers (cc)

    back : LengthAlone header → is_one_map_under (length_key ∷ []) (under_whole secondary_key header) ≡ true
    back a = ap (is_one_map_under (length_key ∷ [])) a.under ∙ ap (is_one_map (length_key ∷ [])) a.items
        ∙ (these_exactly (length_key ∷ []) (keys_of a.map_in)).1 a.keys

pub identifier_exactly : (part : List ℕ) → has_identifier_alone part ≡ true ↔ IdentifierAlone part
unfolding has_identifier_alone
identifier_exactly part = (is, back)
  where
    text : keys_of part ≡ Some identifier_key ∷ [] → (i : List ℕ) → under_whole identifier_key part ≡ found i → (o : Option (List ℕ)) → text_at i ≡ o
        → is_there o ≡ true → IdentifierAlone part
    text k i u (Some t) q e = record { keys = k; item = i; text = t; under = u; is_text_lem = q }
    text k i u None q e = absurd_numbers (cc)

    under : keys_of part ≡ Some identifier_key ∷ [] → (o : Under (List ℕ)) → under_whole identifier_key part ≡ o → is_text_under o ≡ true → IdentifierAlone part
    under k (found i) u e = text k i u (text_at i) refl e
    under k missing u e = absurd_numbers (cc)
    under k broken u e = absurd_numbers (cc)

    is : (are_these (identifier_key ∷ []) (keys_of part) && is_text_under (under_whole identifier_key part)) ≡ true → IdentifierAlone part
    is e =
        let b = both (are_these (identifier_key ∷ []) (keys_of part)) (is_text_under (under_whole identifier_key part)) e in
        under ((these_exactly (identifier_key ∷ []) (keys_of part)).0 b.0) (under_whole identifier_key part) refl b.1

    back : IdentifierAlone part → (are_these (identifier_key ∷ []) (keys_of part) && is_text_under (under_whole identifier_key part)) ≡ true
    back a = rw ((these_exactly (identifier_key ∷ []) (keys_of part)).1 a.keys, a.under, a.is_text_lem)

pub record PlainBlock (header part : List ℕ) : Type 0 where
  pub length_alone : LengthAlone header
  pub identifier_alone : IdentifierAlone part

pub plain_exactly : (tag : ℕ) (header part : List ℕ) → is_block_plain tag header part ≡ true ↔ (tag ≡ block_tag → PlainBlock header part)
unfolding is_block_plain
plain_exactly tag header part = (is (eqb tag block_tag) refl, back (eqb tag block_tag) refl)
  where
    is : (t : Bool) → eqb tag block_tag ≡ t → cond t (has_length_alone header && has_identifier_alone part) true ≡ true → tag ≡ block_tag → PlainBlock header part
    is true p e b =
        let r = both (has_length_alone header) (has_identifier_alone part) e in
        record { length_alone = (length_exactly header).0 r.0; identifier_alone = (identifier_exactly part).0 r.1 }
    is false p e b = absurd_numbers (let q = eq-eqb tag block_tag b in cc)

    back : (t : Bool) → eqb tag block_tag ≡ t → (tag ≡ block_tag → PlainBlock header part) → cond t (has_length_alone header && has_identifier_alone part) true ≡ true
    back true p f = let b = f (eqb-true tag block_tag p) in
        rw ((length_exactly header).1 b.length_alone, (identifier_exactly part).1 b.identifier_alone)
    back false p f = refl

-- ---- the six rules

pub record Keeps (tag spare : ℕ) (header part bucket : List ℕ) : Type 0 where
  pub short_header : all_short header ≡ true
  pub short_part : all_short part ≡ true
  pub given_header : (key : Key) → Memᴰ key (keys_of header) → Listed header_keys key
  pub given_part : (key : Key) → Memᴰ key (keys_of part) → Listed (part_keys tag) key
  pub order : keys_of header ≡ map Some (written_keys tag)
  pub plain : tag ≡ block_tag → PlainBlock header part
  pub spare_zero : spare ≡ 0
  pub named : BucketName bucket
