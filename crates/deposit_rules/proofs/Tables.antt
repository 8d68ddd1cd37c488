-- The code's tables of codes are those of the keys.
use Prim.Native.Nat.{ℕ}
use mathlib.Core.List.{[], ◌∷◌}
use mathlib.Core.Path.{◌≡◌, refl}
use borrow.Author.Tests.{ne_eqb}
use Rattle.endian.specs.Numbers.{little, big}
use Rattle.msgpack.specs.Pairs.{code_of}
use Rattle.identifier.specs.Texts.{all}
use Rattle.value.specs.Header.{primary_key, secondary_key, header_keys}
use Rattle.records.specs.Record.{block_tag, version_tag, version_delete_tag}
use Rattle.deposit_rules.specs.Codes.{is_short_text, are_short_texts, Coded}
use Rattle.deposit_rules.specs.Letters.{given_in_block, given_in_version, given_in_delete, given_in_pack_list, part_keys, written_keys}

pub header_coded : Coded header_keys (0x165 ∷ 0x173 ∷ 0x163 ∷ 0x17a ∷ 0x176 ∷ [])
unfolding are_short_texts is_short_text all code_of big little
header_coded = record { is = refl; short = refl }

pub block_coded : Coded given_in_block (0x149 ∷ [])
unfolding are_short_texts is_short_text all code_of big little
block_coded = record { is = refl; short = refl }

pub version_coded : Coded given_in_version
    (0x162 ∷ 0x16f ∷ 0x176 ∷ 0x177 ∷ 0x141 ∷ 0x16c ∷ 0x165 ∷ 0x164 ∷ 0x14e ∷ 0x143 ∷ 0x170 ∷ 0x173 ∷ 0x16d ∷ 0x168 ∷ 0x144 ∷ [])
unfolding are_short_texts is_short_text all code_of big little
version_coded = record { is = refl; short = refl }

pub delete_coded : Coded given_in_delete (0x162 ∷ 0x16f ∷ 0x176 ∷ 0x13f3f3f ∷ [])
unfolding are_short_texts is_short_text all code_of big little
delete_coded = record { is = refl; short = refl }

pub pack_list_coded : Coded given_in_pack_list (0x149 ∷ 0x155 ∷ 0x150 ∷ [])
unfolding are_short_texts is_short_text all code_of big little
pack_list_coded = record { is = refl; short = refl }

pub block_order_coded : Coded (secondary_key ∷ primary_key ∷ []) (0x173 ∷ 0x165 ∷ [])
unfolding are_short_texts is_short_text all code_of big little
block_order_coded = record { is = refl; short = refl }

pub part_order_coded : Coded (primary_key ∷ []) (0x165 ∷ [])
unfolding are_short_texts is_short_text all code_of big little
part_order_coded = record { is = refl; short = refl }

module _ (tag : ℕ) where
  pub part_of_block : tag ≡ block_tag → part_keys tag ≡ given_in_block
  unfolding part_keys
  part_of_block e = rw e

  pub part_of_version : tag ≡ version_tag → part_keys tag ≡ given_in_version
  unfolding part_keys
  part_of_version e = rw e

  pub part_of_delete : tag ≡ version_delete_tag → part_keys tag ≡ given_in_delete
  unfolding part_keys
  part_of_delete e = rw e

  pub part_of_other : (tag ≡ block_tag → ⊥) → (tag ≡ version_tag → ⊥) → (tag ≡ version_delete_tag → ⊥) → part_keys tag ≡ given_in_pack_list
  unfolding part_keys
  part_of_other b v d = rw (ne_eqb tag block_tag b, ne_eqb tag version_tag v, ne_eqb tag version_delete_tag d)

  pub header_of_block : tag ≡ block_tag → written_keys tag ≡ secondary_key ∷ primary_key ∷ []
  unfolding written_keys
  header_of_block e = rw e

  pub header_of_other : (tag ≡ block_tag → ⊥) → written_keys tag ≡ primary_key ∷ []
  unfolding written_keys
  header_of_other n = rw (ne_eqb tag block_tag n)
