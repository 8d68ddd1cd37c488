-- The rules one after the other: the first that is broken gives its number.
use Prim.Native.Nat.{ℕ, ◌+◌, ◌-◌, ◌≤◌}
use mathlib.Core.Bool.{true, false, ◌&&◌}
use mathlib.Core.List.{List}
use Rattle.std.specs.Prelude.{Option, None, Some}
use Rattle.std.specs.Option.{option_eq}
use mathlib.Core.Path.{◌≡◌, ◌∙◌}
use native.Mathlib.Omega.{arith}
use borrow.Author.Tests.{eq-eqb, ne_eqb}
use lib.Dec.{eqb}
use lib.ListN.{length, take, drop, length-drop}
use Rattle.slices.specs.Lists.{part_to_end}
use Rattle.refusals.specs.Sheet.{lowest}
use Rattle.endian.specs.Numbers.{big}
use Rattle.endian.specs.Places.{number_at, within_holds}
use Rattle.tlv.specs.Layout.{field}
use Rattle.msgpack_forms.specs.Items.{all_short}
use Rattle.value.specs.Header.{header_keys}
use Rattle.records.specs.Record.{block_tag}
use Rattle.deposit_rules.specs.Keys.{keys_of, are_among, are_these}
use Rattle.deposit_rules.specs.Letters.{part_keys, written_keys}
use Rattle.deposit_rules.specs.Blocks.{has_length_alone, has_identifier_alone}
use Rattle.deposit_rules.specs.Buckets.{is_bucket_name}
use Rattle.deposit.specs.Profile.{is_block_plain, profile_rows}
use Rattle.deposit.specs.Packs.{spare_at}

-- ---- bytes 28 and 29

spare_read : (s : List ℕ) (at : ℕ) → at + 32 ≤ length s → number_at big (drop at s) 28 2 ≡ Some (spare_at s at)
unfolding number_at field
spare_read s at h = rw (within_holds (length (drop at s)) 28 2 (record { narrow = omega arith; inside = omega (arith, length-drop at s) }))

module _ (s : List ℕ) (at : ℕ) (inside : at + 32 ≤ length s) where
  there : number_at big (take (length s - at) (drop at s)) 28 2 ≡ Some (spare_at s at)
  there = rw part_to_end (spare_read s at inside)

  pub spare_zero : (r : Option ℕ) → r ≡ number_at big (take (length s - at) (drop at s)) 28 2 → option_eq eqb r (Some 0) ≡ eqb (spare_at s at) 0
  spare_zero r e = rw (e ∙ there)

-- ---- a block

module _ (tag : ℕ) (header part : List ℕ) where
  pub no_block : (tag ≡ block_tag → ⊥) → true ≡ is_block_plain tag header part
  unfolding is_block_plain
  no_block n = rw (ne_eqb tag block_tag n)

  pub a_block : tag ≡ block_tag → (has_length_alone header && has_identifier_alone part) ≡ is_block_plain tag header part
  unfolding is_block_plain
  a_block e = rw (eq-eqb tag block_tag e)

-- ---- the six rows

module _ (tag spare : ℕ) (header part bucket : List ℕ) where
  pub breaks_23 : (all_short header && all_short part) ≡ false → Some 23 ≡ lowest (profile_rows tag spare header part bucket)
  unfolding profile_rows lowest
  breaks_23 e = rw e

  module _ (kept-23 : (all_short header && all_short part) ≡ true) where
    pub breaks_24 : (are_among header_keys (keys_of header) && are_among (part_keys tag) (keys_of part)) ≡ false
        → Some 24 ≡ lowest (profile_rows tag spare header part bucket)
    unfolding profile_rows lowest
    breaks_24 e = rw (kept-23, e)

    module _ (kept-24 : (are_among header_keys (keys_of header) && are_among (part_keys tag) (keys_of part)) ≡ true) where
      pub breaks_25 : are_these (written_keys tag) (keys_of header) ≡ false → Some 25 ≡ lowest (profile_rows tag spare header part bucket)
      unfolding profile_rows lowest
      breaks_25 e = rw (kept-23, kept-24, e)

      module _ (kept-25 : are_these (written_keys tag) (keys_of header) ≡ true) where
        pub breaks_26 : is_block_plain tag header part ≡ false → Some 26 ≡ lowest (profile_rows tag spare header part bucket)
        unfolding profile_rows lowest
        breaks_26 e = rw (kept-23, kept-24, kept-25, e)

        module _ (kept-26 : is_block_plain tag header part ≡ true) where
          pub breaks_27 : eqb spare 0 ≡ false → Some 27 ≡ lowest (profile_rows tag spare header part bucket)
          unfolding profile_rows lowest
          breaks_27 e = rw (kept-23, kept-24, kept-25, kept-26, e)

          module _ (kept-27 : eqb spare 0 ≡ true) where
            pub breaks_28 : is_bucket_name bucket ≡ false → Some 28 ≡ lowest (profile_rows tag spare header part bucket)
            unfolding profile_rows lowest
            breaks_28 e = rw (kept-23, kept-24, kept-25, kept-26, kept-27, e)

            pub keeps_all : is_bucket_name bucket ≡ true → None ≡ lowest (profile_rows tag spare header part bucket)
            unfolding profile_rows lowest
            keeps_all e = rw (kept-23, kept-24, kept-25, kept-26, kept-27, e)
