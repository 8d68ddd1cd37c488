-- A record keeps the deposit profile exactly when none of the six rows applies.
use Rattle.std.specs.Prelude.{ℕ, Bool, true, false, not, ◌↔◌, ◌≡◌, refl}
use mathlib.Core.List.{List}
use Rattle.std.specs.Prelude.{None}
use borrow.Author.Tests.{eq-eqb, eqb-true}
use Rattle.slices.specs.Logic.{absurd_numbers, both}
use Rattle.refusals.specs.Sheet.{lowest, lowest_none}
use Rattle.msgpack_forms.specs.Items.{all_short}
use Rattle.value.specs.Header.{header_keys}
use Rattle.deposit_rules.specs.Keys.{keys_of, are_among, these_exactly, among_exactly}
use Rattle.deposit_rules.specs.Letters.{part_keys, written_keys}
use Rattle.deposit_rules.specs.Buckets.{bucket_exactly}
use Rattle.deposit.specs.Profile.{profile_rows}
use Rattle.deposit.specs.Exactly.{plain_exactly, Keeps}

kept : (b : Bool) → not b ≡ false → b ≡ true
kept true e = refl
kept false e = absurd_numbers (cc)

pub keeps_exactly : (tag spare : ℕ) (header part bucket : List ℕ)
    → lowest (profile_rows tag spare header part bucket) ≡ None ↔ Keeps tag spare header part bucket
unfolding profile_rows
keeps_exactly tag spare header part bucket = (is, back)
  where
    is : lowest (profile_rows tag spare header part bucket) ≡ None → Keeps tag spare header part bucket
    is e =
        let r23 = lowest_none _ _ e in
        let r24 = lowest_none _ _ r23.1 in
        let r25 = lowest_none _ _ r24.1 in
        let r26 = lowest_none _ _ r25.1 in
        let r27 = lowest_none _ _ r26.1 in
        let r28 = lowest_none _ _ r27.1 in
        let short = both (all_short header) (all_short part) (kept _ r23.0) in
        let given = both (are_among header_keys (keys_of header)) (are_among (part_keys tag) (keys_of part)) (kept _ r24.0) in
        record {
          short_header = short.0;
          short_part = short.1;
          given_header = (among_exactly header_keys (keys_of header)).0 given.0;
          given_part = (among_exactly (part_keys tag) (keys_of part)).0 given.1;
          order = (these_exactly (written_keys tag) (keys_of header)).0 (kept _ r25.0);
          plain = (plain_exactly tag header part).0 (kept _ r26.0);
          spare_zero = eqb-true spare 0 (kept _ r27.0);
          named = (bucket_exactly bucket).0 (kept _ r28.0);
        }

    back : Keeps tag spare header part bucket → lowest (profile_rows tag spare header part bucket) ≡ None
    back k = unfold lowest in rw (
      k.short_header,
      k.short_part,
      (among_exactly header_keys (keys_of header)).1 k.given_header,
      (among_exactly (part_keys tag) (keys_of part)).1 k.given_part,
      (these_exactly (written_keys tag) (keys_of header)).1 k.order,
      (plain_exactly tag header part).1 k.plain,
      eq-eqb spare 0 k.spare_zero,
      (bucket_exactly bucket).1 k.named,
    )
