-- A pack list by its two halves: what a block's reader answers of the same part, and its entries. 17 and 22 are decided over both before the rules.
use Rattle.std.specs.Prelude.{ℕ, Bool, true, false, cond, ◌||◌, List, ◌≡◌, refl, ltb}
use Rattle.std.specs.Prelude.{Option, None, Some}
use Rattle.refusals.specs.Answers.{Answer, refused, granted, or_refused, if_once}
use Rattle.msgpack.specs.Views.{byte_view}
use Rattle.identifier.specs.Ulid.{is_ulid}
use Rattle.identifier.specs.Identity.{Identity}
use Rattle.primary.specs.Parts.{fills, Shape, shape_under, identity_by, block_by, block_repeats, block}
use Rattle.pack_list.specs.Lists.{Entry, PackList, entries_under, list_repeats, all_of, is_filled, if_so, pack_list_by, pack_list}

-- the rules for the entries
abbrev pub list_of : Identity → List Entry → Answer PackList
list_of identifier es =
    if_so (all_of (λ (e : Entry). is_ulid e.pack) es) 18
    (if_so (all_of is_filled es) 21
    (granted (record { identifier = identifier; entries = es })))

-- 16 and 17 of the block come before all that the entries give; its 22 and 18 after the entries' 17, and its 18 after their 22
abbrev pub combined : Answer Identity → Option (List Entry) → Bool → Answer PackList
combined (refused n) entries repeated = cond (ltb n 18) (refused n) (or_refused 17 entries λ es. if_once repeated (refused n))
combined (granted i) entries repeated = or_refused 17 entries λ es. if_once repeated (list_of i es)

pub together : (shape : Option Shape) (entries : Option (List Entry)) (in_block in_list : Bool)
    → pack_list_by shape entries (in_block || in_list) ≡ combined (block_by shape in_block) entries in_list
together None entries in_block in_list = refl
together (Some i) None true in_list = refl
together (Some i) None false in_list = go (identity_by i)
  where
    go : (identifier : Option Identity) → refused 17 ≡ combined (or_refused 18 identifier granted) None in_list
    go (Some j) = refl
    go None = refl
together (Some i) (Some es) true true = refl
together (Some i) (Some es) true false = refl
together (Some i) (Some es) false in_list = go (identity_by i) in_list
  where
    go : (identifier : Option Identity) (repeated : Bool)
        → if_once repeated (or_refused 18 identifier λ j. list_of j es) ≡ combined (or_refused 18 identifier granted) (Some es) repeated
    go (Some j) repeated = refl
    go None true = refl
    go None false = refl

-- so of a whole part
pub list_together : (s : List ℕ) → pack_list s ≡ combined (block s) (entries_under byte_view s) (list_repeats byte_view s)
unfolding pack_list block
list_together s = go (fills s)
  where
    go : (whole : Bool)
        → cond whole (pack_list_by (shape_under byte_view s) (entries_under byte_view s) (block_repeats byte_view s || list_repeats byte_view s)) (refused 16)
        ≡ combined (cond whole (block_by (shape_under byte_view s) (block_repeats byte_view s)) (refused 16)) (entries_under byte_view s) (list_repeats byte_view s)
    go true = together (shape_under byte_view s) (entries_under byte_view s) (block_repeats byte_view s) (list_repeats byte_view s)
    go false = refl
