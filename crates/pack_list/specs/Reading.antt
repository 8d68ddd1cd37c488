-- When a part reads as a pack list, and as which: exactly when a block's reader tells its identifier, its entries stand in it, once, and keep the rules.
use Rattle.std.specs.Prelude.{ℕ, ◌+◌, ◌≤◌, Bool, true, false, cond, ◌&&◌, ◌≡◌, leb}
use mathlib.Core.List.Memᴰ
use mathlib.Core.List.{List, [], ◌∷◌, Memᴰ}
use Rattle.std.proofs.Math.Logic.{⊎_elim}
use Rattle.std.specs.Prelude.{Option, None, Some}
use Rattle.std.proofs.Math.Path.{refl, ap}
use Rattle.std.proofs.Common.{◌∙◌, leb-true, le-leb}
use Rattle.slices.specs.Logic.{absurd_numbers, both}
use Rattle.refusals.specs.Answers.{refused, granted, or_refused, if_once}
use Rattle.msgpack.specs.Views.{byte_view}
use Rattle.identifier.specs.Ulid.{is_ulid}
use Rattle.primary.specs.Exactly.{BlockNames}
use Rattle.pack_list.specs.Lists.{Entry, PackList, entries_under, list_repeats, all_of, sum, greatest, is_short, is_filled}

-- ---- the rules for an entry

-- its ranges end within 64 bits, and the lengths listed within the range of the pack
pub record Filled (e : Entry) : Type 0 where
  pub source_ends : e.source.start + e.source.len ≤ greatest
  pub stored_ends : e.stored.start + e.stored.len ≤ greatest
  pub listed : sum e.lengths ≤ e.stored.len

pub filled_is : (e : Entry) → is_filled e ≡ true → Filled e
unfolding is_filled is_short
filled_is e h =
    let p = both (is_short e.source) (is_short e.stored && leb (sum e.lengths) e.stored.len) h in
    let q = both (is_short e.stored) (leb (sum e.lengths) e.stored.len) p.1 in
    record { source_ends = leb-true _ greatest p.0; stored_ends = leb-true _ greatest q.0; listed = leb-true _ e.stored.len q.1 }

pub is_filled_lem : (e : Entry) → Filled e → is_filled e ≡ true
unfolding is_filled is_short
is_filled_lem e f = rw (le-leb _ greatest f.source_ends, le-leb _ greatest f.stored_ends, le-leb _ e.stored.len f.listed)

-- ---- of all

module _ {A : Type 0} (test : A → Bool) where
  pub all_pass : (xs : List A) → all_of test xs ≡ true → (x : A) → Memᴰ x xs → test x ≡ true
  unfolding all_of
  all_pass [] h x m = absurd (Memᴰ.not-nil m)
  all_pass (y ∷ xs) h x m =
      let p = both (test y) (all_of test xs) h in
      ⊎_elim (λ same. ap test same ∙ p.0) (λ n. all_pass xs p.1 x n) (Memᴰ.cases_cons m)

  pub pass_all : (xs : List A) → ((x : A) → Memᴰ x xs → test x ≡ true) → all_of test xs ≡ true
  unfolding all_of
  pass_all [] h = refl
  pass_all (y ∷ xs) h = rw (h y (Memᴰ.head refl), pass_all xs (λ x m. h x (Memᴰ.tail m)))

-- ---- the list

pub record ListReads (s : List ℕ) (l : PackList) : Type 0 where
  pub names : BlockNames s l.identifier
  pub there : entries_under byte_view s ≡ Some l.entries
  pub once : list_repeats byte_view s ≡ false
  pub packs : (e : Entry) → Memᴰ e l.entries → is_ulid e.pack ≡ true
  pub filled : (e : Entry) → Memᴰ e l.entries → Filled e

pub never : {l : PackList} (n : ℕ) (t : Bool) (entries : Option (List Entry)) (repeated : Bool)
    → cond t (refused n) (or_refused 17 entries λ es. if_once repeated (refused n)) ≡ granted l → ⊥
never n true entries repeated e = absurd_numbers (cc)
never n false None repeated e = absurd_numbers (cc)
never n false (Some es) true e = absurd_numbers (cc)
never n false (Some es) false e = absurd_numbers (cc)
