-- Pack lists that are seen alike read alike: the rules look at a part through its view alone.
use Rattle.std.specs.Prelude.{ℕ, Bool, ◌||◌, List, [], ◌≡◌}
use Rattle.std.proofs.Math.Bool.{true, false}
use Rattle.std.specs.Prelude.{Option, None, Some}
use Rattle.std.proofs.Math.Path.{refl, ap}
use Rattle.std.proofs.Common.{sym, subst, ◌∙◌}
use Rattle.slices.specs.Logic.{neither_so}
use Rattle.msgpack.specs.Lookup.{Under, found, at_place, if_there}
use Rattle.msgpack.specs.Views.{View, repeats, Both, both, neither, Each, no_more, and_each, SameUnder, both_found, both_missing, both_broken, SeenAlike, SameKeys, repeats_alike, once_alike}
use Rattle.value.specs.Fields.{at_least_zero, natural_under}
use Rattle.primary.specs.Parts.{identifier_key, identity_keys, block_keys, text_under, shape_under, identifier_repeats, block_repeats, block_seen}
use Rattle.primary.specs.PartsAlike.{block_repeats_alike, block_alike}
use Rattle.pack_list.specs.Lists.{entries_key, source_key, stored_key, start_key, length_key, list_keys, entry_keys, range_keys, each_of, list_at, natural_at, range_at, entry_at, entries_under, any_of, range_repeats, entry_repeats, items_repeat, entries_repeat, list_repeats, pack_list_seen}
use Rattle.pack_list.specs.Laws.{together}

-- ---- related items of which the same is read

under_alike : {I J A : Type 0} {R : I → J → Type 0} (absent : Option A) (f : I → Option A) (g : J → Option A) {o : Under I} {p : Under J}
    → SameUnder R o p → ((a : I) (b : J) → o ≡ found a → R a b → f a ≡ g b) → at_place absent f o ≡ at_place absent g p
under_alike absent f g (both_found {i = a} {j = b} r) same = same a b refl r
under_alike absent f g both_missing same = refl
under_alike absent f g both_broken same = refl

module _ {I J A : Type 0} {R : I → J → Type 0} (f : I → Option A) (g : J → Option A) (same : (a : I) (b : J) → R a b → f a ≡ g b) where
  each_alike : {xs : List I} {ys : List J} → Each R xs ys → each_of f xs ≡ each_of g ys
  unfolding each_of
  each_alike no_more = refl
  each_alike (and_each {a = a} {b = b} r rs) = rw (same a b r, each_alike rs)

  items_alike : {o : Option (List I)} {p : Option (List J)} → Both (Each R) o p → if_there o (each_of f) ≡ if_there p (each_of g)
  items_alike (both rs) = each_alike rs
  items_alike neither = refl

module _ {I J : Type 0} (v : View I) (w : View J) (R : I → J → Type 0) (alike : SeenAlike v w R) where
  -- ---- in both the same keys repeat

  range_repeats_lem : {o : Under I} {p : Under J} → SameUnder R o p → range_repeats v o ≡ range_repeats w p
  range_repeats_lem (both_found r) = repeats_alike v w R alike range_keys r
  range_repeats_lem both_missing = refl
  range_repeats_lem both_broken = refl

  entry_repeats_lem : {i : I} {j : J} → R i j → entry_repeats v i ≡ entry_repeats w j
  unfolding entry_repeats
  entry_repeats_lem {i} {j} r = rw (← repeats_alike v w R alike entry_keys r) (by (repeats v entry_keys i) refl)
    where
      by : (b : Bool) → repeats v entry_keys i ≡ b
          → (b || (range_repeats v (v.under source_key i) || range_repeats v (v.under stored_key i)))
          ≡ (b || (range_repeats w (w.under source_key j) || range_repeats w (w.under stored_key j)))
      by true e = refl
      by false e =
          let k = once_alike v w R alike entry_keys r e in
          rw (range_repeats_lem k.1.0, range_repeats_lem k.1.1.0)

  any_repeats : {xs : List I} {ys : List J} → Each R xs ys → any_of (entry_repeats v) xs ≡ any_of (entry_repeats w) ys
  unfolding any_of
  any_repeats no_more = refl
  any_repeats (and_each r rs) = rw (entry_repeats_lem r, any_repeats rs)

  entries_repeat_lem : {o : Under I} {p : Under J} → SameUnder R o p → entries_repeat v o ≡ entries_repeat w p
  entries_repeat_lem (both_found r) = by (alike.items r)
    where
      by : {o : Option (List I)} {p : Option (List J)} → Both (Each R) o p → items_repeat v o ≡ items_repeat w p
      by (both rs) = any_repeats rs
      by neither = refl
  entries_repeat_lem both_missing = refl
  entries_repeat_lem both_broken = refl

  beside_identifier : (i : I) (j : J) → R i j → list_repeats v i ≡ list_repeats w j
  unfolding list_repeats
  beside_identifier i j r = rw (← repeats_alike v w R alike list_keys r) (by (repeats v list_keys i) refl)
    where
      by : (b : Bool) → repeats v list_keys i ≡ b
          → (b || entries_repeat v (v.under entries_key i)) ≡ (b || entries_repeat w (w.under entries_key j))
      by true e = refl
      by false e = entries_repeat_lem (once_alike v w R alike list_keys r e).0

  pub list_repeats_alike : (i : I) (j : J) → R i j → (block_repeats v i || list_repeats v i) ≡ (block_repeats w j || list_repeats w j)
  list_repeats_alike i j r = rw (block_repeats_alike v w R alike i j r, beside_identifier i j r)

  -- ---- entries, where related items stand under the keys that are read. What is assumed for it of whether these repeat is left open here: that
  -- none does, or nothing

  natural_alike : (key : List ℕ) (i : I) (j : J) → SameUnder R (v.under key i) (w.under key j)
      → natural_under v key i (Some 0) ≡ natural_under w key j (Some 0)
  unfolding natural_under
  natural_alike key i j same = under_alike (Some 0) _ _ same λ a b q r. ap at_least_zero (alike.integer r)

  module _ (Assumed : Bool → Type 0) (split : (a b : Bool) → Assumed (a || b) → Assumed a × Assumed b)
      (keys : (ks : List (List ℕ)) (i : I) (j : J) → R i j → Assumed (repeats v ks i) → SameKeys v w R ks i j) where
    range_alike : (i : I) (j : J) → R i j → Assumed (repeats v range_keys i) → range_at v i ≡ range_at w j
    unfolding range_at
    range_alike i j r h =
        let k = keys range_keys i j r h in
        rw (natural_alike start_key i j k.0, natural_alike length_key i j k.1.0)

    range_under_lem : {o : Under I} {p : Under J} → SameUnder R o p → Assumed (range_repeats v o) → at_place None (range_at v) o ≡ at_place None (range_at w) p
    range_under_lem same h = under_alike None (range_at v) (range_at w) same λ a b q r. range_alike a b r (subst Assumed (ap (range_repeats v) q) h)

    entry_alike : (i : I) (j : J) → R i j → Assumed (entry_repeats v i) → entry_at v i ≡ entry_at w j
    unfolding entry_repeats entry_at text_under list_at
    entry_alike i j r h =
        let n = split (repeats v entry_keys i) (range_repeats v (v.under source_key i) || range_repeats v (v.under stored_key i)) h in
        let m = split (range_repeats v (v.under source_key i)) (range_repeats v (v.under stored_key i)) n.1 in
        let k = keys entry_keys i j r n.0 in
        rw (
          under_alike None v.text w.text k.0 (λ a b q x. alike.text x),
          range_under_lem k.1.0 m.0,
          range_under_lem k.1.1.0 m.1,
          under_alike (Some []) _ _ k.1.1.1.0
              (λ a b q x. items_alike (natural_at v) (natural_at w) (λ c d y. ap at_least_zero (alike.integer y)) (alike.items x)),
          under_alike (Some []) _ _ k.1.1.1.1.0 (λ a b q x. items_alike v.integer w.integer (λ c d y. alike.integer y) (alike.items x)),
        )

    -- with what is assumed of each
    assumed_each : {xs : List I} {ys : List J} → Each R xs ys → Assumed (any_of (entry_repeats v) xs)
        → Each (λ a b. R a b × Assumed (entry_repeats v a)) xs ys
    unfolding any_of
    assumed_each no_more h = no_more
    assumed_each (and_each {a = a} {xs = xs} r rs) h =
        let n = split (entry_repeats v a) (any_of (entry_repeats v) xs) h in
        and_each (r, n.0) (assumed_each rs n.1)

    entries_alike : {o : Option (List I)} {p : Option (List J)} → Both (Each R) o p → Assumed (items_repeat v o)
        → if_there o (each_of (entry_at v)) ≡ if_there p (each_of (entry_at w))
    entries_alike (both rs) h = each_alike (entry_at v) (entry_at w) (λ a b x. entry_alike a b x.0 x.1) (assumed_each rs h)
    entries_alike neither h = refl

    under_entries : (i : I) (j : J) → R i j → Assumed (list_repeats v i) → entries_under v i ≡ entries_under w j
    unfolding list_repeats entries_under list_at
    under_entries i j r h =
        let n = split (repeats v list_keys i) (entries_repeat v (v.under entries_key i)) h in
        under_alike (Some []) _ _ (keys list_keys i j r n.0).0 λ a b q x. entries_alike (alike.items x) (subst Assumed (ap (entries_repeat v) q) n.1)

    block_seen_lem : (i : I) (j : J) → R i j → Assumed (block_repeats v i) → block_seen v i ≡ block_seen w j
    unfolding block_repeats
    block_seen_lem i j r h =
        let n = split (repeats v block_keys i) (identifier_repeats v (v.under identifier_key i)) h in
        block_alike v w R alike i j r (keys block_keys i j r n.0) λ a b q x. keys identity_keys a b x (subst Assumed (ap (identifier_repeats v) q) n.1)

    assumed_list_alike : (i : I) (j : J) → R i j → Assumed (block_repeats v i || list_repeats v i) → pack_list_seen v i ≡ pack_list_seen w j
    assumed_list_alike i j r h =
        let n = split (block_repeats v i) (list_repeats v i) h in
        together (shape_under v i) (entries_under v i) (block_repeats v i) (list_repeats v i)
        ∙ rw (block_seen_lem i j r n.0, under_entries i j r n.1, beside_identifier i j r)
        (sym (together (shape_under w j) (entries_under w j) (block_repeats w j) (list_repeats w j)))

  -- ---- the list

  -- where related items stand under every key, as in bytes and the value that they encode
  pub list_alike : ((ks : List (List ℕ)) (i : I) (j : J) → R i j → SameKeys v w R ks i j)
      → (i : I) (j : J) → R i j → pack_list_seen v i ≡ pack_list_seen w j
  list_alike keys i j r = assumed_list_alike (λ b. Unit) (λ a b h. (tt, tt)) (λ ks a b x h. keys ks a b x) i j r tt

  -- where no key that is read repeats
  pub once_list_alike : (i : I) (j : J) → R i j → (block_repeats v i || list_repeats v i) ≡ false → pack_list_seen v i ≡ pack_list_seen w j
  once_list_alike i j r e = assumed_list_alike (λ b. b ≡ false) neither_so (λ ks a b. once_alike v w R alike ks) i j r e
