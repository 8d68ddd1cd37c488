-- Demand 3, order: packs with the same records, each as often, answer alike, where `vr` records that share an identifier have equal values.
use Rattle.std.specs.Prelude.{ℕ, suc, ◌<◌, Bool, true, false, cond, ◌⊎◌, ◌≡◌, refl}
use mathlib.Core.List.Memᴰ
use mathlib.Core.List.{List, [], ◌∷◌, ◌++◌, map, Memᴰ}
use Rattle.std.proofs.Common.{inl, inr, ⊎_elim, sym, ap, subst, ◌∙◌, arith}
use Rattle.std.specs.Prelude.{Option, None, Some}
use Rattle.slices.specs.Bytes.{same_bytes, same_bytes_refl, same_bytes_equal}
use Rattle.slices.specs.Logic.{clash}
use Rattle.tlv.specs.Layout.{Record, Fits, layout, layouts}
use Rattle.tlv.specs.Stands.{record_of, record_of_layout}
use Rattle.pack.specs.Acceptance.{AllFit}
use Rattle.identifier.specs.Identity.{Identity}
use Rattle.current_version.specs.Current.{version, role, Placed, placed_by, Version, version_of, current, is_name, lookup}
use Rattle.current_version.specs.Roles.{version_told, version_role}
use Rattle.current_version.specs.Best.{same_version}
use Rattle.current_version.specs.Exactly.{Live, IsCurrent, current_member, same_name}
use Rattle.current_version.proofs.Exactly.{current_is, none_exactly}
use Rattle.current_version.specs.Packs.{Readable, SameAnswer, unplaced}
use Rattle.current_version.proofs.Packs.{same_answers}
use Rattle.current_version.specs.Order.{how_often, SameRecords, OneValue, Standing, Alike}

-- ---- the same records, each as often

often_there : (r : Record) (rs : List Record) → Memᴰ r rs → 0 < how_often (layout r) rs
unfolding how_often
often_there r [] m = absurd (Memᴰ.not-nil m)
often_there r (s ∷ rs) m = go (same_bytes (layout r) (layout s)) refl (λ n. often_there r rs n) (Memᴰ.cases_cons m)
  where
    go : (t : Bool) → same_bytes (layout r) (layout s) ≡ t → (Memᴰ r rs → 0 < how_often (layout r) rs) → (r ≡ s) ⊎ Memᴰ r rs
        → 0 < cond t (suc (how_often (layout r) rs)) (how_often (layout r) rs)
    go true e rest h = omega arith
    go false e rest (inl h) = clash (subst (λ x. same_bytes (layout r) (layout x) ≡ true) h (same_bytes_refl (layout r))) e
    go false e rest (inr n) = rest n

there_often : (bytes : List ℕ) (rs : List Record) → 0 < how_often bytes rs → Standing bytes rs
unfolding how_often
there_often bytes [] h = absurd (omega arith)
there_often bytes (r ∷ rs) h = go (same_bytes bytes (layout r)) refl (λ k. there_often bytes rs k) h
  where
    go : (t : Bool) → same_bytes bytes (layout r) ≡ t → (0 < how_often bytes rs → Standing bytes rs)
        → 0 < cond t (suc (how_often bytes rs)) (how_often bytes rs) → Standing bytes (r ∷ rs)
    go true e rest k = record { at = r; there = Memᴰ.head refl; is = same_bytes_equal bytes (layout r) e }
    go false e rest k = let s = rest k in record { at = s.at; there = Memᴰ.tail s.there; is = s.is }

fits_member : (rs : List Record) (r : Record) → AllFit rs → Memᴰ r rs → Fits r
fits_member [] r fit m = absurd (Memᴰ.not-nil m)
fits_member (s ∷ rs) r fit m = ⊎_elim (λ e. subst Fits (sym e) fit.0) (λ n. fits_member rs r fit.1 n) (Memᴰ.cases_cons m)

-- two records with the same bytes are the same
layout_unique : (r s : Record) → Fits r → Fits s → layout r ≡ layout s → r ≡ s
layout_unique r s f g e = sym (record_of_layout r [] f) ∙ ap (λ t. record_of (t ++ [])) e ∙ record_of_layout s [] g

same_members : (rs ts : List Record) → AllFit rs → AllFit ts → SameRecords rs ts → (r : Record) → Memᴰ r rs → Memᴰ r ts
same_members rs ts f g same r m =
    let s = there_often (layout r) ts (subst (λ n. 0 < n) (same (layout r)) (often_there r rs m)) in
    let e : r ≡ s.at = layout_unique r s.at (fits_member rs r f m) (fits_member ts s.at g s.there) s.is in
    subst (λ x. Memᴰ x ts) (sym e) s.there

-- ---- lists with the same members, in which versions that share an identifier are the same, have the same current version

module _ (ps qs : List Placed) (there : (p : Placed) → Memᴰ p ps → Memᴰ p qs)
    (back : (p : Placed) → Memᴰ p qs → Memᴰ p ps) (alike : Alike ps) (bucket object : List ℕ) where
  live_there : (p : Placed) (v : Version) → Live ps bucket object p v → Live qs bucket object p v
  live_there p v l = record { tells = l.tells; in_bucket = l.in_bucket; is_object_lem = l.is_object_lem; kept = λ q m. l.kept q (back q m) }

  live_back : (p : Placed) (v : Version) → Live qs bucket object p v → Live ps bucket object p v
  live_back p v l = record { tells = l.tells; in_bucket = l.in_bucket; is_object_lem = l.is_object_lem; kept = λ q m. l.kept q (there q m) }

  same_current : current ps bucket object ≡ current qs bucket object
  same_current = go (current ps bucket object) refl (current qs bucket object) refl
    where
      both_found : (v w : Version) → IsCurrent ps bucket object v → IsCurrent qs bucket object w → v ≡ w
      both_found v w c d =
          let k = live_there c.at v c.live in
          let l = live_back d.at w d.live in
          let same : v.identifier ≡ w.identifier =
          same_name v.identifier w.identifier (k.in_bucket ∙ sym l.in_bucket) (k.is_object_lem ∙ sym l.is_object_lem)
          (c.greatest d.at w (back d.at (current_member d)) l)
          (d.greatest c.at v (there c.at (current_member c)) k) in
          let one : c.at ≡ d.at = alike c.at d.at v w (current_member c) (back d.at (current_member d)) k.tells l.tells same in
          same_version (sym k.tells ∙ ap version_of one ∙ l.tells)

      go : (a : Option Version) → current ps bucket object ≡ a → (b : Option Version) → current qs bucket object ≡ b → a ≡ b
      go None p None q = refl
      go None p (Some w) q =
          let d = current_is qs bucket object w q in
          absurd ((none_exactly ps bucket object).0 p d.at w (back d.at (current_member d)) (live_back d.at w d.live))
      go (Some v) p None q =
          let c = current_is ps bucket object v p in
          absurd ((none_exactly qs bucket object).0 q c.at v (there c.at (current_member c)) (live_there c.at v c.live))
      go (Some v) p (Some w) q = ap Some (both_found v w (current_is ps bucket object v p) (current_is qs bucket object w q))

-- ---- the theorem

members_unplaced : (limit : ℕ) (rs ts : List Record) → ((r : Record) → Memᴰ r rs → Memᴰ r ts) → (p : Placed)
    → Memᴰ p (map (unplaced limit) rs) → Memᴰ p (map (unplaced limit) ts)
members_unplaced limit rs ts there p m =
    let o = Memᴰ.of_map (unplaced limit) rs m in
    subst (λ x. Memᴰ x (map (unplaced limit) ts)) o.2 (Memᴰ.map (unplaced limit) (there o.0 o.1))

one_record : (limit : ℕ) (r s : Record) (i : Identity) (f g : Bool) → role limit r.tag r.value ≡ version i f
    → role limit s.tag s.value ≡ version i g → r.value ≡ s.value → unplaced limit r ≡ unplaced limit s
one_record limit r s i f g p q e =
    let tag : r.tag ≡ s.tag = (version_role limit r.tag r.value i f p).tag_is ∙ sym (version_role limit s.tag s.value i g q).tag_is in
    λ k. placed_by limit 0 (tag k) (e k)

alike_unplaced : (limit : ℕ) (rs : List Record) → OneValue limit rs → Alike (map (unplaced limit) rs)
alike_unplaced limit rs one p q v w m n e f same =
    let a = Memᴰ.of_map (unplaced limit) rs m in
    let b = Memᴰ.of_map (unplaced limit) rs n in
    let r : role limit a.0.tag a.0.value ≡ version v.identifier v.delete_flag
    = version_told limit 0 a.0.tag a.0.value v (ap version_of a.2 ∙ e) in
    let s : role limit b.0.tag b.0.value ≡ version v.identifier w.delete_flag
    = version_told limit 0 b.0.tag b.0.value w (ap version_of b.2 ∙ f) ∙ ap (λ i. version i w.delete_flag) (sym same) in
    sym a.2
    ∙ one_record limit a.0 b.0 v.identifier v.delete_flag w.delete_flag r s
    (one a.0 b.0 v.identifier v.delete_flag w.delete_flag a.1 b.1 r s)
    ∙ b.2

pub order_plays_no_part : (limit : ℕ) (rs ts : List Record) (bucket object : List ℕ) → Readable limit rs → Readable limit ts
    → SameRecords rs ts → OneValue limit rs → is_name bucket object ≡ true
    → SameAnswer (lookup limit (layouts rs) bucket object) (lookup limit (layouts ts) bucket object)
order_plays_no_part limit rs ts bucket object a b same one name =
    let there = same_members rs ts a.fit b.fit same in
    let back = same_members ts rs b.fit a.fit (λ bytes. sym (same bytes)) in
    same_answers limit rs ts bucket object a b name
    (same_current (map (unplaced limit) rs) (map (unplaced limit) ts) (members_unplaced limit rs ts there)
    (members_unplaced limit ts rs back) (alike_unplaced limit rs one) bucket object)
