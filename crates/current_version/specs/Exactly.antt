-- The current version, said without a computation: the record is there and is live, no live one has a greater ULID, and none before it has the same identifier.
use Rattle.std.specs.Prelude.{ℕ, not, ◌||◌, ◌⊎◌, ◌≡◌}
use Rattle.std.proofs.Math.Bool.{true, false, or-true}
use Rattle.std.proofs.Common.{true≢false, ◌∙◌}
use mathlib.Core.List.Memᴰ
use mathlib.Core.List.{List, [], ◌∷◌, ◌++◌, map, append-nil, Memᴰ}
use Rattle.std.proofs.Math.Logic.{⊎_elim}
use Rattle.std.specs.Prelude.{Some}
use Rattle.std.proofs.Math.Path.{refl, sym, ap}
use Rattle.std.proofs.lemmas.Bool.{not-true}
use Rattle.slices.specs.Bytes.{same_bytes, same_bytes_refl, same_bytes_equal}
use Rattle.slices.specs.Logic.{absurd_numbers, either, clash, not_so, both}
use Rattle.pack.specs.Reading.{Ending, whole, refused, reading}
use Rattle.identifier.specs.Texts.{less}
use Rattle.identifier.specs.Order.{neither_less}
use Rattle.identifier.specs.Identity.{Identity, same_identity, same_identity_refl, same_identity_true}
use Rattle.held_identifier.specs.Held.{has_name}
use Rattle.current_version.specs.Current.{Role, version, deletion, other, unreadable, Placed, placed, Version, version_of, deletes, is_deleted, is_live, Answer, nothing, found, refused_at, alone, unreadable_first, readability, is_name}
use Rattle.current_version.specs.Best.{ulid_of, Passes}

-- ---- the account

-- no `vd` anywhere names it
abbrev pub Kept : List Placed → Identity → Type 0
Kept ps i = (p : Placed) → Memᴰ p ps → p.role ≡ deletion i → ⊥

-- p is a `vr` of this name, whose identifier no `vd` names; v is what it tells
pub record Live (ps : List Placed) (bucket object : List ℕ) (p : Placed) (v : Version) : Type 0 where
  pub tells : version_of p ≡ Some v
  pub in_bucket : v.identifier.bucket ≡ bucket
  pub is_object_lem : v.identifier.object ≡ object
  pub kept : Kept ps v.identifier

pub record IsCurrent (ps : List Placed) (bucket object : List ℕ) (v : Version) : Type 0 where
  pub front : List Placed
  pub at : Placed
  pub back : List Placed
  pub cut : ps ≡ front ++ (at ∷ back)
  pub live : Live ps bucket object at v
  pub greatest : (p : Placed) (w : Version) → Memᴰ p ps → Live ps bucket object p w → less (ulid_of v) (ulid_of w) ≡ false
  pub earliest : (p : Placed) (w : Version) → Memᴰ p front → version_of p ≡ Some w → w.identifier ≡ v.identifier → ⊥

pub current_member : {ps : List Placed} {bucket object : List ℕ} {v : Version} (c : IsCurrent ps bucket object v) → Memᴰ c.at ps
current_member c = rw c.cut (Memᴰ.append_right c.front (Memᴰ.head refl))

-- ---- names

pub has_name_lem : (bucket object : List ℕ) (i : Identity) → has_name (Some i) bucket object ≡ true → (i.bucket ≡ bucket) × (i.object ≡ object)
unfolding has_name
has_name_lem bucket object i e =
    let h = both (same_bytes i.bucket bucket) (same_bytes i.object object) e in
    (same_bytes_equal i.bucket bucket h.0, same_bytes_equal i.object object h.1)

pub name_had : (bucket object : List ℕ) (i : Identity) → i.bucket ≡ bucket → i.object ≡ object → has_name (Some i) bucket object ≡ true
unfolding has_name
name_had bucket object i p q = rw (p, q, same_bytes_refl bucket, same_bytes_refl object)

-- two identifiers of one name, neither ULID less than the other, are the same
pub same_name : (i j : Identity) → i.bucket ≡ j.bucket → i.object ≡ j.object → less i.ulid j.ulid ≡ false → less j.ulid i.ulid ≡ false → i ≡ j
same_name i j b o p q = let u = neither_less i.ulid j.ulid p q in λ k. record { ulid = u k; bucket = b k; object = o k }

-- ---- deleted: some `vd` names it

pub record Deleted (ps : List Placed) (i : Identity) : Type 0 where
  pub by : Placed
  pub there : Memᴰ by ps
  pub names : by.role ≡ deletion i

pub deleted_by_lem : (ps : List Placed) (i : Identity) → is_deleted ps i ≡ true → Deleted ps i
unfolding is_deleted deletes
deleted_by_lem [] i e = absurd (true≢false (sym e))
deleted_by_lem (p ∷ ps) i e = go p.role refl e (λ h. deleted_by_lem ps i h)
  where
    behind : Deleted ps i → Deleted (p ∷ ps) i
    behind d = record { by = d.by; there = Memᴰ.tail d.there; names = d.names }

    go : (r : Role) → p.role ≡ r → (deletes i r || is_deleted ps i) ≡ true → (is_deleted ps i ≡ true → Deleted ps i) → Deleted (p ∷ ps) i
    go (version j f) q h rest = behind (rest h)
    go (deletion j) q h rest =
        ⊎_elim (λ t. record { by = p; there = Memᴰ.head refl; names = q ∙ ap deletion (same_identity_true j i t) })
        (λ t. behind (rest (rw t at h))) (either (same_identity j i))
    go other q h rest = behind (rest h)
    go (unreadable n) q h rest = behind (rest h)

pub by_deleted : (ps : List Placed) (i : Identity) → Deleted ps i → is_deleted ps i ≡ true
unfolding is_deleted deletes
by_deleted [] i d = absurd (Memᴰ.not-nil d.there)
by_deleted (p ∷ ps) i d =
    ⊎_elim (λ e. rw (← e, d.names, same_identity_refl i))
    (λ m. rw (by_deleted ps i (record { by = d.by; there = m; names = d.names })) (or-true (deletes i p.role)))
    (Memᴰ.cases_cons d.there)

pub kept_of_lem : (ps : List Placed) (i : Identity) → is_deleted ps i ≡ false → Kept ps i
kept_of_lem ps i e p m q = clash (by_deleted ps i (record { by = p; there = m; names = q })) e

pub of_kept : (ps : List Placed) (i : Identity) → Kept ps i → is_deleted ps i ≡ false
of_kept ps i h = not_so (is_deleted ps i) (λ e. let d = deleted_by_lem ps i e in h d.by d.there d.names)

-- ---- live is: passes the lookup's test

module _ (ps : List Placed) (bucket object : List ℕ) where
  pub live_passes : (p : Placed) (v : Version) → Live ps bucket object p v → Passes (is_live ps bucket object) (version_of p) v
  unfolding is_live
  live_passes p v l =
      record { is = l.tells; test_passed = rw (name_had bucket object v.identifier l.in_bucket l.is_object_lem, of_kept ps v.identifier l.kept) }

  pub passes_live : (p : Placed) (v : Version) → Passes (is_live ps bucket object) (version_of p) v → Live ps bucket object p v
  unfolding is_live
  passes_live p v o =
      let h = both (has_name (Some v.identifier) bucket object) (not (is_deleted ps v.identifier)) o.test_passed in
      let n = has_name_lem bucket object v.identifier h.0 in
      record { tells = o.is; in_bucket = n.0; is_object_lem = n.1; kept = kept_of_lem ps v.identifier (not-true (is_deleted ps v.identifier) h.1) }

-- ---- the first record that cannot be read

abbrev pub NoneUnreadable : List Placed → Type 0
NoneUnreadable ps = (p : Placed) (n : ℕ) → Memᴰ p ps → p.role ≡ unreadable n → ⊥

pub record FirstUnreadable (ps : List Placed) (number place : ℕ) : Type 0 where
  pub front : List Placed
  pub at : Placed
  pub back : List Placed
  pub cut : ps ≡ front ++ (at ∷ back)
  pub unread : at.role ≡ unreadable number
  pub stands : at.start ≡ place
  pub before : NoneUnreadable front

-- one record more in front, which can be read
none_behind : (p : Placed) (ps : List Placed) → ((n : ℕ) → p.role ≡ unreadable n → ⊥) → NoneUnreadable ps → NoneUnreadable (p ∷ ps)
none_behind p ps here rest q n m e = ⊎_elim (λ h. here n (ap (λ (x : Placed). x.role) (sym h) ∙ e)) (λ k. rest q n k e) (Memᴰ.cases_cons m)

first_behind : (p : Placed) (ps : List Placed) (n place : ℕ) → ((m : ℕ) → p.role ≡ unreadable m → ⊥) → FirstUnreadable ps n place
    → FirstUnreadable (p ∷ ps) n place
first_behind p ps n place here f =
    record {
      front = p ∷ f.front;
      at = f.at;
      back = f.back;
      cut = rw f.cut;
      unread = f.unread;
      stands = f.stands;
      before = none_behind p f.front here f.before;
    }

-- how the reading of `vr` and `vd` records ends, as facts
abbrev pub Ends : List Placed → Ending → Type 0
Ends ps whole = NoneUnreadable ps
Ends ps (refused n place) = FirstUnreadable ps n place

pub readability_ends : (ps : List Placed) → Ends ps (readability ps)
unfolding readability
readability_ends [] = λ p n m e. Memᴰ.not-nil m
readability_ends (p ∷ ps) = go p.role refl (readability ps) (readability_ends ps)
  where
    behind : ((n : ℕ) → p.role ≡ unreadable n → ⊥) → (e : Ending) → Ends ps e → Ends (p ∷ ps) e
    behind here whole rest = none_behind p ps here rest
    behind here (refused n place) rest = first_behind p ps n place here rest

    go : (r : Role) → p.role ≡ r → (e : Ending) → Ends ps e → Ends (p ∷ ps) (unreadable_first p r e)
    go (version i f) q e rest = behind (λ n h. absurd_numbers (cc)) e rest
    go (deletion i) q e rest = behind (λ n h. absurd_numbers (cc)) e rest
    go other q e rest = behind (λ n h. absurd_numbers (cc)) e rest
    go (unreadable n) q e rest =
        record { front = []; at = p; back = ps; cut = refl; unread = q; stands = refl; before = λ x m k h. Memᴰ.not-nil k }

readable_front : (front rest : List Placed) → NoneUnreadable front → readability (front ++ rest) ≡ readability rest
unfolding readability
readable_front [] rest h = refl
readable_front (p ∷ front) rest h = go p.role refl ∙ readable_front front rest (λ q n m e. h q n (Memᴰ.tail m) e)
  where
    go : (r : Role) → p.role ≡ r → unreadable_first p r (readability (front ++ rest)) ≡ readability (front ++ rest)
    go (version i f) e = refl
    go (deletion i) e = refl
    go other e = refl
    go (unreadable n) e = absurd (h p n (Memᴰ.head refl) e)

pub ends_readability : (ps : List Placed) (e : Ending) → Ends ps e → readability ps ≡ e
unfolding readability
ends_readability ps whole h = ap readability (sym (append-nil ps)) ∙ readable_front ps [] h
ends_readability ps (refused n place) f = ap readability f.cut ∙ readable_front f.front (f.at ∷ f.back) f.before ∙ rw (f.unread, f.stands)

-- ---- the lookup: every answer is given exactly when document 01 says so

module _ (limit : ℕ) (s bucket object : List ℕ) where
  abbrev pub ps : List Placed
  ps = map (placed limit s) (reading limit s).entries

  -- none of the refusals applies
  pub record Answers : Type 0 where
    pub name : is_name bucket object ≡ true
    pub accepted : (reading limit s).ending ≡ whole
    pub readable : NoneUnreadable ps

  abbrev pub Exactly : Answer → Type 0
  Exactly (alone n) = (is_name bucket object ≡ false) × (n ≡ 20)
  Exactly (refused_at n place) = (is_name bucket object ≡ true)
      × (((reading limit s).ending ≡ refused n place) ⊎ (((reading limit s).ending ≡ whole) × FirstUnreadable ps n place))
  Exactly nothing = Answers × ((p : Placed) (v : Version) → Memᴰ p ps → Live ps bucket object p v → ⊥)
  Exactly (found v) = Answers × IsCurrent ps bucket object v
