-- Two packs whose records are alike one by one are looked up alike. What alike means of refusals' numbers, of places and of values is left open here.
use Rattle.std.specs.Prelude.{ℕ, Bool, cond, List, map, ◌≡◌}
use Rattle.std.proofs.Math.Bool.{true, false}
use Rattle.std.specs.Prelude.{Option, None, Some}
use Rattle.std.proofs.Math.Path.{refl}
use Rattle.pack.specs.Reading.{whole, reading}
use Rattle.msgpack.specs.Views.{Both, both, neither, Each, no_more, and_each}
use Rattle.identifier.specs.Texts.{less}
use Rattle.identifier.specs.Identity.{Identity}
use Rattle.current_version.specs.Current.{Role, version, Placed, placed, Version, version_by, version_of, filtered, better, best, deletes, is_deleted, is_live, current, Answer, alone, unreadable_first, readability, unless_refused, answer_of, answer_in, is_name, lookup}
use Rattle.current_version.specs.Alike.{AlikeRoles, versions, deletions, others, unreadables, AlikePlaced, AlikeVersions, AlikeAnswers, both_nothing, both_found, both_refused, both_alone}
    -- ---- the theorem

module _ (Number Place : ℕ → ℕ → Type 0) (Bytes : List ℕ → List ℕ → Type 0) where
  deletes_alike : (i : Identity) {r s : Role} → AlikeRoles Number r s → deletes i r ≡ deletes i s
  unfolding deletes
  deletes_alike i (versions j f) = refl
  deletes_alike i (deletions j) = refl
  deletes_alike i others = refl
  deletes_alike i (unreadables x) = refl

  deleted_alike : (i : Identity) {ps qs : List Placed} → Each (AlikePlaced Number Place Bytes) ps qs → is_deleted ps i ≡ is_deleted qs i
  unfolding is_deleted
  deleted_alike i no_more = refl
  deleted_alike i (and_each x xs) = rw (deletes_alike i x.role, deleted_alike i xs)

  live_alike : (bucket object : List ℕ) {ps qs : List Placed} → Each (AlikePlaced Number Place Bytes) ps qs → (i : Identity)
      → is_live ps bucket object i ≡ is_live qs bucket object i
  unfolding is_live
  live_alike bucket object xs i = rw (deleted_alike i xs)

  better_alike : {a b c d : Option Version} → Both (AlikeVersions Place Bytes) a b → Both (AlikeVersions Place Bytes) c d
      → Both (AlikeVersions Place Bytes) (better a c) (better b d)
  unfolding better
  better_alike neither y = y
  better_alike (both x) neither = both x
  better_alike (both {a = v} {b = w} x) (both {a = t} {b = u} y) =
      by (less v.identifier.ulid t.identifier.ulid) (λ i. less (x.identifier i).ulid (y.identifier i).ulid)
    where
      by : (later : Bool) → later ≡ less w.identifier.ulid u.identifier.ulid
          → Both (AlikeVersions Place Bytes) (cond later (Some t) (Some v)) (cond (less w.identifier.ulid u.identifier.ulid) (Some u) (Some w))
      by true e = rw (← e) (both y)
      by false e = rw (← e) (both x)

  -- tests that agree
  module _ (test test' : Identity → Bool) (agree : (i : Identity) → test i ≡ test' i) where
    filtered_alike : {p q : Placed} → AlikePlaced Number Place Bytes p q
        → Both (AlikeVersions Place Bytes) (filtered test (version_of p)) (filtered test' (version_of q))
    unfolding filtered version_of
    filtered_alike {p} {q} x = by x.role
      where
        told : (i : Identity) (f passed : Bool)
            → Both (AlikeVersions Place Bytes) (cond passed (version_by p.start p.value (version i f)) None)
            (cond passed (version_by q.start q.value (version i f)) None)
        told i f true = both (record { identifier = refl; delete_flag = refl; value = x.value; start = x.start })
        told i f false = neither

        by : {r s : Role} → AlikeRoles Number r s
            → Both (AlikeVersions Place Bytes) (filtered test (version_by p.start p.value r)) (filtered test' (version_by q.start q.value s))
        by (versions i f) = rw (agree i) (told i f (test' i))
        by (deletions i) = neither
        by others = neither
        by (unreadables y) = neither

    best_alike : {ps qs : List Placed} → Each (AlikePlaced Number Place Bytes) ps qs → Both (AlikeVersions Place Bytes) (best test ps) (best test' qs)
    unfolding best
    best_alike no_more = neither
    best_alike (and_each x xs) = better_alike (filtered_alike x) (best_alike xs)

  unless_unreadable : {ps qs : List Placed} {a b : Answer} → Each (AlikePlaced Number Place Bytes) ps qs → AlikeAnswers Number Place Bytes a b
      → AlikeAnswers Number Place Bytes (unless_refused (readability ps) a) (unless_refused (readability qs) b)
  unfolding readability
  unless_unreadable no_more y = y
  unless_unreadable {a = a} {b = b} (and_each {a = p} {b = q} {xs = ps} {ys = qs} x xs) y = by x.role (unless_unreadable xs y)
    where
      by : {r s : Role} → AlikeRoles Number r s
          → AlikeAnswers Number Place Bytes (unless_refused (readability ps) a) (unless_refused (readability qs) b)
          → AlikeAnswers Number Place Bytes (unless_refused (unreadable_first p r (readability ps)) a) (unless_refused (unreadable_first q s (readability qs)) b)
      by (versions i f) z = z
      by (deletions i) z = z
      by others z = z
      by (unreadables n) z = both_refused n x.start

  pub answers_alike : {ps qs : List Placed} → Each (AlikePlaced Number Place Bytes) ps qs → (bucket object : List ℕ)
      → AlikeAnswers Number Place Bytes (answer_in ps bucket object) (answer_in qs bucket object)
  unfolding answer_in current
  answers_alike {ps} {qs} xs bucket object =
      unless_unreadable xs
      (by (best_alike (is_live ps bucket object) (is_live qs bucket object) (live_alike bucket object xs) xs))
    where
      by : {a b : Option Version} → Both (AlikeVersions Place Bytes) a b → AlikeAnswers Number Place Bytes (answer_of a) (answer_of b)
      by (both x) = both_found x
      by neither = both_nothing

  -- accepted packs
  pub lookups_alike : (limit : ℕ) (s t : List ℕ) → (reading limit s).ending ≡ whole → (reading limit t).ending ≡ whole
      → Each (AlikePlaced Number Place Bytes) (map (placed limit s) (reading limit s).entries) (map (placed limit t) (reading limit t).entries)
      → (bucket object : List ℕ) → AlikeAnswers Number Place Bytes (lookup limit s bucket object) (lookup limit t bucket object)
  unfolding lookup
  lookups_alike limit s t accepted also xs bucket object = rw (accepted, also) (by (is_name bucket object))
    where
      by : (name : Bool) → AlikeAnswers Number Place Bytes
          (cond name (answer_in (map (placed limit s) (reading limit s).entries) bucket object) (alone 20))
          (cond name (answer_in (map (placed limit t) (reading limit t).entries) bucket object) (alone 20))
      by true = answers_alike xs bucket object
      by false = both_alone 20
