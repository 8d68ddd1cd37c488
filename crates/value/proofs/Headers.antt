-- The header, from what it tells where it lists no secondary part and from the list under `s`.
use Prim.Native.Nat.{ℕ}
use mathlib.Core.List.{List}
use Rattle.std.specs.Prelude.{Option, None, Some}
use mathlib.Core.Path.{◌≡◌, refl}
use lib.ListN.{length, drop}
use Rattle.slices.specs.Logic.{absurd_numbers}
use Rattle.msgpack.specs.Readers as msgpack
use Rattle.msgpack.specs.Lookup.{Under, found, missing, last_value, at_place, if_there, over}
use Rattle.msgpack.specs.Views.{front_of, byte_view}
use Rattle.value.specs.Fields.{bytes_under}
use Rattle.value.specs.Header.{primary_key, secondary_key, Telling, alone, with_list, telling, header_by, told_at, told_in, header, telling_of, header_alone, told_with}
use Rattle.value.specs.declared.Told.{Told}

module _ (limit : ℕ) (m : List ℕ) where
  pub not_described : header_alone m ≡ None → header limit m ≡ None
  unfolding header_alone header telling
  not_described e = by (bytes_under primary_key m) (alone byte_view m) e
    where
      by : (b : Option msgpack.Part) (u : Option Telling) → over (told_in m) (header_by b u) ≡ None
          → over (told_in m) (header_by b (if_there u λ t. at_place (Some t) (with_list byte_view limit t) (front_of m (last_value secondary_key m)))) ≡ None
      by (Some b) (Some u) f = absurd_numbers (cc)
      by (Some b) None f = refl
      by None u f = refl

  module _ (t : Told) (e : header_alone m ≡ Some t) where
    -- by where `s` stands
    described : (r : Under ℕ) → last_value secondary_key m ≡ r
        → header limit m ≡ told_with t (at_place (Some (telling_of t)) (with_list byte_view limit (telling_of t)) (front_of m r))
    unfolding header_alone header telling
    described r q = rw q (by (bytes_under primary_key m) (alone byte_view m) e)
      where
        by : (b : Option msgpack.Part) (u : Option Telling) → over (told_in m) (header_by b u) ≡ Some t
            → over (told_in m) (header_by b (if_there u λ t. at_place (Some t) (with_list byte_view limit t) (front_of m r)))
            ≡ told_with t (at_place (Some (telling_of t)) (with_list byte_view limit (telling_of t)) (front_of m r))
        by (Some b) (Some u) f = let is : told_at b.start b.size (length m) u ≡ t = cc in rw (← is) (each (at_place (Some u) (with_list byte_view limit u) (front_of m r)))
          where
            each : (o : Option Telling) → over (told_in m) (header_by (Some b) o) ≡ over (told_at b.start b.size (length m)) o
            each (Some o) = refl
            each None = refl
        by (Some b) None f = absurd_numbers (cc)
        by None u f = absurd_numbers (cc)

    pub described_alone : last_value secondary_key m ≡ missing → header limit m ≡ Some t
    described_alone = described missing

    pub described_with : (p : ℕ) → last_value secondary_key m ≡ found p → header limit m ≡ told_with t (with_list byte_view limit (telling_of t) (drop p m))
    described_with p = described (found p)
