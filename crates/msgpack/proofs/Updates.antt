-- The values of the keys asked for, with one more.
use Prim.Native.Nat.{ℕ, ◌≤◌, ◌<◌}
use mathlib.Core.Bool.{Bool, true, false, cond, ◌&&◌, ◌||◌}
use mathlib.Core.Path.{◌≡◌, refl, sym, ◌∙◌}
use native.Mathlib.Omega.{arith}
use borrow.Author.Tests.{ne_eqb, eqb-true, eqb-false}
use lib.Dec.{ltb, eqb}
use lib.ListN.{get_or, set, length-set}
use lib.Seq.{get_or-set_same, get_or-set_other}
use Rattle.msgpack.specs.Pairs.{keys_asked, Sized, WithValue}
use Rattle.msgpack.specs.declared.Values.{Values}

or_nothing : (a : Bool) → a ≡ (a || false)
or_nothing true = refl
or_nothing false = refl

pub value_not_asked : (values : Values) (j p : ℕ) → Sized values → keys_asked ≤ j → WithValue values j p values
value_not_asked values j p sized h = record {
  sized = sized;
  place = λ k l. rw (ne_eqb j k (λ (e : j ≡ k). omega arith));
  repeated = λ k l. rw (ne_eqb j k (λ (e : j ≡ k). omega arith)) (or_nothing (get_or values.repeated k false));
}

-- a place stored, and a flag, which tells whether the key has a place already
abbrev pub stored : Values → ℕ → ℕ → Values
stored values j p = record {
  places = set values.places j p;
  repeated = set values.repeated j (get_or values.repeated j false || ltb 0 (get_or values.places j 0));
}

module _ (values : Values) (j p : ℕ) (sized : Sized values) (h : j < keys_asked) where
  place_stored : (k : ℕ) (t : Bool) → eqb j k ≡ t → get_or (stored values j p).places k 0 ≡ cond t p (get_or values.places k 0)
  place_stored k true e = rw (← eqb-true j k e) (get_or-set_same values.places j p 0 (omega (arith, sized.places)))
  place_stored k false e = get_or-set_other values.places j k p 0 (λ (q : k ≡ j). eqb-false j k e (sym q))

  flag_stored : (k : ℕ) (t : Bool) → eqb j k ≡ t
      → get_or (stored values j p).repeated k false ≡ (get_or values.repeated k false || (t && ltb 0 (get_or values.places k 0)))
  flag_stored k true e = rw (← eqb-true j k e) (get_or-set_same values.repeated j _ false (omega (arith, sized.repeated)))
  flag_stored k false e = rw (get_or-set_other values.repeated j k _ false (λ (q : k ≡ j). eqb-false j k e (sym q))) (or_nothing (get_or values.repeated k false))

  pub value_stored : WithValue values j p (stored values j p)
  value_stored = record {
    sized = record { places = length-set values.places j p ∙ sized.places; repeated = length-set values.repeated j _ ∙ sized.repeated };
    place = λ k l. place_stored k (eqb j k) refl;
    repeated = λ k l. flag_stored k (eqb j k) refl;
  }
