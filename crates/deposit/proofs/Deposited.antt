-- A deposited pack is an accepted pack whose every record may be deposited; of another, the first record at fault is told.
use Rattle.std.specs.Prelude.{ℕ, ◌≤◌, ◌↔◌, ◌⊎◌, ◌≡◌}
use mathlib.Core.List.{List, [], ◌∷◌, ◌++◌, Memᴰ}
use Rattle.std.proofs.Common.{inl, inr, ◌∙◌, arith}
use Rattle.std.proofs.Math.Logic.{⊎_elim}
use Rattle.std.specs.Prelude.{Option, None, Some}
use Rattle.std.proofs.Math.Path.{refl, ap}
use Rattle.slices.specs.Logic.{absurd_numbers}
use Rattle.refusals.specs.Answers as answers
use Rattle.refusals.specs.Answers.{Answer}
use Rattle.pack.specs.declared.Entry.{Entry}
use Rattle.pack.specs.Reading.{Ending, whole, refused, reading}
use Rattle.pack.specs.Bounds.{reading_bounded}
use Rattle.records.specs.Record.{Record, read_record}
use Rattle.records.specs.Laws.{read_as}
use Rattle.deposit.specs.Profile.{by_reading, fault_of}
use Rattle.deposit.specs.Packs.{value_at, spare_at, entry_fault, or_at, first_fault, if_whole, deposit_reading}
use Rattle.deposit.specs.Deposited.{MayBeDeposited, EntryMay, FirstAtFault}
use Rattle.deposit.proofs.Exactly.{keeps_exactly}

-- ---- one record

pub fault_exactly : (limit tag spare : ℕ) (value : List ℕ) → fault_of limit tag spare value ≡ None ↔ MayBeDeposited limit tag spare value
unfolding fault_of
fault_exactly limit tag spare value =
    (is (read_record limit tag value) refl, λ m. ap (by_reading tag spare value) m.reads ∙ (keeps_exactly _ _ _ _ _).1 m.keeps)
  where
    is : (a : Answer Record) → read_record limit tag value ≡ a → by_reading tag spare value a ≡ None → MayBeDeposited limit tag spare value
    is (answers.granted r) q e = record { read = r; reads = q; known = (read_as limit tag value r q).known; keeps = (keeps_exactly _ _ _ _ _).0 e }
    is (answers.refused n) q e = absurd_numbers (cc)

-- ---- the records of a pack

module _ (limit : ℕ) (s : List ℕ) where
  none_at_fault : (es : List Entry) → first_fault limit s es ≡ whole → (e : Entry) → Memᴰ e es → EntryMay limit s e
  unfolding first_fault entry_fault
  none_at_fault [] f e m = absurd (mathlib.Core.List.Memᴰ.not-nil m)
  none_at_fault (x ∷ es) f e m = by (entry_fault limit s x) refl f (λ g n. none_at_fault es g e n)
    where
      by : (o : Option ℕ) → entry_fault limit s x ≡ o → or_at o x.start (first_fault limit s es) ≡ whole
          → (first_fault limit s es ≡ whole → Memᴰ e es → EntryMay limit s e) → EntryMay limit s e
      by None q g later = ⊎_elim (λ (same : e ≡ x). rw same ((fault_exactly limit _ _ _).0 q)) (later g) (mathlib.Core.List.Memᴰ.cases_cons m)
      by (Some n) q g later = absurd_numbers (cc)

  all_may : (es : List Entry) → ((e : Entry) → Memᴰ e es → EntryMay limit s e) → first_fault limit s es ≡ whole
  unfolding first_fault entry_fault
  all_may [] f = refl
  all_may (x ∷ es) f = rw ((fault_exactly limit x.tag (spare_at s x.start) (value_at s x.start x.length)).1 (f x (mathlib.Core.List.Memᴰ.head refl)))
      (all_may es (λ e m. f e (mathlib.Core.List.Memᴰ.tail m)))

  pub first_at_fault : (es : List Entry) (n at : ℕ) → first_fault limit s es ≡ refused n at → FirstAtFault limit s es n at
  unfolding first_fault entry_fault
  first_at_fault [] n at f = absurd_numbers (cc)
  first_at_fault (x ∷ es) n at f = by (entry_fault limit s x) refl f (first_at_fault es n at)
    where
      by : (o : Option ℕ) → entry_fault limit s x ≡ o → or_at o x.start (first_fault limit s es) ≡ refused n at
          → (first_fault limit s es ≡ refused n at → FirstAtFault limit s es n at) → FirstAtFault limit s (x ∷ es) n at
      by None q g later =
          let rest = later g in
          record {
            before = x ∷ rest.before;
            entry = rest.entry;
            after = rest.after;
            cut = ap (λ l. x ∷ l) rest.cut;
            may = λ e m. ⊎_elim (λ (same : e ≡ x). rw same ((fault_exactly limit _ _ _).0 q)) (rest.may e) (mathlib.Core.List.Memᴰ.cases_cons m);
            fault = rest.fault;
            stands = rest.stands;
          }
      by (Some k) q g later =
          let same : k ≡ n = cc in
          record {
            before = [];
            entry = x;
            after = es;
            cut = refl;
            may = λ e m. absurd (mathlib.Core.List.Memᴰ.not-nil m);
            fault = q ∙ ap Some same;
            stands = cc;
          }

  -- THE THEOREM: a deposited pack is an accepted pack whose every record may be deposited
  pub deposited_exactly : (deposit_reading limit s).ending ≡ whole
      ↔ (((reading limit s).ending ≡ whole) × ((e : Entry) → Memᴰ e (reading limit s).entries → EntryMay limit s e))
  unfolding deposit_reading
  deposited_exactly = (is (reading limit s).ending refl, λ h. ap (λ x. if_whole x (first_fault limit s (reading limit s).entries)) h.0 ∙ all_may _ h.1)
    where
      is : (x : Ending) → (reading limit s).ending ≡ x → if_whole x (first_fault limit s (reading limit s).entries) ≡ whole
          → ((reading limit s).ending ≡ whole) × ((e : Entry) → Memᴰ e (reading limit s).entries → EntryMay limit s e)
      is whole q f = (q, none_at_fault (reading limit s).entries f)
      is (refused n at) q f = absurd_numbers (cc)

  fault_first : (before : List Entry) (e : Entry) (after : List Entry) (n : ℕ) → ((x : Entry) → Memᴰ x before → EntryMay limit s x)
      → entry_fault limit s e ≡ Some n → first_fault limit s (before ++ (e ∷ after)) ≡ refused n e.start
  unfolding first_fault entry_fault
  fault_first [] e after n may f = rw f
  fault_first (x ∷ before) e after n may f =
      rw ((fault_exactly limit x.tag (spare_at s x.start) (value_at s x.start x.length)).1 (may x (mathlib.Core.List.Memᴰ.head refl)))
      (fault_first before e after n (λ y m. may y (mathlib.Core.List.Memᴰ.tail m)) f)

  -- and another gets the pack's refusal, or that of its first record at fault
  pub refused_exactly : (n at : ℕ) → (deposit_reading limit s).ending ≡ refused n at
      ↔ (((reading limit s).ending ≡ refused n at) ⊎ (((reading limit s).ending ≡ whole) × FirstAtFault limit s (reading limit s).entries n at))
  unfolding deposit_reading
  refused_exactly n at = (is (reading limit s).ending refl, ⊎_elim (λ q. ap by_ending q) (λ h. ap by_ending h.0 ∙ first h.1))
    where
      by_ending : Ending → Ending
      by_ending x = if_whole x (first_fault limit s (reading limit s).entries)

      first : FirstAtFault limit s (reading limit s).entries n at → first_fault limit s (reading limit s).entries ≡ refused n at
      first f = ap (first_fault limit s) f.cut ∙ fault_first f.before f.entry f.after n f.may f.fault ∙ ap (refused n) f.stands

      is : (x : Ending) → (reading limit s).ending ≡ x → if_whole x (first_fault limit s (reading limit s).entries) ≡ refused n at
          → ((reading limit s).ending ≡ refused n at) ⊎ (((reading limit s).ending ≡ whole) × FirstAtFault limit s (reading limit s).entries n at)
      is whole q f = inr (q, first_at_fault (reading limit s).entries n at f)
      is (refused m p) q f = inl (q ∙ f)

  -- ---- what is told lies within the limit on a pack's length

  pub deposit_place : (n at : ℕ) → (deposit_reading limit s).ending ≡ refused n at → at ≤ limit
  deposit_place n at e = ⊎_elim ((reading_bounded limit s).place n at)
      (λ h. let f = h.1 in
      let m : Memᴰ f.entry (reading limit s).entries = rw f.cut (mathlib.Core.List.Memᴰ.append_right f.before (mathlib.Core.List.Memᴰ.head refl)) in
      omega (arith, (reading_bounded limit s).starts f.entry m, f.stands)) ((refused_exactly n at).0 e)
