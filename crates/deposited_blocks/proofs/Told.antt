-- What the code learns of a record, call by call, and the block that the definition tells then.
use Prim.Native.Nat.{ℕ, ◌+◌}
use mathlib.Core.Bool.{Bool, true, false, cond}
use mathlib.Core.List.{List}
use Rattle.std.specs.Prelude.{Option, None, Some, Result, Ok, Err}
use Rattle.std.specs.Result.{result_ok}
use mathlib.Core.Path.{◌≡◌, refl, sym, ap, subst, ◌∙◌}
use native.Mathlib.Omega.{arith}
use borrow.Author.Tests.{eq-eqb, ne_eqb}
use lib.Dec.{leb, ltb, eqb}
use lib.ListN.{length, take, drop}
use lib.Seq.{drop-drop}
use Rattle.slices.specs.Bytes.{AllBytes}
use Rattle.slices.specs.Logic.{absurd_numbers}
use Rattle.slices.specs.Lists.{part_of_part}
use Rattle.slices.specs.Places.{part_at}
use Rattle.slices.specs.declared.Place.{Place}
use Rattle.refusals.specs.Limit.{pack_limit}
use Rattle.refusals.specs.Answers.{Answer, refused as no_result, granted}
use Rattle.tlv.specs.Found.{Found, end, found, fault, step}
use Rattle.tlv.specs.declared.RecordHeader.{RecordHeader}
use Rattle.pack.specs.declared.Entry.{Entry}
use Rattle.pack.specs.declared.Fault.{Fault}
use Rattle.pack.specs.Reading.{Ending, whole, refused, reading, counted, outcome}
use Rattle.pack.specs.Reading as pack
use Rattle.pack.specs.Walk.{Yield, entry, ended, refusal, yield_of, nth_yield}
use Rattle.value.specs.ReadingLaws.{parts_inside}
use Rattle.value.specs.declared.Told.{Told}
use Rattle.primary.specs.Answers.{texts_in}
use Rattle.records.specs.Record as records
use Rattle.records.specs.Record.{block_tag, Record, AtPlace, there, refused_at, alone, read_record, at_place, by_step, record_at, told_from, record_from, there_from}
use Rattle.records.specs.Laws.{read_as}
use Rattle.records.specs.Answers.{place_of_part, record_in, place_of}
use Rattle.records.specs.declared.Record as declared-record
use Rattle.records.specs.declared.Placed.{Placed}
use Rattle.records.specs.declared.PlaceFault.{PlaceFault}
use Rattle.records.specs.declared.PlaceFault.TheVariants as place-fault
use Rattle.deposit.specs.Packs.{deposit_reading, deposit}
use Rattle.deposit.specs.Answers.{outcome_of, fault_number, fault_place}
use Rattle.deposit.specs.declared.Fault as deposit
use Rattle.deposit_laws.specs.Blocks.{data_in}
use Rattle.deposited_blocks.specs.Same.{Block, block_in, block_at, if_deposited, deposited_block, same_block, EqualBytes}
use Rattle.deposited_blocks.proofs.Found.{same_block_bytes}

-- ---- the check

counted_whole : (r : pack.Reading) (n : ℕ) → counted n ≡ outcome r → r.ending ≡ whole
counted_whole r n e = by r.ending refl (e ∙ refl)
  where
    by : (x : Ending) → r.ending ≡ x → counted n ≡ outcome (record { entries = r.entries; ending = x }) → x ≡ whole
    by whole q f = refl
    by (refused k at) q f = absurd_numbers (cc)

-- ---- the record at a place

record There (limit : ℕ) (s : List ℕ) (at : ℕ) (value : List ℕ) (r : Record) : Type 0 where
  tag : ℕ
  long : ℕ
  value_is : value ≡ take long (drop (at + 32) s)
  reads : read_record limit tag value ≡ granted r

there_is : (limit : ℕ) (s : List ℕ) (at : ℕ) (value : List ℕ) (r : Record) → record_at limit s at ≡ there value r → There limit s at value r
unfolding record_at
there_is limit s at value r e = by (leb (length s) at) (ltb limit (length s)) (step (drop at s)) e
  where
    read : (h : RecordHeader) (a : Answer Record) → read_record limit h.tag (records.value_at s at h) ≡ a → at_place (records.value_at s at h) a ≡ there value r
        → There limit s at value r
    read h (granted k) p q =
        let v : records.value_at s at h ≡ value = cc in
        let same : k ≡ r = cc in
        record {
          tag = h.tag;
          long = h.length;
          value_is = sym v ∙ ap (take h.length) (drop-drop 32 at s);
          reads = subst (λ u. read_record limit h.tag u ≡ granted r) v (p ∙ ap granted same);
        }
    read h (no_result n) p q = absurd_numbers (cc)

    by : (a b : Bool) (f : Found) → cond a (alone 20) (cond b (refused_at 1 0) (by_step limit s at f)) ≡ there value r → There limit s at value r
    by true b f q = absurd_numbers (cc)
    by false true f q = absurd_numbers (cc)
    by false false end q = absurd_numbers (cc)
    by false false (fault n) q = absurd_numbers (cc)
    by false false (found h) q = read h (read_record limit h.tag (records.value_at s at h)) refl q

abbrev block_of : List ℕ → Placed → Option Block
block_of s p = Some (record { identifier = texts_in s p.«record».identifier; content = part_at s (place_of_part p.«record».told.secondary) })

module _ (limit : ℕ) (s : List ℕ) (at : ℕ) where
  -- told as places of the pack, its data are the same bytes
  block_read : (p : Placed) → place_of s (Ok p) ≡ there_from (at + 32) (record_at limit s at)
      → block_of s p ≡ block_in (record_at limit s at)
  block_read placed e = by (record_at limit s at) refl e
    where
      v : Place
      v = placed.value

      d : declared-record.Record
      d = placed.«record»

      by : (o : AtPlace) → record_at limit s at ≡ o → there (part_at s v) (record_in s d) ≡ there_from (at + 32) o
          → Some (record { identifier = texts_in s d.identifier; content = part_at s (place_of_part d.told.secondary) }) ≡ block_in o
      by (there value r) p q =
          let x = there_is limit s at value r p in
          let same : record_in s d ≡ record_from (at + 32) r = cc in
          let told : d.told ≡ told_from (at + 32) r.told = ap (λ (k : Record). k.told) same in
          let identifier : texts_in s d.identifier ≡ r.contents.identifier = ap (λ (k : Record). k.contents.identifier) same in
          let inside = parts_inside limit value r.told (read_as limit x.tag value r x.reads).value_tells in
          let content : part_at s (place_of_part d.told.secondary) ≡ data_in value r.told
          = ap (λ (t : Told). part_at s (place_of_part t.secondary)) told
          ∙ sym (part_of_part s (at + 32) x.long r.told.secondary.start r.told.secondary.len
          (omega (arith, inside.secondary_last, ap length x.value_is)))
          ∙ ap (λ u. data_in u r.told) (sym x.value_is) in
          λ j. Some (record { identifier = identifier j; content = content j })
      by (refused_at n p) q f = absurd_numbers (cc)
      by (alone n) q f = absurd_numbers (cc)

  no_block_read : (f : PlaceFault) → place_of s (Err f) ≡ there_from (at + 32) (record_at limit s at) → None ≡ block_in (record_at limit s at)
  no_block_read f e = by (record_at limit s at) f e
    where
      by : (o : AtPlace) (f : PlaceFault) → place_of s (Err f) ≡ there_from (at + 32) o → None ≡ block_in o
      by (refused_at n q) f e = refl
      by (alone n) f e = refl
      by (there value r) place-fault.Outside e = absurd_numbers (cc)
      by (there value r) (place-fault.Pack g) e = absurd_numbers (cc)
      by (there value r) (place-fault.Record g) e = absurd_numbers (cc)

-- ---- call by call

module _ (limit : ℕ) (s : List ℕ) where
  pub is_deposited : (r : Result ℕ deposit.Fault) → outcome_of r ≡ deposit limit s → (count : ℕ) → result_ok r ≡ Some count → counted count ≡ deposit limit s
  is_deposited (Ok n) e count is = let same : n ≡ count = cc in rw (← same) e
  is_deposited (Err f) e count is = absurd_numbers (cc)

  pub is_entry : (n : ℕ) (w : Result (Option Entry) Fault) → yield_of w ≡ nth_yield (reading limit s) n → (e : Entry) → result_ok w ≡ Some (Some e)
      → entry e ≡ nth_yield (reading limit s) n
  is_entry n (Ok (Some d)) q e is = let same : d ≡ e = cc in rw (← same) q
  is_entry n (Ok None) q e is = absurd_numbers (cc)
  is_entry n (Err f) q e is = absurd_numbers (cc)

module _ (limit : ℕ) (s : List ℕ) (n : ℕ) where
  pub not_deposited : (r : Result ℕ deposit.Fault) → outcome_of r ≡ deposit limit s → result_ok r ≡ None → None ≡ deposited_block limit s n
  unfolding deposited_block
  not_deposited (Ok k) e none = absurd_numbers (cc)
  not_deposited (Err f) e none = by (deposit_reading limit s).ending refl e
    where
      by : (x : Ending) → (deposit_reading limit s).ending ≡ x
          → refused (fault_number f) (fault_place f) ≡ outcome (record { entries = (deposit_reading limit s).entries; ending = x })
          → None ≡ if_deposited x (block_at limit s (nth_yield (reading limit s) n))
      by whole q g = absurd_numbers (cc)
      by (refused m p) q g = refl

  module _ (count : ℕ) (c : counted count ≡ deposit limit s) where
    by_number : deposited_block limit s n ≡ block_at limit s (nth_yield (reading limit s) n)
    unfolding deposited_block
    by_number = ap (λ x. if_deposited x (block_at limit s (nth_yield (reading limit s) n))) (counted_whole (deposit_reading limit s) count c)

    pub no_record : (w : Result (Option Entry) Fault) → yield_of w ≡ nth_yield (reading limit s) n → result_ok w ≡ None → None ≡ deposited_block limit s n
    no_record (Ok o) e none = absurd_numbers (cc)
    no_record (Err f) e none = ap (block_at limit s) e ∙ sym by_number

    pub no_entry : (w : Result (Option Entry) Fault) → yield_of w ≡ nth_yield (reading limit s) n → result_ok w ≡ Some None → None ≡ deposited_block limit s n
    no_entry (Ok None) e none = ap (block_at limit s) e ∙ sym by_number
    no_entry (Ok (Some d)) e none = absurd_numbers (cc)
    no_entry (Err f) e none = absurd_numbers (cc)

    module _ (e : Entry) (y : entry e ≡ nth_yield (reading limit s) n) where
      pub no_block : (e.tag ≡ block_tag → ⊥) → None ≡ deposited_block limit s n
      no_block t = sym (by_number ∙ ap (block_at limit s) (sym y) ∙ rw (ne_eqb e.tag block_tag t))

      module _ (t : e.tag ≡ block_tag) where
        by_place : deposited_block limit s n ≡ block_in (record_at limit s e.start)
        by_place = by_number ∙ ap (block_at limit s) (sym y) ∙ rw (eq-eqb e.tag block_tag t)

        module _ (r : Result Placed PlaceFault) (at : place_of s r ≡ there_from (e.start + 32) (record_at limit s e.start)) where
          pub not_read : result_ok r ≡ None → None ≡ deposited_block limit s n
          not_read none = by r at none
            where
              by : (r : Result Placed PlaceFault) → place_of s r ≡ there_from (e.start + 32) (record_at limit s e.start) → result_ok r ≡ None
                  → None ≡ deposited_block limit s n
              by (Ok p) q none = absurd_numbers (cc)
              by (Err f) q none = no_block_read limit s e.start f q ∙ sym by_place

          pub block_told : (p : Placed) → result_ok r ≡ Some p → block_of s p ≡ deposited_block limit s n
          block_told p is = by r at is
            where
              by : (r : Result Placed PlaceFault) → place_of s r ≡ there_from (e.start + 32) (record_at limit s e.start) → result_ok r ≡ Some p
                  → block_of s p ≡ deposited_block limit s n
              by (Ok d) q is = let same : d ≡ p = cc in rw (← same) (block_read limit s e.start d q ∙ sym by_place)
              by (Err f) q is = absurd_numbers (cc)

-- ---- two of them

module _ (s t : List ℕ) (b : AllBytes s) (c : AllBytes t) (n m : ℕ) where
  abbrev pub Answers : Bool → Type 0
  Answers r = (r ≡ same_block (deposited_block pack_limit s n) (deposited_block pack_limit t m)) × (r ≡ true → EqualBytes pack_limit s n t m)

  -- the theorem, of what the code answers
  pub answers : (x y : Option Block) → x ≡ deposited_block pack_limit s n → y ≡ deposited_block pack_limit t m → Answers (same_block x y)
  answers x y e f =
      let same : same_block x y ≡ same_block (deposited_block pack_limit s n) (deposited_block pack_limit t m) = λ i. same_block (e i) (f i) in
      (same, λ g. same_block_bytes pack_limit (omega arith) s t b c n m (sym same ∙ g))

  pub no_first : None ≡ deposited_block pack_limit s n → Answers false
  no_first e = answers None (deposited_block pack_limit t m) e refl
