-- The relations that demand 3, and the lookups of two sites, are said with tell things apart: what differs in one respect alone is not related.
use Rattle.std.specs.Prelude.{ℕ, suc, Bool, true, false, cond, ◌≡◌, refl, get_or}
use mathlib.Core.List.Memᴰ
use mathlib.Core.List.{List, [], ◌∷◌, map, Memᴰ}
use Rattle.std.proofs.Common.{⊎_elim, sym, ap, subst, subst₂, ◌∙◌, arith}
use Rattle.slices.specs.Bytes.{same_bytes}
use Rattle.refusals.specs.Limit.{pack_limit}
use Rattle.tlv.specs.Layout.{Record, layout, layouts}
use Rattle.pack.specs.Reading.{Reading, reading}
use Rattle.pack.specs.declared.Entry.{Entry}
use Rattle.identifier.specs.Identity.{Identity}
use Rattle.records.specs.Record.{can_be_read}
use Rattle.current_version.specs.Current.{version, role, nothing, lookup}
use Rattle.current_version.specs.Packs.{of_entry, of_record, tags_and_values, pack_of_read, SameAnswer}
use Rattle.current_version.specs.Order.{how_often, SameRecords, OneValue}
use Rattle.current_version.specs.Bytes.{OneValueIn}
use Rattle.current_version.specs.Examples.{herd, scan, one, two, plain, another, vr, Row, told, rows, rows_hold}
use Rattle.current_version.specs.TellsApart.{values_differ, plain_first, plain_last, one_first, two_first, identifier, reading_of, computed, times, InEitherOrder, values}

-- ---- ORDER: its premises but the last hold of every two records that are read, in either order

swapped : (a b : Record) → SameRecords (a ∷ b ∷ []) (b ∷ a ∷ [])
unfolding how_often
swapped a b bytes = go (same_bytes bytes (layout a)) (same_bytes bytes (layout b))
  where
    go : (t u : Bool) → cond t (suc (cond u 1 0)) (cond u 1 0) ≡ cond u (suc (cond t 1 0)) (cond t 1 0)
    go true true = refl
    go true false = refl
    go false true = refl
    go false false = refl

-- one of two
one_of : (P : Record → Type 0) (a b : Record) → P a → P b → (r : Record) → Memᴰ r (a ∷ b ∷ []) → P r
one_of P a b p q r m =
    ⊎_elim (λ e. subst P (sym e) p)
    (λ n. ⊎_elim (λ e. subst P (sym e) q) (λ o. absurd (Memᴰ.not-nil o)) (Memᴰ.cases_cons n)) (Memᴰ.cases_cons m)

in_either_order : (a b : Record) → reading pack_limit (layouts (a ∷ b ∷ [])) ≡ reading_of (a ∷ b ∷ [])
    → reading pack_limit (layouts (b ∷ a ∷ [])) ≡ reading_of (b ∷ a ∷ [])
    → can_be_read pack_limit a.tag a.value ≡ true → can_be_read pack_limit b.tag b.value ≡ true
    → InEitherOrder (layouts (a ∷ b ∷ [])) (layouts (b ∷ a ∷ [])) herd scan
in_either_order a b ab ba p q = record {
  first_readable = pack_of_read pack_limit _ (a ∷ b ∷ []) refl ab (λ r m looked. one_of IsRead a b p q r m);
  second_readable = pack_of_read pack_limit _ (b ∷ a ∷ []) refl ba (λ r m looked. one_of IsRead b a q p r m);
  same = λ bytes. times (a ∷ b ∷ []) ab bytes ∙ swapped a b bytes ∙ sym (times (b ∷ a ∷ []) ba bytes);
  name = computed.name;
}
  where
    IsRead : Record → Type 0
    IsRead r = can_be_read pack_limit r.tag r.value ≡ true

-- ---- ORDER without that premise: two answers that are not the same

pub one_value_is_needed : InEitherOrder (layouts plain_first) (layouts plain_last) herd scan
    × (SameAnswer (lookup pack_limit (layouts plain_first) herd scan) (lookup pack_limit (layouts plain_last) herd scan) → ⊥)
unfolding rows
one_value_is_needed = (
  in_either_order _ _ computed.plain_first_lem computed.plain_last_lem computed.plain_reads computed.another_reads,
  λ same. values_differ (told one false (plain herd one) 0) (another one) values (subst₂ SameAnswer (row 4) (row 5) same),
)
  where
    row : (k : ℕ) → get_or (map (λ (r : Row). lookup pack_limit r.pack r.bucket r.object) rows) k nothing
        ≡ get_or (map (λ (r : Row). r.answer) rows) k nothing
    row k = ap (λ l. get_or l k nothing) rows_hold

-- ---- and all its premises hold of two packs that are not equal

one_value_in : (rs : List Record) → reading pack_limit (layouts rs) ≡ reading_of rs → OneValue pack_limit rs → OneValueIn pack_limit (layouts rs)
one_value_in rs read one d e i f g m n p q =
    let r = there d m in
    let t = there e n in
    sym (ap (λ (x : ℕ × List ℕ). x.1) r.2)
    ∙ one r.0 t.0 i f g r.1 t.1 (ap (λ (x : ℕ × List ℕ). role pack_limit x.0 x.1) r.2 ∙ p)
    (ap (λ (x : ℕ × List ℕ). role pack_limit x.0 x.1) t.2 ∙ q)
    ∙ ap (λ (x : ℕ × List ℕ). x.1) t.2
  where
    there : (d : Entry) → Memᴰ d (reading pack_limit (layouts rs)).entries
        → (r : Record) × Memᴰ r rs × (of_record r ≡ of_entry (layouts rs) d)
    there d m = Memᴰ.of_map of_record rs (subst (Memᴰ (of_entry (layouts rs) d)) (tags_and_values 0 rs (layouts rs) refl)
        (Memᴰ.map (of_entry (layouts rs)) (subst (λ (r : Reading). Memᴰ d r.entries) read m)))

one_and_two : identifier one ≡ identifier two → ⊥
one_and_two e = let n : ◌≡◌ {A = ℕ} one two = ap (λ (i : Identity). get_or i.ulid 25 0) e in omega arith

one_value_each : OneValue pack_limit one_first
one_value_each r t i f g m n =
    one_of (λ r. IsVersion r f → IsVersion t g → r.value ≡ t.value) _ _
    (one_of (λ t. IsVersion (vr (plain herd one)) f → IsVersion t g → plain herd one ≡ t.value) _ _ (λ p q. refl)
    (λ p q. apart (sym computed.plain_is ∙ p) (sym computed.two_is ∙ q)) t n)
    (one_of (λ t. IsVersion (vr (plain herd two)) f → IsVersion t g → plain herd two ≡ t.value) _ _
    (λ p q. apart (sym computed.plain_is ∙ q) (sym computed.two_is ∙ p)) (λ p q. refl) t n) r m
  where
    IsVersion : Record → Bool → Type 0
    IsVersion r f = role pack_limit r.tag r.value ≡ version i f

    apart : {A : Type 0} {h k : Bool} → version (identifier one) false ≡ version i h → version (identifier two) false ≡ version i k → A
    apart p q = absurd (one_and_two (cc))

pub order_applies : InEitherOrder (layouts one_first) (layouts two_first) herd scan × OneValueIn pack_limit (layouts one_first)
    × (layouts one_first ≡ layouts two_first → ⊥)
order_applies = (
  in_either_order _ _ computed.one_first_lem computed.two_first_lem computed.plain_reads computed.two_reads,
  one_value_in one_first computed.one_first_lem one_value_each,
  λ e. let n : ◌≡◌ {A = ℕ} one two = sym computed.last_byte_first ∙ ap (λ s. get_or s 74 0) e ∙ computed.last_byte_second in omega arith,
)
