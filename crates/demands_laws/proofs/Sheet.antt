-- Which number is given: of the rows of the refusal sheet for one record, in their order, the first that applies; and a record is read exactly when
-- none does. So "can be read" is what the sheet says.
use Prim.Native.Nat.{ℕ, ◌+◌}
use Rattle.std.specs.Prelude.{Bool, ◌&&◌, ◌||◌, ◌↔◌, ◌⊎◌, ◌≡◌, length, take}
use Rattle.std.proofs.Math.Bool.{true, false}
use mathlib.Core.List.Memᴰ
use mathlib.Core.List.Memᴰ.{tail as past}
use mathlib.Core.List.{List, [], ◌∷◌, Memᴰ}
use Rattle.std.proofs.Math.Logic.{inl, inr, ⊎_elim}
use Rattle.std.specs.Prelude.{Option, None, Some}
use Rattle.std.proofs.Math.Path.{refl, sym, ap}
use Rattle.std.proofs.Common.{subst, ◌∙◌}
use native.Mathlib.Omega.{arith}
use borrow.Author.Tests.{eqb-true, eqb-false}
use Rattle.std.proofs.Math.Dec.{eqb}
use Rattle.slices.specs.Logic.{absurd_numbers, clash, both}
use Rattle.refusals.specs.Sheet.{lowest}
use Rattle.refusals.specs.Answers.{Answer, refused, granted}
use Rattle.msgpack.specs.Items.{Passage, whole, cut, too_deep, pass_over}
use Rattle.msgpack.specs.Views.{repeats, byte_view}
use Rattle.identifier.specs.Ulid.{is_ulid}
use Rattle.identifier.specs.Identity.{Identity, is_valid, identity_of}
use Rattle.value.specs.Header.{header_repeats, header}
use Rattle.value.specs.Reading as value
use Rattle.value.specs.declared.Told.{Told}
use Rattle.primary.specs.Parts as primary
use Rattle.primary.specs.Parts.{fills, version_keys, version_delete_keys, text_under, texts_under, deleted_under, delete_id_key, ulid_of, Shape, shape_under, identity_by, block_repeats}
use Rattle.pack_list.specs.Lists as list
use Rattle.pack_list.specs.Lists.{Entry, entries_under, list_repeats, all_of, is_filled}
use Rattle.records.specs.Record as records
use Rattle.records.specs.Record.{block_tag, version_tag, version_delete_tag, pack_list_tag, is_known, Contents, contents, Record, told_rows, primary_in, with_told, read_record, can_be_read}
use Rattle.records.specs.Laws.{can_be_read_lem, the_record}
use Rattle.current_version.specs.Current.{is_looked_at}
use Rattle.demands_laws.specs.Sheet.{HeaderTells, NotDescribed, no_shape, no_texts, no_boolean, no_delete_identifier, no_entries_lem, KeyRepeats, in_identifier, in_version, in_version_delete, in_entries, BreaksRules, shape_breaks, texts_break, delete_identifier_breaks, pack_breaks, NotFilled, Row, no_whole_item, depth_17, header_not_described, header_key_repeats, value_not_filled, tag_unknown, version_not_0, part_encoded, part_not_filled, part_not_described, part_key_repeats, rules_broken, range_not_filled, number, Applies, sheet, from_header, from_header_keys, from_filling, from_tag, from_version, from_encoding, from_part, from_description, from_keys, from_rules, from_ranges, First, here, later, Outcome, refuses, reads, OneFails, is_named, not_looked_at, Here, part, answer, AtPart, told_answer, AtValue, FirstFor}

-- ---- what the rows of a list say of an answer

module _ {P : Row → Type 0} {a : Answer Record} where
  now : {r : Row} {rs : List Row} → P r → a ≡ refused (number r) → Outcome P a (r ∷ rs)
  now {r = r} p e = refuses r (here p) e

  pass : {r : Row} {rs : List Row} → (P r → ⊥) → Outcome P a rs → Outcome P a (r ∷ rs)
  pass n (refuses q f e) = refuses q (later n f) e
  pass n (reads no_other x e) = reads (λ q m p. ⊎_elim (λ is. n (subst P is p)) (λ l. no_other q l p) (Memᴰ.cases_cons m)) x e

  finished : (x : Record) → a ≡ granted x → Outcome P a []
  finished x e = reads (λ r m. absurd (Memᴰ.not-nil m)) x e

module _ {P : Row → Type 0} where
  first_applies : {rs : List Row} {r : Row} → First P rs r → P r
  first_applies (here p) = p
  first_applies (later n f) = first_applies f

  first_stands : {rs : List Row} {r : Row} → First P rs r → Memᴰ r rs
  first_stands (here p) = Memᴰ.head refl
  first_stands (later n f) = past (first_stands f)

  one_first_lem : {rs : List Row} {q r : Row} → First P rs q → First P rs r → q ≡ r
  one_first_lem (here p) (here q) = refl
  one_first_lem (here p) (later n f) = absurd (n p)
  one_first_lem (later n f) (here p) = absurd (n p)
  one_first_lem (later n f) (later m g) = one_first_lem f g

-- ---- 16, 17, 22, 18 and 21: of the primary part, by the tag

-- what is told is one
one_told : {limit : ℕ} {s : List ℕ} {t u : Told} → HeaderTells limit s t → HeaderTells limit s u → t ≡ u
one_told {limit} {s} h g =
    let sizes : h.size ≡ g.size = let e = sym h.item ∙ g.item in cc in
    let e = sym h.described ∙ ap (λ n. header limit (take n s)) sizes ∙ g.described in
    cc

-- of a test that not all pass, one that does not
module _ {A : Type 0} (test : A → Bool) where
  one_fails : (xs : List A) → all_of test xs ≡ false → (OneFails test) xs
  unfolding all_of
  one_fails [] e = absurd_numbers (cc)
  one_fails (y ∷ xs) e = by (one_fails xs) (test y) refl e
    where
      by : (all_of test xs ≡ false → (OneFails test) xs) → (b : Bool) → test y ≡ b → (b && all_of test xs) ≡ false → (OneFails test) (y ∷ xs)
      by among true p f = let x = among f in (x.0, past x.1, x.2)
      by among false p f = (y, Memᴰ.head refl, p)

  none_fails : (xs : List A) → all_of test xs ≡ true → (OneFails test) xs → ⊥
  unfolding all_of
  none_fails [] e x = Memᴰ.not-nil x.1
  none_fails (y ∷ xs) e x =
      let p = both (test y) (all_of test xs) e in
      ⊎_elim (λ is. clash (ap test is ∙ p.0) x.2) (λ m. none_fails xs p.1 (x.0, m, x.2)) (Memᴰ.cases_cons x.1)

module _ (limit tag : ℕ) (s : List ℕ) (t : Told) (tells : HeaderTells limit s t) where
  -- t is all that is told
  only : (Q : Told → Type 0) → (Q t → ⊥) → ((u : Told) × HeaderTells limit s u × Q u) → ⊥
  only Q n x = n (subst Q (one_told x.1 tells) x.2)

  filling : (fills (part limit tag s t tells) ≡ false → (answer limit tag s t tells) ≡ refused 16) → (fills (part limit tag s t tells) ≡ true → (AtPart limit tag s t tells) from_description) → (AtPart limit tag s t tells) from_part
  filling refuses-16 more = by (fills (part limit tag s t tells)) refl
    where
      by : (b : Bool) → fills (part limit tag s t tells) ≡ b → (AtPart limit tag s t tells) from_part
      by true w = pass (only (λ u. fills (primary_in s u) ≡ false) (λ x. clash w x)) (more w)
      by false w = now (t, tells, w) (refuses-16 w)

  described : (NotDescribed tag (part limit tag s t tells) → ⊥) → (AtPart limit tag s t tells) from_keys → (AtPart limit tag s t tells) from_description
  described n more = pass (only (λ u. NotDescribed tag (primary_in s u)) n) more

  once : (KeyRepeats tag (part limit tag s t tells) → ⊥) → (AtPart limit tag s t tells) from_rules → (AtPart limit tag s t tells) from_keys
  once n more = pass (only (λ u. KeyRepeats tag (primary_in s u)) n) more

  kept : (BreaksRules tag (part limit tag s t tells) → ⊥) → (AtPart limit tag s t tells) from_ranges → (AtPart limit tag s t tells) from_rules
  kept n more = pass (only (λ u. BreaksRules tag (primary_in s u)) n) more

  all_filled : (NotFilled tag (part limit tag s t tells) → ⊥) → (c : Contents) → contents tag (part limit tag s t tells) ≡ granted c → (AtPart limit tag s t tells) from_ranges
  all_filled n c e = pass (only (λ u. NotFilled tag (primary_in s u)) n) (finished (record { told = t; contents = c }) (ap (with_told t) e))

  no_list : (tag ≡ pack_list_tag → ⊥) → NotFilled tag (part limit tag s t tells) → ⊥
  no_list n x = n x.is_list

  block_rows : tag ≡ block_tag → (AtPart limit tag s t tells) from_part
  unfolding contents primary.block
  block_rows is = filling (λ w. rw (is, w)) (λ w. shape w (shape_under byte_view (part limit tag s t tells)) refl)
    where
      shape : fills (part limit tag s t tells) ≡ true → (o : Option Shape) → shape_under byte_view (part limit tag s t tells) ≡ o → (AtPart limit tag s t tells) from_description
      shape w None h = now (t, tells, no_shape (inl is) h) (rw (is, w, h))
      shape w (Some i) h = described missing (repeated (block_repeats byte_view (part limit tag s t tells)) refl)
        where
          missing : NotDescribed tag (part limit tag s t tells) → ⊥
          missing (no_shape g e) = absurd_numbers (cc)
          missing (no_texts g e) = not_looked_at tag (inl is) g
          missing (no_boolean g e) = omega arith
          missing (no_delete_identifier g e) = omega arith
          missing (no_entries_lem g e) = omega arith

          repeated : (b : Bool) → block_repeats byte_view (part limit tag s t tells) ≡ b → (AtPart limit tag s t tells) from_keys
          repeated true n = now (t, tells, in_identifier (inl is) n) (rw (is, w, h, n))
          repeated false n = once twice (rules (identity_by i) refl)
            where
              twice : KeyRepeats tag (part limit tag s t tells) → ⊥
              twice (in_identifier g e) = clash e n
              twice (in_version g e) = omega arith
              twice (in_version_delete g e) = omega arith
              twice (in_entries g e) = omega arith

              rules : (o : Option Identity) → identity_by i ≡ o → (AtPart limit tag s t tells) from_rules
              rules None r = now (t, tells, shape_breaks (inl is) i h r) (rw (is, w, h, n, r))
              rules (Some j) r = kept broken (all_filled (no_list λ g. omega arith) (record { identifier = j; kind = records.block }) (rw (is, w, h, n, r)))
                where
                  broken : BreaksRules tag (part limit tag s t tells) → ⊥
                  broken (shape_breaks g k e f) = absurd_numbers (cc)
                  broken (texts_break g k e f) = not_looked_at tag (inl is) g
                  broken (delete_identifier_breaks g k e f) = omega arith
                  broken (pack_breaks g k e d l f) = omega arith

  version_rows : tag ≡ version_tag → (AtPart limit tag s t tells) from_part
  unfolding contents primary.version identity_of is_looked_at
  version_rows is = filling (λ w. rw (is, w)) (λ w. texts w (texts_under byte_view (part limit tag s t tells)) refl (deleted_under byte_view (part limit tag s t tells)) refl)
    where
      texts : fills (part limit tag s t tells) ≡ true → (o : Option Identity) → texts_under byte_view (part limit tag s t tells) ≡ o → (p : Option Bool) → deleted_under byte_view (part limit tag s t tells) ≡ p
          → (AtPart limit tag s t tells) from_description
      texts w None h p f = now (t, tells, no_texts (rw is) h) (rw (is, w, h))
      texts w (Some i) h None f = now (t, tells, no_boolean is f) (rw (is, w, h, f))
      texts w (Some i) h (Some d) f = described missing (repeated (repeats byte_view version_keys (part limit tag s t tells)) refl)
        where
          missing : NotDescribed tag (part limit tag s t tells) → ⊥
          missing (no_shape g e) = not_looked_at tag g (rw is)
          missing (no_texts g e) = absurd_numbers (cc)
          missing (no_boolean g e) = absurd_numbers (cc)
          missing (no_delete_identifier g e) = omega arith
          missing (no_entries_lem g e) = omega arith

          repeated : (b : Bool) → repeats byte_view version_keys (part limit tag s t tells) ≡ b → (AtPart limit tag s t tells) from_keys
          repeated true n = now (t, tells, in_version is n) (rw (is, w, h, f, n))
          repeated false n = once twice (rules (is_valid i) refl)
            where
              twice : KeyRepeats tag (part limit tag s t tells) → ⊥
              twice (in_identifier g e) = not_looked_at tag g (rw is)
              twice (in_version g e) = clash e n
              twice (in_version_delete g e) = omega arith
              twice (in_entries g e) = omega arith

              rules : (b : Bool) → is_valid i ≡ b → (AtPart limit tag s t tells) from_rules
              rules false r = now (t, tells, texts_break (rw is) i h r) (rw (is, w, h, f, n, r))
              rules true r = kept broken (all_filled (no_list λ g. omega arith) (record { identifier = i; kind = records.version d }) (rw (is, w, h, f, n, r)))
                where
                  broken : BreaksRules tag (part limit tag s t tells) → ⊥
                  broken (shape_breaks g k e x) = not_looked_at tag g (rw is)
                  broken (texts_break g k e x) = let same : k ≡ i = cc in clash (ap is_valid same ∙ r) x
                  broken (delete_identifier_breaks g k e x) = omega arith
                  broken (pack_breaks g k e d l x) = omega arith

  delete_rows : tag ≡ version_delete_tag → (AtPart limit tag s t tells) from_part
  unfolding contents primary.version_delete identity_of ulid_of is_looked_at
  delete_rows is = filling (λ w. rw (is, w)) (λ w. texts w (texts_under byte_view (part limit tag s t tells)) refl (text_under byte_view delete_id_key (part limit tag s t tells)) refl)
    where
      texts : fills (part limit tag s t tells) ≡ true → (o : Option Identity) → texts_under byte_view (part limit tag s t tells) ≡ o → (p : Option (List ℕ)) → text_under byte_view delete_id_key (part limit tag s t tells) ≡ p
          → (AtPart limit tag s t tells) from_description
      texts w None h p f = now (t, tells, no_texts (rw is) h) (rw (is, w, h))
      texts w (Some i) h None f = now (t, tells, no_delete_identifier is f) (rw (is, w, h, f))
      texts w (Some i) h (Some d) f = described missing (repeated (repeats byte_view version_delete_keys (part limit tag s t tells)) refl)
        where
          missing : NotDescribed tag (part limit tag s t tells) → ⊥
          missing (no_shape g e) = not_looked_at tag g (rw is)
          missing (no_texts g e) = absurd_numbers (cc)
          missing (no_boolean g e) = omega arith
          missing (no_delete_identifier g e) = absurd_numbers (cc)
          missing (no_entries_lem g e) = omega arith

          repeated : (b : Bool) → repeats byte_view version_delete_keys (part limit tag s t tells) ≡ b → (AtPart limit tag s t tells) from_keys
          repeated true n = now (t, tells, in_version_delete is n) (rw (is, w, h, f, n))
          repeated false n = once twice (rules (is_valid i) refl (is_ulid d) refl)
            where
              twice : KeyRepeats tag (part limit tag s t tells) → ⊥
              twice (in_identifier g e) = not_looked_at tag g (rw is)
              twice (in_version g e) = omega arith
              twice (in_version_delete g e) = clash e n
              twice (in_entries g e) = omega arith

              rules : (b : Bool) → is_valid i ≡ b → (c : Bool) → is_ulid d ≡ c → (AtPart limit tag s t tells) from_rules
              rules false r c u = now (t, tells, texts_break (rw is) i h r) (rw (is, w, h, f, n, r))
              rules true r false u = now (t, tells, delete_identifier_breaks is d f u) (rw (is, w, h, f, n, r, u))
              rules true r true u =
                  kept broken (all_filled (no_list λ g. omega arith) (record { identifier = i; kind = records.version_delete d }) (rw (is, w, h, f, n, r, u)))
                where
                  broken : BreaksRules tag (part limit tag s t tells) → ⊥
                  broken (shape_breaks g k e x) = not_looked_at tag g (rw is)
                  broken (texts_break g k e x) = let same : k ≡ i = cc in clash (ap is_valid same ∙ r) x
                  broken (delete_identifier_breaks g k e x) = let same : k ≡ d = cc in clash (ap is_ulid same ∙ u) x
                  broken (pack_breaks g k e d l x) = omega arith

  list_rows : tag ≡ pack_list_tag → (AtPart limit tag s t tells) from_part
  unfolding contents list.pack_list
  list_rows is = filling (λ w. rw (is, w)) (λ w. shape w (shape_under byte_view (part limit tag s t tells)) refl (entries_under byte_view (part limit tag s t tells)) refl)
    where
      shape : fills (part limit tag s t tells) ≡ true → (o : Option Shape) → shape_under byte_view (part limit tag s t tells) ≡ o → (p : Option (List Entry)) → entries_under byte_view (part limit tag s t tells) ≡ p
          → (AtPart limit tag s t tells) from_description
      shape w None h p f = now (t, tells, no_shape (inr is) h) (rw (is, w, h))
      shape w (Some i) h None f = now (t, tells, no_entries_lem is f) (rw (is, w, h, f))
      shape w (Some i) h (Some es) f = described missing (repeated (block_repeats byte_view (part limit tag s t tells)) refl (list_repeats byte_view (part limit tag s t tells)) refl)
        where
          missing : NotDescribed tag (part limit tag s t tells) → ⊥
          missing (no_shape g e) = absurd_numbers (cc)
          missing (no_texts g e) = not_looked_at tag (inr is) g
          missing (no_boolean g e) = omega arith
          missing (no_delete_identifier g e) = omega arith
          missing (no_entries_lem g e) = absurd_numbers (cc)

          repeated : (b : Bool) → block_repeats byte_view (part limit tag s t tells) ≡ b → (c : Bool) → list_repeats byte_view (part limit tag s t tells) ≡ c → (AtPart limit tag s t tells) from_keys
          repeated true n c m = now (t, tells, in_identifier (inr is) n) (rw (is, w, h, f, n))
          repeated false n true m = now (t, tells, in_entries is m) (rw (is, w, h, f, n, m))
          repeated false n false m = once twice (rules (identity_by i) refl (all_of is_named es) refl)
            where
              twice : KeyRepeats tag (part limit tag s t tells) → ⊥
              twice (in_identifier g e) = clash e n
              twice (in_version g e) = omega arith
              twice (in_version_delete g e) = omega arith
              twice (in_entries g e) = clash e m

              rules : (o : Option Identity) → identity_by i ≡ o → (b : Bool) → all_of is_named es ≡ b → (AtPart limit tag s t tells) from_rules
              rules None r b u = now (t, tells, shape_breaks (inr is) i h r) (rw (is, w, h, f, n, m, r))
              rules (Some j) r false u =
                  let x = one_fails is_named es u in
                  now (t, tells, pack_breaks is es f x.0 x.1 x.2) (rw (is, w, h, f, n, m, r, u))
              rules (Some j) r true u = kept broken (ranges (all_of is_filled es) refl)
                where
                  same_entries : (k : List Entry) → entries_under byte_view (part limit tag s t tells) ≡ Some k → k ≡ es
                  same_entries k e = cc

                  broken : BreaksRules tag (part limit tag s t tells) → ⊥
                  broken (shape_breaks g k e x) = absurd_numbers (cc)
                  broken (texts_break g k e x) = not_looked_at tag (inr is) g
                  broken (delete_identifier_breaks g k e x) = omega arith
                  broken (pack_breaks g k e d l x) = none_fails is_named es u (d, subst (Memᴰ d) (same_entries k e) l, x)

                  ranges : (b : Bool) → all_of is_filled es ≡ b → (AtPart limit tag s t tells) from_ranges
                  ranges false v =
                      let x = one_fails is_filled es v in
                      now (t, tells, record { is_list = is; entries = es; there = f; entry = x.0; stands = x.1; not_filled = x.2 })
                      (rw (is, w, h, f, n, m, r, u, v))
                  ranges true v =
                      all_filled
                      (λ x. none_fails is_filled es v (x.entry, subst (Memᴰ x.entry) (same_entries x.entries x.there) x.stands, x.not_filled))
                      (record { identifier = j; kind = records.pack_list es }) (rw (is, w, h, f, n, m, r, u, v))

  four_tags : is_known tag ≡ true → (AtPart limit tag s t tells) from_part
  unfolding is_known
  four_tags e = by (eqb tag block_tag) refl (eqb tag version_tag) refl (eqb tag version_delete_tag) refl e
    where
      by : (b : Bool) → eqb tag block_tag ≡ b → (c : Bool) → eqb tag version_tag ≡ c → (d : Bool) → eqb tag version_delete_tag ≡ d
          → (b || c || d || eqb tag pack_list_tag) ≡ true → (AtPart limit tag s t tells) from_part
      by true p c q d o f = block_rows (eqb-true _ _ p)
      by false p true q d o f = version_rows (eqb-true _ _ q)
      by false p false q true o f = delete_rows (eqb-true _ _ o)
      by false p false q false o f = list_rows (eqb-true _ _ f)

  -- ---- 13 to 15

  told_rows_lem : Outcome (Here limit tag s t tells) (told_answer limit tag s t tells) from_tag
  unfolding told_rows lowest
  told_rows_lem = known (is_known tag) refl
    where
      known : (b : Bool) → is_known tag ≡ b → Outcome (Here limit tag s t tells) (told_answer limit tag s t tells) from_tag
      known false k = now k (rw k)
      known true k = pass (λ x. clash k x) (version (eqb t.version 0) refl)
        where
          version : (b : Bool) → eqb t.version 0 ≡ b → Outcome (Here limit tag s t tells) (told_answer limit tag s t tells) from_version
          version false v = now (t, tells, eqb-false _ _ v) (rw (k, v))
          version true v =
              pass (only (λ u. u.version ≡ 0 → ⊥) (λ x. x (eqb-true _ _ v))) (encoded t.primary.encrypted refl (eqb t.primary.compression 0) refl)
            where
              encoded : (b : Bool) → t.primary.encrypted ≡ b → (d : Bool) → eqb t.primary.compression 0 ≡ d
                  → Outcome (Here limit tag s t tells) (told_answer limit tag s t tells) from_encoding
              encoded true z d c = now (t, tells, inl z) (rw (k, v, z))
              encoded false z false c = now (t, tells, inr (eqb-false _ _ c)) (rw (k, v, z, c))
              encoded false z true c =
                  let is : (answer limit tag s t tells) ≡ (told_answer limit tag s t tells) = rw (k, v, z, c) in
                  pass (only (λ u. (u.primary.encrypted ≡ true) ⊎ (u.primary.compression ≡ 0 → ⊥)) (⊎_elim (λ x. clash x z) (λ x. x (eqb-true _ _ c))))
                  (subst (λ a. Outcome (Here limit tag s t tells) a from_part) is (four_tags k))

-- ---- 9 to 12, and 22

module _ (limit tag : ℕ) (s : List ℕ) where
  header_rows_lem : (n : ℕ) → pass_over s ≡ whole n → (AtValue limit tag s) from_header
  unfolding read_record value.reading
  header_rows_lem n p = described_by (header limit (take n s)) refl
    where
      of_size : {A : Type 0} (f : List ℕ → A) (m : ℕ) → pass_over s ≡ whole m → f (take m s) ≡ f (take n s)
      of_size f m q = let same : m ≡ n = let e = sym q ∙ p in cc in ap (λ k. f (take k s)) same

      described_by : (o : Option Told) → header limit (take n s) ≡ o → (AtValue limit tag s) from_header
      described_by None h = now (n, p, h) (rw (p, h))
      described_by (Some t) h =
          pass (λ x. let e = sym x.2 ∙ of_size (header limit) x.0 x.1 ∙ h in absurd_numbers (cc)) (repeated (header_repeats byte_view (take n s)) refl)
        where
          tells : HeaderTells limit s t
          tells = record { size = n; item = p; described = h }

          filled : header_repeats byte_view (take n s) ≡ false → (b : Bool) → eqb (n + t.secondary.len) (length s) ≡ b → (AtValue limit tag s) from_filling
          filled r false f = now (t, tells, eqb-false _ _ f) (rw (p, h, r, f))
          filled r true f =
              let is : told_answer limit tag s t tells ≡ read_record limit tag s = rw (p, h, r, f) in
              pass (λ x. x.2 (sizes x.0 x.1 ∙ eqb-true _ _ f))
              (subst (λ a. Outcome (Applies limit tag s) a from_tag) is (told_rows_lem limit tag s t tells))
            where
              sizes : (u : Told) (x : HeaderTells limit s u) → x.size + u.secondary.len ≡ n + t.secondary.len
              sizes u x =
                  let size : x.size ≡ n = let e = sym x.item ∙ p in cc in
                  let same : u ≡ t = one_told x tells in
                  rw (size, same)

          repeated : (b : Bool) → header_repeats byte_view (take n s) ≡ b → (AtValue limit tag s) from_header_keys
          repeated true r = now (n, p, r) (rw (p, h, r))
          repeated false r =
              pass (λ x. clash x.2 (of_size (header_repeats byte_view) x.0 x.1 ∙ r)) (filled r (eqb (n + t.secondary.len) (length s)) refl)

  by_sheet : (AtValue limit tag s) sheet
  unfolding read_record value.reading
  by_sheet = by (pass_over s) refl
    where
      by : (p : Passage) → pass_over s ≡ p → (AtValue limit tag s) sheet
      by cut p = now p (rw p)
      by too_deep p = pass (λ x. let e = sym x ∙ p in absurd_numbers (cc)) (now p (rw p))
      by (whole n) p = pass (λ x. let e = sym x ∙ p in absurd_numbers (cc)) (pass (λ x. let e = sym x ∙ p in absurd_numbers (cc)) (header_rows_lem n p))

-- ---- the theorems

-- every row stands in the list
first : {r : Row} {rs : List Row} → Memᴰ r (r ∷ rs)
first = Memᴰ.head refl

stands : (r : Row) → Memᴰ r sheet
stands no_whole_item = first
stands depth_17 = past first
stands header_not_described = past (past first)
stands header_key_repeats = past (past (past first))
stands value_not_filled = past (past (past (past first)))
stands tag_unknown = past (past (past (past (past first))))
stands version_not_0 = past (past (past (past (past (past first)))))
stands part_encoded = past (past (past (past (past (past (past first))))))
stands part_not_filled = past (past (past (past (past (past (past (past first)))))))
stands part_not_described = past (past (past (past (past (past (past (past (past first))))))))
stands part_key_repeats = past (past (past (past (past (past (past (past (past (past first)))))))))
stands rules_broken = past (past (past (past (past (past (past (past (past (past (past first))))))))))
stands range_not_filled = past (past (past (past (past (past (past (past (past (past (past (past first)))))))))))

module _ (limit tag : ℕ) (s : List ℕ) where
  -- refused with n exactly when n is the number of the first row that applies
  pub refused_exactly : (n : ℕ) → read_record limit tag s ≡ refused n ↔ ((r : Row) × First (Applies limit tag s) sheet r × (number r ≡ n))
  refused_exactly n = (there (by_sheet limit tag s), back (by_sheet limit tag s))
    where
      there : AtValue limit tag s sheet → read_record limit tag s ≡ refused n → (FirstFor limit tag s) n
      there (refuses r f e) g = (r, f, cc)
      there (reads no_row x e) g = absurd_numbers (cc)

      back : AtValue limit tag s sheet → (FirstFor limit tag s) n → read_record limit tag s ≡ refused n
      back (refuses q f e) x = e ∙ ap (λ r. refused (number r)) (one_first_lem f x.1) ∙ ap refused x.2
      back (reads no_row y e) x = absurd (no_row x.0 (first_stands x.1) (first_applies x.1))

  -- read exactly when none applies
  pub read_exactly : ((x : Record) × (read_record limit tag s ≡ granted x)) ↔ ((r : Row) → Applies limit tag s r → ⊥)
  read_exactly = (there (by_sheet limit tag s), back (by_sheet limit tag s))
    where
      there : AtValue limit tag s sheet → (x : Record) × (read_record limit tag s ≡ granted x) → (r : Row) → Applies limit tag s r → ⊥
      there (refuses q f e) x r = absurd_numbers (let g = x.1 in cc)
      there (reads no_row y e) x r = no_row r (stands r)

      back : AtValue limit tag s sheet → ((r : Row) → Applies limit tag s r → ⊥) → (x : Record) × (read_record limit tag s ≡ granted x)
      back (refuses q f e) no_row = absurd (no_row q (first_applies f))
      back (reads none-of-these y e) no_row = (y, e)

  -- "can be read"; to a `vr` or `vd`, 13 and 21 do not apply
  pub can_be_read_exactly : can_be_read limit tag s ≡ true ↔ ((r : Row) → Applies limit tag s r → ⊥)
  can_be_read_exactly = (
    λ e. read_exactly.0 (the_record limit tag s e),
    λ no_row. let x = read_exactly.1 no_row in (can_be_read_lem limit tag s).1 (λ n e. let g = x.1 in absurd_numbers (cc)),
  )
