-- What a record's role says of its tag and its identifier.
use Rattle.std.specs.Prelude.{ℕ, Bool, true, false, cond, ◌||◌, List, ◌≡◌, refl, eqb}
use Rattle.std.specs.Prelude.{None, Some}
use Rattle.std.proofs.Common.{sym, ap, subst, ◌∙◌, eqb-true}
use Rattle.slices.specs.Logic.{absurd_numbers}
use Rattle.refusals.specs.Answers as refusals
use Rattle.identifier.specs.Identity.{Identity, is_valid}
use Rattle.primary.specs.Parts as primary
use Rattle.primary.specs.Exactly.{version_names}
use Rattle.records.specs.Record as records
use Rattle.records.specs.Record.{version_tag, version_delete_tag, pack_list_tag, read_record, Contents, contents, of_version, of_version_delete, primary_in}
use Rattle.records.specs.Laws.{read_as}
use Rattle.current_version.specs.Current.{Role, version, deletion, other, unreadable, role_by, role_of, is_looked_at, role, placed_by, Version, version_by, version_of, deletes}

-- a pack list is passed over
pub pack_list_not_looked_at : is_looked_at pack_list_tag ≡ false
unfolding is_looked_at
pack_list_not_looked_at = refl

-- a `vd` that is read names its version identifier
pub delete_role : (limit : ℕ) (value : List ℕ) (x : records.Record) → read_record limit version_delete_tag value ≡ refusals.granted x
    → role limit version_delete_tag value ≡ deletion x.contents.identifier
unfolding role is_looked_at contents
delete_role limit value x e = rw e (go (primary.version_delete (primary_in value x.told)) (read_as limit version_delete_tag value x e).primary_tells)
  where
    go : (a : refusals.Answer primary.VersionDelete) → of_version_delete a ≡ refusals.granted x.contents
        → role_by x.contents.identifier x.contents.kind ≡ deletion x.contents.identifier
    go (refusals.granted v) f =
        let is : record { identifier = v.identifier; kind = records.version_delete v.delete_id } ≡ x.contents = cc in
        rw (← is)
    go (refusals.refused n) f = absurd_numbers (cc)

delete_no_version : (limit : ℕ) (value : List ℕ) (i : Identity) (f : Bool) → role limit version_delete_tag value ≡ version i f → ⊥
unfolding role is_looked_at
delete_no_version limit value i f e = go (read_record limit version_delete_tag value) refl e
  where
    go : (a : refusals.Answer records.Record) → read_record limit version_delete_tag value ≡ a → role_of a ≡ version i f → ⊥
    go (refusals.granted x) r h =
        let d : deletion x.contents.identifier ≡ version i f = sym (delete_role limit value x r) ∙ e in
        absurd_numbers (cc)
    go (refusals.refused n) r h = absurd_numbers (cc)

-- so it tells no version
pub delete_tells_none : (limit start : ℕ) (value : List ℕ) → version_by start value (role limit version_delete_tag value) ≡ None
delete_tells_none limit start value = go (role limit version_delete_tag value) refl
  where
    go : (r : Role) → role limit version_delete_tag value ≡ r → version_by start value r ≡ None
    go (version i f) e = absurd (delete_no_version limit value i f e)
    go (deletion i) e = refl
    go other e = refl
    go (unreadable n) e = refl

version_no_deletion : (limit : ℕ) (value : List ℕ) (i : Identity) → role limit version_tag value ≡ deletion i → ⊥
unfolding role is_looked_at contents
version_no_deletion limit value i e = go (read_record limit version_tag value) refl e
  where
    told : (x : records.Record) → role_by x.contents.identifier x.contents.kind ≡ deletion i
        → (a : refusals.Answer primary.Version) → of_version a ≡ refusals.granted x.contents → ⊥
    told x h (refusals.granted v) q =
        let is : record { identifier = v.identifier; kind = records.version v.deleted } ≡ x.contents = cc in
        let same : version v.identifier v.deleted ≡ deletion i = ap (λ (c : Contents). role_by c.identifier c.kind) is ∙ h in
        absurd_numbers (cc)
    told x h (refusals.refused n) q = absurd_numbers (cc)

    go : (a : refusals.Answer records.Record) → read_record limit version_tag value ≡ a → role_of a ≡ deletion i → ⊥
    go (refusals.granted x) r h = told x h (primary.version (primary_in value x.told)) (read_as limit version_tag value x r).primary_tells
    go (refusals.refused n) r h = absurd_numbers (cc)

-- a `vr` names no version
pub version_deletes_none : (limit : ℕ) (value : List ℕ) (i : Identity) → deletes i (role limit version_tag value) ≡ false
unfolding deletes
version_deletes_none limit value i = go (role limit version_tag value) refl
  where
    go : (r : Role) → role limit version_tag value ≡ r → deletes i r ≡ false
    go (version j f) e = refl
    go (deletion j) e = absurd (version_no_deletion limit value j e)
    go other e = refl
    go (unreadable n) e = refl

version_valid : (limit : ℕ) (value : List ℕ) (i : Identity) (f : Bool) → role limit version_tag value ≡ version i f → is_valid i ≡ true
unfolding role is_looked_at contents
version_valid limit value i f e = go (read_record limit version_tag value) refl e
  where
    told : (x : records.Record) → role_by x.contents.identifier x.contents.kind ≡ version i f
        → (a : refusals.Answer primary.Version) → primary.version (primary_in value x.told) ≡ a
        → of_version a ≡ refusals.granted x.contents → is_valid i ≡ true
    told x h (refusals.granted v) p q =
        let is : record { identifier = v.identifier; kind = records.version v.deleted } ≡ x.contents = cc in
        let same : version v.identifier v.deleted ≡ version i f = ap (λ (c : Contents). role_by c.identifier c.kind) is ∙ h in
        let id : v.identifier ≡ i = cc in
        subst (λ j. is_valid j ≡ true) id (version_names (primary_in value x.told) v p).rules
    told x h (refusals.refused n) p q = absurd_numbers (cc)

    go : (a : refusals.Answer records.Record) → read_record limit version_tag value ≡ a → role_of a ≡ version i f → is_valid i ≡ true
    go (refusals.granted x) r h = told x h (primary.version (primary_in value x.told)) refl (read_as limit version_tag value x r).primary_tells
    go (refusals.refused n) r h = absurd_numbers (cc)

-- a version has the tag `vr`, and its identifier keeps the rules
pub record IsVersion (tag : ℕ) (i : Identity) : Type 0 where
  pub tag_is : tag ≡ version_tag
  pub rules : is_valid i ≡ true

pub version_role : (limit tag : ℕ) (value : List ℕ) (i : Identity) (f : Bool) → role limit tag value ≡ version i f → IsVersion tag i
unfolding role is_looked_at
version_role limit tag value i f e = first (eqb tag version_tag) refl (eqb tag version_delete_tag) refl e
  where
    first : (t : Bool) → eqb tag version_tag ≡ t → (u : Bool) → eqb tag version_delete_tag ≡ u
        → cond (t || u) (role_of (read_record limit tag value)) other ≡ version i f → IsVersion tag i
    first true p u q h =
        let is : tag ≡ version_tag = eqb-true tag version_tag p in
        record { tag_is = is; rules = version_valid limit value i f (ap (λ t. role limit t value) (sym is) ∙ e) }
    first false p true q h = absurd (delete_no_version limit value i f (ap (λ t. role limit t value) (sym (eqb-true tag version_delete_tag q)) ∙ e))
    first false p false q h = absurd_numbers (cc)

-- a record that tells a version has that role
pub version_told : (limit start tag : ℕ) (value : List ℕ) (v : Version) → version_of (placed_by limit start tag value) ≡ Some v
    → role limit tag value ≡ version v.identifier v.delete_flag
unfolding version_of
version_told limit start tag value v e = go (role limit tag value) e
  where
    go : (r : Role) → version_by start value r ≡ Some v → r ≡ version v.identifier v.delete_flag
    go (version i f) h =
        let is : record { identifier = i; delete_flag = f; value = value; start = start } ≡ v = cc in
        rw (← is)
    go (deletion i) h = absurd_numbers (cc)
    go other h = absurd_numbers (cc)
    go (unreadable n) h = absurd_numbers (cc)
