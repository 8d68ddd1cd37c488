-- What stands at a place of a pack: of a record, that its identifier keeps the rules; of a refusal, that its place is within the limit.
use Prim.Native.Nat.{ℕ, ◌≤◌}
use mathlib.Core.Bool.{Bool, true, false, cond}
use mathlib.Core.List.{List}
use mathlib.Core.Path.{◌≡◌, refl, subst}
use native.Mathlib.Omega.{arith}
use borrow.Author.Tests.{leb-false, ltb-false}
use lib.Dec.{leb, ltb, eqb}
use lib.ListN.{length, drop}
use Rattle.slices.specs.Logic.{absurd_numbers}
use Rattle.refusals.specs.Answers.{Answer, refused, granted}
use Rattle.tlv.specs.Found.{Found, end, found, fault, step}
use Rattle.identifier.specs.Identity.{Identity, is_valid}
use Rattle.primary.specs.Parts as primary
use Rattle.primary.specs.Exactly.{block_names, version_names, delete_names}
use Rattle.pack_list.specs.Lists as list
use Rattle.pack_list.proofs.ReadingLaws.{list_exactly}
use Rattle.records.specs.Record.{block_tag, version_tag, version_delete_tag, block, version, version_delete, pack_list, Contents, of_block, of_version, of_version_delete, of_pack_list, contents, Record, primary_in, read_record, there, refused_at, alone, at_place, value_at, by_step, record_at}
use Rattle.records.specs.Laws.{read_as}

-- ---- its identifier keeps the rules

module _ (part : List ℕ) (c : Contents) where
  block_valid : (a : Answer Identity) → primary.block part ≡ a → of_block a ≡ granted c → is_valid c.identifier ≡ true
  block_valid (granted i) e f =
      let is : record { identifier = i; kind = block } ≡ c = cc in
      subst (λ d. is_valid d.identifier ≡ true) is (block_names part i e).rules
  block_valid (refused n) e f = absurd_numbers (cc)

  version_valid : (a : Answer primary.Version) → primary.version part ≡ a → of_version a ≡ granted c → is_valid c.identifier ≡ true
  version_valid (granted v) e f =
      let is : record { identifier = v.identifier; kind = version v.deleted } ≡ c = cc in
      subst (λ d. is_valid d.identifier ≡ true) is (version_names part v e).rules
  version_valid (refused n) e f = absurd_numbers (cc)

  delete_valid : (a : Answer primary.VersionDelete) → primary.version_delete part ≡ a → of_version_delete a ≡ granted c → is_valid c.identifier ≡ true
  delete_valid (granted v) e f =
      let is : record { identifier = v.identifier; kind = version_delete v.delete_id } ≡ c = cc in
      subst (λ d. is_valid d.identifier ≡ true) is (delete_names part v e).rules
  delete_valid (refused n) e f = absurd_numbers (cc)

  list_valid : (a : Answer list.PackList) → list.pack_list part ≡ a → of_pack_list a ≡ granted c → is_valid c.identifier ≡ true
  list_valid (granted l) e f =
      let is : record { identifier = l.identifier; kind = pack_list l.entries } ≡ c = cc in
      subst (λ d. is_valid d.identifier ≡ true) is ((list_exactly part l).0 e).names.rules
  list_valid (refused n) e f = absurd_numbers (cc)

  contents_valid : (tag : ℕ) → contents tag part ≡ granted c → is_valid c.identifier ≡ true
  unfolding contents
  contents_valid tag e = by (eqb tag block_tag) (eqb tag version_tag) (eqb tag version_delete_tag) e
    where
      by : (b v d : Bool) → cond b (of_block (primary.block part)) (cond v (of_version (primary.version part))
          (cond d (of_version_delete (primary.version_delete part)) (of_pack_list (list.pack_list part)))) ≡ granted c → is_valid c.identifier ≡ true
      by true v d f = block_valid (primary.block part) refl f
      by false true d f = version_valid (primary.version part) refl f
      by false false true f = delete_valid (primary.version_delete part) refl f
      by false false false f = list_valid (list.pack_list part) refl f

-- ---- what stands at the place

module _ (limit : ℕ) (s : List ℕ) (at : ℕ) where
  step_valid : (f : Found) (value : List ℕ) (r : Record) → by_step limit s at f ≡ there value r → is_valid r.contents.identifier ≡ true
  step_valid end value r p = absurd_numbers (cc)
  step_valid (fault n) value r p = absurd_numbers (cc)
  step_valid (found h) value r p = by (read_record limit h.tag (value_at s at h)) refl p
    where
      by : (a : Answer Record) → read_record limit h.tag (value_at s at h) ≡ a → at_place (value_at s at h) a ≡ there value r → is_valid r.contents.identifier ≡ true
      by (granted x) q f =
          let is : x ≡ r = cc in
          rw (← is) (contents_valid (primary_in (value_at s at h) x.told) x.contents h.tag (read_as limit h.tag (value_at s at h) x q).primary_tells)
      by (refused n) q f = absurd_numbers (cc)

  step_place : at ≤ limit → (f : Found) (n place : ℕ) → by_step limit s at f ≡ refused_at n place → place ≤ limit
  step_place within end n place p = absurd_numbers (cc)
  step_place within (fault m) n place p = let is : at ≡ place = cc in omega arith
  step_place within (found h) n place p = by (read_record limit h.tag (value_at s at h)) p
    where
      by : (a : Answer Record) → at_place (value_at s at h) a ≡ refused_at n place → place ≤ limit
      by (granted x) f = absurd_numbers (cc)
      by (refused m) f = absurd_numbers (cc)

  pub record_valid : (value : List ℕ) (r : Record) → record_at limit s at ≡ there value r → is_valid r.contents.identifier ≡ true
  unfolding record_at
  record_valid value r e = by (leb (length s) at) (ltb limit (length s)) e
    where
      by : (o l : Bool) → cond o (alone 20) (cond l (refused_at 1 0) (by_step limit s at (step (drop at s)))) ≡ there value r → is_valid r.contents.identifier ≡ true
      by true l f = absurd_numbers (cc)
      by false true f = absurd_numbers (cc)
      by false false f = step_valid (step (drop at s)) value r f

  pub place_within : (n place : ℕ) → record_at limit s at ≡ refused_at n place → place ≤ limit
  unfolding record_at
  place_within n place e = by (leb (length s) at) refl (ltb limit (length s)) refl e
    where
      by : (o : Bool) → leb (length s) at ≡ o → (l : Bool) → ltb limit (length s) ≡ l → cond o (alone 20) (cond l (refused_at 1 0) (by_step limit s at (step (drop at s)))) ≡ refused_at n place → place ≤ limit
      by true p l q f = absurd_numbers (cc)
      by false p true q f = let is : 0 ≡ place = cc in omega arith
      by false p false q f = step_place (omega (arith, leb-false (length s) at p, ltb-false limit (length s) q)) (step (drop at s)) n place f
