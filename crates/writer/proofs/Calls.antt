-- What a call answers and leaves, by whether what is handed in is admitted.
use Prim.Native.Nat.{ℕ, ◌≤◌}
use mathlib.Core.Bool.{Bool, true, false, cond, ◌&&◌, true≢false}
use mathlib.Core.List.{List}
use Rattle.std.specs.Prelude.{Option, None, Some, Result, Err}
use mathlib.Core.Path.{◌≡◌, refl, sym, ap, ◌∙◌}
use borrow.Author.Tests.{leb-true}
use lib.Dec.{leb}
use lib.ListN.{length, take}
use Rattle.slices.specs.Logic.{both}
use Rattle.refusals.specs.Limit.{pack_limit}
use Rattle.refusals.specs.declared.Unwritten.{Unwritten}
use Rattle.refusals.specs.declared.Unwritten.TheVariants.{Inadmissible}
use Rattle.identifier.specs.Ulid.{is_ulid}
use Rattle.identifier.specs.Identity.{Identity, identity, is_valid}
use Rattle.held_identifier.specs.Held.{named, is_admitted}
use Rattle.held_identifier.specs.declared.Identifier.{Identifier}
use Rattle.writer.specs.Writing.{Item, deletion, item_bytes, admitted, of_identity, answer_of, written, buffer_after, Stores}

-- the promise of a call
pub record Call (used : ℕ) (item : Option Item) (buf : List ℕ) (a : Result ℕ Unwritten) (after : List ℕ) : Type 0 where
  pub answer : answer_of a ≡ written pack_limit (length buf) used item
  pub buffer : after ≡ buffer_after pack_limit used item buf

module _ (used : ℕ) (buf : List ℕ) where
  pub call_stores : (item : Item) (a : Result ℕ Unwritten) (after : List ℕ) → admitted item ≡ true → Stores used (item_bytes item) buf a after → Call used (Some item) buf a after
  unfolding written buffer_after
  call_stores item a after e s = record { answer = rw e s.told; buffer = rw e s.left }

  pub call_refused : (item : Item) → admitted item ≡ false → Call used (Some item) buf (Err Inadmissible) buf
  unfolding written buffer_after
  call_refused item e = record { answer = rw e refl; buffer = rw e refl }

  -- an identifier that names nothing, or an item of it that is not admitted
  pub call_unnamed : (item : Identity → Item) (o : Option Identity) → ((i : Identity) → o ≡ Some i → admitted (item i) ≡ false) → Call used (of_identity item o) buf (Err Inadmissible) buf
  unfolding written buffer_after
  call_unnamed item None h = record { answer = refl; buffer = refl }
  call_unnamed item (Some i) h = call_refused (item i) (h i refl)

-- ---- an identifier's struct

pub record Named (id : Identifier) : Type 0 where
  pub bucket : id.bucketlen ≤ 63
  pub object : id.objectlen ≤ 1024
  pub names : named id ≡ Some (identity id.ulid (take id.bucketlen id.bucket) (take id.objectlen id.object))
  pub valid : is_valid (identity id.ulid (take id.bucketlen id.bucket) (take id.objectlen id.object)) ≡ true

pub admitted_named : (id : Identifier) → is_admitted (named id) ≡ true → Named id
unfolding named is_admitted
admitted_named id e = go (leb id.bucketlen 63 && leb id.objectlen 1024) refl e
  where
    go : (t : Bool) → (leb id.bucketlen 63 && leb id.objectlen 1024) ≡ t → is_admitted (cond t (Some (identity id.ulid (take id.bucketlen id.bucket) (take id.objectlen id.object))) None) ≡ true → Named id
    go true f v =
        let b = both (leb id.bucketlen 63) (leb id.objectlen 1024) f in
        record { bucket = leb-true _ _ b.0; object = leb-true _ _ b.1; names = rw f refl; valid = v }
    go false f v = absurd (true≢false (sym v))

pub no_identifier : (o : Option Identity) (i : Identity) → is_admitted o ≡ false → o ≡ Some i → is_valid i ≡ false
unfolding is_admitted
no_identifier o i e f = ap is_admitted (sym f) ∙ e

pub no_ulid_lem : (i : Identity) (u : List ℕ) → is_ulid u ≡ false → admitted (deletion i u) ≡ false
no_ulid_lem i u e = rw e (go (is_valid i))
  where
    go : (t : Bool) → (t && false) ≡ false
    go true = refl
    go false = refl
