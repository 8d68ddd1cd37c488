-- What our writer writes may be deposited, where the bucket is such a name, and the primary part handed in keeps rules 23 and 24 (request 9).
use Rattle.std.specs.Prelude.{ℕ, suc, Bool, false, ◌≡◌, length}
use Rattle.std.proofs.Math.Bool.{true}
use mathlib.Core.List.{List, [], ◌∷◌, append-nil}
use Rattle.std.proofs.Math.Path.{refl, ap}
use Rattle.std.proofs.Common.{arith}
use Rattle.slices.specs.Bytes.{same_bytes}
use Rattle.refusals.specs.Answers.{granted}
use Rattle.msgpack.specs.Views.{Each, and_each, no_more}
use Rattle.msgpack_forms.specs.Items.{all_short}
use Rattle.msgpack_model.specs.Views.{Shows, shown}
use Rattle.identifier.specs.Identity.{Identity, is_valid}
use Rattle.records.specs.Record.{version_tag, version_delete_tag, pack_list_tag}
use Rattle.records_model.specs.Record.{RecordHeld}
use Rattle.records_model.specs.Written as values
use Rattle.records_model.specs.Written.{held_alone, held_with}
use Rattle.writer.specs.Values.{block_part, version_part, delete_part}
use Rattle.writer.specs.Writing.{Item, block, version, version_delete, pack_list, deletion}
use Rattle.writer_laws.specs.Encoded.{IdentityBytes, version_part_encodes}
use Rattle.writer_laws.specs.Short.{version_part_short}
use Rattle.writer_laws.specs.Meaning.{held_of}
use Rattle.deposit_rules.specs.Keys.{keys_of, is_one_of, are_among}
use Rattle.deposit_rules.specs.Letters.{part_keys}
use Rattle.deposit_rules.specs.Buckets.{is_bucket_name}
use Rattle.deposit_laws.specs.Keys.{keys_read}

-- ---- what is asked of what is handed in

-- rules 23 and 24
abbrev pub PartKeeps : ℕ → List ℕ → Type 0
PartKeeps tag p = (all_short p ≡ true) × (are_among (part_keys tag) (keys_of p) ≡ true)

-- of a primary part that is handed in; what is made keeps them
abbrev pub HandedKeeps : Item → Type 0
HandedKeeps (block i d) = Unit {0}
HandedKeeps (version p) = PartKeeps version_tag p
HandedKeeps (version_delete p) = PartKeeps version_delete_tag p
HandedKeeps (pack_list p) = PartKeeps pack_list_tag p
HandedKeeps (deletion i u) = Unit {0}

-- the bucket of what the item means
abbrev pub NamedWell : Item → Type 0
NamedWell item = (h : RecordHeld) → held_of item ≡ granted h → is_bucket_name h.contents.identifier.bucket ≡ true

pub record Depositable (item : Item) : Type 0 where
  pub handed : HandedKeeps item
  pub named : NamedWell item

abbrev pub AllDepositable : List Item → Type 0
AllDepositable [] = Unit {0}
AllDepositable (item ∷ items) = Depositable item × AllDepositable items

-- ---- a block

pub each_length : {A B : Type 0} {R : A → B → Type 0} {xs : List A} {ys : List B} → Each R xs ys → length xs ≡ length ys
each_length no_more = refl
each_length (and_each r rs) = ap suc (each_length rs)

-- ---- each item

-- the primary part of what an item means
abbrev pub primary_of : Item → List ℕ
primary_of (block i d) = block_part i
primary_of (version p) = p
primary_of (version_delete p) = p
primary_of (pack_list p) = p
primary_of (deletion i u) = delete_part i u

-- and so has a made version's part
pub version_keeps : (i : Identity) (marker : Bool) → is_valid i ≡ true → IdentityBytes i → PartKeeps version_tag (version_part i marker)
unfolding are_among is_one_of same_bytes part_keys
version_keeps i marker v b = (rw append-nil at (version_part_short i marker v b []), keys marker)
  where
    keys : (m : Bool) → are_among (part_keys version_tag) (keys_of (version_part i m)) ≡ true
    keys true =
        let x : Shows (version_part i true) (values.version_part i true) = shown (version_part_encodes i true v b) (omega arith) in
        rw (keys_read x)
    keys false =
        let x : Shows (version_part i false) (values.version_part i false) = shown (version_part_encodes i false v b) (omega arith) in
        rw (keys_read x)
