-- One record added by a call: it stands directly after the pack so far and reads as what was handed in, and the records before it read as
-- they did.
use Rattle.std.specs.Prelude.{ℕ, ◌+◌, ◌^◌, ◌≤◌, ◌<◌, ◌≡◌, length, take, drop}
use mathlib.Core.List.Memᴰ
use mathlib.Core.List.{List, [], ◌∷◌, ◌++◌, flatten, append_assoc, append-nil, Memᴰ}
use Rattle.std.proofs.Math.Logic.{⊎_elim}
use Rattle.std.specs.Prelude.{Option, Some, Result, Ok}
use Rattle.std.proofs.Common.{sym, subst, ◌∙◌, zero-add, arith, length-take-le, drop-drop}
use Rattle.std.proofs.Math.Path.{ap}
use Rattle.std.proofs.Math.ListN.{length-append}
use Rattle.std.proofs.Math.Seq.{drop_at, take-append_seam, drop-append_seam}
use Rattle.slices.specs.Bytes.{AllBytes, tail_bytes, take_bytes, drop_bytes}
use Rattle.slices.specs.Overwriting.{take_overwritten}
use Rattle.slices.specs.Places.{part_at}
use Rattle.slices.specs.declared.Place.{Place}
use Rattle.refusals.specs.Limit.{pack_limit}
use Rattle.refusals.specs.Answers.{granted}
use Rattle.tlv.specs.Layout.{Record, Fits, head, layout, layouts, length_head, length_layout}
use Rattle.pack.specs.declared.Entry.{Entry}
use Rattle.pack.specs.Reading.{Reading, whole, reading, shift}
use Rattle.pack.specs.Acceptance.{AllFit, entry_of, entries_of, after}
use Rattle.pack.proofs.Acceptance.{layouts_accepted, accepted_layouts, behind}
use Rattle.msgpack_heads.specs.Heads.{text_head, map_head}
use Rattle.identifier.specs.Identity.{Identity, slash}
use Rattle.identifier.specs.Composite.{colon, composite_text}
use Rattle.primary.specs.Parts.{identifier_key, bucket_key, object_key, ulid_key, delete_id_key}
use Rattle.records.specs.Record.{record_at}
use Rattle.records.specs.Laws.{tag_and_value}
use Rattle.records.specs.Answers.{record_in}
use Rattle.records.specs.declared.Record as declared-record
use Rattle.records.specs.declared.Placed.{Placed}
use Rattle.records.specs.declared.PlaceFault.{PlaceFault}
use Rattle.records_model.specs.Record as held
use Rattle.writer.specs.Values.{text_item, pair, map_item, block_header, block_part, block_value, part_header, part_value, identity_pairs, delete_part}
use Rattle.writer.specs.Writing.{Item, block, version, version_delete, pack_list, deletion, value_of, item_bytes, written, buffer_after}
use Rattle.writer_laws.specs.Encoded.{IdentityBytes}
use Rattle.writer_laws.specs.Meaning.{held_of, AreBytes}
use Rattle.writer_laws.specs.Calls.{record_for}
use Rattle.writer_laws.specs.Refusals.{written_exactly}
use Rattle.writer_laws.specs.ReadBack.{fits}

-- ---- what is written as bytes was handed in as bytes

front_bytes : (s t : List ℕ) → AllBytes (s ++ t) → AllBytes s
front_bytes s t b = subst AllBytes (take-append_seam s t) (take_bytes (length s) (s ++ t) b)

back_bytes : (s t : List ℕ) → AllBytes (s ++ t) → AllBytes t
back_bytes s t b = subst AllBytes (drop-append_seam s t) (drop_bytes (length s) b)

part_bytes : (p : List ℕ) → AllBytes (part_value p) → AllBytes p
unfolding part_value
part_bytes p b = back_bytes (part_header (length p)) p b

text_bytes : (key t : List ℕ) → AllBytes (pair key t) → AllBytes t
unfolding pair text_item
text_bytes key t b = back_bytes (text_head (length t)) t (back_bytes (text_item key) (text_item t) b)

-- a map that begins with an identifier
pub identity_map_bytes : (i : Identity) (more : List (List ℕ)) → AllBytes (map_item (identity_pairs i ++ more)) → IdentityBytes i × AllBytes (flatten more)
unfolding map_item flatten
identity_map_bytes i more b =
    let bucket = back_bytes (map_head (length (identity_pairs i ++ more))) (flatten (identity_pairs i ++ more)) b in
    let object = back_bytes (pair bucket_key i.bucket) _ bucket in
    let ulid = back_bytes (pair object_key i.object) _ object in (
      record {
        ulid = text_bytes ulid_key i.ulid (front_bytes (pair ulid_key i.ulid) (flatten more) ulid);
        bucket = text_bytes bucket_key i.bucket (front_bytes (pair bucket_key i.bucket) _ bucket);
        object = text_bytes object_key i.object (front_bytes (pair object_key i.object) _ object);
      },
      back_bytes (pair ulid_key i.ulid) (flatten more) ulid,
    )

delete_part_bytes : (i : Identity) (u : List ℕ) → AllBytes (delete_part i u) → IdentityBytes i × AllBytes u
unfolding delete_part flatten
delete_part_bytes i u b =
    let each = identity_map_bytes i (pair delete_id_key u ∷ []) b in
    (each.0, text_bytes delete_id_key u (front_bytes (pair delete_id_key u) [] each.1))

composite_bytes : (i : Identity) → AllBytes (composite_text i) → IdentityBytes i
unfolding composite_text
composite_bytes i b =
    let name = front_bytes (i.ulid ++ (colon ∷ i.bucket)) (slash ∷ i.object) b in
    record {
      ulid = front_bytes i.ulid (colon ∷ i.bucket) name;
      bucket = tail_bytes (back_bytes i.ulid (colon ∷ i.bucket) name);
      object = tail_bytes (back_bytes (i.ulid ++ (colon ∷ i.bucket)) (slash ∷ i.object) b);
    }

block_bytes : (i : Identity) (d : List ℕ) → AllBytes (block_value i d) → IdentityBytes i × AllBytes d
unfolding block_value block_part
block_bytes i d b =
    let header : List ℕ = block_header (length d) (length (block_part i)) in
    let part = back_bytes header (block_part i) (front_bytes (header ++ block_part i) d b) in (
      composite_bytes i (text_bytes identifier_key (composite_text i) (back_bytes (map_head 1) (pair identifier_key (composite_text i)) part)),
      back_bytes (header ++ block_part i) d b,
    )

handed_bytes : (item : Item) → AllBytes (value_of item) → AreBytes item
handed_bytes (block i d) b = block_bytes i d b
handed_bytes (version p) b = part_bytes p b
handed_bytes (version_delete p) b = part_bytes p b
handed_bytes (pack_list p) b = part_bytes p b
handed_bytes (deletion i u) b = delete_part_bytes i u (part_bytes (delete_part i u) b)

-- ---- records that stand before others read as they do by themselves

module _ (limit : ℕ) (t : List ℕ) where
  abbrev ReadsAlike : List ℕ → List ℕ → Entry → Type 0
  ReadsAlike front s e = record_at limit (front ++ (s ++ t)) e.start ≡ record_at limit (front ++ s) e.start

  module _ (r : Record) (front rest : List ℕ) (e : Entry) where
    inner : (layout r ++ rest) ++ t ≡ layout r ++ (rest ++ t)
    inner = append_assoc (layout r) rest t

    joined : (front ++ layout r) ++ (rest ++ t) ≡ front ++ ((layout r ++ rest) ++ t)
    joined = append_assoc front (layout r) (rest ++ t) ∙ ap (λ x. front ++ x) (sym inner)

    here : Fits r → length (front ++ ((layout r ++ rest) ++ t)) ≤ limit → e ≡ entry_of (length front) r → ReadsAlike front (layout r ++ rest) e
    here fit l is =
        let start : e.start ≡ length front = ap (λ (x : Entry). x.start) is in
        let long : length (front ++ ((layout r ++ rest) ++ t)) ≡ length (front ++ (layout r ++ rest)) + length t
        = ap length (sym (append_assoc front (layout r ++ rest) t)) ∙ length-append (front ++ (layout r ++ rest)) t in
        rw (start, inner) (tag_and_value limit front (rest ++ t) r fit (rw (← inner) l) ∙ sym (tag_and_value limit front rest r fit (omega arith)))

    later : ReadsAlike (front ++ layout r) rest e → ReadsAlike front (layout r ++ rest) e
    later h = rw (← joined, ← append_assoc front (layout r) rest) h

  read_alike : (rs : List Record) (front : List ℕ) → AllFit rs → length (front ++ (layouts rs ++ t)) ≤ limit
      → (e : Entry) → Memᴰ e (entries_of (length front) rs) → ReadsAlike front (layouts rs) e
  unfolding layouts entries_of
  read_alike [] front fit l e m = absurd (Memᴰ.not-nil m)
  read_alike (r ∷ rs) front fit l e m = ⊎_elim (here r front (layouts rs) e fit.0 l)
      (λ n. later r front (layouts rs) e
      (read_alike rs (front ++ layout r) fit.1 (rw (joined r front (layouts rs) e) l) e (rw (length-append front (layout r)) n)))
      (Memᴰ.cases_cons m)

  pub accepted_alike : (s : List ℕ) → AllBytes s → length (s ++ t) ≤ limit → (reading limit s).ending ≡ whole
      → (e : Entry) → Memᴰ e (reading limit s).entries → record_at limit (s ++ t) e.start ≡ record_at limit s e.start
  accepted_alike s bytes l accepted e m =
      let within : length s ≤ limit = omega (arith, length-append s t) in
      let old = accepted_layouts limit s within bytes accepted in
      let entries = ap (λ (x : Reading). x.entries) (layouts_accepted limit s within old.0 old.1 old.2) in
      subst (λ u. length (u ++ t) ≤ limit → record_at limit (u ++ t) e.start ≡ record_at limit u e.start) old.2
      (λ k. read_alike old.0 [] old.1 k e (subst (Memᴰ e) entries m)) l

-- ---- the call

-- the records before are there, the new one is the last, and all but it read as before
pub record Extends (limit : ℕ) (before : List ℕ) (item : Item) (extended : List ℕ) : Type 0 where
  pub reads : reading limit extended ≡ record { entries = (reading limit before).entries ++ (entry_of (length before) (record_for item) ∷ []); ending = whole }
  pub same : (e : Entry) → Memᴰ e (reading limit before).entries → record_at limit extended e.start ≡ record_at limit before e.start

-- what is told of the pack s is the item: the value's bytes; and, at the places of the pack that are told, primary part, data, identifier,
-- and delete flag or delete identifier
pub record Tells (s : List ℕ) (item : Item) (p : Result Placed PlaceFault) : Type 0 where
  pub found : declared-record.Record
  pub value : Place
  pub is : p ≡ Ok (record { «record» = found; value = value })
  pub value_is : part_at s value ≡ value_of item
  pub holds : held.record_in s (granted (record_in s found)) ≡ held_of item

-- the record that was asked for is read in the front, and the records before it, where they were accepted, read as they did
pub record IsAdded (asked : Option Item) (before front : List ℕ) (p : Result Placed PlaceFault) : Type 0 where
  pub item : Item
  pub is_asked_lem : asked ≡ Some item
  pub tells : Tells front item p
  pub extends : (reading pack_limit before).ending ≡ whole → Extends pack_limit before item front

module _ (limit : ℕ) (small : limit < 2 ^ 32) (item : Item) (used n : ℕ) (buf : List ℕ) (wrote : written limit (length buf) used (Some item) ≡ granted n) where
  -- the record stands directly after the pack before, which is as long as was told
  pub record_appended : take n (buffer_after limit used (Some item) buf) ≡ take used buf ++ item_bytes item
  unfolding buffer_after
  record_appended =
      let w = (written_exactly limit (length buf) used item n).0 wrote in
      rw (wrote, ← w.3) (take_overwritten buf used (item_bytes item) w.2)

  pub told_inside : used ≤ length buf
  told_inside = let w = (written_exactly limit (length buf) used item n).0 wrote in omega arith

  pub total : length (take used buf ++ item_bytes item) ≤ limit
  total = let w = (written_exactly limit (length buf) used item n).0 wrote in rw (length-append, length-take-le used buf told_inside) w.1

  pub value_within : length (value_of item) ≤ limit
  value_within = omega (arith, total, length-append (take used buf) (item_bytes item), length_layout (record_for item))

  -- the value is what stands behind the header, to the end of the front
  pub value_last : drop (used + 32) (take n (buffer_after limit used (Some item) buf)) ≡ value_of item
  unfolding layout
  value_last =
      let r = record_for item in
      rw record_appended (sym (drop-drop 32 used (take used buf ++ item_bytes item))
      ∙ ap (drop 32) (drop_at (take used buf) (item_bytes item) used (length-take-le used buf told_inside)) ∙ drop_at (head r) r.value 32 (length_head r))

  -- what holds of every slice: it is bytes
  module _ (all : AllBytes (buffer_after limit used (Some item) buf)) where
    both : AllBytes (take used buf ++ item_bytes item)
    both = subst AllBytes record_appended (take_bytes n (buffer_after limit used (Some item) buf) all)

    pub before_bytes : AllBytes (take used buf)
    before_bytes = front_bytes (take used buf) (item_bytes item) both

    pub item_handed : AreBytes item
    unfolding layout
    item_handed = handed_bytes item (back_bytes (head (record_for item)) (value_of item) (back_bytes (take used buf) (item_bytes item) both))

    pub item_fits : Fits (record_for item)
    item_fits = fits limit small item item_handed ((written_exactly limit (length buf) used item n).0 wrote).0 value_within

    pub added_extends : (reading limit (take used buf)).ending ≡ whole → Extends limit (take used buf) item (take n (buffer_after limit used (Some item) buf))
    unfolding layouts entries_of
    added_extends accepted = rw record_appended (record {
      reads = behind limit (take used buf) (item_bytes item) before_bytes total accepted
          ∙ ap (λ (x : Reading). after (reading limit (take used buf)).entries (shift (length (take used buf)) x)) alone ∙ rw zero-add;
      same = accepted_alike limit (item_bytes item) (take used buf) before_bytes total accepted;
    })
      where
        alone : reading limit (item_bytes item) ≡ record { entries = entry_of 0 (record_for item) ∷ []; ending = whole }
        alone = layouts_accepted limit (item_bytes item) (omega (arith, total, length-append (take used buf) (item_bytes item)))
            (record_for item ∷ []) (item_fits, tt) (append-nil (item_bytes item))
