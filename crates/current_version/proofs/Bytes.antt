-- Demand 3 over the bytes of packs: records are the byte strings that a reading finds there.
use Rattle.std.specs.Prelude.{ℕ, ◌+◌, ◌≤◌, Bool, true, false, cond, ◌≡◌, refl, length, drop}
use mathlib.Core.List.Memᴰ
use mathlib.Core.List.{List, [], ◌∷◌, ◌++◌, map, Memᴰ}
use Rattle.std.proofs.Common.{sym, ap, subst, subst₂, ◌∙◌}
use Rattle.slices.specs.Bytes.{AllBytes}
use Rattle.refusals.specs.Answers as refusals
use Rattle.tlv.specs.Layout.{Record, Fits, layout, layouts}
use Rattle.pack.specs.Reading.{Reading}
use Rattle.pack.specs.Acceptance.{entries_of}
use Rattle.pack.proofs.Acceptance.{layouts_accepted}
use Rattle.identifier.specs.Identity.{Identity}
use Rattle.records.specs.Record as records
use Rattle.records.specs.Record.{version_delete_tag, read_record}
use Rattle.current_version.specs.Current.{role, value_of, is_name, lookup}
use Rattle.current_version.specs.Packs.{ReadablePack, SameAnswer, of_entry, of_record, value_standing, rest_standing, tags_and_values, readable_pack, pack_readable}
use Rattle.current_version.specs.Deletion.{is_version, taken_out, taken_out_readable, layouts_with}
use Rattle.current_version.proofs.Deletion.{records_answer_as_taken_out}
use Rattle.current_version.specs.Order.{SameRecords, OneValue}
use Rattle.current_version.proofs.Order.{order_plays_no_part}
use Rattle.current_version.specs.Bytes.{bytes_standing, kept, taken_out_of, times_in, SameRecordsIn, times_standing, OneValueIn, Whole}

-- ---- all `vr` records of one identifier, taken out: the others byte for byte, end to end and in their order

kept_standing : (limit : ℕ) (i : Identity) (at : ℕ) (rs : List Record) (s : List ℕ) → drop at s ≡ layouts rs
    → kept limit i s (entries_of at rs) ≡ layouts (taken_out limit i rs)
unfolding kept taken_out layouts entries_of
kept_standing limit i at [] s e = refl
kept_standing limit i at (r ∷ rs) s e =
    rw (value_standing at r rs s e, bytes_standing at r rs s e, kept_standing limit i (at + length (layout r)) rs s (rest_standing at r rs s e))
    (go (is_version i (role limit r.tag r.value)))
  where
    go : (t : Bool) → cond t (layouts (taken_out limit i rs)) (layout r ++ layouts (taken_out limit i rs))
        ≡ layouts (cond t (taken_out limit i rs) (r ∷ taken_out limit i rs))
    go true = refl
    go false = refl

-- ---- the theorems

whole_pack : (limit : ℕ) (s : List ℕ) → AllBytes s → ReadablePack limit s → Whole limit s
whole_pack limit s bytes a =
    let l = pack_readable limit s bytes a in
    let within : length s ≤ limit = subst (λ t. length t ≤ limit) l.2 l.1.within in
    record { rs = l.0; readable = l.1; bytes = l.2; entries = ap (λ (r : Reading). r.entries) (layouts_accepted limit s within l.0 l.1.fit l.2) }

taken_out_is : (limit : ℕ) (i : Identity) (s : List ℕ) (w : Whole limit s) → layouts (taken_out limit i w.rs) ≡ taken_out_of limit i s
unfolding taken_out_of
taken_out_is limit i s w = sym (ap (kept limit i s) w.entries ∙ kept_standing limit i 0 w.rs s (sym w.bytes))

-- what is left when versions are taken out is such a pack again
pub taken_out_lem : (limit : ℕ) (i : Identity) (s : List ℕ) → AllBytes s → ReadablePack limit s → ReadablePack limit (taken_out_of limit i s)
taken_out_lem limit i s bytes a =
    let w = whole_pack limit s bytes a in
    readable_pack limit (taken_out_of limit i s) (taken_out limit i w.rs) (taken_out_readable limit i w.rs w.readable) (taken_out_is limit i s w)

-- DELETION
pub deletion_answers_as_taken_out : (limit : ℕ) (s : List ℕ) (d : Record) (x : records.Record) (bucket object : List ℕ)
    → AllBytes s → ReadablePack limit s → Fits d → d.tag ≡ version_delete_tag
    → read_record limit version_delete_tag d.value ≡ refusals.granted x → length (s ++ layout d) ≤ limit → is_name bucket object ≡ true
    → SameAnswer (lookup limit (s ++ layout d) bucket object) (lookup limit (taken_out_of limit x.contents.identifier s) bucket object)
deletion_answers_as_taken_out limit s d x bucket object bytes a fits tag e within name =
    let w = whole_pack limit s bytes a in
    let i : Identity = x.contents.identifier in
    let after : layouts (w.rs ++ (d ∷ [])) ≡ s ++ layout d = layouts_with w.rs d ∙ ap (λ t. t ++ layout d) w.bytes in
    subst₂ (λ t u. SameAnswer (lookup limit t bucket object) (lookup limit u bucket object)) after (taken_out_is limit i s w)
    (records_answer_as_taken_out limit w.rs d x bucket object w.readable fits tag e (subst (λ t. length t ≤ limit) (sym after) within) name)

one_value : (limit : ℕ) (s : List ℕ) (w : Whole limit s) → OneValueIn limit s → OneValue limit w.rs
one_value limit s w one r t i f g m n p q =
    let d = Memᴰ.of_map (of_entry s) (entries_of 0 w.rs) (there r m) in
    let e = Memᴰ.of_map (of_entry s) (entries_of 0 w.rs) (there t n) in
    let values : value_of s d.0 ≡ value_of s e.0 =
    one d.0 e.0 i f g (subst (Memᴰ d.0) (sym w.entries) d.1) (subst (Memᴰ e.0) (sym w.entries) e.1)
    (ap (λ (x : ℕ × List ℕ). role limit x.0 x.1) d.2 ∙ p) (ap (λ (x : ℕ × List ℕ). role limit x.0 x.1) e.2 ∙ q) in
    sym (ap (λ (x : ℕ × List ℕ). x.1) d.2) ∙ values ∙ ap (λ (x : ℕ × List ℕ). x.1) e.2
  where
    there : (r : Record) → Memᴰ r w.rs → Memᴰ (of_record r) (map (of_entry s) (entries_of 0 w.rs))
    there r m = subst (Memᴰ (of_record r)) (sym (tags_and_values 0 w.rs s (sym w.bytes))) (Memᴰ.map of_record m)

-- ORDER
pub rearranged_packs_answer_alike : (limit : ℕ) (s t bucket object : List ℕ)
    → AllBytes s → AllBytes t → ReadablePack limit s → ReadablePack limit t → SameRecordsIn limit s t → OneValueIn limit s → is_name bucket object ≡ true
    → SameAnswer (lookup limit s bucket object) (lookup limit t bucket object)
rearranged_packs_answer_alike limit s t bucket object b c p q same one name =
    let v = whole_pack limit s b p in
    let w = whole_pack limit t c q in
    let often : SameRecords v.rs w.rs = λ bytes.
    sym (times_standing bytes 0 v.rs s (sym v.bytes)) ∙ ap (times_in bytes s) (sym v.entries) ∙ same bytes
    ∙ ap (times_in bytes t) w.entries ∙ times_standing bytes 0 w.rs t (sym w.bytes) in
    subst₂ (λ x y. SameAnswer (lookup limit x bucket object) (lookup limit y bucket object)) v.bytes w.bytes
    (order_plays_no_part limit v.rs w.rs bucket object v.readable w.readable often (one_value limit s v one) name)
