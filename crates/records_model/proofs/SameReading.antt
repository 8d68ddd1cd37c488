-- What is read of a header and of a primary part is the same in values alike: in both the same keys repeat, and where none does all is read alike.
use Rattle.std.specs.Prelude.{ℕ, Bool, true, false, cond, ◌||◌, List, ◌≡◌, leb}
use Rattle.std.specs.Prelude.{Option, None, Some}
use Rattle.std.proofs.Math.Path.{refl, ap}
use Rattle.std.proofs.Common.{sym, ◌∙◌}
use Rattle.slices.specs.Logic.{neither_so}
use Rattle.refusals.specs.Answers.{Answer, refused}
use Rattle.msgpack.specs.Items.{depth_allowed}
use Rattle.msgpack.specs.Lookup.{Under, at_place}
use Rattle.msgpack.specs.Views.{repeats, Both, both, neither, SameUnder, both_found, both_missing, both_broken, repeats_alike, once_alike}
use Rattle.msgpack_model.specs.Values.{Value, depth, as_binary}
use Rattle.msgpack_model.specs.Views.{value_view}
use Rattle.identifier.specs.Identity.{Identity}
use Rattle.value.specs.Header.{primary_key, header_keys, secondary_key, Telling, telling, list_repeats, header_repeats, Header, header_by, tested}
use Rattle.value.specs.HeadersAlike.{header_repeats_alike, once_telling_alike}
use Rattle.primary.specs.Parts.{delete_id_key, version_keys, version_delete_keys, text_under, texts_under, deleted_under, Shape, shape_under, block_by, version_by, version_delete_by, block_repeats}
use Rattle.primary.specs.PartsAlike.{block_repeats_alike, once_block_alike, once_version_alike, once_version_delete_alike}
use Rattle.pack_list.specs.Lists.{Entry, entries_under, pack_list_by}
use Rattle.pack_list.specs.Lists as list
use Rattle.pack_list.specs.ListsAlike.{list_repeats_alike, once_list_alike}
use Rattle.records_model.specs.Alike.{Alike, AlikeBytes, same_depth, alike_binary}
use Rattle.records_model.proofs.Alike.{seen_alike}
use Rattle.records_model.specs.Header.{bytes_under, header}
use Rattle.records_model.specs.Primary.{if_shallow, block, version, version_delete, pack_list}
use Rattle.records_model.specs.AnswersAlike.{AnswersAlike, same_refusal, both_read, in_header_lem, in_part, same_answers, Refuses, by_type, by_22, both_refuse}
use Rattle.records_model.specs.SameReading.{SameHeader}

-- ---- the header

module _ {v w : Value} (x : Alike v w) (limit : ℕ) where
  same_bytes_lem : repeats value_view header_keys v ≡ false → Both AlikeBytes (bytes_under primary_key v) (bytes_under primary_key w)
  same_bytes_lem once = by (once_alike value_view value_view Alike seen_alike header_keys x once).0
    where
      by : {o p : Under Value} → SameUnder Alike o p → Both AlikeBytes (at_place None as_binary o) (at_place None as_binary p)
      by (both_found y) = alike_binary y
      by both_missing = neither
      by both_broken = neither

  once_header : header_repeats value_view v ≡ false → Both SameHeader (header limit v) (header limit w)
  unfolding header header_repeats
  once_header once =
      let own = (neither_so (repeats value_view header_keys v) (list_repeats value_view (value_view.under secondary_key v)) once).0 in
      rw (once_telling_alike value_view value_view Alike seen_alike limit v w x once) (by (same_bytes_lem own) (telling value_view limit w))
    where
      by : {o p : Option (List ℕ)} → Both AlikeBytes o p → (t : Option Telling) → Both SameHeader (header_by o t) (header_by p t)
      by (both y) (Some t) = both (record { primary = y; told = refl })
      by (both y) None = neither
      by neither t = neither

  pub same_header : AnswersAlike SameHeader (tested (header_repeats value_view v) (header limit v)) (tested (header_repeats value_view w) (header limit w))
  same_header = rw (← header_repeats_alike value_view value_view Alike seen_alike v w x) (by (header_repeats value_view v) refl)
    where
      refuses : (o : Option (Header (List ℕ))) → Refuses 11 (tested true o)
      refuses (Some h) = by_22
      refuses None = by_type

      once : {o p : Option (Header (List ℕ))} → Both SameHeader o p → AnswersAlike SameHeader (tested false o) (tested false p)
      once (both y) = both_read y
      once neither = same_refusal 11

      by : (r : Bool) → header_repeats value_view v ≡ r → AnswersAlike SameHeader (tested r (header limit v)) (tested r (header limit w))
      by true e = both_refuse in_header_lem (refuses (header limit v)) (refuses (header limit w))
      by false e = once (once_header e)

-- ---- the primary parts

-- of a depth that is allowed
shallow : {A : Type 0} {p q : Value} → Alike p q → (a b : Answer A) → AnswersAlike (λ c d. c ≡ d) a b
    → AnswersAlike (λ c d. c ≡ d) (if_shallow p a) (if_shallow q b)
shallow {A} {p} {q} x a b s = rw (same_depth x) (by (leb (depth q) depth_allowed))
  where
    by : (t : Bool) → AnswersAlike (λ (c d : A). c ≡ d) (cond t a (refused 16)) (cond t b (refused 16))
    by true = s
    by false = same_refusal 16

-- a reading that refuses with 17 or 22 where a key repeats, and is the same where none does
either_way : {A : Type 0} (f g : Bool → Answer A) (r : Bool) → Refuses 17 (f true) → Refuses 17 (g true) → (r ≡ false → f r ≡ g r)
    → AnswersAlike (λ a b. a ≡ b) (f r) (g r)
either_way f g true x y same = both_refuse in_part x y
either_way f g false x y same = rw (same refl) (same_answers (g false))

block_refuses : (s : Option Shape) → Refuses 17 (block_by s true)
block_refuses (Some s) = by_22
block_refuses None = by_type

version_refuses : (t : Option Identity) (d : Option Bool) → Refuses 17 (version_by t d true)
version_refuses (Some t) (Some d) = by_22
version_refuses (Some t) None = by_type
version_refuses None d = by_type

delete_refuses : (t : Option Identity) (d : Option (List ℕ)) → Refuses 17 (version_delete_by t d true)
delete_refuses (Some t) (Some d) = by_22
delete_refuses (Some t) None = by_type
delete_refuses None d = by_type

list_refuses : (s : Option Shape) (es : Option (List Entry)) → Refuses 17 (pack_list_by s es true)
list_refuses (Some s) (Some es) = by_22
list_refuses (Some s) None = by_type
list_refuses None es = by_type

module _ {p q : Value} (x : Alike p q) where
  pub same_block_lem : AnswersAlike (λ i j. i ≡ j) (block p) (block q)
  unfolding block
  same_block_lem =
      let r = block_repeats_alike value_view value_view Alike seen_alike p q x in
      shallow x _ _
      (rw (← r) (either_way (block_by (shape_under value_view p)) (block_by (shape_under value_view q)) (block_repeats value_view p)
      (block_refuses (shape_under value_view p)) (block_refuses (shape_under value_view q))
      (λ e. once_block_alike value_view value_view Alike seen_alike p q x e ∙ ap (block_by (shape_under value_view q)) (sym r))))

  pub same_version : AnswersAlike (λ i j. i ≡ j) (version p) (version q)
  unfolding version
  same_version =
      let r = repeats_alike value_view value_view Alike seen_alike version_keys x in
      shallow x _ _
      (rw (← r) (either_way (version_by (texts_under value_view p) (deleted_under value_view p)) (version_by (texts_under value_view q) (deleted_under value_view q))
      (repeats value_view version_keys p)
      (version_refuses (texts_under value_view p) (deleted_under value_view p)) (version_refuses (texts_under value_view q) (deleted_under value_view q))
      (λ e. once_version_alike value_view value_view Alike seen_alike p q x e
      ∙ ap (version_by (texts_under value_view q) (deleted_under value_view q)) (sym r))))

  pub same_version_delete : AnswersAlike (λ i j. i ≡ j) (version_delete p) (version_delete q)
  unfolding version_delete
  same_version_delete =
      let r = repeats_alike value_view value_view Alike seen_alike version_delete_keys x in
      shallow x _ _
      (rw (← r) (either_way (version_delete_by (texts_under value_view p) (text_under value_view delete_id_key p))
      (version_delete_by (texts_under value_view q) (text_under value_view delete_id_key q)) (repeats value_view version_delete_keys p)
      (delete_refuses (texts_under value_view p) (text_under value_view delete_id_key p))
      (delete_refuses (texts_under value_view q) (text_under value_view delete_id_key q))
      (λ e. once_version_delete_alike value_view value_view Alike seen_alike p q x e
      ∙ ap (version_delete_by (texts_under value_view q) (text_under value_view delete_id_key q)) (sym r))))

  pub same_pack_list : AnswersAlike (λ i j. i ≡ j) (pack_list p) (pack_list q)
  unfolding pack_list
  same_pack_list =
      let r = list_repeats_alike value_view value_view Alike seen_alike p q x in
      shallow x _ _
      (rw (← r) (either_way (pack_list_by (shape_under value_view p) (entries_under value_view p)) (pack_list_by (shape_under value_view q) (entries_under value_view q))
      (block_repeats value_view p || list.list_repeats value_view p)
      (list_refuses (shape_under value_view p) (entries_under value_view p)) (list_refuses (shape_under value_view q) (entries_under value_view q))
      (λ e. once_list_alike value_view value_view Alike seen_alike p q x e
      ∙ ap (pack_list_by (shape_under value_view q) (entries_under value_view q)) (sym r))))
