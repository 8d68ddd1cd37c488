-- When a part reads as a pack list, and as which: the account of specs/, both ways.
use Rattle.std.specs.Prelude.{ℕ, Bool, true, false, ◌↔◌, ◌≡◌, ltb}
use mathlib.Core.List.{List}
use Rattle.std.specs.Prelude.{Option, None, Some}
use Rattle.std.proofs.Math.Path.{refl}
use Rattle.std.proofs.Common.{sym, subst, ◌∙◌}
use Rattle.slices.specs.Logic.{absurd_numbers}
use Rattle.refusals.specs.Answers.{Answer, refused, granted}
use Rattle.msgpack.specs.Views.{byte_view}
use Rattle.identifier.specs.Ulid.{is_ulid}
use Rattle.identifier.specs.Identity.{Identity}
use Rattle.primary.specs.Parts.{block}
use Rattle.primary.specs.Exactly.{names_block, block_names}
use Rattle.pack_list.specs.Lists.{Entry, PackList, entries_under, list_repeats, all_of, is_filled, if_so, pack_list}
use Rattle.pack_list.specs.Laws.{combined, list_together}
use Rattle.pack_list.specs.Reading.{filled_is, is_filled_lem, all_pass, pass_all, ListReads, never}

module _ (s : List ℕ) (l : PackList) where
  list_reads : pack_list s ≡ granted l → ListReads s l
  list_reads h = by (block s) refl (entries_under byte_view s) refl (list_repeats byte_view s) refl (sym (list_together s) ∙ h)
    where
      ruled : (i : Identity) (es : List Entry) → block s ≡ granted i → entries_under byte_view s ≡ Some es → list_repeats byte_view s ≡ false
          → (t : Bool) → all_of (λ (e : Entry). is_ulid e.pack) es ≡ t → (u : Bool) → all_of is_filled es ≡ u
          → if_so t 18 (if_so u 21 (granted (record { identifier = i; entries = es }))) ≡ granted l → ListReads s l
      ruled i es b o r true p true f e =
          let same : record { identifier = i; entries = es } ≡ l = cc in
          subst (ListReads s) same
          (record {
            names = block_names s i b;
            there = o;
            once = r;
            packs = all_pass (λ (e : Entry). is_ulid e.pack) es p;
            filled = λ x m. filled_is x (all_pass is_filled es f x m);
          })
      ruled i es b o r true p false f e = absurd_numbers (cc)
      ruled i es b o r false p u f e = absurd_numbers (cc)

      by : (a : Answer Identity) → block s ≡ a → (entries : Option (List Entry)) → entries_under byte_view s ≡ entries
          → (repeated : Bool) → list_repeats byte_view s ≡ repeated → combined a entries repeated ≡ granted l → ListReads s l
      by (refused n) b entries o repeated r e = absurd (never n (ltb n 18) entries repeated e)
      by (granted i) b None o repeated r e = absurd_numbers (cc)
      by (granted i) b (Some es) o true r e = absurd_numbers (cc)
      by (granted i) b (Some es) o false r e =
          ruled i es b o r (all_of (λ (e : Entry). is_ulid e.pack) es) refl (all_of is_filled es) refl e

  reads_list : ListReads s l → pack_list s ≡ granted l
  reads_list r =
      list_together s ∙ rw (
        names_block s l.identifier r.names,
        r.there,
        r.once,
        pass_all (λ (e : Entry). is_ulid e.pack) l.entries r.packs,
        pass_all is_filled l.entries (λ x m. is_filled_lem x (r.filled x m)),
      )

  pub list_exactly : pack_list s ≡ granted l ↔ ListReads s l
  list_exactly = (list_reads, reads_list)
