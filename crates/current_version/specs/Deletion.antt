-- Demand 3, deletion: a `vd` at the end of a pack answers as the pack from which the versions it names are taken out.
use Rattle.std.specs.Prelude.{ℕ, ◌≤◌, cond, ◌≡◌}
use Rattle.std.proofs.Math.Bool.{Bool, true, false}
use Rattle.std.proofs.Common.{sym}
use mathlib.Core.List.Memᴰ
use mathlib.Core.List.{List, [], ◌∷◌, ◌++◌, append-nil, append_assoc, Memᴰ}
use Rattle.std.proofs.Math.Logic.{⊎_elim}
use native.Mathlib.Omega.{arith}
use Rattle.std.proofs.Math.ListN.{length, length-append}
use Rattle.tlv.specs.Layout.{Record, layout, layouts}
use Rattle.pack.specs.Acceptance.{AllFit}
use Rattle.identifier.specs.Identity.{Identity, same_identity}
use Rattle.current_version.specs.Current.{Role, version, deletion, other, unreadable, role}
use Rattle.current_version.specs.Packs.{Readable}

-- ---- all `vr` records of one identifier, taken out

unfoldable pub is_version : Identity → Role → Bool
is_version i (version j delete_flag) = same_identity i j
is_version i (deletion j) = false
is_version i other = false
is_version i (unreadable n) = false

unfoldable pub taken_out : ℕ → Identity → List Record → List Record
taken_out limit i [] = []
taken_out limit i (r ∷ rs) = cond (is_version i (role limit r.tag r.value)) (taken_out limit i rs) (r ∷ taken_out limit i rs)

module _ (limit : ℕ) (i : Identity) where
  taken_out_member : (rs : List Record) (r : Record) → Memᴰ r (taken_out limit i rs) → Memᴰ r rs
  unfolding taken_out
  taken_out_member [] r m = absurd (Memᴰ.not-nil m)
  taken_out_member (s ∷ rs) r m = go (is_version i (role limit s.tag s.value)) (λ n. taken_out_member rs r n) m
    where
      go : (t : Bool) → (Memᴰ r (taken_out limit i rs) → Memᴰ r rs)
          → Memᴰ r (cond t (taken_out limit i rs) (s ∷ taken_out limit i rs)) → Memᴰ r (s ∷ rs)
      go true rest n = Memᴰ.tail (rest n)
      go false rest n = ⊎_elim (λ e. Memᴰ.head e) (λ k. Memᴰ.tail (rest k)) (Memᴰ.cases_cons n)

  taken_out_fit : (rs : List Record) → AllFit rs → AllFit (taken_out limit i rs)
  unfolding taken_out
  taken_out_fit [] fit = tt
  taken_out_fit (r ∷ rs) fit = go (is_version i (role limit r.tag r.value)) (taken_out_fit rs fit.1)
    where
      go : (t : Bool) → AllFit (taken_out limit i rs) → AllFit (cond t (taken_out limit i rs) (r ∷ taken_out limit i rs))
      go true rest = rest
      go false rest = (fit.0, rest)

  taken_out_shorter : (rs : List Record) → length (layouts (taken_out limit i rs)) ≤ length (layouts rs)
  unfolding taken_out layouts
  taken_out_shorter [] = omega arith
  taken_out_shorter (r ∷ rs) = go (is_version i (role limit r.tag r.value)) (taken_out_shorter rs)
    where
      go : (t : Bool) → length (layouts (taken_out limit i rs)) ≤ length (layouts rs)
          → length (layouts (cond t (taken_out limit i rs) (r ∷ taken_out limit i rs))) ≤ length (layout r ++ layouts rs)
      go true rest = omega (arith, length-append (layout r) (layouts rs))
      go false rest = omega (arith, length-append (layout r) (layouts rs), length-append (layout r) (layouts (taken_out limit i rs)))

  -- what is left is an accepted pack, whose `vr` and `vd` records can all be read
  pub taken_out_readable : (rs : List Record) → Readable limit rs → Readable limit (taken_out limit i rs)
  taken_out_readable rs a =
      record {
        fit = taken_out_fit rs a.fit;
        within = omega (arith, taken_out_shorter rs, a.within);
        all_read = λ r m t. a.all_read r (taken_out_member rs r m) t;
      }

-- ---- one record more at the end

pub layouts_with : (rs : List Record) (d : Record) → layouts (rs ++ (d ∷ [])) ≡ layouts rs ++ layout d
unfolding layouts
layouts_with [] d = append-nil (layout d)
layouts_with (r ∷ rs) d = rw (layouts_with rs d) (sym (append_assoc (layout r) (layouts rs) (layout d)))
