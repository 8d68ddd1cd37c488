-- The source lengths of an entry's blocks, said without a computation.
use Prim.Native.Nat.{ℕ, zero, suc, ◌+◌, ◌-◌, ◌≤◌, ◌<◌}
use Rattle.std.specs.Prelude.{Bool, true, false, cond, List, [], ◌∷◌, ◌↔◌, ◌≡◌, refl, leb, length}
use Rattle.std.specs.Prelude.{Option, None, Some}
use Rattle.std.proofs.Math.Path.{ap}
use Rattle.std.proofs.Common.{subst, not-suc-le-zero, le_of_suc-le-suc, arith, leb-true, le-leb}
use Rattle.std.proofs.Math.ListN.{get_or}
use Rattle.slices.specs.Logic.{absurd_numbers}
use Rattle.msgpack.specs.Readers.{Int, plus, minus}
use Rattle.msgpack.specs.Lookup.{if_there, over}
use Rattle.pack_list.specs.Lists.{Entry, sum}
use Rattle.pack_list.specs.Blocks.{blocks, gain, loss, is_counted}
use Rattle.pack_list.specs.Stride.{Counted, counted_is, is_counted_lem}
use Rattle.pack_list.specs.Lengths.{delta_of}
use Rattle.block_of_byte.specs.Finding.{moved, first_delta, other_deltas, sources_from, sources}

-- ---- the source lengths of an entry's blocks: the stride and its delta of every block but the last, and all of them fill the source range

-- of a stride and so many blocks before the last: the lengths of all of them
pub record SourceLengths (s whole last : ℕ) (ds : List Int) (ns : List ℕ) : Type 0 where
  pub count : length ns ≡ suc last
  pub fill : sum ns ≡ whole
  pub strided : (k : ℕ) → k < last → get_or ns k 0 + loss (delta_of ds k) ≡ s + gain (delta_of ds k)

abbrev pub IsSources : ℕ → Entry → List ℕ → Type 0
IsSources s e ns = SourceLengths s e.source.len (blocks e - 1) e.deltas ns

moved_exactly : (s : ℕ) (d : Int) (n : ℕ) → moved s d ≡ Some n ↔ (n + loss d ≡ s + gain d)
moved_exactly s (plus m) n = (λ e. let same : s + m ≡ n = cc in omega arith, λ e. ap Some (omega arith))
moved_exactly s (minus m) n = (λ e. below (leb m s) refl e, λ e. rw (le-leb m s (omega arith)) (ap Some (omega arith)))
  where
    below : (t : Bool) → leb m s ≡ t → cond t (Some (s - m)) None ≡ Some n → n + m ≡ s + 0
    below true l e = let same : s - m ≡ n = cc in omega (arith, leb-true m s l)
    below false l e = absurd_numbers (cc)

first_delta_lem : (ds : List Int) → first_delta ds ≡ delta_of ds 0
first_delta_lem [] = refl
first_delta_lem (d ∷ ds) = refl

other_deltas_lem : (ds : List Int) (k : ℕ) → delta_of (other_deltas ds) k ≡ delta_of ds (suc k)
other_deltas_lem [] k = refl
other_deltas_lem (d ∷ ds) k = refl

-- one block more in front
module _ (s left n last : ℕ) (ds : List Int) (ns : List ℕ) where
  record InFront : Type 0 where
    length_is : moved s (first_delta ds) ≡ Some n
    fits : n ≤ left
    others : SourceLengths s (left - n) last (other_deltas ds) ns

  put_in_front : InFront → SourceLengths s left (suc last) ds (n ∷ ns)
  unfolding sum
  put_in_front f =
      record {
        count = ap suc f.others.count;
        fill = let h = f.others.fill in let le = f.fits in omega arith;
        strided = each;
      }
    where
      each : (k : ℕ) → k < suc last → get_or (n ∷ ns) k 0 + loss (delta_of ds k) ≡ s + gain (delta_of ds k)
      each zero h = rw (first_delta_lem ds) at ((moved_exactly s (first_delta ds) n).0 f.length_is)
      each (suc k) h = rw (other_deltas_lem ds k) at (f.others.strided k (le_of_suc-le-suc h))

  taken_from_front : SourceLengths s left (suc last) ds (n ∷ ns) → InFront
  unfolding sum
  taken_from_front l =
      let fill = l.fill in
      record {
        length_is = (moved_exactly s (first_delta ds) n).1 (rw (first_delta_lem ds) (l.strided 0 (omega arith)));
        fits = omega arith;
        others = record {
          count = let c = l.count in omega arith;
          fill = omega arith;
          strided = λ k h. rw (other_deltas_lem ds k) (l.strided (suc k) (omega arith));
        };
      }

-- what there was, where there is an answer
module _ {A B : Type 0} where
  pub record There (o : Option A) (next : A → Option B) (b : B) : Type 0 where
    pub given : A
    pub is : o ≡ Some given
    pub answers : next given ≡ Some b

  pub there : (o : Option A) (next : A → Option B) (b : B) → if_there o next ≡ Some b → There o next b
  there (Some a) next b e = record { given = a; is = refl; answers = e }
  there None next b e = absurd_numbers (cc)

  there_over : (f : A → B) (o : Option A) (b : B) → over f o ≡ Some b → There o (λ a. Some (f a)) b
  there_over f (Some a) b e = record { given = a; is = refl; answers = e }
  there_over f None b e = absurd_numbers (cc)

passed : {A : Type 0} (t : Bool) (o : Option A) (a : A) → cond t o None ≡ Some a → (t ≡ true) × (o ≡ Some a)
passed true o a e = (refl, e)
passed false o a e = absurd_numbers (cc)

sources_are : (s left last : ℕ) (ds : List Int) (ns : List ℕ) → sources_from s left last ds ≡ Some ns → SourceLengths s left last ds ns
unfolding sources_from sum
sources_are s left zero ds ns e =
    let same : left ∷ [] ≡ ns = cc in
    subst (SourceLengths s left 0 ds) same (record { count = refl; fill = omega arith; strided = λ k h. absurd (not-suc-le-zero h) })
sources_are s left (suc last) ds ns e =
    let m = there (moved s (first_delta ds)) _ ns e in
    let n = m.given in
    let f = passed (leb n left) _ ns m.answers in
    let r = there_over (λ ms. n ∷ ms) (sources_from s (left - n) last (other_deltas ds)) ns f.1 in
    let same : n ∷ r.given ≡ ns = cc r.answers in
    subst (SourceLengths s left (suc last) ds) same
    (put_in_front s left n last ds r.given
    (record { length_is = m.is; fits = leb-true n left f.0; others = sources_are s (left - n) last (other_deltas ds) r.given r.is }))

are_sources : (s left last : ℕ) (ds : List Int) (ns : List ℕ) → SourceLengths s left last ds ns → sources_from s left last ds ≡ Some ns
unfolding sources_from sum
are_sources s left zero ds [] h = let c = h.count in absurd (omega arith)
are_sources s left zero ds (n ∷ []) h = let f = h.fill in let same : left ≡ n = omega arith in rw same
are_sources s left zero ds (n ∷ m ∷ ns) h = let c = h.count in absurd (omega arith)
are_sources s left (suc last) ds [] h = let c = h.count in absurd (omega arith)
are_sources s left (suc last) ds (n ∷ ns) h =
    let f = taken_from_front s left n last ds ns h in
    rw (f.length_is, le-leb n left f.fits, are_sources s (left - n) last (other_deltas ds) ns f.others)

pub sources_exactly : (s : ℕ) (e : Entry) (ns : List ℕ) → sources s e ≡ Some ns ↔ (Counted e × IsSources s e ns)
unfolding sources
sources_exactly s e ns = (
  λ h. let p = passed (is_counted e) _ ns h in (counted_is e p.0, sources_are s e.source.len (blocks e - 1) e.deltas ns p.1),
  λ h. rw (is_counted_lem e h.0) (are_sources s e.source.len (blocks e - 1) e.deltas ns h.1),
)

-- the lengths place a byte in no block
abbrev pub NoSources : ℕ → Entry → Type 0
NoSources s e = (ns : List ℕ) → Counted e → IsSources s e ns → ⊥

pub no_sources_exactly : (s : ℕ) (e : Entry) → sources s e ≡ None ↔ NoSources s e
no_sources_exactly s e = (λ h ns c i. absurd_numbers (let f = (sources_exactly s e ns).1 (c, i) in cc), go (sources s e) refl)
  where
    go : (o : Option (List ℕ)) → sources s e ≡ o → NoSources s e → o ≡ None
    go None f h = refl
    go (Some ns) f h = let g = (sources_exactly s e ns).0 f in absurd (h ns g.0 g.1)
