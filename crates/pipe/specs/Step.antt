-- The law of the step: what a call does for xs and then one for ys is what one does for both together, as far as it takes them. And what every call
-- keeps: a state in whose ranges each number is, and a refusal for ever.
use Rattle.std.specs.Prelude.{ℕ, suc, ◌+◌, ◌%◌, ◌^◌, ◌≤◌, ◌<◌, Bool, cond, not, ◌&&◌, ◌||◌, ◌≡◌, eqb, take as List-take}
use Rattle.std.proofs.Math.Bool.{true, false}
use mathlib.Core.List.{List, [], ◌∷◌, ◌++◌}
use Rattle.std.specs.Prelude.{Option, None, Some}
use Rattle.std.proofs.Math.Path.{refl, ap}
use Rattle.std.proofs.Common.{sym, subst, ◌∙◌, zero-add, add_assoc, length-append}
use native.Mathlib.Omega.{arith}
use borrow.Author.Tests.{le-ltb, le-leb, ltb-true, ltb-false, leb-true, leb-false, ne_eqb}
use Rattle.std.proofs.Math.Dec.{leb, ltb}
use Rattle.std.proofs.Math.ListN.{length}
use Rattle.slices.specs.Logic.{both, absurd_numbers}
use Rattle.refusals.specs.Sheet.{lowest}
use Rattle.xxh64.specs.Xxh64.{xxh64, add}
use Rattle.xxh64.specs.Parts.{Hashing, fresh, push, pushed, finished, pushed_count}
use Rattle.tlv.specs.Layout.{magic, field}
use Rattle.tlv.specs.Found.{header_rows, header_of}
use Rattle.pack.specs.Reading.{entry_at}
use Rattle.pipe.specs.Taking.{Phase, in_header, in_value, Going, Progress, going, refused, ended, in_phase, next_record, size_of, position, Next}
use Rattle.pipe.specs.Taking.{onward, completes, refuses, valued, opened, headed, grown, byte, Notice, wanted, complete, refusal, over}
use Rattle.pipe.specs.Taking.{malformed, Call, counted, later, proceed, advance, cut, close, notice_of, phase_fits, fits, unfit, take, finish}

-- what a call did, and where it wants more, what `rest` does
abbrev pub joined : Notice → Call → (Progress → Call) → Call
joined wanted c rest = later c.taken (rest c.after)
joined (complete e) c rest = c
joined (refusal n place) c rest = c
joined (over records) c rest = c
joined malformed c rest = c

abbrev pub and_then : Call → (Progress → Call) → Call
and_then c rest = joined c.notice c rest

-- ---- how many bytes are taken: all where more is wanted, at least one where a record is complete, else none

abbrev pub TakenOf : Notice → ℕ → ℕ → Type 0
TakenOf wanted taken n = taken ≡ n
TakenOf (complete e) taken n = (1 ≤ taken) × (taken ≤ n)
TakenOf (refusal number place) taken n = taken ≡ 0
TakenOf (over records) taken n = taken ≡ 0
TakenOf malformed taken n = taken ≡ 0

abbrev pub Takes : Call → ℕ → Type 0
Takes c n = TakenOf c.notice c.taken n

taken_later : (notice : Notice) (taken n : ℕ) → TakenOf notice taken n → TakenOf notice (counted notice (1 + taken)) (suc n)
taken_later wanted taken n h = omega arith
taken_later (complete e) taken n h = (omega arith, omega (arith, h.1))
taken_later (refusal number place) taken n h = refl
taken_later (over records) taken n h = refl
taken_later malformed taken n h = refl

module _ (limit : ℕ) where
  pub advance_taken : (p : Progress) (s : List ℕ) → Takes (advance limit p s) (length s)
  unfolding advance
  advance_taken (refused n place) s = refl
  advance_taken (ended records) s = refl
  advance_taken (going g) [] = refl
  advance_taken (going g) (b ∷ s) = go (byte limit g b) (λ next. advance_taken (going next) s)
    where
      go : (f : Next) → ((next : Going) → Takes (advance limit (going next) s) (length s))
          → Takes (proceed 1 f (λ next. advance limit (going next) s)) (suc (length s))
      go (onward next) more = taken_later (advance limit (going next) s).notice (advance limit (going next) s).taken (length s) (more next)
      go (completes e next) more = (omega arith, omega arith)
      go (refuses n place) more = refl

  pub take_taken : (p : Progress) (s : List ℕ) → Takes (take limit p s) (length s)
  unfolding take
  take_taken p s = go (fits limit p)
    where
      go : (t : Bool) → Takes (cond t (advance limit p s) (unfit p)) (length s)
      go true = advance_taken p s
      go false = refl

-- ---- the law of the step

counted_taken : (notice : Notice) (taken n : ℕ) → TakenOf notice taken n → counted notice taken ≡ taken
counted_taken wanted taken n h = refl
counted_taken (complete e) taken n h = refl
counted_taken (refusal number place) taken n h = sym h
counted_taken (over records) taken n h = sym h
counted_taken malformed taken n h = sym h

pub counted_later : (notice : Notice) (m n k : ℕ) → counted notice (m + counted notice (n + k)) ≡ counted notice (m + n + k)
counted_later wanted m n k = sym (add_assoc m n k)
counted_later (complete e) m n k = sym (add_assoc m n k)
counted_later (refusal number place) m n k = refl
counted_later (over records) m n k = refl
counted_later malformed m n k = refl

-- taken before both, or before the first
later_joined : (n : ℕ) (notice : Notice) (c : Call) (rest : Progress → Call) → c.notice ≡ notice
    → later n (joined notice c rest) ≡ joined notice (later n c) rest
later_joined n wanted c rest e =
    let d = rest c.after in
    let known : counted c.notice (n + c.taken) ≡ n + c.taken = ap (λ (w : Notice). counted w (n + c.taken)) e in
    (λ i. record { after = d.after; notice = d.notice; taken = counted_later d.notice n c.taken d.taken i })
    ∙ ap (λ (k : ℕ). later k d) (sym known)
later_joined n (complete f) c rest e = refl
later_joined n (refusal number place) c rest e = refl
later_joined n (over records) c rest e = refl
later_joined n malformed c rest e = refl

module _ (limit : ℕ) where
  pub none_before : (p : Progress) (s : List ℕ) → advance limit p s ≡ later 0 (advance limit p s)
  none_before p s =
      let c = advance limit p s in
      λ i. record {
        after = c.after;
        notice = c.notice;
        taken = (sym (counted_taken c.notice c.taken (length s) (advance_taken limit p s)) ∙ ap (counted c.notice) (sym (zero-add c.taken))) i;
      }

  pub advance_append : (p : Progress) (xs ys : List ℕ) → advance limit p (xs ++ ys) ≡ and_then (advance limit p xs) (λ q. advance limit q ys)
  unfolding advance
  advance_append (refused n place) xs ys = refl
  advance_append (ended records) xs ys = refl
  advance_append (going g) [] ys = none_before (going g) ys
  advance_append (going g) (b ∷ xs) ys = go (byte limit g b) (λ next. advance_append (going next) xs ys)
    where
      go : (f : Next) → ((next : Going) → advance limit (going next) (xs ++ ys) ≡ and_then (advance limit (going next) xs) (λ q. advance limit q ys))
          → proceed 1 f (λ next. advance limit (going next) (xs ++ ys))
          ≡ and_then (proceed 1 f (λ next. advance limit (going next) xs)) (λ q. advance limit q ys)
      go (onward next) more =
          let c = advance limit (going next) xs in
          ap (later 1) (more next) ∙ later_joined 1 c.notice c (λ q. advance limit q ys) refl
      go (completes e next) more = refl
      go (refuses n place) more = refl

-- ---- what a call leaves is well formed, where it found it so

-- one byte more of a value
pub push_count : (h : Hashing) (b : ℕ) → h.count + 1 < 2 ^ 64 → (push h b).count ≡ h.count + 1
unfolding pushed add
push_count h b l = pushed_count h (b ∷ []) (omega arith) ∙ omega arith

-- a refusal that a header gets is one of 2 to 6, and not 2 where it is whole
header_number : (t : List ℕ) (n : ℕ) → 32 ≤ length t → lowest (header_rows t) ≡ Some n → (3 ≤ n) × (n ≤ 6)
unfolding header_rows lowest
header_number t n long e =
    rows (not (eqb (field t 0 8) magic)) (not (eqb (field t 24 1) 0)) (not (eqb (field t 27 1) 8)) (not (eqb (field t 30 2) (xxh64 (List-take 30 t) % 65536)))
    (sym (rw (le-ltb (length t) 32 long)) ∙ e)
  where
    same : (m : ℕ) → ◌≡◌ {A = Option ℕ} (Some m) (Some n) → m ≡ n
    same m q = cc

    rows : (a b c d : Bool) → cond a (Some 3) (cond b (Some 4) (cond c (Some 5) (cond d (Some 6) None))) ≡ Some n → (3 ≤ n) × (n ≤ 6)
    rows true b c d q = let k = same 3 q in (omega arith, omega arith)
    rows false true c d q = let k = same 4 q in (omega arith, omega arith)
    rows false false true d q = let k = same 5 q in (omega arith, omega arith)
    rows false false false true q = let k = same 6 q in (omega arith, omega arith)
    rows false false false false q = absurd_numbers (cc)

-- given at the announced end only
abbrev pub at_end_only : ℕ → Bool
at_end_only n = eqb n 2 || eqb n 7

other_numbers : (n : ℕ) → 3 ≤ n → n ≤ 6 → at_end_only n ≡ false
other_numbers n l m = rw (ne_eqb n 2 (λ e. omega arith), ne_eqb n 7 (λ e. omega arith))

-- each number is in its range
pub record GoingFits (limit : ℕ) (g : Going) : Type 0 where
  pub phase : phase_fits g.phase ≡ true
  pub within : position g ≤ limit
  pub few : g.records ≤ g.start

pub record RefusedFits (limit n place : ℕ) : Type 0 where
  pub least : 1 ≤ n
  pub most : n ≤ 8
  pub within : place ≤ limit

module _ (limit : ℕ) where
  pub fits_going : (g : Going) → fits limit (going g) ≡ true → GoingFits limit g
  unfolding fits
  fits_going g e =
      let a = both (phase_fits g.phase) (leb (position g) limit && leb g.records g.start) e in
      let b = both (leb (position g) limit) (leb g.records g.start) a.1 in
      record { phase = a.0; within = leb-true (position g) limit b.0; few = leb-true g.records g.start b.1 }

  pub going_fits : (g : Going) → GoingFits limit g → fits limit (going g) ≡ true
  unfolding fits
  going_fits g f = rw (f.phase, le-leb (position g) limit f.within, le-leb g.records g.start f.few)

  pub refused_fits : (n place : ℕ) → RefusedFits limit n place → fits limit (refused n place) ≡ true
  unfolding fits
  refused_fits n place f = rw (le-leb 1 n f.least, le-leb n 8 f.most, le-leb place limit f.within)

  ended_fits : (records : ℕ) → records ≤ limit → fits limit (ended records) ≡ true
  unfolding fits
  ended_fits records l = le-leb records limit l

  -- and so with what a byte leads to, which stands at n; 2 and 7 are given at the announced end only
  abbrev pub NextFits : ℕ → Next → Type 0
  NextFits n (onward g) = GoingFits limit g × (position g ≡ n)
  NextFits n (completes e g) = GoingFits limit g × (position g ≡ n)
  NextFits n (refuses number place) = RefusedFits limit number place × (at_end_only number ≡ false)

  module _ (g : Going) (few : g.records ≤ g.start) where
    valued_fits : (head : List ℕ) (hashing : Hashing) → hashing.count ≤ (header_of head).length → g.start + (32 + hashing.count) ≤ limit
        → NextFits (g.start + (32 + hashing.count)) (valued g head hashing)
    unfolding valued
    valued_fits head hashing some_left within =
        go (ltb hashing.count (header_of head).length) refl (eqb (header_of head).hash (finished hashing))
      where
        go : (t : Bool) → ltb hashing.count (header_of head).length ≡ t → (u : Bool)
            → NextFits (g.start + (32 + hashing.count)) (cond t (onward (in_phase g (in_value head hashing)))
            (cond u (completes (entry_at g.start (header_of head)) (next_record g (header_of head).length)) (refuses 8 g.start)))
        go true e u = (record { phase = e; within = within; few = few }, refl)
        go false e true =
            let l = ltb-false hashing.count (header_of head).length e in
            (record { phase = refl; within = omega arith; few = omega arith }, omega arith)
        go false e false = (record { least = omega arith; most = omega arith; within = omega arith }, refl)

    headed_fits : (t : List ℕ) → length t ≤ 32 → g.start + length t ≤ limit → NextFits (g.start + length t) (headed g t)
    unfolding headed
    headed_fits t short within = go (ltb (length t) 32) refl (lowest (header_rows t)) refl
      where
        go : (u : Bool) → ltb (length t) 32 ≡ u → (o : Option ℕ) → lowest (header_rows t) ≡ o
            → NextFits (g.start + length t) (cond u (onward (in_phase g (in_header t))) (opened g t o))
        go true e o q = (record { phase = e; within = within; few = few }, refl)
        go false e None q =
            let l = ltb-false (length t) 32 e in
            let z : fresh.count ≡ 0 = (unfold fresh in refl) in
            let n : g.start + (32 + fresh.count) ≡ g.start + length t = omega arith in
            rw n at (valued_fits t fresh (omega arith) (omega arith))
        go false e (Some n) q =
            let l = ltb-false (length t) 32 e in
            let r = header_number t n l q in
            (record { least = omega (arith, r.0); most = omega (arith, r.1); within = omega arith }, other_numbers n r.0 r.1)

  module _ (small : limit < 2 ^ 64) where
    grown_fits : (g : Going) (p : Phase) (b : ℕ) → phase_fits p ≡ true → g.start + size_of p < limit → g.records ≤ g.start
        → NextFits (suc (g.start + size_of p)) (grown g p b)
    grown_fits g (in_header t) b fit l few =
        let k = ltb-true (length t) 32 fit in
        let n : g.start + length (t ++ (b ∷ [])) ≡ suc (g.start + length t) = rw length-append (omega arith) in
        rw n at (headed_fits g few (t ++ (b ∷ [])) (rw length-append (omega arith)) (rw length-append (omega arith)))
    grown_fits g (in_value head hashing) b fit l few =
        let k = ltb-true hashing.count (header_of head).length fit in
        let c = push_count hashing b (omega arith) in
        let n : g.start + (32 + (push hashing b).count) ≡ suc (g.start + (32 + hashing.count)) = omega arith in
        rw n at (valued_fits g few head (push hashing b) (omega arith) (omega arith))

    pub byte_fits : (g : Going) (b : ℕ) → GoingFits limit g → NextFits (suc (position g)) (byte limit g b)
    unfolding byte
    byte_fits g b f = go (leb limit (position g)) refl
      where
        go : (t : Bool) → leb limit (position g) ≡ t → NextFits (suc (position g)) (cond t (refuses 1 0) (grown g g.phase b))
        go true e = (record { least = omega arith; most = omega arith; within = omega arith }, refl)
        go false e = grown_fits g g.phase b f.phase (leb-false limit (position g) e) f.few

    pub advance_fits : (p : Progress) (s : List ℕ) → fits limit p ≡ true → fits limit (advance limit p s).after ≡ true
    unfolding advance
    advance_fits (refused n place) s f = f
    advance_fits (ended records) s f = f
    advance_fits (going g) [] f = f
    advance_fits (going g) (b ∷ s) f = go (byte limit g b) (byte_fits g b (fits_going g f)) (λ next. advance_fits (going next) s)
      where
        go : (x : Next) → NextFits (suc (position g)) x
            → ((next : Going) → fits limit (going next) ≡ true → fits limit (advance limit (going next) s).after ≡ true)
            → fits limit (proceed 1 x (λ next. advance limit (going next) s)).after ≡ true
        go (onward next) h more = more next (going_fits next h.0)
        go (completes e next) h more = going_fits next h.0
        go (refuses n place) h more = refused_fits n place h.0

-- ---- the same of calls, on every state

module _ (limit : ℕ) (p : Progress) where
  pub take_fit : (s : List ℕ) → fits limit p ≡ true → take limit p s ≡ advance limit p s
  unfolding take
  take_fit s f = rw f

  pub take_unfit : (s : List ℕ) → fits limit p ≡ false → take limit p s ≡ unfit p
  unfolding take
  take_unfit s f = rw f

module _ (limit : ℕ) (small : limit < 2 ^ 64) where
  pub take_fits : (p : Progress) (s : List ℕ) → fits limit p ≡ true → fits limit (take limit p s).after ≡ true
  take_fits p s f = rw (take_fit limit p s f) (advance_fits limit small p s f)

  -- THE LAW OF THE STEP
  pub take_append : (p : Progress) (xs ys : List ℕ) → take limit p (xs ++ ys) ≡ and_then (take limit p xs) (λ q. take limit q ys)
  take_append p xs ys = go (fits limit p) refl
    where
      again : (notice : Notice) (c : Call) → fits limit c.after ≡ true → joined notice c (λ q. advance limit q ys) ≡ joined notice c (λ q. take limit q ys)
      again wanted c f = ap (later c.taken) (sym (take_fit limit c.after ys f))
      again (complete e) c f = refl
      again (refusal n place) c f = refl
      again (over records) c f = refl
      again malformed c f = refl

      go : (t : Bool) → fits limit p ≡ t → take limit p (xs ++ ys) ≡ and_then (take limit p xs) (λ q. take limit q ys)
      go true f =
          let c = advance limit p xs in
          rw (take_fit limit p (xs ++ ys) f, take_fit limit p xs f) (advance_append limit p xs ys ∙ again c.notice c (advance_fits limit small p xs f))
      go false f = rw (take_unfit limit p (xs ++ ys) f, take_unfit limit p xs f)

-- ---- a refusal, and the verdict at the announced end, are given again at every later call of either kind, with nothing taken

-- what a call on it answers
abbrev pub standing : Progress → Call
standing p = record { after = p; notice = notice_of p; taken = 0 }

-- a call that takes no bytes for good answers what it leaves
abbrev pub Stands : Notice → Call → Type 0
Stands wanted c = Unit {0}
Stands (complete e) c = Unit {0}
Stands (refusal n place) c = c ≡ standing (refused n place)
Stands (over records) c = c ≡ standing (ended records)
Stands malformed c = ⊥

stands_later : (notice : Notice) (c : Call) → Stands notice c → Stands notice (later 1 c)
stands_later wanted c h = tt
stands_later (complete e) c h = tt
stands_later (refusal n place) c h = ap (later 1) h
stands_later (over records) c h = ap (later 1) h
stands_later malformed c h = h

module _ (limit : ℕ) where
  advance_stands : (p : Progress) (s : List ℕ) → Stands (advance limit p s).notice (advance limit p s)
  unfolding advance
  advance_stands (refused n place) s = refl
  advance_stands (ended records) s = refl
  advance_stands (going g) [] = tt
  advance_stands (going g) (b ∷ s) = go (byte limit g b) (λ next. advance_stands (going next) s)
    where
      go : (f : Next) → ((next : Going) → Stands (advance limit (going next) s).notice (advance limit (going next) s))
          → Stands (proceed 1 f (λ next. advance limit (going next) s)).notice (proceed 1 f (λ next. advance limit (going next) s))
      go (onward next) more = stands_later (advance limit (going next) s).notice (advance limit (going next) s) (more next)
      go (completes e next) more = tt
      go (refuses n place) more = refl

  -- of a well formed state
  pub take_stands : (p : Progress) (s : List ℕ) → fits limit p ≡ true → Stands (take limit p s).notice (take limit p s)
  take_stands p s f = rw (take_fit limit p s f) (advance_stands p s)

  -- a verdict stays
  pub take_standing : (p : Progress) (s : List ℕ) → fits limit p ≡ true → close p ≡ p → take limit p s ≡ standing p
  unfolding take advance
  take_standing (refused n place) s f e = rw f
  take_standing (ended records) s f e = rw f
  take_standing (going g) s f e = never g.phase e
    where
      never : (p : Phase) {A : Type 0} → cut g p ≡ going g → A
      never (in_header []) q = absurd_numbers (cc)
      never (in_header (b ∷ t)) q = absurd_numbers (cc)
      never (in_value head hashing) q = absurd_numbers (cc)

  pub finish_standing : (p : Progress) → fits limit p ≡ true → close p ≡ p → finish limit p ≡ standing p
  unfolding finish
  finish_standing p f e = rw (f, e)

  cut_close : (g : Going) (p : Phase) → close (cut g p) ≡ cut g p
  cut_close g (in_header []) = refl
  cut_close g (in_header (b ∷ t)) = refl
  cut_close g (in_value head hashing) = refl

  close_close : (p : Progress) → close (close p) ≡ close p
  close_close (going g) = cut_close g g.phase
  close_close (refused n place) = refl
  close_close (ended records) = refl

  cut_fits : (g : Going) (p : Phase) → g.start ≤ limit → g.records ≤ g.start → fits limit (cut g p) ≡ true
  cut_fits g (in_header []) l m = ended_fits limit g.records (omega arith)
  cut_fits g (in_header (b ∷ t)) l m = refused_fits limit 2 g.start (record { least = omega arith; most = omega arith; within = l })
  cut_fits g (in_value head hashing) l m = refused_fits limit 7 g.start (record { least = omega arith; most = omega arith; within = l })

  -- what the announced end leaves fits too
  pub close_fits : (p : Progress) → fits limit p ≡ true → fits limit (close p) ≡ true
  close_fits (going g) f = let h = fits_going limit g f in cut_fits g g.phase (omega (arith, h.within)) h.few
  close_fits (refused n place) f = f
  close_fits (ended records) f = f

-- every later call, of either kind, answers the same, takes nothing and leaves it as it is
pub record ForEver (limit : ℕ) (p : Progress) : Type 0 where
  pub taking : (s : List ℕ) → take limit p s ≡ standing p
  pub announcing : finish limit p ≡ standing p

-- THE THEOREMS
pub refused_for_ever : (limit : ℕ) → limit < 2 ^ 64 → (p : Progress) (s : List ℕ) (n place : ℕ) → (take limit p s).notice ≡ refusal n place
    → (take limit p s ≡ standing (refused n place)) × ForEver limit (refused n place)
refused_for_ever limit small p s n place e = go (fits limit p) refl
  where
    go : (t : Bool) → fits limit p ≡ t → (take limit p s ≡ standing (refused n place)) × ForEver limit (refused n place)
    go true f =
        let it : take limit p s ≡ standing (refused n place) = subst (λ (w : Notice). Stands w (take limit p s)) e (take_stands limit p s f) in
        let fit : fits limit (refused n place) ≡ true = subst (λ (c : Call). fits limit c.after ≡ true) it (take_fits limit small p s f) in (
          it,
          record {
            taking = λ t. take_standing limit (refused n place) t fit refl;
            announcing = finish_standing limit (refused n place) fit refl;
          },
        )
    go false f = absurd_numbers (let u = take_unfit limit p s f in cc)

pub ended_for_ever : (limit : ℕ) (p : Progress) → fits limit p ≡ true → (finish limit p ≡ standing (close p)) × ForEver limit (close p)
unfolding finish
ended_for_ever limit p f =
    let fit = close_fits limit p f in
    let stays = close_close limit p in (
      rw f,
      record {
        taking = λ t. take_standing limit (close p) t fit stays;
        announcing = finish_standing limit (close p) fit stays;
      },
    )
