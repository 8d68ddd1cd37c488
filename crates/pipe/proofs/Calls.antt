-- What the code's tests say of a call, and that its answer is the definition's.
use Prim.Native.Nat.{ℕ, suc, ◌+◌, ◌-◌, ◌^◌, ◌≤◌, ◌<◌, zero, min}
use mathlib.Core.Bool.{true, false, ◌&&◌}
use mathlib.Core.List.{List, [], ◌∷◌, ◌++◌}
use mathlib.Core.Path.{◌≡◌, refl, sym, ap, ◌∙◌}
use native.Mathlib.Omega.{arith}
use borrow.Author.Tests.{lt-ltb, le-ltb, ltb-true, lt-leb, eq-eqb, ne_eqb}
use lib.Dec.{leb, lit<}
use lib.ListN.{length, take, drop, length-append, length-take, drop_of_length-le}
use lib.Seq.{length-take-le, take_all}
use Rattle.refusals.specs.Sheet.{lowest}
use Rattle.xxh64.specs.Xxh64.{add}
use Rattle.xxh64.specs.Parts.{Hashing, hashing_of, fresh, pushed, finished, pushed_count}
use Rattle.tlv.specs.Found.{found, fault, header, header_rows, header_of, fields_of, found_unless_lem, fault_unless}
use Rattle.tlv.specs.declared.RecordHeader.{RecordHeader}
use Rattle.pack.specs.Reading.{entry_at}
use Rattle.pipe.specs.Limit.{pipe_limit}
use Rattle.pipe.specs.Taking.{in_header, in_value, Going, Progress, going, ended, in_phase, Next, valued, opened, headed, wanted, complete, over, Call, refusing, proceed, stepped, advance, close, notice_of, fits, finish}
use Rattle.pipe.specs.Taking.{take as take_call}
use Rattle.pipe.specs.Step.{GoingFits, fits_going, none_before, take_fit, standing, take_standing, finish_standing}
use Rattle.pipe.specs.States.{record_at, progress_in, progress_of}
use Rattle.pipe.specs.declared.State.{State}
use Rattle.pipe.specs.declared.Phase.{Phase}
use Rattle.pipe.proofs.Bulk.{value_within, value_past, value_open, header_within, header_past, header_open}

small : pipe_limit < 2 ^ 64
small = lit< tt

-- 32 bytes are a header
pub fields_whole : (head : List ℕ) → length head ≡ 32 → fields_of head ≡ header_of head
unfolding fields_of
fields_whole head long = rw (le-ltb (length head) 32 (omega arith))

-- what a step of the code does with the rest of a part
abbrev pub goes_on : List ℕ → Going → Call
goes_on part next = advance pipe_limit (going next) part

-- ---- a value, from its header's fields f

module _ (g : Going) (head : List ℕ) (long : length head ≡ 32) (f : RecordHeader) (fields : f ≡ fields_of head) (hashing : Hashing) where
  is : f ≡ header_of head
  is = fields ∙ fields_whole head long

  pub length_is : f.length ≡ (header_of head).length
  length_is = ap (λ (h : RecordHeader). h.length) is

  module _ (n : ℕ) where
    pub settle_more : hashing.count < f.length → record { after = going (in_phase g (in_value head hashing)); notice = wanted; taken = n } ≡ stepped n (valued g head hashing)
    unfolding valued
    settle_more l = rw (lt-ltb hashing.count (header_of head).length (omega (arith, length_is)))

    module _ (l : f.length ≤ hashing.count) (m : ℕ) (hash : m ≡ finished hashing) where
      pub settle_differs : (f.hash ≡ m → ⊥) → refusing 8 g.start ≡ stepped n (valued g head hashing)
      unfolding valued
      settle_differs d =
          rw (
            le-ltb hashing.count (header_of head).length (omega (arith, length_is)),
            ne_eqb (header_of head).hash (finished hashing) (λ e. d (ap (λ (h : RecordHeader). h.hash) is ∙ e ∙ sym hash)),
          )

      pub settle_whole : f.hash ≡ m
          → record {
            after = going (record { start = g.start + 32 + f.length; records = g.records + 1; phase = in_header [] });
            notice = complete (entry_at g.start f);
            taken = n;
          } ≡ stepped n (valued g head hashing)
      unfolding valued
      settle_whole e =
          let one : g.records + 1 ≡ suc g.records = omega arith in
          rw (
            le-ltb hashing.count (header_of head).length (omega (arith, length_is)),
            eq-eqb (header_of head).hash (finished hashing) (sym (ap (λ (h : RecordHeader). h.hash) is) ∙ e ∙ hash),
          )
          (λ i. record {
            after = going (record { start = g.start + 32 + (is i).length; records = one i; phase = in_header [] });
            notice = complete (entry_at g.start (is i));
            taken = n;
          })

  module _ (part : List ℕ) (taken m : ℕ) (least : m ≡ min (f.length - hashing.count) (length part))
      (left : hashing.count ≤ (header_of head).length) (within : g.start + (32 + hashing.count) ≤ pipe_limit) where
    pub value_refuses : pipe_limit - (g.start + 32 + hashing.count) < m → refusing 1 0 ≡ proceed taken (valued g head hashing) (goes_on part)
    value_refuses past = sym (value_past pipe_limit small g head part hashing taken left within (omega (arith, length_is)))

    module _ (room : m ≤ pipe_limit - (g.start + 32 + hashing.count)) (after : Hashing) (updated : after ≡ pushed hashing (take m part)) where
      pub value_settles : stepped (taken + m) (valued g head after) ≡ proceed taken (valued g head hashing) (goes_on part)
      value_settles =
          ap (λ (h : Hashing). stepped (taken + m) (valued g head h)) updated
          ∙ sym (value_within pipe_limit small g head part hashing taken m (omega (arith, length_is)) left (omega arith))

      pub value_reached : after.count ≡ hashing.count + m
      unfolding add
      value_reached =
          let n : length (take m part) ≡ m = length-take-le m part (omega arith) in
          ap (λ (h : Hashing). h.count) updated ∙ pushed_count hashing (take m part) (omega arith) ∙ omega arith

-- ---- a header

module _ (g : Going) (head part : List ℕ) (taken : ℕ) where
  pub header_refuses : (n : ℕ) → header head ≡ fault n → refusing n g.start ≡ proceed taken (opened g head (lowest (header_rows head))) (goes_on part)
  unfolding header
  header_refuses n e = rw (fault_unless (lowest (header_rows head)) (header_of head) n e)

  pub header_passes : (h : RecordHeader) → header head ≡ found h
      → proceed taken (valued g head fresh) (goes_on part) ≡ proceed taken (opened g head (lowest (header_rows head))) (goes_on part)
  unfolding header
  header_passes h e = rw (found_unless_lem (lowest (header_rows head)) (header_of head) h e).0

module _ (g : Going) (t part : List ℕ) (short : length t < 32) (m : ℕ) (least : m ≡ min (32 - length t) (length part))
    (within : g.start + length t ≤ pipe_limit) where
  pub part_refuses : pipe_limit - (g.start + length t) < m → refusing 1 0 ≡ advance pipe_limit (going (in_phase g (in_header t))) part
  part_refuses past = sym (header_past pipe_limit small g part t short within (omega arith))

  module _ (room : m ≤ pipe_limit - (g.start + length t)) (after : List ℕ) (filled : after ≡ t ++ take m part) where
    pub length_after : length after ≡ length t + m
    length_after = ap length filled ∙ length-append t (take m part) ∙ ap (λ (n : ℕ). length t + n) (length-take-le m part (omega arith))

    taken_in : proceed m (headed g after) (goes_on (drop m part)) ≡ advance pipe_limit (going (in_phase g (in_header t))) part
    taken_in =
        let none_yet : 0 + m ≡ m = omega arith in
        ap (λ (s : List ℕ). proceed m (headed g s) (goes_on (drop m part))) filled
        ∙ ap (λ (n : ℕ). proceed n (headed g (t ++ take m part)) (goes_on (drop m part))) (sym none_yet)
        ∙ sym (none_before pipe_limit (going (in_phase g (in_header t))) part ∙ header_within pipe_limit small g part t 0 m short least (omega arith))

    -- it wants more
    pub part_held : length t + m < 32
        → record { after = going (in_phase g (in_header after)); notice = wanted; taken = m } ≡ advance pipe_limit (going (in_phase g (in_header t))) part
    unfolding advance
    part_held l =
        let rest : drop m part ≡ [] = drop_of_length-le part {i = m} (omega arith) in
        let none_more : m ≡ m + 0 = omega arith in
        (λ i. record { after = going (in_phase g (in_header after)); notice = wanted; taken = none_more i })
        ∙ (rw (header_open pipe_limit small g after (omega (arith, length_after)), rest) at taken_in)

    -- it is whole
    pub part_whole : 32 ≤ length t + m
        → proceed m (opened g after (lowest (header_rows after))) (goes_on (drop m part)) ≡ advance pipe_limit (going (in_phase g (in_header t))) part
    unfolding headed
    part_whole l = rw (le-ltb (length after) 32 (omega (arith, length_after))) at taken_in

-- ---- whether a state is well formed, by its phase

module _ (s : State) (header : s.phase ≡ Phase.Header) (long : length s.header ≡ 32) where
  pub header_unfit : 32 ≤ s.held → false ≡ fits pipe_limit (progress_of s)
  unfolding fits
  header_unfit l = rw (header, take_all s.held s.header (omega arith), long)

  pub header_fit : s.held < 32 → (leb (s.start + s.held) pipe_limit && leb s.records s.start) ≡ fits pipe_limit (progress_of s)
  unfolding fits
  header_fit l = rw (header, length-take-le s.held s.header (omega arith), lt-ltb s.held 32 l)

module _ (s : State) (value : s.phase ≡ Phase.Value) where
  pub value_unfit : (header_of s.header).length ≤ s.hash.count → false ≡ fits pipe_limit (progress_of s)
  unfolding fits hashing_of
  value_unfit l = rw (value, le-ltb s.hash.count (header_of s.header).length l)

  module _ (left : s.hash.count < (header_of s.header).length) where
    pub value_fit : (leb (s.start + (32 + s.hash.count)) pipe_limit && leb s.records s.start) ≡ fits pipe_limit (progress_of s)
    unfolding fits hashing_of
    value_fit = rw (value, lt-ltb s.hash.count (header_of s.header).length left)

    pub value_far : pipe_limit < s.hash.count → false ≡ fits pipe_limit (progress_of s)
    value_far l = rw (lt-leb (s.start + (32 + s.hash.count)) pipe_limit (omega arith)) at value_fit

-- ---- a call on a well formed state, by its phase

module _ (s : State) (fit : fits pipe_limit (progress_of s) ≡ true) where
  take_is : (part : List ℕ) (p : Progress) → progress_of s ≡ p → advance pipe_limit p part ≡ take_call pipe_limit (progress_of s) part
  take_is part p e = ap (λ (q : Progress). advance pipe_limit q part) (sym e) ∙ sym (take_fit pipe_limit (progress_of s) part fit)

  finish_is : (p : Progress) → progress_of s ≡ p → record { after = close p; notice = notice_of (close p); taken = 0 } ≡ finish pipe_limit (progress_of s)
  unfolding finish
  finish_is p e = rw (fit, e)

  module _ (header : s.phase ≡ Phase.Header) where
    in_header_lem : progress_of s ≡ going (record_at s (in_header (take s.held s.header)))
    in_header_lem = rw header

    pub header_facts : length s.header ≡ 32 → (s.held < 32) × (s.start + s.held ≤ pipe_limit) × (s.records ≤ s.start)
    header_facts long =
        let f = fits_going pipe_limit (record_at s (in_header (take s.held s.header))) (rw in_header_lem at fit) in
        let n = length-take s.held s.header in
        let l = ltb-true (length (take s.held s.header)) 32 f.phase in
        (omega arith, omega (arith, f.within), f.few)

    pub header_is : (part : List ℕ)
        → advance pipe_limit (going (record_at s (in_header (take s.held s.header)))) part ≡ take_call pipe_limit (progress_of s) part
    header_is part = take_is part (going (record_at s (in_header (take s.held s.header)))) in_header_lem

    pub empty_ends : s.held ≡ 0 → record { after = ended s.records; notice = over s.records; taken = 0 } ≡ finish pipe_limit (progress_of s)
    empty_ends e = finish_is (going (record_at s (in_header []))) (in_header_lem ∙ ap (λ (n : ℕ). going (record_at s (in_header (take n s.header)))) e)

    pub header_ends : length s.header ≡ 32 → (s.held ≡ 0 → ⊥) → refusing 2 s.start ≡ finish pipe_limit (progress_of s)
    header_ends long some-held = go s.held s.header in_header_lem (omega arith) some-held
      where
        go : (n : ℕ) (h : List ℕ) → progress_of s ≡ going (record_at s (in_header (take n h))) → 0 < length h → (n ≡ 0 → ⊥) → refusing 2 s.start ≡ finish pipe_limit (progress_of s)
        go zero h e l d = absurd (d refl)
        go (suc n) [] e l d = absurd (omega arith)
        go (suc n) (b ∷ h) e l d = finish_is (going (record_at s (in_header (b ∷ take n h)))) e

  module _ (value : s.phase ≡ Phase.Value) where
    in_value_lem : progress_of s ≡ going (record_at s (in_value s.header (hashing_of s.hash)))
    in_value_lem = rw value

    value_fits : GoingFits pipe_limit (record_at s (in_value s.header (hashing_of s.hash)))
    value_fits = fits_going pipe_limit (record_at s (in_value s.header (hashing_of s.hash))) (rw in_value_lem at fit)

    value_left : s.hash.count < (header_of s.header).length
    unfolding hashing_of
    value_left = ltb-true s.hash.count (header_of s.header).length value_fits.phase

    pub value_facts : ((s.hash.count ≤ (header_of s.header).length) × (s.start + (32 + s.hash.count) ≤ pipe_limit)) × (s.records ≤ s.start)
    unfolding hashing_of
    value_facts = ((omega (arith, value_left), value_fits.within), value_fits.few)

    pub value_is : (part : List ℕ)
        → proceed 0 (valued (record_at s (in_header [])) s.header (hashing_of s.hash)) (goes_on part) ≡ take_call pipe_limit (progress_of s) part
    unfolding hashing_of
    value_is part =
        let g = record_at s (in_header []) in
        let h = hashing_of s.hash in
        ap (λ (x : Next). proceed 0 x (goes_on part)) (value_open pipe_limit small g s.header h value_left)
        ∙ sym (none_before pipe_limit (going (in_phase g (in_value s.header h))) part)
        ∙ take_is part (going (in_phase g (in_value s.header h))) in_value_lem

    pub value_ends : refusing 7 s.start ≡ finish pipe_limit (progress_of s)
    value_ends = finish_is (going (record_at s (in_value s.header (hashing_of s.hash)))) in_value_lem

  -- it stays as it is
  module _ (stays : close (progress_of s) ≡ progress_of s) where
    pub standing_is : (part : List ℕ) → standing (progress_of s) ≡ take_call pipe_limit (progress_of s) part
    standing_is part = sym (take_standing pipe_limit (progress_of s) part fit stays)

    pub standing_ends : standing (progress_of s) ≡ finish pipe_limit (progress_of s)
    standing_ends = sym (finish_standing pipe_limit (progress_of s) fit stays)

pub refused_stays : (s : State) (n place : ℕ) → s.phase ≡ Phase.Refused n place → close (progress_of s) ≡ progress_of s
refused_stays s n place e = rw e

pub ended_stays : (s : State) → s.phase ≡ Phase.Ended → close (progress_of s) ≡ progress_of s
ended_stays s e = rw e

-- ---- what a state tells by itself

pub tells : (s : State) (p : Phase) → s.phase ≡ p → record { after = progress_of s; notice = notice_of (progress_in p s); taken = 0 } ≡ standing (progress_of s)
tells s p e = ap (λ (q : Phase). record { after = progress_of s; notice = notice_of (progress_in q s); taken = 0 }) (sym e)

-- the phase that it had plays no part in one that it goes over to
pub phase_any : (p q : Phase) (s : State)
    → progress_in p (record { phase = q; start = s.start; records = s.records; header = s.header; held = s.held; hash = s.hash }) ≡ progress_in p s
phase_any Phase.Header q s = refl
phase_any Phase.Value q s = refl
phase_any (Phase.Refused n place) q s = refl
phase_any Phase.Ended q s = refl
