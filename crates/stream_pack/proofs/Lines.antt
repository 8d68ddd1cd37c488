-- One call after the other: the lines of the records that were complete so far have been put, and those of the rest of the part follow.
use Prim.Native.Nat.{ℕ, ◌+◌, ◌*◌, ◌≤◌}
use mathlib.Core.Bool.{true}
use mathlib.Core.List.{List, [], ◌∷◌, ◌++◌, append-nil}
use Rattle.std.specs.Prelude.{None, Some}
use mathlib.Core.Path.{◌≡◌, refl, sym, ap, subst, ◌∙◌}
use native.Mathlib.Omega.{arith}
use lib.ListN.{length, drop, length-append, length-drop}
use lib.Seq.{append_snoc, drop-drop}
use Rattle.pack.specs.declared.Entry.{Entry}
use Rattle.console.specs.Put.{Put, PutWithRoom, put_none, put_length, put_then}
use Rattle.entry_lines.specs.Text.{line, lines, line_length, lines_append}
use Rattle.pipe.specs.Limit.{pipe_limit}
use Rattle.pipe.specs.Taking.{Progress, complete, Call, fits, advance, take}
use Rattle.pipe.specs.Step.{take_fit, take_fits, take_taken, TakenOf}
use Rattle.pipe.specs.States.{progress_of, notice_of, call_of}
use Rattle.pipe.specs.declared.Event.{Event}
use Rattle.pipe.specs.declared.Event.TheVariants.{Wanted, Complete, Refusal, Over, Malformed}
use Rattle.pipe.specs.declared.Taken.{Taken}
use Rattle.pipe.specs.Sessions.{Run, silent, tell, record_in, run, run_none, run_passed, run_told}
use Rattle.stream_pack.specs.Few.{few_told}

-- ---- one call on a state that fits, and the run over what it is handed

module _ (q : Progress) (t : List ℕ) (fit : fits pipe_limit q ≡ true) where
  same : advance pipe_limit q t ≡ take pipe_limit q t
  same = sym (take_fit pipe_limit q t fit)

  after_told : (e : Entry) → (take pipe_limit q t).notice ≡ complete e
      → run pipe_limit q t ≡ tell e (run pipe_limit (take pipe_limit q t).after (drop (take pipe_limit q t).taken t))
  after_told e is =
      let told : record_in (advance pipe_limit q t).notice ≡ Some e = ap (λ (c : Call). record_in c.notice) same ∙ ap record_in is in
      ap (run pipe_limit q) (sym (append-nil t))
      ∙ run_told pipe_limit q t [] e told
      ∙ ap (λ (c : Call). tell e (run pipe_limit c.after (drop c.taken t ++ []))) same
      ∙ ap (λ (s : List ℕ). tell e (run pipe_limit (take pipe_limit q t).after s)) (append-nil (drop (take pipe_limit q t).taken t))

  after_passed : record_in (take pipe_limit q t).notice ≡ None → run pipe_limit q t ≡ silent (take pipe_limit q t).after
  after_passed is =
      let passed : record_in (advance pipe_limit q t).notice ≡ None = ap (λ (c : Call). record_in c.notice) same ∙ is in
      ap (run pipe_limit q) (sym (append-nil t))
      ∙ run_passed pipe_limit q t [] passed
      ∙ ap (λ (c : Call). run pipe_limit c.after []) same
      ∙ run_none pipe_limit (take pipe_limit q t).after

-- ---- the lines so far

-- entries, and then what a run tells
abbrev behind : List Entry → Run → Run
behind es r = record { told = es ++ r.told; after = r.after }

-- `at` bytes of the part s were taken, which led from p to q
pub record Lines (out₀ : List ℕ) (p : Progress) (s out : List ℕ) (q : Progress) (at end : ℕ) : Type 0 where
  pub es : List Entry
  pub same_length : length out ≡ length out₀
  pub inside : at ≤ length s
  pub fit : fits pipe_limit q ≡ true
  pub whole : run pipe_limit p s ≡ behind es (run pipe_limit q (drop at s))
  pub put : Put out₀ 0 (lines es) out end
  pub short : end ≤ 64 * length es

pub no_lines : (out₀ : List ℕ) (p : Progress) (s : List ℕ) → fits pipe_limit p ≡ true → Lines out₀ p s out₀ p 0 0
unfolding lines
no_lines out₀ p s fit =
    record { es = []; same_length = refl; inside = omega arith; fit = fit; whole = refl; put = put_none out₀; short = omega arith }

module _ {out₀ : List ℕ} {p : Progress} {s out : List ℕ} {q : Progress} {at end : ℕ} (v : Lines out₀ p s out q at end) where
  -- the call that comes next
  abbrev next : Call
  next = take pipe_limit q (drop at s)

  taken_within : (e : Entry) → next.notice ≡ complete e → (1 ≤ next.taken) × (at + next.taken ≤ length s)
  taken_within e is =
      let t : TakenOf (complete e) next.taken (length (drop at s)) = rw is at (take_taken pipe_limit q (drop at s)) in
      (t.0, omega (arith, t.1, length-drop at s, v.inside))

  -- another record is complete
  module _ (e : Entry) (is : next.notice ≡ complete e) where
    more : run pipe_limit p s ≡ behind (v.es ++ (e ∷ [])) (run pipe_limit next.after (drop (at + next.taken) s))
    more =
        let told = after_told q (drop at s) v.fit e is ∙ ap (λ (t : List ℕ). tell e (run pipe_limit next.after t)) (drop-drop next.taken at s) in
        let r = run pipe_limit next.after (drop (at + next.taken) s) in
        v.whole ∙ ap (behind v.es) told ∙ (λ i. record { told = sym (append_snoc v.es e r.told) i; after = r.after })

    -- there is room for its line
    pub room : fits pipe_limit p ≡ true → length s ≤ 65536 → 131072 ≤ length out₀ → end + 64 ≤ length out
    room fit few large =
        let r = run pipe_limit next.after (drop (at + next.taken) s) in
        let n = few_told pipe_limit p s fit in
        let all : length (run pipe_limit p s).told ≡ length v.es + 1 + length r.told
        = ap (λ (x : Run). length x.told) more ∙ length-append (v.es ++ (e ∷ [])) r.told ∙ ap (λ k. k + length r.told) (length-append v.es (e ∷ [])) in
        omega (arith, v.short, v.same_length)

    pub another_line : fits pipe_limit p ≡ true → length s ≤ 65536 → 131072 ≤ length out₀ → {out' : List ℕ} {end' : ℕ}
        → PutWithRoom 64 out end (line e) out' end' → Lines out₀ p s out' next.after (at + next.taken) end'
    unfolding lines
    another_line fit few large {out'} {end'} with_room =
        let fitting = room fit few large in
        let put = with_room.fits fitting in
        let l = line_length e in
        let one : lines (v.es ++ (e ∷ [])) ≡ lines v.es ++ line e
        = lines_append v.es (e ∷ []) ∙ ap (λ (t : List ℕ). lines v.es ++ t) (append-nil (line e)) in
        record {
          es = v.es ++ (e ∷ []);
          same_length = put_length (omega arith) put ∙ v.same_length;
          inside = (taken_within e is).1;
          fit = take_fits pipe_limit (omega arith) q (drop at s) v.fit;
          whole = more;
          put = subst (λ (t : List ℕ). Put out₀ 0 t out' end') (sym one) (put_then (omega (arith, v.put.place, v.same_length)) v.put put);
          short = omega (arith, v.short, put.place, length-append v.es (e ∷ []));
        }

  -- no other one is
  pub last_line : record_in next.notice ≡ None → ((run pipe_limit p s).told ≡ v.es) × ((run pipe_limit p s).after ≡ next.after)
  last_line is =
      let r = v.whole ∙ ap (behind v.es) (after_passed q (drop at s) v.fit is) in
      (ap (λ (x : Run). x.told) r ∙ append-nil v.es, ap (λ (x : Run). x.after) r)

-- ---- `t` is what the code did in that call

-- its event is no record
no_record : (e : Event) → ((x : Entry) → e ≡ Complete x → ⊥) → record_in (notice_of e) ≡ None
no_record Wanted other = refl
no_record (Complete x) other = absurd (other x refl)
no_record (Refusal n place) other = refl
no_record (Over records) other = refl
no_record Malformed other = refl

module _ {out₀ : List ℕ} {p : Progress} {s out : List ℕ} {q : Progress} {at end : ℕ} (v : Lines out₀ p s out q at end) (t : Taken)
    (called : call_of t ≡ take pipe_limit q (drop at s)) where
  noticed : {e : Event} → t.event ≡ e → (take pipe_limit q (drop at s)).notice ≡ notice_of e
  noticed is = ap (λ (c : Call). c.notice) (sym called) ∙ ap notice_of is

  module _ (e : Entry) (is : t.event ≡ Complete e) where
    pub at_inside : (1 ≤ t.taken) × (at + t.taken ≤ length s)
    at_inside = subst (λ (c : Call). (1 ≤ c.taken) × (at + c.taken ≤ length s)) (sym called) (taken_within v e (noticed is))

    pub line_more : fits pipe_limit p ≡ true → length s ≤ 65536 → 131072 ≤ length out₀ → {out' : List ℕ} {end' : ℕ}
        → PutWithRoom 64 out end (line e) out' end' → Lines out₀ p s out' (progress_of t.state) (at + t.taken) end'
    line_more fit few large {out'} {end'} with_room =
        subst (λ (c : Call). Lines out₀ p s out' c.after (at + c.taken) end') (sym called) (another_line v e (noticed is) fit few large with_room)

  pub lines_end : fits pipe_limit p ≡ true → length s ≤ 65536 → ((x : Entry) → t.event ≡ Complete x → ⊥)
      → Put out₀ 0 (lines (run pipe_limit p s).told) out end
      × ((progress_of t.state ≡ (run pipe_limit p s).after) × ((fits pipe_limit (progress_of t.state) ≡ true) × (end ≤ 131072)))
  lines_end fit few other =
      let r = last_line v (ap record_in (noticed refl) ∙ no_record t.event other) in
      let after : progress_of t.state ≡ (take pipe_limit q (drop at s)).after = ap (λ (c : Call). c.after) called in
      let n = few_told pipe_limit p s fit in
      let all : length (run pipe_limit p s).told ≡ length v.es = ap length r.0 in
      (rw r.0 v.put, (after ∙ sym r.1, (rw after (take_fits pipe_limit (omega arith) q (drop at s) v.fit), omega (arith, v.short))))
