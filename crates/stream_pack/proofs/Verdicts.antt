-- The last line, by what the pipe tells when the end is announced.
use Prim.Native.Nat.{ℕ, ◌≤◌}
use mathlib.Core.Bool.{true}
use mathlib.Core.List.{List, []}
use mathlib.Core.Path.{◌≡◌, refl, sym, ap, subst, ◌∙◌}
use native.Mathlib.Omega.{arith}
use lib.ListN.{length}
use Rattle.console.specs.Put.{Put, PutWithRoom, put_none}
use Rattle.console.specs.Text.{refusal_line, refusal_length}
use Rattle.entry_lines.specs.Text.{count_line, count_length}
use Rattle.pipe.specs.Limit.{pipe_limit}
use Rattle.pipe.specs.Taking.{Progress, going, refused, ended, Notice, wanted, complete, refusal, over, malformed, Call, close, notice_of, fits, finish}
use Rattle.pipe.specs.Step.{ended_for_ever}
use Rattle.pipe.specs.States.{call_of}
use Rattle.pipe.specs.States as pipe
use Rattle.pipe.specs.declared.Event.{Event}
use Rattle.pipe.specs.declared.Event.TheVariants.{Refusal, Over}
use Rattle.pipe.specs.declared.Taken.{Taken}
use Rattle.stream_pack.specs.Text.{verdict_line}

abbrev notice_line : Notice → List ℕ
notice_line wanted = []
notice_line (complete e) = []
notice_line (refusal n place) = refusal_line n place
notice_line (over records) = count_line records
notice_line malformed = []

notice_line_lem : (q : Progress) → verdict_line q ≡ notice_line (notice_of q)
notice_line_lem (going g) = refl
notice_line_lem (refused n place) = refl
notice_line_lem (ended records) = refl

module _ (p : Progress) (fit : fits pipe_limit p ≡ true) (t : Taken) (called : call_of t ≡ finish pipe_limit p) {e : Event} (is : t.event ≡ e) where
  line_is : verdict_line (close p) ≡ notice_line (pipe.notice_of e)
  line_is =
      let standing = (ended_for_ever pipe_limit p fit).0 in
      notice_line_lem (close p) ∙ ap (λ (c : Call). notice_line c.notice) (sym (called ∙ standing)) ∙ ap (λ (x : Event). notice_line (pipe.notice_of x)) is

  module _ (out : List ℕ) where
    line_put : {room : ℕ} {after : List ℕ} {next : ℕ} → length (notice_line (pipe.notice_of e)) ≤ 64 → room ≤ length out
        → PutWithRoom room out 0 (notice_line (pipe.notice_of e)) after next → Put out 0 (verdict_line (close p)) after next × (next ≤ 64)
    line_put {after = after} {next = next} few large with_room =
        let put = with_room.fits (omega arith) in
        (subst (λ (s : List ℕ). Put out 0 s after next) (sym line_is) put, omega (arith, put.place))

    pub no_verdict : notice_line (pipe.notice_of e) ≡ [] → Put out 0 (verdict_line (close p)) out 0 × (0 ≤ 64)
    no_verdict none = (subst (λ (s : List ℕ). Put out 0 s out 0) (sym (line_is ∙ none)) (put_none out), omega arith)

module _ (p : Progress) (fit : fits pipe_limit p ≡ true) (t : Taken) (called : call_of t ≡ finish pipe_limit p) {out : List ℕ} (large : 64 ≤ length out)
    {after : List ℕ} {next : ℕ} where
  pub count_verdict : (records : ℕ) → t.event ≡ Over records → PutWithRoom 29 out 0 (count_line records) after next
      → Put out 0 (verdict_line (close p)) after next × (next ≤ 64)
  count_verdict records is put = line_put p fit t called is out (omega (arith, count_length records)) (omega arith) put

  pub refusal_verdict : (n place : ℕ) → t.event ≡ Refusal n place → PutWithRoom 53 out 0 (refusal_line n place) after next
      → Put out 0 (verdict_line (close p)) after next × (next ≤ 64)
  refusal_verdict n place is put = line_put p fit t called is out (omega (arith, refusal_length n place)) (omega arith) put
