-- `pipe::in_parts` meets its contract: the first time no word is written, and the records are counted.
use Prim.Native.Nat.{ℕ, ◌*◌, ◌≤◌, ◌<◌}
use mathlib.Core.List.{List}
use mathlib.Core.Path.{◌≡◌, ap, ◌∙◌}
use native.Mathlib.Omega.{arith}
use lib.ListN.{length, take}
use Rattle.slices.specs.Overwriting.{overwritten, none_overwritten}
use Rattle.pipe.specs.Limit.{pipe_limit}
use Rattle.pipe.specs.Whole.{piped}
use Rattle.pipe.specs.Feeding.{words_of, told}
use Rattle.pipe.proofs.Written.{too_short, all_fed, all_written}
use Rattle.pipe.proofs.in_parts.Goals as goal
use Rattle.pipe.proofs.in_parts.Goals.{After-feed-counted}

-- no word is written
kept : (c : After-feed-counted) → c.feed-counted.new.told ≡ c.args.told.now
unfolding words_of
kept c = c.feed-counted.ensures.told_after ∙ none_overwritten c.args.told.now 0

pub returns-then-told-n : goal.returns-then-told-n
returns-then-told-n c =
    let a = c.args in
    let f = c in
    let r = piped pipe_limit a.pack.now in
    let l : length a.told.now < 4 * length r.entries = omega (arith, c.if-told-n.true, ap length (kept (goal.at.returns-then-told-n f).After-feed-counted), f.feed-counted.ensures.records_value.0) in
    let s = too_short r a.told.now l in
    (s.0, kept (goal.at.returns-then-told-n f).After-feed-counted ∙ s.1)

pub returns : goal.returns
returns c =
    let a = c.args in
    let f = c in
    let g = c.feed-all in
    let r = piped pipe_limit a.pack.now in
    let n : f.feed-counted.result.records ≡ length r.entries = f.feed-counted.ensures.records_value.0 in
    let l : 4 * length r.entries ≤ length a.told.now = omega (arith, c.if-told-n.false, ap length (kept (goal.at.returns f).After-feed-counted)) in (
      (λ i. told (n i) (g.ensures.records_value.1 i)) ∙ all_fed r a.told.now l,
      g.ensures.told_after
          ∙ ap (λ (w : List ℕ). overwritten w 0 (words_of (take f.feed-counted.result.records r.entries))) (kept (goal.at.returns f).After-feed-counted)
          ∙ ap (λ (k : ℕ). overwritten a.told.now 0 (words_of (take k r.entries))) n
          ∙ all_written r a.told.now l,
    )
