-- What the program prints of a pack that comes in parts: a line as each record completes, and at the end their number or the refusal.
use Rattle.std.specs.Prelude.{ℕ, ◌+◌, List, [], ◌++◌, ◌≡◌, refl, length}
use Rattle.std.proofs.Common.{append_assoc, ap, ◌∙◌, arith}
use Rattle.pack.specs.declared.Entry.{Entry}
use Rattle.pack.specs.Reading.{Reading, Ending, whole}
use Rattle.pack.specs.Reading as pack
use Rattle.console.specs.Text.{refusal_line}
use Rattle.entry_lines.specs.Text.{lines, count_line, lines_append}
use Rattle.pipe.specs.Limit.{pipe_limit}
use Rattle.pipe.specs.Taking.{Progress, going, refused, ended, at_start, close}
use Rattle.pipe.specs.Sessions.{Run, run, run_append}
use Rattle.pipe.specs.Whole.{verdict, piped, run_piped}

-- once the end is announced, or at a refusal
abbrev pub verdict_line : Progress → List ℕ
verdict_line (going g) = []
verdict_line (refused n place) = refusal_line n place
verdict_line (ended records) = count_line records

-- all that is printed, by what a run tells
abbrev pub shown : Run → List ℕ
shown r = lines r.told ++ verdict_line (close r.after)

-- part by part it is the same
pub shown_append : (p : Progress) (xs ys : List ℕ)
    → shown (run pipe_limit p (xs ++ ys)) ≡ lines (run pipe_limit p xs).told ++ shown (run pipe_limit (run pipe_limit p xs).after ys)
shown_append p xs ys =
    let r = run pipe_limit p xs in
    let q = run pipe_limit r.after ys in
    ap shown (run_append pipe_limit p xs ys)
    ∙ ap (λ (t : List ℕ). t ++ verdict_line (close q.after)) (lines_append r.told q.told)
    ∙ append_assoc (lines r.told) (lines q.told) (verdict_line (close q.after))

-- the listing, with the records before a fault
abbrev pub end_line : ℕ → Ending → List ℕ
end_line n whole = count_line n
end_line n (pack.refused number place) = refusal_line number place

abbrev pub text : Reading → List ℕ
text r = lines r.entries ++ end_line (length r.entries) r.ending

-- THE THEOREM: what is printed is the listing of what the pipe tells of the pack, up to the limit its reading
pub shown_piped : (s : List ℕ) → shown (run pipe_limit (going at_start) s) ≡ text (piped pipe_limit s)
shown_piped s =
    ap (λ (r : Run). lines r.told ++ verdict_line r.after) (run_piped pipe_limit (omega arith) s)
    ∙ go (piped pipe_limit s).entries (piped pipe_limit s).ending
  where
    go : (es : List Entry) (f : Ending) → lines es ++ verdict_line (verdict 0 (length es) f) ≡ lines es ++ end_line (length es) f
    go es whole = ap (λ n. lines es ++ count_line n) {x = 0 + length es} {y = length es} (omega arith)
    go es (pack.refused n place) = refl
