-- `pipe::take_header` meets its contract: past the limit 1 at place 0, else the header takes the bytes at once; once it is whole, it is read.
use borrow.Author.Rules.{rules}
use mathlib.Core.List.{List, [], ◌++◌}
use mathlib.Core.Path.{◌≡◌, sym, ap, ◌∙◌}
use Prim.Native.Nat.{ℕ, ◌+◌, ◌≤◌}
use native.Mathlib.Omega.{arith}
use lib.ListN.{length, take}
use lib.Seq.{length-take-le, take_all}
use Rattle.refusals.specs.Sheet.{lowest}
use Rattle.slices.specs.Lists.{part_to_end}
use Rattle.tlv.specs.Found.{header_rows}
use Rattle.pipe.specs.Taking.{in_header, proceed, opened}
use Rattle.pipe.specs.States.{record_at}
use Rattle.pipe.proofs.Calls.{goes_on, part_refuses, part_held, part_whole}
use Rattle.pipe.proofs.take_header.Goals as goal
use Rattle.pipe.proofs.take_header.Goals.{After-filled, After-min-n, Start}

-- so many bytes are held
held : (s : Start) → length (take s.args.state.held s.args.state.header) ≡ s.args.state.held
held s =
    let long : length s.args.state.header ≡ 32 = search rules in
    length-take-le s.args.state.held s.args.state.header (omega (arith, s.requires.0))

pub returns-then-start-held : goal.returns-then-start-held
returns-then-start-held c =
    let s = c in
    let state = s.args.state in
    let least = c.min-n in
    let n = held (goal.at.returns-then-start-held s).Start in
    c.refuse.ensures
    ∙ part_refuses (record_at state (in_header [])) (take state.held state.header) s.args.part.now (omega (arith, s.requires.0)) least.result
    (rw n least.ensures) (omega (arith, s.requires.1)) (omega (arith, c.if-start-held.true))

-- so many bytes of the part are taken
taken : (c : After-min-n) → length (take c.min-n.result c.args.part.now) ≡ c.min-n.result
taken c = length-take-le c.min-n.result c.args.part.now (omega (arith, c.min-n.ensures))

pub slice_bounds-filled-end : goal.slice_bounds-filled-end
slice_bounds-filled-end c = sym (taken (goal.at.slice_bounds-filled-end c).After-min-n)

pub filled-requires : goal.filled-requires
filled-requires c =
    let s = c in
    omega (arith, taken (goal.at.filled-requires c).After-min-n, c.min-n.ensures, s.requires.0)

taken-2 : (c : After-filled) → length (take c.min-n.result c.args.part.now) ≡ c.min-n.result
taken-2 c = length-take-le c.min-n.result c.args.part.now (omega (arith, c.min-n.ensures))

-- the bytes held then
bytes : (c : After-filled) →
    let s = c in
    let n = c.min-n.result in
    take (s.args.state.held + n) c.filled.result ≡ take s.args.state.held s.args.state.header ++ take n s.args.part.now
bytes c =
    let s = c in
    ap (λ (n : ℕ). take (s.args.state.held + n) c.filled.result) (sym (taken-2 c)) ∙ c.filled.ensures

pub returns-then-held-n-lt-LENGTH : goal.returns-then-held-n-lt-LENGTH
returns-then-held-n-lt-LENGTH c =
    let s = c in
    let state = s.args.state in
    let least = c.min-n in
    let filled = c.filled in
    let n = held (goal.at.returns-then-held-n-lt-LENGTH s).Start in
    c.onward.ensures
    ∙ part_held (record_at state (in_header [])) (take state.held state.header) s.args.part.now (omega (arith, s.requires.0)) least.result
    (rw n least.ensures) (omega (arith, s.requires.1)) (omega (arith, c.if-start-held.false))
    (take (state.held + least.result) filled.result) (bytes (goal.at.returns-then-held-n-lt-LENGTH c).After-filled) (omega (arith, c.if-held-n-lt-LENGTH.true))

-- an array keeps its length
long : (c : After-filled) → length c.filled.result ≡ 32
long c = search rules

pub returns : goal.returns
returns c =
    let s = c in
    let state = s.args.state in
    let part = s.args.part.now in
    let least = c.min-n in
    let filled = c.filled in
    let whole : 32 ≤ state.held + least.result = c.if-held-n-lt-LENGTH.false in
    let all : take (state.held + least.result) filled.result ≡ filled.result
    = take_all (state.held + least.result) filled.result (omega (arith, long (goal.at.returns c).After-filled)) in
    let g = record_at state (in_header []) in
    let n = held (goal.at.returns s).Start in
    c.read_header.ensures
    ∙ ap (λ (rest : List ℕ). proceed least.result (opened g filled.result (lowest (header_rows filled.result))) (goes_on rest)) (part_to_end least.result part)
    ∙ part_whole g (take state.held state.header) part (omega (arith, s.requires.0)) least.result
    (rw n least.ensures) (omega (arith, s.requires.1)) (omega (arith, c.if-start-held.false))
    filled.result (sym all ∙ bytes (goal.at.returns c).After-filled) (omega arith)
