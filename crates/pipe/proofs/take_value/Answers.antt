-- `pipe::take_value` meets its contract: past the limit 1 at place 0, else the hash takes the bytes at once.
use borrow.Author.Rules.{rules}
use mathlib.Core.List.{[]}
use mathlib.Core.Path.{◌≡◌, ◌∙◌}
use native.Mathlib.Omega.{arith}
use lib.ListN.{length}
use Rattle.xxh64.specs.Parts.{hashing_of}
use Rattle.pipe.specs.Taking.{in_header}
use Rattle.pipe.specs.States.{record_at}
use Rattle.pipe.proofs.Calls.{length_is, value_refuses, value_settles, value_reached}
use Rattle.pipe.proofs.take_value.Goals as goal
use Rattle.pipe.proofs.take_value.Goals.{Start}

long : (s : Start) → length s.args.state.header ≡ 32
long s = search rules

pub overflow_sub-left : goal.overflow_sub-left
overflow_sub-left c =
    let s = c in
    let state = s.args.state in
    let fields = c.fields in
    omega (arith, s.requires.count_bound.0, length_is (record_at state (in_header [])) state.header (long (goal.at.overflow_sub-left s).Start) fields.result fields.ensures (hashing_of state.hash))

pub returns-then-state-count : goal.returns-then-state-count
unfolding hashing_of
returns-then-state-count c =
    let s = c in
    let state = s.args.state in
    let fields = c.fields in
    let least = c.min-n in
    c.refuse.ensures
    ∙ value_refuses (record_at state (in_header [])) state.header (long (goal.at.returns-then-state-count s).Start) fields.result fields.ensures (hashing_of state.hash)
    s.args.part.now s.args.taken least.result least.ensures s.requires.count_bound.0 s.requires.count_bound.1 c.if-state-count.true

pub settle-requires : goal.settle-requires
unfolding hashing_of
settle-requires c =
    let s = c in
    let state = s.args.state in
    let fields = c.fields in
    let least = c.min-n in
    let reached = value_reached (record_at state (in_header [])) state.header (long (goal.at.settle-requires s).Start) fields.result fields.ensures (hashing_of state.hash)
    s.args.part.now s.args.taken least.result least.ensures s.requires.count_bound.0 s.requires.count_bound.1 c.if-state-count.false
    (hashing_of c.update.result) c.update.ensures in
    (omega (arith, reached, s.requires.count_bound.1, c.if-state-count.false), s.requires.records_le_start.0)

pub returns : goal.returns
unfolding hashing_of
returns c =
    let s = c in
    let state = s.args.state in
    let fields = c.fields in
    let least = c.min-n in
    c.settle.ensures
    ∙ value_settles (record_at state (in_header [])) state.header (long (goal.at.returns s).Start) fields.result fields.ensures (hashing_of state.hash)
    s.args.part.now s.args.taken least.result least.ensures s.requires.count_bound.0 s.requires.count_bound.1 c.if-state-count.false
    (hashing_of c.update.result) c.update.ensures
