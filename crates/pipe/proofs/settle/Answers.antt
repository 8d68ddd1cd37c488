-- `pipe::settle` meets its contract: a case for a value that goes on, one for a hash that differs, and one for a record.
use borrow.Author.Rules.{rules}
use mathlib.Core.List.{[]}
use mathlib.Core.Path.{◌≡◌, ◌∙◌}
use lib.ListN.{length}
use Rattle.xxh64.specs.Parts.{hashing_of}
use Rattle.pipe.specs.Taking.{in_header}
use Rattle.pipe.specs.States.{record_at}
use Rattle.pipe.proofs.Calls.{settle_more, settle_differs, settle_whole}
use Rattle.pipe.proofs.settle.Goals as goal
use Rattle.pipe.proofs.settle.Goals.{Start}

long : (s : Start) → length s.args.state.header ≡ 32
long s = search rules

pub returns-then-hash-fields : goal.returns-then-hash-fields
unfolding hashing_of
returns-then-hash-fields c =
    let s = c in
    let state = s.args.state in
    let fields = c.fields-fields in
    c.onward.ensures
    ∙ settle_more (record_at state (in_header [])) state.header (long (goal.at.returns-then-hash-fields s).Start) fields.result fields.ensures (hashing_of state.hash) s.args.taken c.if-hash-fields.true

pub returns-then-fields-finish : goal.returns-then-fields-finish
unfolding hashing_of
returns-then-fields-finish c =
    let s = c in
    let state = s.args.state in
    let fields = c.fields-fields in
    let finish = c.finish in
    c.refuse.ensures
    ∙ settle_differs (record_at state (in_header [])) state.header (long (goal.at.returns-then-fields-finish s).Start) fields.result fields.ensures (hashing_of state.hash) s.args.taken
    c.if-hash-fields.false finish.result finish.ensures c.if-fields-finish.true

pub returns : goal.returns
unfolding hashing_of
returns c =
    let s = c in
    let state = s.args.state in
    let fields = c.fields-fields in
    let finish = c.finish in
    settle_whole (record_at state (in_header [])) state.header (long (goal.at.returns s).Start) fields.result fields.ensures (hashing_of state.hash) s.args.taken
    c.if-hash-fields.false finish.result finish.ensures c.if-fields-finish.false
