-- `pipe::well_formed` meets its contract: a case for each phase.
use borrow.Author.Rules.{rules}
use borrow.Author.Tests.{le-leb, lt-leb}
use mathlib.Core.Path.{◌≡◌, ap, ◌∙◌}
use Prim.Native.Nat.{◌<◌}
use native.Mathlib.Omega.{arith}
use lib.ListN.{length}
use Rattle.tlv.specs.Found.{header_of}
use Rattle.tlv.specs.declared.RecordHeader.{RecordHeader}
use Rattle.pipe.specs.Taking.{fits}
use Rattle.pipe.proofs.Calls.{fields_whole, header_unfit, header_fit, value_unfit, value_fit, value_far}
use Rattle.pipe.proofs.well_formed.Goals as goal
use Rattle.pipe.proofs.well_formed.Goals.{After-fields, Else-fields-count, Start}

long : (s : Start) → length s.args.state.header ≡ 32
long s = search rules

pub returns-then-state-ge-LENGTH : goal.returns-then-state-ge-LENGTH
returns-then-state-ge-LENGTH c =
    let s = c in
    header_unfit s.args.state c.in-Header.is (long (goal.at.returns-then-state-ge-LENGTH s).Start) c.if-state-ge-LENGTH.true

long-2 : (s : After-fields) → length s.args.state.header ≡ 32
long-2 s = search rules

-- the header's length field
field : (c : After-fields) → c.fields.result.length ≡ (header_of c.args.state.header).length
field c =
    let s = c in
    ap (λ (h : RecordHeader). h.length) (c.fields.ensures ∙ fields_whole s.args.state.header (long-2 s))

pub returns-then-fields-count : goal.returns-then-fields-count
returns-then-fields-count c =
    let s = c in
    value_unfit s.args.state c.in-Value.is (omega (arith, field (goal.at.returns-then-fields-count c).After-fields, c.if-fields-count.true))

long-3 : (s : Else-fields-count) → length s.args.state.header ≡ 32
long-3 s = search rules

field-2 : (c : Else-fields-count) → c.fields.result.length ≡ (header_of c.args.state.header).length
field-2 c =
    let s = c in
    ap (λ (h : RecordHeader). h.length) (c.fields.ensures ∙ fields_whole s.args.state.header (long-3 s))

-- some of the value is left
left : (c : Else-fields-count) → c.args.state.hash.count
    < (header_of c.args.state.header).length
left c = omega (arith, field-2 c, c.if-fields-count.false)

pub returns-then-count-gt-LIMIT : goal.returns-then-count-gt-LIMIT
returns-then-count-gt-LIMIT c =
    let s = c in
    value_far s.args.state c.in-Value.is (left (goal.at.returns-then-count-gt-LIMIT c).Else-fields-count) c.if-count-gt-LIMIT.true

pub returns-then-number-lt1 : goal.returns-then-number-lt1
unfolding fits
returns-then-number-lt1 c = rw (c.in-Refused.is, lt-leb 1 c.in-Refused.number (omega arith))

pub returns-then-number-gt8 : goal.returns-then-number-gt8
unfolding fits
returns-then-number-gt8 c = rw (c.in-Refused.is, lt-leb c.in-Refused.number 8 (omega arith), le-leb 1 c.in-Refused.number (omega arith))

pub returns-else-state-ge-LENGTH : goal.returns-else-state-ge-LENGTH
returns-else-state-ge-LENGTH c =
    let s = c in
    c.in_range.ensures ∙ header_fit s.args.state c.in-Header.is (long (goal.at.returns-else-state-ge-LENGTH s).Start) c.if-state-ge-LENGTH.false

pub returns-else-count-gt-LIMIT : goal.returns-else-count-gt-LIMIT
returns-else-count-gt-LIMIT c =
    let s = c in
    c.in_range-in-Value.ensures ∙ value_fit s.args.state c.in-Value.is (left (goal.at.returns-else-count-gt-LIMIT c).Else-fields-count)

pub returns-else-number-gt8 : goal.returns-else-number-gt8
unfolding fits
returns-else-number-gt8 c =
    let p = c.in-Refused in
    rw (p.is, le-leb 1 p.number (omega arith), le-leb p.number 8 (omega arith))

pub returns-in-Ended : goal.returns-in-Ended
unfolding fits
returns-in-Ended c = rw c.in-Ended.is
