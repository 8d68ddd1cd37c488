-- `xxh64::State::update` meets its contract. The bytes that make the stripe whole, the stripes after them and the rest are all of the part.
use Rattle.std.proofs.Common.{◌≡◌, ◌-◌, ◌*◌, ◌/◌, ◌%◌, ◌^◌, ◌<◌, length, take, drop, sym, ap, ◌∙◌, ap₂, arith, length-drop, length-take-le, rules}
use Rattle.slices.specs.Lists.{part_to_end}
use Rattle.xxh64.specs.Parts.{pushed, pushed_cut}
use Rattle.xxh64.proofs.States.{none_begun}
use Rattle.xxh64.proofs.State.update.Goals as goal
use Rattle.xxh64.proofs.State.update.Goals.{After-rest-1}

pub slice_bounds-fill-end : goal.slice_bounds-fill-end
slice_bounds-fill-end c =
    let b = c in
    sym (length-take-le (32 - b.args.self.count % 32) b.args.s.now c.if-s-left.false)

pub fill-whole-requires : goal.fill-whole-requires
fill-whole-requires c =
    let b = c in
    omega (arith, length-take-le (32 - b.args.self.count % 32) b.args.s.now c.if-s-left.false)

-- the stripe that was filled leaves none begun
whole : (c : After-rest-1) → (c.fill-whole.result.count % 32 ≡ 0) × (c.fill-whole.result.count < 2 ^ 64)
whole c =
    let b = c in
    let t = b.args.self in
    let left = 32 - t.count % 32 in
    let fits : t.count < 2 ^ 64 = search rules in
    let len = length-take-le left b.args.s.now c.if-s-left.false in
    none_begun t c.fill-whole.result (take left b.args.s.now) fits (omega (arith, len)) c.fill-whole.ensures

pub take_stripes-striped-requires : goal.take_stripes-striped-requires
take_stripes-striped-requires c = ((whole c).0, omega arith)

pub hold-requires-2 : goal.hold-requires-2
hold-requires-2 c =
    let b = c in
    let left = 32 - b.args.self.count % 32 in
    let rest = take (length b.args.s.now - left) (drop left b.args.s.now) in
    let n = length rest / 32 in
    let t = c.fill-whole.result in
    let w = whole (goal.at.hold-requires-2 c).After-rest-1 in
    let len = length-take-le (32 * n) rest (omega arith) in
    let none = none_begun t c.take_stripes-striped.result (take (32 * n) rest) w.1 (omega (arith, len, w.0)) c.take_stripes-striped.ensures in
    omega (arith, none.0, ap length (part_to_end (32 * n) rest), length-drop (32 * n) rest)

pub returns : goal.returns
returns c =
    let b = c in
    let left = 32 - b.args.self.count % 32 in
    let rest = take (length b.args.s.now - left) (drop left b.args.s.now) in
    let n = length rest / 32 in
    c.hold-2.ensures
    ∙ ap₂ pushed c.take_stripes-striped.ensures (part_to_end (32 * n) rest)
    ∙ pushed_cut _ rest (32 * n)
    ∙ ap₂ pushed c.fill-whole.ensures (part_to_end left b.args.s.now)
    ∙ pushed_cut _ b.args.s.now left
