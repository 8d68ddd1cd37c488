-- `tlv::RecordHeader::read` meets its contract. At each return the rows before it have been passed, and its own applies.
use borrow.Author.Tests.{lt-ltb, le-ltb}
use mathlib.Core.Bool.{false, not}
use mathlib.Core.Path.{◌≡◌, sym, ap, ◌∙◌}
use native.Mathlib.Omega.{arith}
use lib.Dec.{eqb, ltb}
use Prim.Native.Nat.{ℕ, ◌%◌}
use lib.ListN.{length, take}
use Rattle.xxh64.specs.Xxh64.{xxh64}
use lib.Seq.{length-take-le}
use Rattle.refusals.specs.Sheet.{lowest}
use Rattle.tlv.specs.Layout.{magic, field}
use Rattle.tlv.specs.Found.{header, header_rows, fields_of}
use Rattle.tlv.proofs.Rows.{agrees, differs}
use Rattle.tlv.proofs.RecordHeader.read.Goals as goal
use Rattle.tlv.proofs.RecordHeader.read.Goals.{After-xxh64-hash, Else-field-hash, Else-field-ne-MAGIC, Else-field-ne0, Else-field-ne8, Else-s-lt-LENGTH}

-- the rows of the sheet that have been passed
row2 : (c : Else-s-lt-LENGTH) → ltb (length c.args.s.now) 32 ≡ false
row2 c = le-ltb _ _ c.if-s-lt-LENGTH.false

row3 : (c : Else-field-ne-MAGIC) → not (eqb (field c.args.s.now 0 8) magic) ≡ false
row3 c = agrees c.field.ensures.0 c.if-field-ne-MAGIC.false

row4 : (c : Else-field-ne0) → not (eqb (field c.args.s.now 24 1) 0) ≡ false
row4 c = agrees c.field-2.ensures.0 c.if-field-ne0.false

row5 : (c : Else-field-ne8) → not (eqb (field c.args.s.now 27 1) 8) ≡ false
row5 c = agrees c.field-3.ensures.0 c.if-field-ne8.false

expected : (c : After-xxh64-hash) → c.xxh64-hash.result % 65536 ≡ xxh64 (take 30 c.args.s.now) % 65536
expected c = ap (λ (n : ℕ). n % 65536) c.xxh64-hash.ensures

expected_2 : (c : Else-field-hash) → c.xxh64-hash.result % 65536 ≡ xxh64 (take 30 c.args.s.now) % 65536
expected_2 c = ap (λ (n : ℕ). n % 65536) c.xxh64-hash.ensures

row6 : (c : Else-field-hash) →
    let s = c.args.s.now in
    not (eqb (field s 30 2) (xxh64 (take 30 s) % 65536)) ≡ false
row6 c = agrees c.field-4.ensures.0 (c.if-field-hash.false ∙ expected_2 c)

pub returns-then-s-lt-LENGTH : goal.returns-then-s-lt-LENGTH
unfolding header header_rows lowest
returns-then-s-lt-LENGTH c = rw (lt-ltb _ _ c.if-s-lt-LENGTH.true)

pub returns-then-field-ne-MAGIC : goal.returns-then-field-ne-MAGIC
unfolding header header_rows lowest
returns-then-field-ne-MAGIC c = rw (row2 (goal.at.returns-then-field-ne-MAGIC c).Else-s-lt-LENGTH, differs c.field.ensures.0 c.if-field-ne-MAGIC.true)

pub returns-then-field-ne0 : goal.returns-then-field-ne0
unfolding header header_rows lowest
returns-then-field-ne0 c = rw (row2 (goal.at.returns-then-field-ne0 c).Else-s-lt-LENGTH, row3 (goal.at.returns-then-field-ne0 c).Else-field-ne-MAGIC, differs c.field-2.ensures.0 c.if-field-ne0.true)

pub returns-then-field-ne8 : goal.returns-then-field-ne8
unfolding header header_rows lowest
returns-then-field-ne8 c = rw (row2 (goal.at.returns-then-field-ne8 c).Else-s-lt-LENGTH, row3 (goal.at.returns-then-field-ne8 c).Else-field-ne-MAGIC, row4 (goal.at.returns-then-field-ne8 c).Else-field-ne0, differs c.field-3.ensures.0 c.if-field-ne8.true)

pub slice_bounds-xxh64-end : goal.slice_bounds-xxh64-end
slice_bounds-xxh64-end c = sym (length-take-le 30 c.args.s.now (omega arith))

pub returns-then-field-hash : goal.returns-then-field-hash
unfolding header header_rows lowest
returns-then-field-hash c =
    rw (row2 (goal.at.returns-then-field-hash c).Else-s-lt-LENGTH, row3 (goal.at.returns-then-field-hash c).Else-field-ne-MAGIC, row4 (goal.at.returns-then-field-hash c).Else-field-ne0, row5 (goal.at.returns-then-field-hash c).Else-field-ne8, differs c.field-4.ensures.0 (λ e. c.if-field-hash.true (e ∙ sym (expected (goal.at.returns-then-field-hash c).After-xxh64-hash))))

pub returns : goal.returns
unfolding header header_rows lowest fields_of
returns c =
    rw (row2 (goal.at.returns c).Else-s-lt-LENGTH, row3 (goal.at.returns c).Else-field-ne-MAGIC, row4 (goal.at.returns c).Else-field-ne0, row5 (goal.at.returns c).Else-field-ne8, row6 (goal.at.returns c).Else-field-hash, c.fields.ensures, row2 (goal.at.returns c).Else-s-lt-LENGTH)
