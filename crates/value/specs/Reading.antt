-- A value: its header is the first item, and the secondary part is all that follows. Refusals 9, 10, 11, 22 and 12, in that order.
use Rattle.std.specs.Prelude.{ℕ, ◌+◌, ◌≤◌, false, cond, List, ◌≡◌, eqb, length, take, drop, Result, Ok, Err}
use Rattle.std.specs.Borrow.{Bor}
use Rattle.slices.specs.Places.{address_at}
use Rattle.refusals.specs.Answers.{Answer, refused, granted}
use Rattle.msgpack.specs.Items.{Passage, whole, cut, too_deep, pass_over}
use Rattle.msgpack.specs.Views.{byte_view}
use Rattle.value.specs.Header.{header_repeats, tested, coding, part, header}
use Rattle.value.specs.declared.Part.{Part}
use Rattle.value.specs.declared.Told.{Told}
use Rattle.msgpack.specs.declared.Fault as msgpack
use Rattle.msgpack.specs.declared.Fault.TheVariants as passing-fault
use Rattle.value.specs.declared.Fault.{Fault}
use Rattle.value.specs.declared.Fault.TheVariants.{Cut, TooDeep, Header, Repeated, NotFilled}

-- a header of n bytes and the secondary part have to fill the value s
abbrev pub filled : ℕ → List ℕ → Answer Told → Answer Told
filled n s (granted t) = cond (eqb (n + t.secondary.len) (length s)) (granted t) (refused 12)
filled n s (refused k) = refused k

-- by the first item
abbrev pub by_item : ℕ → List ℕ → Passage → Answer Told
by_item limit s (whole n) = filled n s (tested (header_repeats byte_view (take n s)) (header limit (take n s)))
by_item limit s cut = refused 9
by_item limit s too_deep = refused 10

-- what the value s tells, in which a secondary part has at most `limit` bytes, or the number of its refusal
unfoldable pub reading : ℕ → List ℕ → Answer Told
reading limit s = by_item limit s (pass_over s)

-- ---- what each answer of the code says

abbrev pub number_of : Fault → ℕ
number_of Cut = 9
number_of TooDeep = 10
number_of Header = 11
number_of Repeated = 22
number_of NotFilled = 12

-- of passing over the first item
abbrev pub fault_of : msgpack.Fault → Fault
fault_of passing-fault.Cut = Cut
fault_of passing-fault.TooDeep = TooDeep

abbrev pub answer_of : Result Told Fault → Answer Told
answer_of (Ok t) = granted t
answer_of (Err f) = refused (number_of f)

-- ---- the parts of a value

abbrev pub empty_part : Part
empty_part = part 0 0 (coding 0 false)

-- of a refused value: the empty part
abbrev pub primary_part : Answer Told → Part
primary_part (granted t) = t.primary
primary_part (refused n) = empty_part

abbrev pub secondary_part : Answer Told → Part
secondary_part (granted t) = t.secondary
secondary_part (refused n) = empty_part

-- r is the part p of the slice s: it lies inside, has this content, and is lent from this place
pub record IsPart (s : Bor (List ℕ)) (p : Part) (r : Bor (List ℕ)) : Type 0 where
  pub inside : p.start + p.len ≤ length s.now
  pub content : r.now ≡ take p.len (drop p.start s.now)
  pub address : r.ref_ptr ≡ address_at s p.start
