-- What a whole head says; that heads and contents lie within the list; and that the items of a whole array are whole.
use Rattle.std.specs.Prelude.{ℕ, zero, suc, ◌+◌, ◌-◌, ◌^◌, ◌≤◌, ◌<◌, Bool, true, false, cond, ◌&&◌, List, ◌≡◌, refl, leb, eqb, length, drop}
use Rattle.std.specs.Prelude.{None, Some}
use Rattle.std.proofs.Common.{sym, ap, ◌∙◌, not-suc-le-zero, arith, leb-true, eqb-true}
use Rattle.slices.specs.Bytes.{AllBytes}
use Rattle.slices.specs.Logic.{absurd_numbers}
use Rattle.msgpack.specs.Formats.{unused_kind, array_kind}
use Rattle.msgpack.specs.Items.{Head, whole, head_of, items_of, beyond, pass_items, pass_item, WholeItem}
use Rattle.msgpack.specs.Readers.{is_whole, Part, part, content_at, Counted, counted, count_at, read_array}
use Rattle.msgpack.specs.HeadLaws.{head_small}
use Rattle.msgpack.specs.PassingLaws.{head_within, within_container, Beyond, beyond_whole, Joined, joined, deeper}

pub record IsWhole (kind : ℕ) (h : Head) (n : ℕ) : Type 0 where
  pub of_kind : h.kind ≡ kind
  pub inside : h.size + h.count ≤ n

pub is_whole_lem : (kind : ℕ) (h : Head) (n : ℕ) → is_whole kind h n ≡ true → IsWhole kind h n
unfolding is_whole
is_whole_lem kind h n e = by (eqb h.kind kind) refl e
  where
    by : (t : Bool) → eqb h.kind kind ≡ t → (t && leb (h.size + h.count) n) ≡ true → IsWhole kind h n
    by true k q = record { of_kind = eqb-true _ _ k; inside = leb-true _ _ q }
    by false k q = absurd_numbers (cc)

-- a list with a head of some kind has a first byte
pub has_byte : (s : List ℕ) → 0 < (head_of s).kind → 0 < length s
has_byte s h = let w = head_within s in omega (arith, w.inside, w.begun (λ (e : (head_of s).kind ≡ unused_kind). omega arith))

-- a part that is read lies within the list
pub part_inside : (kind : ℕ) (s : List ℕ) (p : Part) → content_at kind s ≡ Some p → p.start + p.size ≤ length s
unfolding content_at
part_inside kind s p e = by (is_whole kind (head_of s) (length s)) refl e
  where
    by : (t : Bool) → is_whole kind (head_of s) (length s) ≡ t → cond t (Some (part (head_of s).size (head_of s).count)) None ≡ Some p
        → p.start + p.size ≤ length s
    by true w q =
        let is : part (head_of s).size (head_of s).count ≡ p = cc in
        rw (← is) (is_whole_lem kind (head_of s) (length s) w).inside
    by false w q = absurd_numbers (cc)

-- and there is one only where there are bytes
pub part_there : (kind : ℕ) (s : List ℕ) (p : Part) → 0 < kind → content_at kind s ≡ Some p → 0 < length s
unfolding content_at
part_there kind s p positive e = by (is_whole kind (head_of s) (length s)) refl e
  where
    by : (t : Bool) → is_whole kind (head_of s) (length s) ≡ t → cond t (Some (part (head_of s).size (head_of s).count)) None ≡ Some p → 0 < length s
    by true w q = has_byte s (rw (is_whole_lem kind (head_of s) (length s) w).of_kind positive)
    by false w q = absurd_numbers (cc)

-- so does a head
pub head_inside : (kind : ℕ) (s : List ℕ) (c : Counted) → count_at kind s ≡ Some c → c.size ≤ length s
unfolding count_at
head_inside kind s c e = by (eqb (head_of s).kind kind) e
  where
    by : (t : Bool) → cond t (Some (counted (head_of s).count (head_of s).size)) None ≡ Some c → c.size ≤ length s
    by true q =
        let is : counted (head_of s).count (head_of s).size ≡ c = cc in
        rw (← is) (head_within s).inside
    by false q = absurd_numbers (cc)

-- and no head counts more
pub count_small : (kind : ℕ) (s : List ℕ) → AllBytes s → (c : Counted) → count_at kind s ≡ Some c → c.count < 2 ^ 33
unfolding count_at
count_small kind s bytes c e = by (eqb (head_of s).kind kind) e
  where
    by : (t : Bool) → cond t (Some (counted (head_of s).count (head_of s).size)) None ≡ Some c → c.count < 2 ^ 33
    by true q =
        let is : counted (head_of s).count (head_of s).size ≡ c = cc in
        rw (← is) (head_small s bytes)
    by false q = absurd_numbers (cc)

-- ---- the items of a whole array

array_passed : (s : List ℕ) → (head_of s).kind ≡ array_kind → (w : WholeItem s)
    → Beyond (head_of s).size (pass_items (pass_item 15) (head_of s).count (drop (head_of s).size s)) w.size
array_passed s k w =
    let items : items_of (head_of s).kind (head_of s).count ≡ (head_of s).count = rw k in
    beyond_whole (head_of s).size _ w.size
    (ap (λ (n : ℕ). beyond (head_of s).size (pass_items (pass_item 15) n (drop (head_of s).size s))) (sym items)
    ∙ within_container 15 s (head_of s) refl (omega arith)
    ∙ w.is)

pub array_items : (s : List ℕ) (c : Counted) → read_array s ≡ Some c → (w : WholeItem s)
    → Beyond c.size (pass_items (pass_item 15) c.count (drop c.size s)) w.size
unfolding count_at
array_items s c e w = by (eqb (head_of s).kind array_kind) refl e
  where
    by : (t : Bool) → eqb (head_of s).kind array_kind ≡ t → cond t (Some (counted (head_of s).count (head_of s).size)) None ≡ Some c
        → Beyond c.size (pass_items (pass_item 15) c.count (drop c.size s)) w.size
    by true k q =
        let is : counted (head_of s).count (head_of s).size ≡ c = cc in
        rw (← is) (array_passed s (eqb-true _ _ k) w)
    by false k q = absurd_numbers (cc)

-- the first of them, and the others
pub items_joined : (count : ℕ) (s : List ℕ) (n : ℕ) → 0 < count → pass_items (pass_item 15) count s ≡ whole n
    → Joined (pass_item 15 s) (λ k. pass_items (pass_item 15) (count - 1) (drop k s)) n
unfolding pass_items
items_joined zero s n h p = absurd (not-suc-le-zero h)
items_joined (suc count) s n h p =
    let same : suc count - 1 ≡ count = omega arith in
    rw same (joined (pass_item 15 s) (λ k. pass_items (pass_item 15) count (drop k s)) n p)

pub first_item : (s : List ℕ) (c : Counted) → read_array s ≡ Some c → 0 < c.count → WholeItem s → WholeItem (drop c.size s)
first_item s c e h w =
    let b = array_items s c e w in
    let j = items_joined c.count (drop c.size s) b.after h b.rest in
    record { size = j.first; is = deeper 15 _ j.first j.is }
