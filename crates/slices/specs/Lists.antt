-- Parts of a list, as code cuts them from a slice: `take n (drop at s)`.
use Rattle.std.specs.Prelude.{ℕ, ◌+◌, ◌-◌, ◌≤◌, List, [], ◌++◌, ◌≡◌, length, take, drop}
use Rattle.std.proofs.Common.{sym, ap, ◌∙◌, arith, length-drop, take-append-drop, take_all, length-take-le, drop-drop}
use Rattle.std.proofs.lemmas.List.{take-append-le, drop-append-le}

-- the part from a place to the end
pub part_to_end : (at : ℕ) (s : List ℕ) → take (length s - at) (drop at s) ≡ drop at s
part_to_end at s = take_all (length s - at) (drop at s) (omega (arith, length-drop at s))

-- the part from a place to that place
pub part_to_itself : (at : ℕ) (s : List ℕ) → take (at - at) (drop at s) ≡ []
part_to_itself at s = ap (λ n. take n (drop at s)) {x = at - at} {y = 0} (omega arith)

-- a part that lies inside is as long as was asked for
pub part_length : (s : List ℕ) (at n : ℕ) → at + n ≤ length s → length (take n (drop at s)) ≡ n
part_length s at n within = length-take-le n (drop at s) (omega (arith, length-drop at s))

-- a part that lies in the front is a part of the whole
in_front : (s : List ℕ) (n start len : ℕ) → start + len ≤ length (take n s) → take len (drop start (take n s)) ≡ take len (drop start s)
in_front s n start len h =
    let p : start ≤ length (take n s) = omega arith in
    let q : len ≤ length (drop start (take n s)) = omega (arith, length-drop start (take n s)) in
    let whole : take n s ++ drop n s ≡ s = take-append-drop n s in
    sym (take-append-le len (drop start (take n s)) (drop n s) q)
    ∙ ap (take len) (sym (drop-append-le start (take n s) (drop n s) p) ∙ ap (drop start) whole)

pub part_of_front : (s : List ℕ) (n start len : ℕ) → n ≤ length s → start + len ≤ n
    → take len (drop start (take n s)) ≡ take len (drop start s)
part_of_front s n start len w h = in_front s n start len (omega (arith, length-take-le n s w))

-- a part of a part
pub part_of_part : (s : List ℕ) (at n start len : ℕ) → start + len ≤ length (take n (drop at s))
    → take len (drop start (take n (drop at s))) ≡ take len (drop (at + start) s)
part_of_part s at n start len h = in_front (drop at s) n start len h ∙ ap (take len) (drop-drop start at s)
