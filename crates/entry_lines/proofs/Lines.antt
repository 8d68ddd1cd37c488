-- The parts of a line, put one after the other, are the line.
use Prim.Native.Nat.{ℕ, ◌+◌, ◌≤◌}
use mathlib.Core.List.{List, ◌++◌}
use native.Mathlib.Omega.{arith}
use lib.ListN.{length, length-append}
use Rattle.pack.specs.declared.Entry.{Entry}
use Rattle.console.specs.Put.{Put, Next, put_length, put_then, put_next}
use Rattle.console.proofs.Lines.{start_put}
use Rattle.console.specs.Text.{decimal, space, newline, decimal_length}
use Rattle.entry_lines.specs.Text.{hex, front, line, front_length}

pub front_put : {s0 s1 s2 s3 s4 s5 s6 : List ℕ} {at m1 m2 m3 m4 m5 m6 : ℕ} (e : Entry) → at + 47 ≤ length s0
    → Next s0 at (decimal e.start) s1 m1 → Next s1 m1 space s2 m2 → Put s2 m2 (hex 4 e.tag) s3 m3 → Next s3 m3 space s4 m4 → Next s4 m4 (decimal e.length) s5 m5 → Next s5 m5 space s6 m6
    → Put s0 at (front e) s6 m6
unfolding front
front_put e h p q r t u v =
    let d1 = decimal_length e.start in
    let d2 = decimal_length e.length in
    let l1 = length-append (decimal e.start) space in
    let l2 = length-append (decimal e.start ++ space) (hex 4 e.tag) in
    let l3 = length-append (decimal e.start ++ space ++ hex 4 e.tag) space in
    let l4 = length-append (decimal e.start ++ space ++ hex 4 e.tag ++ space) (decimal e.length) in
    put_next (omega arith) (put_next (omega arith) (put_next (omega arith) (put_then (omega arith) (start_put e.start 26 h p q) r) t) u) v

-- the front, and the room behind it for the hash and the line end
module _ {s0 s1 : List ℕ} {at m1 : ℕ} (e : Entry) (h : at + 64 ≤ length s0) (p : Put s0 at (front e) s1 m1) where
  pub room_behind_front : m1 + 17 ≤ length s1
  room_behind_front = let l = front_length e in omega (arith, p.place, put_length (omega arith) p)

  pub line_put : {s2 s3 : List ℕ} {m2 m3 : ℕ} → Put s1 m1 (hex 16 e.hash) s2 m2 → Next s2 m2 newline s3 m3 → Put s0 at (line e) s3 m3
  unfolding line
  line_put q r =
      let l = front_length e in
      let l2 = length-append (front e) (hex 16 e.hash) in
      put_next (omega arith) (put_then (omega arith) p q) r
