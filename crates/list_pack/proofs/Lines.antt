-- One line after the other.
use Prim.Native.Nat.{ℕ, ◌+◌, ◌*◌, ◌≤◌, ◌<◌}
use mathlib.Core.List.{List}
use mathlib.Core.Path.{◌≡◌, refl, sym, subst, ◌∙◌}
use native.Mathlib.Omega.{arith}
use lib.ListN.{length, get_or, take}
use Rattle.pack.specs.declared.Entry.{Entry}
use Rattle.console.specs.Put.{Put, PutWithRoom, put_none, put_length, put_then}
use Rattle.entry_lines.specs.Text.{line, lines, line_length, lines_more}

pub record Lines (s0 : List ℕ) (es : List Entry) (i : ℕ) (s : List ℕ) (at : ℕ) : Type 0 where
  pub same : length s ≡ length s0
  pub short : at ≤ 64 * i
  pub so_far : Put s0 0 (lines (take i es)) s at

pub no_lines : (s0 : List ℕ) (es : List Entry) → Lines s0 es 0 s0 0
unfolding lines
no_lines s0 es = record { same = refl; short = omega arith; so_far = put_none s0 }

pub more_lines : {s0 s s' : List ℕ} {at next : ℕ} (es : List Entry) (i : ℕ) (d : Entry) → i < length es → i < 2048 → 131072 ≤ length s0 → Lines s0 es i s at → PutWithRoom 64 s at (line (get_or es i d)) s' next → Lines s0 es (i + 1) s' next
more_lines {s0} {s} {s'} {at} {next} es i d there few room v with_room =
    let l = line_length (get_or es i d) in
    let b : at ≤ 64 * i = v.short in
    let m : length s ≡ length s0 = v.same in
    let p = with_room.fits (omega arith) in
    let fits : at + length (line (get_or es i d)) ≤ length s = omega arith in
    record {
      same = put_length fits p ∙ m;
      short = omega (arith, p.place);
      so_far = subst (λ (t : List ℕ). Put s0 0 t s' next) (sym (lines_more es i d there)) (put_then (omega (arith, v.so_far.place)) v.so_far p);
    }
