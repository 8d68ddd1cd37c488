-- From text to struct to text, and from struct to text to struct.
use Rattle.std.specs.Prelude.{ℕ, ◌+◌, ◌≤◌, ◌≡◌, refl, Bool, true, false, cond, List, length, take, drop}
use Rattle.std.proofs.Common.{sym, ap, ◌∙◌, arith, leb-true}
use Rattle.std.specs.Prelude.{Option, None, Some}
use Rattle.slices.specs.Overwriting.{overwritten, overwritten_there}
use Rattle.identifier.specs.Identity.{Identity, is_valid, sizes}
use Rattle.identifier.specs.Composite.{identity_in, composite_text, reads_text, text_reads}
use Rattle.held_identifier.specs.Held.{named, is_admitted, held, answered, named_held}
use Rattle.held_identifier.specs.Writing.{wrote, refused, fits, outcome, left, write_done}
use Rattle.held_identifier.specs.declared.Identifier.{Identifier}

-- a text that was read is written again as that text, wherever it has room
pub text_struct_text : (t out : List ℕ) (at : ℕ) (s : Identifier) → answered (identity_in t) ≡ Some s → at + length t ≤ length out
    → (outcome (named s) out at ≡ wrote (length t)) × (left (named s) out at ≡ overwritten out at t)
unfolding answered
text_struct_text t out at s v h = go (identity_in t) refl v
  where
    go : (x : Option Identity) → identity_in t ≡ x → answered x ≡ Some s
        → (outcome (named s) out at ≡ wrote (length t)) × (left (named s) out at ≡ overwritten out at t)
    go None e w = let z : ◌≡◌ {A = ℕ} 0 1 = cc in absurd (omega arith)
    go (Some i) e w =
        let r = reads_text t i e in
        let is : held i ≡ s = cc in
        rw (← is, named_held i (sizes i r.0), ← r.1)
        (write_done i out at r.0 (rw r.1 h))

-- what was written, read from where it was written, is what was to be written
written_back : (i : Identity) (out : List ℕ) (at n : ℕ) (ok room : Bool) → is_admitted (Some i) ≡ ok → fits i out at ≡ room
    → cond ok (cond room (wrote (length (composite_text i))) (refused 19)) (refused 20) ≡ wrote n
    → identity_in (take n (drop at (cond ok (cond room (overwritten out at (composite_text i)) out) out))) ≡ Some i
unfolding is_admitted fits
written_back i out at n true true v h e =
    let k : n ≡ length (composite_text i) = cc in
    rw (k, overwritten_there out at (composite_text i) (leb-true _ _ h)) (text_reads i v)
written_back i out at n true false v h e = let z : ◌≡◌ {A = ℕ} 0 1 = cc in absurd (omega arith)
written_back i out at n false room v h e = let z : ◌≡◌ {A = ℕ} 0 1 = cc in absurd (omega arith)

-- a struct that was written reads, from the bytes written, as what it names
pub written_reads : (s : Identifier) (out : List ℕ) (at n : ℕ) → outcome (named s) out at ≡ wrote n
    → identity_in (take n (drop at (left (named s) out at))) ≡ named s
unfolding outcome left
written_reads s out at n e = go (named s) e
  where
    go : (x : Option Identity) → outcome x out at ≡ wrote n → identity_in (take n (drop at (left x out at))) ≡ x
    go None w = let z : ◌≡◌ {A = ℕ} 0 1 = cc in absurd (omega arith)
    go (Some i) w = written_back i out at n (is_admitted (Some i)) (fits i out at) refl refl w

-- and then as a struct that names the same ULID, bucket and object
pub struct_text_struct : (s : Identifier) (i : Identity) → named s ≡ Some i → is_admitted (named s) ≡ true
    → (answered (identity_in (composite_text i)) ≡ Some (held i)) × (named (held i) ≡ named s)
unfolding answered is_admitted
struct_text_struct s i e v =
    let w : is_valid i ≡ true = ap is_admitted (sym e) ∙ v in
    rw (text_reads i w, e) (refl, named_held i (sizes i w))
