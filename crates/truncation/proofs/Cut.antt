-- Of an accepted pack, cut inside a record, what its first n bytes are read as; and that a cut falls in exactly one of the two ways.
use Prim.Native.Nat.{ℕ, ◌+◌, ◌-◌, ◌≤◌}
use Rattle.std.specs.Prelude.{◌≡◌, refl, take}
use mathlib.Core.List.{List, [], ◌∷◌, ◌++◌, append-nil}
use Rattle.std.proofs.Common.{sym, ◌∙◌, zero-add, arith, le-ltb}
use Rattle.std.proofs.Math.Path.{ap}
use Rattle.std.proofs.Math.ListN.{length, drop, length-drop}
use Rattle.std.proofs.Math.Seq.{length-take-le}
use Rattle.slices.specs.Bytes.{AllBytes}
use Rattle.slices.specs.Logic.{absurd_numbers}
use Rattle.tlv.specs.Found.{fault, step}
use Rattle.tlv.specs.Stands.{step_stands}
use Rattle.pack.specs.declared.Entry.{Entry}
use Rattle.pack.specs.Reading.{Reading, whole, refused, reading, records_fault}
use Rattle.pack.proofs.Acceptance.{accepted_within, accepted_fills}
use Rattle.truncation.specs.Steps.{cut_number}
use Rattle.truncation.proofs.Steps.{record_cut}
use Rattle.truncation.specs.Cut.{InsideRecord, CutOff, first, within, before_cut, cut_between, falls}

module _ (limit : ℕ) (s : List ℕ) (accepted : (reading limit s).ending ≡ whole) (n : ℕ) (inside : n ≤ length s) where
  pub cut_inside : (c : InsideRecord (reading limit s).entries n)
      → reading limit (take n s) ≡ record { entries = c.before; ending = refused (cut_number (n - c.broken.start)) c.broken.start }
  unfolding reading
  cut_inside c =
      let start : ℕ = c.broken.start in
      let p = before_cut limit s accepted n inside c.before (c.broken ∷ c.behind) start c.entries c.fills (omega (arith, c.begun)) in
      let left : List ℕ = drop start (take n s) in
      let f = first (0 + start) (left ++ drop n s) c.broken c.behind p.whole_pack in
      let so_many : length left ≡ n - start = length-drop start (take n s) ∙ ap (λ (k : ℕ). k - start) (length-take-le n s inside) in
      let size : c.broken.length ≡ f.header.length = ap (λ (e : Entry). e.length) (sym f.entry) in
      let cut : step left ≡ fault (cut_number (length left)) = record_cut left (drop n s) f.header (step_stands (left ++ drop n s) f.header f.there)
      (omega (arith, c.begun)) (omega (arith, c.unfinished, c.begun)) in
      rw (le-ltb limit (length (take n s)) (within limit s accepted n inside), p.front, records_fault (0 + start) left (cut_number (length left)) cut, append-nil, so_many, zero-add)

-- THE THEOREM
pub cut_off : (limit : ℕ) (s : List ℕ) (n : ℕ) → AllBytes s → (reading limit s).ending ≡ whole → n ≤ length s → CutOff limit s n
cut_off limit s n bytes e inside =
    let between = cut_between limit s e n inside in
    let broken = cut_inside limit s e n inside in
    record {
      either_way = falls n [] (reading limit s).entries 0 (length s) refl (accepted_fills limit s (accepted_within limit s e) bytes e) (omega arith) inside;
      not_both = λ b c. absurd_numbers (let clash = ap (λ (r : Reading). r.ending) (sym (between b) ∙ broken c) in cc);
      accepted = between;
      broken_refused = broken;
      front_accepted = λ c. cut_between limit s e c.broken.start (omega (arith, c.begun))
          (record { before = c.before; behind = c.broken ∷ c.behind; entries = c.entries; fills = c.fills });
    }
