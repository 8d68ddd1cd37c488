-- What is answered for a record that is admitted, by the tests, and what is then left.
use Prim.Native.Nat.{ℕ, ◌+◌, ◌≤◌, ◌<◌}
use mathlib.Core.Bool.{Bool, true, false, cond}
use mathlib.Core.List.{List}
use mathlib.Core.Path.{◌≡◌, refl, sym, ap, ◌∙◌}
use Rattle.std.specs.Prelude.{Result, Ok, Err}
use native.Mathlib.Omega.{arith}
use borrow.Author.Tests.{le-leb, lt-leb, leb-true}
use lib.Dec.{leb}
use lib.ListN.{length, take, drop}
use Rattle.slices.specs.Overwriting.{overwritten}
use Rattle.slices.specs.Logic.{absurd_numbers}
use Rattle.refusals.specs.Limit.{pack_limit}
use Rattle.refusals.specs.Answers.{granted, refused}
use Rattle.refusals.specs.declared.Unwritten.{Unwritten}
use Rattle.tlv.specs.Layout.{head, layout, length_layout}
use Rattle.writer.specs.Putting.{Puts}
use Rattle.writer.specs.Writing.{record_of, answer_of, counted, Stores}
use Rattle.writer.proofs.Headers.{record_put}

module _ (limit room used n : ℕ) where
  pub above_limit : limit < used + n → refused 20 ≡ counted limit room used n
  unfolding counted
  above_limit h = rw (lt-leb _ _ h)

  pub no_room : used + n ≤ limit → room < used + n → refused 19 ≡ counted limit room used n
  unfolding counted
  no_room l h = rw (le-leb _ _ l, lt-leb _ _ h)

  pub has_room_lem : (m : ℕ) → m ≡ used + n → used + n ≤ limit → used + n ≤ room → granted m ≡ counted limit room used n
  unfolding counted
  has_room_lem m e l h = rw (le-leb _ _ l, le-leb _ _ h, e)

  pub room_inside : (m : ℕ) → granted m ≡ counted limit room used n → used + n ≤ room
  unfolding counted
  room_inside m e = go (leb (used + n) limit) (leb (used + n) room) refl e
    where
      go : (a b : Bool) → leb (used + n) room ≡ b → granted m ≡ cond a (cond b (granted (used + n)) (refused 19)) (refused 20) → used + n ≤ room
      go true true f g = leb-true _ _ f
      go true false f g = absurd_numbers (cc)
      go false b f g = absurd_numbers (cc)

-- a is what was answered for a value whose length was computed as n
pub record Tested (used tag : ℕ) (value buf : List ℕ) (n : ℕ) (a : Result ℕ Unwritten) : Type 0 where
  pub size : n ≡ length value
  pub answer : answer_of a ≡ counted pack_limit (length buf) used (32 + n)

module _ {used tag : ℕ} {value buf : List ℕ} {n : ℕ} {a : Result ℕ Unwritten} (t : Tested used tag value buf n a) where
  abbrev bytes : List ℕ
  bytes = layout (record_of tag value)

  counts : answer_of a ≡ counted pack_limit (length buf) used (length bytes)
  counts = t.answer ∙ ap (counted pack_limit (length buf) used) (ap (λ (k : ℕ). 32 + k) t.size ∙ sym (length_layout (record_of tag value)))

  pub stores_nothing : (b : Result ℕ Unwritten) (f : Unwritten) → a ≡ Err f → b ≡ Err f → Stores used bytes buf b buf
  stores_nothing b f e g =
      let told : answer_of b ≡ counted pack_limit (length buf) used (length bytes) = ap answer_of (g ∙ sym e) ∙ counts in
      record { told = told; left = rw (← told, g) refl }

  module _ {m : ℕ} (there : a ≡ Ok m) where
    pub fits : used + (32 + n) ≤ length buf
    fits = room_inside pack_limit (length buf) used (32 + n) m (ap answer_of (sym there) ∙ t.answer)

    pub value_fits : used + 32 + length value ≤ length buf
    value_fits = omega (arith, fits, t.size)

    pub stores_record : {put after : List ℕ} {next : ℕ} → Puts buf (used + 32) value put next
        → after ≡ overwritten put used (head (record_of tag (take n (drop (used + 32) put)))) → Stores used bytes buf (Ok m) after
    stores_record {put} {after} {next} p e =
        let told : granted m ≡ counted pack_limit (length buf) used (length bytes) = ap answer_of (sym there) ∙ counts in
        let f : after ≡ overwritten put used (head (record_of tag (take (length value) (drop (used + 32) put)))) = rw (← t.size) e in
        record { told = told; left = rw (← told) (record_put buf put after used next tag value (omega (arith, fits, t.size)) p f) }
