-- The answer of the deposit check from its outcome: a count and a place are within the limit on a pack's length, so that nothing is cut off.
use Prim.Native.Nat.{ℕ, ◌%◌, ◌^◌, ◌≤◌, ◌<◌}
use mathlib.Core.List.{List}
use mathlib.Core.Path.{◌≡◌, refl, ap, ◌∙◌}
use native.Mathlib.Omega.{arith}
use lib.ListN.{length}
use Rattle.slices.specs.Logic.{absurd_numbers}
use Rattle.refusals.specs.Limit.{pack_limit}
use Rattle.pack.specs.declared.Entry.{Entry}
use Rattle.pack.specs.Reading.{Reading, Ending, whole, refused, reading, counted, outcome}
use Rattle.words.specs.Words.{answer, answer_whole}
use Rattle.deposit.specs.Packs.{deposit_reading, deposit}
use Rattle.deposit.specs.Deposited.{deposit_count}
use Rattle.deposit.proofs.Deposited.{deposit_place}
use Rattle.capi_deposit.specs.Deposit.{deposit_answer}

count_is : (r : Reading) (n : ℕ) → counted n ≡ outcome r → n ≡ length r.entries
count_is r n e = by r.entries r.ending e
  where
    by : (es : List Entry) (x : Ending) → counted n ≡ outcome (record { entries = es; ending = x }) → n ≡ length es
    by es whole q = cc
    by es (refused m at) q = absurd_numbers (cc)

refusal_is : (r : Reading) (n place : ℕ) → refused n place ≡ outcome r → r.ending ≡ refused n place
refusal_is r n place e = by r.entries r.ending e
  where
    by : (es : List Entry) (x : Ending) → refused n place ≡ outcome (record { entries = es; ending = x }) → x ≡ refused n place
    by es whole q = absurd_numbers (cc)
    by es (refused m at) q = cc

entries_kept : (s : List ℕ) → (deposit_reading pack_limit s).entries ≡ (reading pack_limit s).entries
unfolding deposit_reading
entries_kept s = refl

pub counted_answer : (s : List ℕ) (n : ℕ) → counted n ≡ deposit pack_limit s → answer 0 n % 2 ^ 64 ≡ deposit_answer (deposit pack_limit s)
counted_answer s n e =
    let within : n ≤ pack_limit = omega (arith, count_is (deposit_reading pack_limit s) n e, ap length (entries_kept s), deposit_count pack_limit s) in
    answer_whole 0 n (omega arith) (omega arith) ∙ ap deposit_answer e

pub refused_answer : (s : List ℕ) (n place : ℕ) → n < 256 → refused n place ≡ deposit pack_limit s → answer n place % 2 ^ 64 ≡ deposit_answer (deposit pack_limit s)
refused_answer s n place small e =
    let within : place ≤ pack_limit = deposit_place pack_limit s n place (refusal_is (deposit_reading pack_limit s) n place e) in
    answer_whole n place small (omega arith) ∙ ap deposit_answer e
