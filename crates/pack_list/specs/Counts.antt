-- How many entries a list can have: a head that counts them has four bytes for the count.
use Rattle.std.specs.Prelude.{ℕ, ◌^◌, ◌<◌, List, [], ◌≡◌, refl, length, drop}
use Rattle.std.specs.Prelude.{Option, None, Some}
use Rattle.std.proofs.Common.{ap, arith}
use Rattle.slices.specs.Bytes.{AllBytes, drop_bytes}
use Rattle.slices.specs.Logic.{absurd_numbers}
use Rattle.msgpack.specs.Formats.{array_kind}
use Rattle.msgpack.specs.Lookup.{Under, found, missing, broken, last_value, at_place}
use Rattle.msgpack.specs.ReaderLaws.{count_small}
use Rattle.msgpack.specs.Readers.{Counted, read_array}
use Rattle.msgpack.specs.Views.{items_from, items_by, front_of, byte_view}
use Rattle.pack_list.specs.Lists.{entries_key}
use Rattle.pack_list.specs.Answers.{or_none, entry_items}
use Rattle.pack_list.specs.Walks.{items_count}

items_small : (s : List ℕ) → AllBytes s → (xs : List (List ℕ)) → byte_view.items s ≡ Some xs → length xs < 2 ^ 33
items_small s bytes xs e = by (read_array s) refl e
  where
    by : (o : Option Counted) → read_array s ≡ o → items_by s o ≡ Some xs → length xs < 2 ^ 33
    by None r q = absurd_numbers (cc)
    by (Some c) r q =
        let same : items_from c.count (drop c.size s) ≡ xs = cc in
        omega (arith, ap length same, items_count c.count (drop c.size s), count_small array_kind s bytes c r)

-- under a key of a map; an array that is missing is empty
under_small : {A : Type 0} (read : List ℕ → Option (List A)) → ((m : List ℕ) → AllBytes m → (xs : List A) → read m ≡ Some xs → length xs < 2 ^ 33)
    → (key s : List ℕ) → AllBytes s → (xs : List A) → at_place (Some []) read (byte_view.under key s) ≡ Some xs → length xs < 2 ^ 33
under_small {A} read small key s bytes xs e = by (last_value key s) e
  where
    by : (u : Under ℕ) → at_place (Some []) read (front_of s u) ≡ Some xs → length xs < 2 ^ 33
    by (found p) q = small (drop p s) (drop_bytes p bytes) xs q
    by missing q = let empty : [] ≡ xs = cc in rw (← empty) (omega arith)
    by broken q = absurd_numbers (cc)

pub entries_few : (s : List ℕ) → AllBytes s → length (entry_items s) < 2 ^ 33
unfolding entry_items
entries_few s bytes = by (at_place (Some []) byte_view.items (byte_view.under entries_key s)) refl
  where
    by : (o : Option (List (List ℕ))) → at_place (Some []) byte_view.items (byte_view.under entries_key s) ≡ o → length (or_none o) < 2 ^ 33
    by None e = omega arith
    by (Some xs) e = under_small byte_view.items items_small entries_key s bytes xs e
