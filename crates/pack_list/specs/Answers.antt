-- What the answers of the code say: entries by the contents at the places told, and the paper's numbers.
use Rattle.std.specs.Prelude.{ℕ, suc, ◌+◌, ◌-◌, ◌≤◌, ◌<◌, Bool, true, false, cond, ◌&&◌, ◌||◌, not, List, [], ◌∷◌, ◌++◌, map, ◌≡◌, leb, length, take, drop, get_or}
use Rattle.std.specs.Prelude.{Option, None, Some, Result, Ok, Err}
use Rattle.slices.specs.Places.{part_at}
use Rattle.slices.specs.declared.Place.{Place}
use Rattle.refusals.specs.Answers.{Answer, refused, granted, or_else}
use Rattle.identifier.specs.Ulid.{is_ulid}
use Rattle.msgpack.specs.Items.{Passage, whole, cut, too_deep, pass_items, pass_item, pass_over, WholeItem}
use Rattle.msgpack.specs.Readers.{Int, Counted, read_integer, read_text, read_array}
use Rattle.msgpack.specs.Lookup.{ValuePlace, last_value, at_place, if_there, over}
use Rattle.msgpack.specs.Pairs.{inside_allowed, place_told}
use Rattle.msgpack.specs.Views.{size_of, repeats, items_from, byte_view}
use Rattle.value.specs.Fields.{read_natural}
use Rattle.primary.specs.Answers as primary
use Rattle.primary.specs.declared.Texts.{Texts}
use Rattle.primary.specs.declared.Fault.{Fault as IdentifierFault}
use Rattle.primary.specs.declared.Fault.TheVariants as identifier-fault
use Rattle.primary.specs.Answers.{texts_in, placed_at, AllInside}
use Rattle.pack_list.specs.Lists.{entries_key, pack_key, source_key, stored_key, lengths_key, deltas_key, entry_keys, range_keys, Entry, PackList, each_of, range_at, entry_at, entry_repeats, sum, greatest, is_filled, pack_list}
use Rattle.pack_list.specs.Blocks.{gain, loss, blocks, is_counted, stride_for, stride, larger, holds, holder_from}
use Rattle.pack_list.specs.declared.Fault.{Fault}
use Rattle.pack_list.specs.declared.Fault.TheVariants as fault
use Rattle.pack_list.specs.declared.Range.{Range}
use Rattle.pack_list.specs.declared.Numbers.{Numbers}
use Rattle.pack_list.specs.declared.Sums.{Sums}
use Rattle.pack_list.specs.declared.Entry as placed
use Rattle.pack_list.specs.declared.EntryPlaces.{EntryPlaces}
use Rattle.pack_list.specs.declared.Tests.{Tests}
use Rattle.pack_list.specs.declared.Survey.{Survey}
use Rattle.pack_list.specs.declared.Held.{Held}
use Rattle.pack_list.specs.declared.PackList as listed
use Rattle.pack_list.specs.declared.NextEntry.{NextEntry}

-- the number of the refusal
abbrev pub number_of : Fault → ℕ
number_of (fault.Part f) = primary.number_of f
number_of fault.Unfilled = 21

-- ---- ranges

-- with whether a key repeats in its map
unfoldable pub range_told : List ℕ → Option (Range × Bool)
range_told s = over (λ r. (r, repeats byte_view range_keys s)) (range_at byte_view s)

-- a value stands in the map m at the place told of its key
pub record ValueAt (m : List ℕ) (place : ℕ) : Type 0 where
  pub inside : place ≤ length m
  pub whole : (place ≡ 0 → ⊥) → WholeItem (drop place m)

-- ---- arrays

abbrev pub items_in : List ℕ → Numbers → List (List ℕ)
items_in s n = items_from n.count (drop n.first s)

abbrev pub numbers_of : List ℕ → Option Numbers → Option (List (List ℕ))
numbers_of s (Some n) = Some (items_in s n)
numbers_of s None = None

-- those of an array whose item stands at a place: how many, and where the first of them does
abbrev pub counted_at : ℕ → Option Counted → Option Numbers
counted_at at (Some c) = Some (record { count = c.count; first = at + c.size })
counted_at at None = None

-- by the place told of a key in the map at a place; an array that is missing is empty, and told at the map's own
abbrev pub numbers_by : List ℕ → ℕ → ValuePlace → Option Numbers
numbers_by s at u = at_place (Some (record { count = 0; first = at })) (λ p. counted_at (at + p) (read_array (drop (at + p) s))) u

-- so many whole items stand at the front
pub record WholeItems (count : ℕ) (s : List ℕ) : Type 0 where
  pub size : ℕ
  pub is : pass_items (pass_item inside_allowed) count s ≡ whole size

pub record NumbersInside (s : List ℕ) (r : Option Numbers) : Type 0 where
  pub first : (n : Numbers) → r ≡ Some n → n.first ≤ length s
  pub whole : (n : Numbers) → r ≡ Some n → WholeItems n.count (drop n.first s)

-- whether lengths are within a total, of which this much is left, if those before them are; and what they leave of it
unfoldable pub within_from : Bool → ℕ → List ℕ → Bool × ℕ
within_from within left ls = (within && leb (sum ls) left, left - sum ls)

-- ---- deltas

-- the sums of these deltas, the second with a source length, where both are within 64 bits
pub record SumsAre (source : ℕ) (ds : List Int) (r : Sums) : Type 0 where
  pub counted : r.counted ≡ (leb (sum (map gain ds)) greatest && leb (source + sum (map loss ds)) greatest)
  pub gains : r.counted ≡ true → r.gains ≡ sum (map gain ds)
  pub losses : r.counted ≡ true → r.losses ≡ source + sum (map loss ds)

-- with one delta more
pub record WithDelta (d : Int) (old new : Sums) : Type 0 where
  pub keeps : (source : ℕ) (ds : List Int) → SumsAre source ds old → SumsAre source (ds ++ d ∷ []) new

-- items that are integers, and the sums of so many of them
pub record AreSummed (items : List (List ℕ)) (blocks source : ℕ) (r : Sums) : Type 0 where
  pub deltas : List Int
  pub are : each_of read_integer items ≡ Some deltas
  pub sums : SumsAre source (take blocks deltas) r

pub record DeltasSummed (items : List (List ℕ)) (blocks source : ℕ) (r : Option Sums) : Type 0 where
  pub summed : (x : Sums) → r ≡ Some x → AreSummed items blocks source x
  pub missing : r ≡ None → each_of read_integer items ≡ None

-- ---- entries

-- what stands at the places of an entry
unfoldable pub entry_of : List ℕ → placed.Entry → Option Entry
entry_of s e =
    if_there (each_of read_natural (items_in s e.lengths)) λ lengths.
    if_there (each_of read_integer (items_in s e.deltas)) λ deltas.
    Some (record { pack = part_at s e.pack; source = e.source; stored = e.stored; lengths = lengths; deltas = deltas })

-- an entry, with what is told of it
pub record Told : Type 0 where
  pub entry : Entry
  pub tests : Tests

unfoldable pub told_of : Entry → Bool → ℕ → Told
told_of e repeated size =
    record {
      entry = e;
      tests = record {
        size = size;
        repeated = repeated;
        named = is_ulid e.pack;
        filled = is_filled e;
        blocks = blocks e;
        stride = cond (is_counted e) (stride_for e) 0;
        counted = is_counted e;
      };
    }

abbrev pub told_in : List ℕ → Option (placed.Entry × Tests) → Option Told
told_in s (Some r) = over (λ x. record { entry = x; tests = r.1 }) (entry_of s r.0)
told_in s None = None

-- of the item m
unfoldable pub entry_told : List ℕ → Option Told
entry_told m = over (λ e. told_of e (entry_repeats byte_view m) (size_of (pass_over m))) (entry_at byte_view m)

-- where the text under the last `p` of the map at a place has its content
unfoldable pub pack_place : List ℕ → ℕ → Option Place
pack_place s at = at_place None (λ p. placed_at (at + p) (read_text (drop p (drop at s)))) (last_value pack_key (drop at s))

-- where the array under the last such key of the map at a place has its items
unfoldable pub numbers_place : List ℕ → List ℕ → ℕ → Option Numbers
numbers_place key s at = numbers_by s at (last_value key (drop at s))

-- the places of an entry that was tested, whose lengths and deltas were read
pub record SameEntry (s : List ℕ) (e : placed.Entry) (r : Option (placed.Entry × Tests)) : Type 0 where
  pub same : (x : placed.Entry) (t : Tests) → r ≡ Some (x, t) → x ≡ e
  pub there : (x : placed.Entry) (t : Tests) → r ≡ Some (x, t) → entry_of s x ≡ None → ⊥

-- an entry whose item stands at a place: its pack is named there, and its lengths and deltas stand there and can be read
pub record EntryHere (s : List ℕ) (at : ℕ) (e : placed.Entry) : Type 0 where
  pub pack : Some e.pack ≡ pack_place s at
  pub lengths : Some e.lengths ≡ numbers_place lengths_key s at
  pub deltas : Some e.deltas ≡ numbers_place deltas_key s at
  pub there : entry_of s e ≡ None → ⊥

pub record EntryInside (s : List ℕ) (at : ℕ) (r : Option (placed.Entry × Tests)) : Type 0 where
  pub here : (e : placed.Entry) (t : Tests) → r ≡ Some (e, t) → EntryHere s at e

-- what the code knows on the way: where the values of an entry's keys stand in the map m
pub record EntryAt (m : List ℕ) (p : EntryPlaces) : Type 0 where
  pub size : size_of (pass_over m) ≡ p.size
  pub pack : last_value pack_key m ≡ place_told p.pack
  pub source : last_value source_key m ≡ place_told p.source
  pub stored : last_value stored_key m ≡ place_told p.stored
  pub lengths : last_value lengths_key m ≡ place_told p.lengths
  pub deltas : last_value deltas_key m ≡ place_told p.deltas
  pub repeated : repeats byte_view entry_keys m ≡ p.repeated

-- ---- all entries

-- with one entry more
unfoldable pub with_tests : Survey → Tests → Survey
with_tests all t =
    record {
      repeated = all.repeated || t.repeated;
      named = all.named && t.named;
      filled = all.filled && t.filled;
      stride = larger all.stride t.stride;
    }

abbrev pub holder_with : Option Held → Bool → Held → Option Held
holder_with None holds held = cond holds (Some held) None
holder_with (Some first) holds held = Some first

-- the number of the first entry that holds a byte, and the item that it is
abbrev pub holder_of : List ℕ → Option Held → Option (ℕ × List ℕ)
holder_of s None = None
holder_of s (Some h) = Some (h.number, drop h.at s)

abbrev pub held_by : ℕ → ℕ → List ℕ → Entry → Option (ℕ × List ℕ)
held_by byte number item e = cond (holds e byte) (Some (number, item)) None

-- the entries that these items are, the first of which has a number, after those that were surveyed
unfoldable pub survey_from : (byte number : ℕ) → Survey → Option (ℕ × List ℕ) → List (List ℕ) → Option (Survey × Option (ℕ × List ℕ))
survey_from byte number all holder [] = Some (all, holder)
survey_from byte number all holder (m ∷ ms) =
    if_there (entry_told m) λ t.
    survey_from byte (suc number) (with_tests all t.tests) (or_else holder (held_by byte number m t.entry)) ms

abbrev pub no_entry : Survey
no_entry = record { repeated = false; named = true; filled = true; stride = 0 }

unfoldable pub surveyed : ℕ → List (List ℕ) → Option (Survey × Option (ℕ × List ℕ))
surveyed byte items = survey_from byte 0 no_entry None items

abbrev pub survey_of : List ℕ → Option (Survey × Option Held) → Option (Survey × Option (ℕ × List ℕ))
survey_of s (Some r) = Some (r.0, holder_of s r.1)
survey_of s None = None

-- what is told of an entry that holds the byte is so, and its item stands at the place told
pub record HeldHere (s : List ℕ) (h : Held) : Type 0 where
  pub whole : WholeItem (drop h.at s)
  pub entry : Entry
  pub is : entry_of s h.entry ≡ Some entry
  pub item : entry_at byte_view (drop h.at s) ≡ Some entry
  pub as_many : h.blocks ≡ blocks entry
  pub counted : h.counted ≡ is_counted entry
  pub here : EntryHere s h.at h.entry

pub record HolderInside (s : List ℕ) (h : Option Held) : Type 0 where
  pub held : (x : Held) → h ≡ Some x → HeldHere s x

pub record SurveyedInside (s : List ℕ) (r : Option (Survey × Option Held)) : Type 0 where
  pub holder : (all : Survey) (h : Option Held) → r ≡ Some (all, h) → HolderInside s h

-- ---- the entries of a list

abbrev pub or_none : {A : Type 0} → Option (List A) → List A
or_none (Some xs) = xs
or_none None = []

-- the items that they are
unfoldable pub entry_items : List ℕ → List (List ℕ)
entry_items s = or_none (at_place (Some []) byte_view.items (byte_view.under entries_key s))

unfoldable pub entries_in : List ℕ → Numbers → List Entry
entries_in s n = or_none (each_of (entry_at byte_view) (items_in s n))

abbrev pub list_in : List ℕ → listed.PackList → PackList
list_in s l = record { identifier = texts_in s l.identifier; entries = entries_in s l.entries }

-- ---- what the code knows on the way to it

-- the fault of the identifier, beside whether a key repeats in the entries: 22 comes before 18
abbrev pub fault_beside : IdentifierFault → Bool → IdentifierFault
fault_beside identifier-fault.NotWhole repeated = identifier-fault.NotWhole
fault_beside identifier-fault.NotAsDescribed repeated = identifier-fault.NotAsDescribed
fault_beside identifier-fault.Repeated repeated = identifier-fault.Repeated
fault_beside identifier-fault.RuleBroken repeated = cond repeated identifier-fault.Repeated identifier-fault.RuleBroken

-- with the stride, and the first entry that holds the byte
abbrev pub ListRead : Type 0
ListRead = Result (listed.PackList × ℕ × Option Held) Fault

abbrev pub list_by : Result Texts IdentifierFault → Numbers → Survey → Option Held → ListRead
list_by (Err f) entries all holder = Err (fault.Part (fault_beside f all.repeated))
list_by (Ok t) entries all holder =
    cond all.repeated (Err (fault.Part identifier-fault.Repeated))
    (cond (not all.named) (Err (fault.Part identifier-fault.RuleBroken))
    (cond (not all.filled) (Err fault.Unfilled)
    (Ok (record { identifier = t; entries = entries }, all.stride, holder))))

-- ---- the list

abbrev pub reading_of : List ℕ → Result listed.PackList Fault → Answer PackList
reading_of s (Ok l) = granted (list_in s l)
reading_of s (Err f) = refused (number_of f)

-- the texts and the entries lie in the part
pub record ListInside (s : List ℕ) (l : listed.PackList) : Type 0 where
  pub identifier : AllInside s l.identifier
  pub place : Some l.entries ≡ numbers_place entries_key s 0
  pub first : l.entries.first ≤ length s
  pub whole : WholeItems l.entries.count (drop l.entries.first s)
  pub items : items_in s l.entries ≡ entry_items s
  pub are : each_of (entry_at byte_view) (items_in s l.entries) ≡ Some (entries_in s l.entries)

pub record ReadingInside (s : List ℕ) (r : Result listed.PackList Fault) : Type 0 where
  pub list : (l : listed.PackList) → r ≡ Ok l → ListInside s l

-- the list, the stride and the holder of the byte
abbrev pub read_for : List ℕ → ListRead → Answer PackList
read_for s (Ok r) = granted (list_in s r.0)
read_for s (Err f) = refused (number_of f)

-- the number of the entry that holds the byte, and what it holds
abbrev pub held_of : List ℕ → Held → Option (ℕ × Entry)
held_of s h = over (λ e. (h.number, e)) (entry_of s h.entry)

abbrev pub holder_in : List ℕ → Option Held → Option (ℕ × Entry)
holder_in s None = None
holder_in s (Some h) = held_of s h

-- it keeps the rules, and holds the byte
pub record HeldIs (s : List ℕ) (byte : ℕ) (h : Held) : Type 0 where
  pub here : HeldHere s h
  pub filled : is_filled here.entry ≡ true
  pub holds : holds here.entry byte ≡ true
  pub stands : drop h.at s ≡ get_or (entry_items s) h.number []

pub record ReadFor (s : List ℕ) (byte : ℕ) (r : ListRead) : Type 0 where
  pub reads : read_for s r ≡ pack_list s
  pub inside : (l : listed.PackList) (n : ℕ) (h : Option Held) → r ≡ Ok (l, n, h) → ListInside s l
  pub stride : (l : listed.PackList) (n : ℕ) (h : Option Held) → r ≡ Ok (l, n, h) → n ≡ stride (entries_in s l.entries)
  pub held : (l : listed.PackList) (n : ℕ) (h : Option Held) → r ≡ Ok (l, n, h) → holder_in s h ≡ holder_from byte 0 (entries_in s l.entries)
  pub holding : (l : listed.PackList) (n : ℕ) (h : Held) → r ≡ Ok (l, n, Some h) → HeldIs s byte h

-- an entry told is the item of its number
pub record EntryStands (s : List ℕ) (number : ℕ) (e : placed.Entry) : Type 0 where
  pub at : ℕ
  pub within : at < length s
  pub item : drop at s ≡ get_or (entry_items s) number []
  pub here : EntryHere s at e

-- ---- an entry and the place of the next

abbrev pub if_passed : {A : Type 0} → Passage → (ℕ → Option A) → Option A
if_passed (whole n) next = next n
if_passed cut next = None
if_passed too_deep next = None

-- the entry at a place, if a whole item stands there, and the place behind it
unfoldable pub next_entry : List ℕ → ℕ → Option (Entry × ℕ)
next_entry s at = if_passed (pass_over (drop at s)) λ n. over (λ e. (e, at + n)) (entry_at byte_view (drop at s))

abbrev pub next_of : List ℕ → Option NextEntry → Option (Entry × ℕ)
next_of s (Some r) = over (λ x. (x, r.next)) (entry_of s r.entry)
next_of s None = None

pub record NextInside (s : List ℕ) (at : ℕ) (r : Option NextEntry) : Type 0 where
  pub here : (n : NextEntry) → r ≡ Some n → EntryHere s at n.entry
  pub blocks : (n : NextEntry) → r ≡ Some n → (x : Entry) → entry_of s n.entry ≡ Some x → n.blocks ≡ blocks x
