-- A pack that comes in parts (request 6): what is kept between them, and what a call answers. The bytes are taken one after the other.
use Rattle.std.specs.Prelude.{ℕ, suc, ◌+◌, Bool, cond, ◌&&◌, List, [], ◌∷◌, ◌++◌, eqb, leb, ltb, length}
use Rattle.std.specs.Prelude.{Option, None, Some}
use Rattle.refusals.specs.Sheet.{lowest}
use Rattle.xxh64.specs.Parts.{Hashing, fresh, push, finished}
use Rattle.tlv.specs.Found.{header_rows, header_of}
use Rattle.pack.specs.Reading.{entry_at}
use Rattle.pack.specs.declared.Entry.{Entry}

-- ---- what is kept between calls

-- how much of a record there is: its header's bytes so far, fewer than 32; or its header's bytes, and the hash of its value's so far
pub data Phase : Type 0 where
  in_header : List ℕ → Phase
  in_value : List ℕ → Hashing → Phase

-- where the record that is taken now starts, how many were complete before it, and how much of it there is
pub record Going : Type 0 where
  pub start : ℕ
  pub records : ℕ
  pub phase : Phase

pub data Progress : Type 0 where
  going : Going → Progress
  refused : (number place : ℕ) → Progress
  ended : (records : ℕ) → Progress

abbrev pub in_phase : Going → Phase → Going
in_phase g p = record { start = g.start; records = g.records; phase = p }

-- before the first byte of a pack, and before the next record, where one with a value of n bytes is complete
abbrev pub at_start : Going
at_start = record { start = 0; records = 0; phase = in_header [] }

abbrev pub next_record : Going → ℕ → Going
next_record g n = record { start = g.start + 32 + n; records = suc g.records; phase = in_header [] }

-- how many bytes were taken since the fresh state
abbrev pub size_of : Phase → ℕ
size_of (in_header t) = length t
size_of (in_value head hashing) = 32 + hashing.count

abbrev pub position : Going → ℕ
position g = g.start + size_of g.phase

-- ---- one byte

-- what it leads to
pub data Next : Type 0 where
  onward : Going → Next
  completes : Entry → Going → Next
  refuses : (number place : ℕ) → Next

-- once so much of the value is there: the last byte of it decides by its hash
unfoldable pub valued : Going → List ℕ → Hashing → Next
valued g head hashing =
    let h = header_of head in
    cond (ltb hashing.count h.length) (onward (in_phase g (in_value head hashing)))
    (cond (eqb h.hash (finished hashing)) (completes (entry_at g.start h) (next_record g h.length)) (refuses 8 g.start))

-- the header is whole: 3 to 6, or its value begins, an empty one is there at once
abbrev pub opened : Going → List ℕ → Option ℕ → Next
opened g head None = valued g head fresh
opened g head (Some n) = refuses n g.start

-- once so much of the header is there
unfoldable pub headed : Going → List ℕ → Next
headed g t = cond (ltb (length t) 32) (onward (in_phase g (in_header t))) (opened g t (lowest (header_rows t)))

abbrev pub grown : Going → Phase → ℕ → Next
grown g (in_header t) b = headed g (t ++ (b ∷ []))
grown g (in_value head hashing) b = valued g head (push hashing b)

-- 1 at place 0 where the byte is past the limit
unfoldable pub byte : ℕ → Going → ℕ → Next
byte limit g b = cond (leb limit (position g)) (refuses 1 0) (grown g g.phase b)

-- ---- one call

-- what it tells: more is wanted, a record is complete, a refusal, the pack has ended with so many records; or the state is none that a call leaves
pub data Notice : Type 0 where
  wanted : Notice
  complete : Entry → Notice
  refusal : (number place : ℕ) → Notice
  over : (records : ℕ) → Notice
  malformed : Notice

pub record Call : Type 0 where
  pub after : Progress
  pub notice : Notice
  pub taken : ℕ

-- nothing is taken with a refusal or after the end
abbrev pub counted : Notice → ℕ → ℕ
counted wanted n = n
counted (complete e) n = n
counted (refusal number place) n = 0
counted (over records) n = 0
counted malformed n = 0

-- n bytes were taken before it
abbrev pub later : ℕ → Call → Call
later n c = record { after = c.after; notice = c.notice; taken = counted c.notice (n + c.taken) }

-- so it is again at every later call
abbrev pub refusing : (number place : ℕ) → Call
refusing n place = record { after = refused n place; notice = refusal n place; taken = 0 }

-- n bytes led here, and then `rest`
abbrev pub proceed : ℕ → Next → (Going → Call) → Call
proceed n (onward g) rest = later n (rest g)
proceed n (completes e g) rest = record { after = going g; notice = complete e; taken = n }
proceed n (refuses number place) rest = refusing number place

-- n bytes led here, and the part ends
abbrev pub stepped : ℕ → Next → Call
stepped n (onward g) = record { after = going g; notice = wanted; taken = n }
stepped n (completes e g) = record { after = going g; notice = complete e; taken = n }
stepped n (refuses number place) = refusing number place

-- the bytes of a part, up to one that completes a record or is refused
unfoldable pub advance : ℕ → Progress → List ℕ → Call
advance limit (going g) [] = record { after = going g; notice = wanted; taken = 0 }
advance limit (going g) (b ∷ s) = proceed 1 (byte limit g b) (λ next. advance limit (going next) s)
advance limit (refused n place) s = refusing n place
advance limit (ended records) s = record { after = ended records; notice = over records; taken = 0 }

-- the end is announced: 2 and 7, or the number of records
abbrev pub cut : Going → Phase → Progress
cut g (in_header []) = ended g.records
cut g (in_header (b ∷ t)) = refused 2 g.start
cut g (in_value head hashing) = refused 7 g.start

abbrev pub close : Progress → Progress
close (going g) = cut g g.phase
close (refused n place) = refused n place
close (ended records) = ended records

abbrev pub notice_of : Progress → Notice
notice_of (going g) = wanted
notice_of (refused n place) = refusal n place
notice_of (ended records) = over records

-- ---- a call on any state: each number is in its range, or the answer is that it is not

abbrev pub phase_fits : Phase → Bool
phase_fits (in_header t) = ltb (length t) 32
phase_fits (in_value head hashing) = ltb hashing.count (header_of head).length

unfoldable pub fits : ℕ → Progress → Bool
fits limit (going g) = phase_fits g.phase && (leb (position g) limit && leb g.records g.start)
fits limit (refused n place) = leb 1 n && (leb n 8 && leb place limit)
fits limit (ended records) = leb records limit

abbrev pub unfit : Progress → Call
unfit p = record { after = p; notice = malformed; taken = 0 }

unfoldable pub take : ℕ → Progress → List ℕ → Call
take limit p part = cond (fits limit p) (advance limit p part) (unfit p)

unfoldable pub finish : ℕ → Progress → Call
finish limit p = cond (fits limit p) (record { after = close p; notice = notice_of (close p); taken = 0 }) (unfit p)
