-- Packs handed over in parts, with what each call answers computed: document 01's cases B to J, an empty value, two records, and the limit.
use Rattle.std.specs.Prelude.{ℕ, ◌-◌, List, [], ◌∷◌, ◌++◌, map, ◌≡◌, refl, drop, set, take as front}
use Rattle.refusals.specs.Sheet.{lowest}
use Rattle.endian.specs.Numbers.{little, little_bytes, big, big_bytes}
use Rattle.xxh64.specs.Xxh64.{add, mul, rotl, fold_high, lane, taken, round, merge_accumulator, converge, stripes, consume8, consume4, consume1}
use Rattle.xxh64.specs.Xxh64.{consume, avalanche, xxh64}
use Rattle.xxh64.specs.Parts as parts
use Rattle.xxh64.specs.Parts.{fresh, holding, striped, push, finished}
use Rattle.tlv.specs.Layout.{field, fields, bytes_of, head, layout}
use Rattle.tlv.specs.Found.{header_rows, header_of}
use Rattle.pack.specs.declared.Entry.{Entry}
use Rattle.pipe.specs.Limit.{pipe_limit}
use Rattle.pipe.specs.Taking.{Progress, going, in_header, at_start, valued, headed, byte, Notice, wanted, complete, refusal, over, malformed}
use Rattle.pipe.specs.Taking.{advance, fits, take, finish}

-- what each call answers, and how many bytes it takes: one for each part, and two that announce the end
abbrev answers : Progress → List (List ℕ) → List (Notice × ℕ)
answers p [] =
    let c = finish pipe_limit p in
    let d = finish pipe_limit c.after in
    (c.notice, c.taken) ∷ (d.notice, d.taken) ∷ []
answers p (part ∷ rest) = let c = take pipe_limit p part in (c.notice, c.taken) ∷ answers c.after rest

pub record Case : Type 0 where
  pub from : Progress
  pub parts : List (List ℕ)
  pub answered : List (Notice × ℕ)

-- document 001's sample record, tag `C!` and value `data data data`: case B
abbrev sample : List ℕ
sample =
    0x89 ∷ 0x54 ∷ 0x4C ∷ 0x56 ∷ 0x0D ∷ 0x0A ∷ 0x1A ∷ 0x0A
    ∷ 0x00 ∷ 0x00 ∷ 0x00 ∷ 0x00 ∷ 0x00 ∷ 0x00 ∷ 0x00 ∷ 0x0E
    ∷ 0xE3 ∷ 0x3D ∷ 0xB5 ∷ 0xF4 ∷ 0x9F ∷ 0x8E ∷ 0xCB ∷ 0x36
    ∷ 0x00 ∷ 0x43 ∷ 0x21 ∷ 0x08 ∷ 0x00 ∷ 0x00 ∷ 0xBB ∷ 0x14
    ∷ 0x64 ∷ 0x61 ∷ 0x74 ∷ 0x61 ∷ 0x20 ∷ 0x64 ∷ 0x61 ∷ 0x74 ∷ 0x61 ∷ 0x20 ∷ 0x64 ∷ 0x61 ∷ 0x74 ∷ 0x61
    ∷ []

abbrev entry : ℕ → Entry
entry start = record { start = start; tag = 0x4321; length = 14; hash = 0xE33DB5F49F8ECB36 }

-- a record with an empty value
abbrev empty : List ℕ
empty = layout (record { spare = 0; tag = 0x626B; value = [] })

-- before the first byte, and a state that claims so many bytes were taken, with records end to end
abbrev at_first : Progress
at_first = going at_start

abbrev after : ℕ → Progress
after n = going (record { start = n; records = 0; phase = in_header [] })

-- a refused header: 31 bytes are taken, and with the last one nothing is, again and again
abbrev header_refused : ℕ → ℕ → (number : ℕ) → Case
header_refused at b n =
    let s = set sample at b in
    record {
      from = at_first;
      parts = front 31 s ∷ drop 31 s ∷ [] ∷ [];
      answered = (wanted, 31) ∷ (refusal n 0, 0) ∷ (refusal n 0, 0) ∷ (refusal n 0, 0) ∷ (refusal n 0, 0) ∷ [];
    }

abbrev pub cases : List Case
cases =
    -- A: no parts, and an empty one
    record { from = at_first; parts = []; answered = (over 0, 0) ∷ (over 0, 0) ∷ [] }
    ∷ record { from = at_first; parts = [] ∷ []; answered = (wanted, 0) ∷ (over 0, 0) ∷ (over 0, 0) ∷ [] }
    -- B: at once, and cut in the header, at its end and in the value, with a part that is empty
    ∷ record { from = at_first; parts = sample ∷ []; answered = (complete (entry 0), 46) ∷ (over 1, 0) ∷ (over 1, 0) ∷ [] }
    ∷ record {
      from = at_first;
      parts = front 5 sample ∷ front 27 (drop 5 sample) ∷ [] ∷ front 13 (drop 32 sample) ∷ drop 45 sample ∷ [];
      answered = (wanted, 5) ∷ (wanted, 27) ∷ (wanted, 0) ∷ (wanted, 13) ∷ (complete (entry 0), 1) ∷ (over 1, 0) ∷ (over 1, 0) ∷ [];
    }
    -- C and D: 7 and 2 at the announced end only
    ∷ record { from = at_first; parts = front 45 sample ∷ []; answered = (wanted, 45) ∷ (refusal 7 0, 0) ∷ (refusal 7 0, 0) ∷ [] }
    ∷ record { from = at_first; parts = front 31 sample ∷ []; answered = (wanted, 31) ∷ (refusal 2 0, 0) ∷ (refusal 2 0, 0) ∷ [] }
    -- E: what the first call did not take is handed over again
    ∷ record {
      from = at_first;
      parts = (sample ++ (0x00 ∷ [])) ∷ (0x00 ∷ []) ∷ [];
      answered = (complete (entry 0), 46) ∷ (wanted, 1) ∷ (refusal 2 46, 0) ∷ (refusal 2 46, 0) ∷ [];
    }
    -- F to I; J
    ∷ header_refused 0 0x88 3
    ∷ header_refused 24 0x01 4
    ∷ header_refused 27 0x07 5
    ∷ header_refused 31 0x15 6
    ∷ record {
      from = at_first;
      parts = front 45 sample ∷ (0x62 ∷ []) ∷ sample ∷ [];
      answered = (wanted, 45) ∷ (refusal 8 0, 0) ∷ (refusal 8 0, 0) ∷ (refusal 8 0, 0) ∷ (refusal 8 0, 0) ∷ [];
    }
    -- an empty value is there with its header's last byte
    ∷ record {
      from = at_first;
      parts = front 31 empty ∷ (drop 31 empty ++ sample) ∷ sample ∷ [];
      answered =
          (wanted, 31)
          ∷ (complete (record { start = 0; tag = 0x626B; length = 0; hash = 0xEF46DB3751D8E999 }), 1)
          ∷ (complete (entry 32), 46)
          ∷ (over 2, 0)
          ∷ (over 2, 0)
          ∷ [];
    }
    -- the limit: a record that ends there, and then one byte; one that does not, as far as it goes and with a byte more, and 7 before that byte
    ∷ record {
      from = after (pipe_limit - 46);
      parts = sample ∷ (0x89 ∷ []) ∷ [];
      answered = (complete (entry (pipe_limit - 46)), 46) ∷ (refusal 1 0, 0) ∷ (refusal 1 0, 0) ∷ (refusal 1 0, 0) ∷ [];
    }
    ∷ record {
      from = after (pipe_limit - 45);
      parts = front 45 sample ∷ drop 45 sample ∷ [];
      answered = (wanted, 45) ∷ (refusal 1 0, 0) ∷ (refusal 1 0, 0) ∷ (refusal 1 0, 0) ∷ [];
    }
    ∷ record { from = after (pipe_limit - 45); parts = sample ∷ []; answered = (refusal 1 0, 0) ∷ (refusal 1 0, 0) ∷ (refusal 1 0, 0) ∷ [] }
    ∷ record {
      from = after (pipe_limit - 45);
      parts = front 45 sample ∷ [];
      answered = (wanted, 45) ∷ (refusal 7 (pipe_limit - 45), 0) ∷ (refusal 7 (pipe_limit - 45), 0) ∷ [];
    }
    -- a state that no call leaves
    ∷ record {
      from = going (record { start = 0; records = 1; phase = in_header [] });
      parts = sample ∷ [];
      answered = (malformed, 0) ∷ (malformed, 0) ∷ (malformed, 0) ∷ [];
    }
    ∷ []

pub cases_hold : map (λ (c : Case). answers c.from c.parts) cases ≡ map (λ (c : Case). c.answered) cases
unfolding little little_bytes big big_bytes add mul rotl fold_high lane taken round merge_accumulator converge stripes consume8 consume4 consume1
    consume avalanche xxh64 fresh holding striped push finished parts.finish field fields bytes_of head layout header_rows lowest header_of valued headed
    byte advance fits take finish
cases_hold = refl
