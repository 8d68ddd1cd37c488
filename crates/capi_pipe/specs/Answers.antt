-- A pipe's calls in words: what each answers, tells and leaves.
use Rattle.std.specs.Prelude.{ℕ, Bool, true, false, cond, List, [], ◌∷◌, ◌≡◌, leb}
use Rattle.slices.specs.Overwriting.{written_bytes}
use Rattle.pipe.specs.Limit.{pipe_limit}
use Rattle.pipe.specs.Taking.{Progress, Notice, wanted, complete, refusal, over, malformed, Call, take, finish}
use Rattle.words.specs.Words.{answer}
use Rattle.capi_pipe.specs.State.{progress_in, Says}

-- a call on the state that the words say
abbrev pub take_from : List ℕ → List ℕ → Call
take_from state part = take pipe_limit (progress_in state) part

abbrev pub end_from : List ℕ → Call
end_from state = finish pipe_limit (progress_in state)

-- ---- the state at exit

-- the words say the state that is stored; where none is, they are as they were
abbrev pub Leaves : Bool → Progress → List ℕ → List ℕ → Type 0
Leaves true p before after = Says p before after
Leaves false p before after = after ≡ before

-- ---- a part is taken, with so many words lent to be told: 20, then a refusal, then 19

abbrev pub has_room : ℕ → Bool
has_room words = leb 6 words

-- 19 where there is no room for what is told
abbrev pub room_answer : ℕ → ℕ
room_answer words = cond (has_room words) (answer 0 0) (answer 19 0)

abbrev pub take_answer_by : Notice → ℕ → ℕ
take_answer_by wanted words = room_answer words
take_answer_by (complete e) words = room_answer words
take_answer_by (refusal n place) words = answer n place
take_answer_by (over records) words = room_answer words
take_answer_by malformed words = answer 20 0

abbrev pub take_answer : Call → ℕ → ℕ
take_answer c words = take_answer_by c.notice words

-- whether the state after the call is stored: a refusal is remembered whatever room there is
abbrev pub take_stores : Notice → ℕ → Bool
take_stores wanted words = has_room words
take_stores (complete e) words = has_room words
take_stores (refusal n place) words = true
take_stores (over records) words = has_room words
take_stores malformed words = false

abbrev pub TakeLeaves : Call → ℕ → List ℕ → List ℕ → Type 0
TakeLeaves c words before after = Leaves (take_stores c.notice words) c.after before after

-- the words that are told: bytes taken, what happened, and of a record that is complete its start, tag, length and hash
abbrev pub take_told_by : Notice → ℕ → List ℕ → List ℕ
take_told_by wanted taken told = written_bytes told 0 (taken ∷ 0 ∷ 0 ∷ 0 ∷ 0 ∷ 0 ∷ [])
take_told_by (complete e) taken told = written_bytes told 0 (taken ∷ 1 ∷ e.start ∷ e.tag ∷ e.length ∷ e.hash ∷ [])
take_told_by (refusal n place) taken told = told
take_told_by (over records) taken told = written_bytes told 0 (taken ∷ 2 ∷ 0 ∷ 0 ∷ 0 ∷ 0 ∷ [])
take_told_by malformed taken told = told

abbrev pub take_told : Call → List ℕ → List ℕ
take_told c told = take_told_by c.notice c.taken told

-- ---- the end is announced: 20, a refusal, or the number of records. No end wants more, or completes a record

abbrev pub end_answer_by : Notice → ℕ
end_answer_by wanted = answer 20 0
end_answer_by (complete e) = answer 20 0
end_answer_by (refusal n place) = answer n place
end_answer_by (over records) = answer 0 records
end_answer_by malformed = answer 20 0

abbrev pub end_answer : Call → ℕ
end_answer c = end_answer_by c.notice

abbrev pub end_stores : Notice → Bool
end_stores wanted = false
end_stores (complete e) = false
end_stores (refusal n place) = true
end_stores (over records) = true
end_stores malformed = false

abbrev pub EndLeaves : Call → List ℕ → List ℕ → Type 0
EndLeaves c before after = Leaves (end_stores c.notice) c.after before after
