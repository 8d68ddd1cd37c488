-- All the bytes of a pack, one after the other; and that a session, in whatever parts they are handed over, tells the same.
use Rattle.std.specs.Prelude.{ℕ, zero, suc, ◌+◌, ◌^◌, ◌≤◌, ◌<◌, ◌≡◌, length, drop}
use Rattle.std.proofs.Math.Bool.{true}
use mathlib.Core.List.{List, [], ◌∷◌, ◌++◌, flatten}
use Rattle.std.specs.Prelude.{Option, None, Some}
use Rattle.std.proofs.Math.Path.{refl, sym, ap}
use Rattle.std.proofs.Common.{◌∙◌, arith, length-drop}
use Rattle.std.proofs.lemmas.List.{drop-append-le}
use Rattle.slices.specs.Logic.{absurd_numbers}
use Rattle.pack.specs.declared.Entry.{Entry}
use Rattle.pipe.specs.Taking.{Going, Progress, going, refused, ended, Next, onward, completes, refuses, byte, Notice, wanted, complete, refusal}
use Rattle.pipe.specs.Taking.{over, malformed, Call, counted, proceed, advance, close, fits, take, finish}
use Rattle.pipe.specs.Step.{joined, TakenOf, advance_taken, advance_append, advance_fits, take_fit}

-- ---- all the bytes

-- the records that complete, and what is left
pub record Run : Type 0 where
  pub told : List Entry
  pub after : Progress

abbrev pub silent : Progress → Run
silent p = record { told = []; after = p }

abbrev pub tell : Entry → Run → Run
tell e r = record { told = e ∷ r.told; after = r.after }

abbrev pub followed : Next → (Going → Run) → Run
followed (onward g) rest = rest g
followed (completes e g) rest = tell e (rest g)
followed (refuses n place) rest = silent (refused n place)

unfoldable pub run : ℕ → Progress → List ℕ → Run
run limit (going g) [] = silent (going g)
run limit (going g) (b ∷ s) = followed (byte limit g b) (λ next. run limit (going next) s)
run limit (refused n place) s = silent (refused n place)
run limit (ended records) s = silent (ended records)

-- the end is announced
abbrev pub closed : Run → Run
closed r = record { told = r.told; after = close r.after }

-- ---- a session: parts are handed over one after the other; what a call did not take, where a record was complete, is handed over again; then the end
-- is announced. It tells records, and ends in a refusal or with their number.

abbrev pub record_in : Notice → Option Entry
record_in wanted = None
record_in (complete e) = Some e
record_in (refusal n place) = None
record_in (over records) = None
record_in malformed = None

pub data Session (limit : ℕ) : Progress → List (List ℕ) → List Entry → Progress → Type 0 where
  announced : {p : Progress} → Session limit p [] [] (finish limit p).after
  next_part : {p q : Progress} {part : List ℕ} {parts : List (List ℕ)} {es : List Entry} → record_in (take limit p part).notice ≡ None
      → Session limit (take limit p part).after parts es q → Session limit p (part ∷ parts) es q
  again : {p q : Progress} {part : List ℕ} {parts : List (List ℕ)} {e : Entry} {es : List Entry} → record_in (take limit p part).notice ≡ Some e
      → Session limit (take limit p part).after (drop (take limit p part).taken part ∷ parts) es q → Session limit p (part ∷ parts) (e ∷ es) q

-- ---- a run, by what the first call says

abbrev resumed : Notice → Progress → Run → Run
resumed wanted p rest = silent p
resumed (complete e) p rest = tell e rest
resumed (refusal n place) p rest = silent p
resumed (over records) p rest = silent p
resumed malformed p rest = silent p

-- the same, one byte earlier
resumed_later : (notice : Notice) (p : Progress) (taken b : ℕ) (s : List ℕ) (rest : List ℕ → Run)
    → resumed notice p (rest (drop taken s)) ≡ resumed notice p (rest (drop (counted notice (1 + taken)) (b ∷ s)))
resumed_later wanted p taken b s rest = refl
resumed_later (complete e) p taken b s rest =
    let one : suc taken ≡ 1 + taken = omega arith in
    ap (λ (k : ℕ). tell e (rest (drop k (b ∷ s)))) one
resumed_later (refusal n place) p taken b s rest = refl
resumed_later (over records) p taken b s rest = refl
resumed_later malformed p taken b s rest = refl

resumed_none : (notice : Notice) (p : Progress) (rest : Run) → record_in notice ≡ None → resumed notice p rest ≡ silent p
resumed_none wanted p rest e = refl
resumed_none (complete f) p rest e = absurd_numbers (cc)
resumed_none (refusal n place) p rest e = refl
resumed_none (over records) p rest e = refl
resumed_none malformed p rest e = refl

resumed_some : (notice : Notice) (p : Progress) (rest : Run) (e : Entry) → record_in notice ≡ Some e → resumed notice p rest ≡ tell e rest
resumed_some wanted p rest e q = absurd_numbers (cc)
resumed_some (complete f) p rest e q = let same : f ≡ e = cc in ap (λ (x : Entry). tell x rest) same
resumed_some (refusal n place) p rest e q = absurd_numbers (cc)
resumed_some (over records) p rest e q = absurd_numbers (cc)
resumed_some malformed p rest e q = absurd_numbers (cc)

joined_some : (notice : Notice) (c : Call) (rest : Progress → Call) (e : Entry) → record_in notice ≡ Some e → joined notice c rest ≡ c
joined_some wanted c rest e q = absurd_numbers (cc)
joined_some (complete f) c rest e q = refl
joined_some (refusal n place) c rest e q = refl
joined_some (over records) c rest e q = refl
joined_some malformed c rest e q = refl

taken_some : (notice : Notice) (taken n : ℕ) (e : Entry) → TakenOf notice taken n → record_in notice ≡ Some e → (1 ≤ taken) × (taken ≤ n)
taken_some wanted taken n e t q = absurd_numbers (cc)
taken_some (complete f) taken n e t q = t
taken_some (refusal m place) taken n e t q = absurd_numbers (cc)
taken_some (over records) taken n e t q = absurd_numbers (cc)
taken_some malformed taken n e t q = absurd_numbers (cc)

-- two runs, one after the other
abbrev chained : Run → Run → Run
chained a b = record { told = a.told ++ b.told; after = b.after }

module _ (limit : ℕ) where
  pub run_none : (p : Progress) → run limit p [] ≡ silent p
  unfolding run
  run_none (going g) = refl
  run_none (refused n place) = refl
  run_none (ended records) = refl

  pub run_append : (p : Progress) (xs ys : List ℕ) → run limit p (xs ++ ys) ≡ chained (run limit p xs) (run limit (run limit p xs).after ys)
  unfolding run
  run_append (refused n place) xs ys = refl
  run_append (ended records) xs ys = refl
  run_append (going g) [] ys = refl
  run_append (going g) (b ∷ xs) ys = go (byte limit g b) (λ next. run_append (going next) xs ys)
    where
      go : (f : Next)
          → ((next : Going) → run limit (going next) (xs ++ ys) ≡ chained (run limit (going next) xs) (run limit (run limit (going next) xs).after ys))
          → followed f (λ next. run limit (going next) (xs ++ ys))
          ≡ chained (followed f (λ next. run limit (going next) xs)) (run limit (followed f (λ next. run limit (going next) xs)).after ys)
      go (onward next) more = more next
      go (completes e next) more = ap (tell e) (more next)
      go (refuses n place) more = refl

  abbrev Resumes : Progress → List ℕ → Run → Call → Type 0
  Resumes p s r c = r ≡ resumed c.notice c.after (run limit c.after (drop c.taken s))

  run_call : (p : Progress) (s : List ℕ) → Resumes p s (run limit p s) (advance limit p s)
  unfolding run advance
  run_call (refused n place) s = refl
  run_call (ended records) s = refl
  run_call (going g) [] = refl
  run_call (going g) (b ∷ s) = go (byte limit g b) (λ next. run_call (going next) s)
    where
      go : (f : Next) → ((next : Going) → Resumes (going next) s (run limit (going next) s) (advance limit (going next) s))
          → Resumes (going g) (b ∷ s) (followed f (λ next. run limit (going next) s)) (proceed 1 f (λ next. advance limit (going next) s))
      go (onward next) more =
          let c = advance limit (going next) s in
          more next ∙ resumed_later c.notice c.after c.taken b s (λ t. run limit c.after t)
      go (completes e next) more = refl
      go (refuses n place) more = refl

  -- a call that tells no record takes the part, or takes nothing for ever
  pub run_passed : (p : Progress) (part rest : List ℕ) → record_in (advance limit p part).notice ≡ None
      → run limit p (part ++ rest) ≡ run limit (advance limit p part).after rest
  run_passed p part rest e =
      let c = advance limit p part in
      let one : run limit p part ≡ silent c.after = run_call p part ∙ resumed_none c.notice c.after (run limit c.after (drop c.taken part)) e in
      run_append p part rest ∙ ap (λ (r : Run). chained r (run limit r.after rest)) one

  -- after a call that tells one, the bytes that it did not take follow
  pub run_told : (p : Progress) (part rest : List ℕ) (e : Entry) → record_in (advance limit p part).notice ≡ Some e
      → run limit p (part ++ rest) ≡ tell e (run limit (advance limit p part).after (drop (advance limit p part).taken part ++ rest))
  run_told p part rest e q =
      let c = advance limit p part in
      let same : advance limit p (part ++ rest) ≡ c = advance_append limit p part rest ∙ joined_some c.notice c (λ q. advance limit q rest) e q in
      let inside = taken_some c.notice c.taken (length part) e (advance_taken limit p part) q in
      let left : drop c.taken (part ++ rest) ≡ drop c.taken part ++ rest = drop-append-le c.taken part rest inside.1 in
      run_call p (part ++ rest)
      ∙ ap (λ (d : Call). resumed d.notice d.after (run limit d.after (drop d.taken (part ++ rest)))) same
      ∙ resumed_some c.notice c.after (run limit c.after (drop c.taken (part ++ rest))) e q
      ∙ ap (λ (t : List ℕ). tell e (run limit c.after t)) left

-- ---- THE THEOREM: every session tells what the run over all the bytes does, however they are cut

finish_fit : (limit : ℕ) (p : Progress) → fits limit p ≡ true → (finish limit p).after ≡ close p
unfolding finish
finish_fit limit p f = rw f

module _ (limit : ℕ) (small : limit < 2 ^ 64) where
  pub session_run : {p q : Progress} {parts : List (List ℕ)} {es : List Entry} → fits limit p ≡ true → Session limit p parts es q
      → closed (run limit p (flatten parts)) ≡ record { told = es; after = q }
  unfolding flatten
  session_run {p = p} f announced =
      ap closed (run_none limit p) ∙ (λ i. record { told = []; after = sym (finish_fit limit p f) i })
  session_run {p = p} f (next_part {part = part} {parts = parts} e s) =
      let same = take_fit limit p part f in
      let f' : fits limit (take limit p part).after ≡ true = rw same (advance_fits limit small p part f) in
      ap closed (run_passed limit p part (flatten parts) (rw same at e))
      ∙ ap (λ (c : Call). closed (run limit c.after (flatten parts))) (sym same)
      ∙ session_run f' s
  session_run {p = p} f (again {part = part} {parts = parts} {e = x} e s) =
      let same = take_fit limit p part f in
      let f' : fits limit (take limit p part).after ≡ true = rw same (advance_fits limit small p part f) in
      ap closed (run_told limit p part (flatten parts) x (rw same at e))
      ∙ ap (λ (c : Call). closed (tell x (run limit c.after (drop c.taken part ++ flatten parts)))) (sym same)
      ∙ ap (tell x) (session_run f' s)

  -- and there is one for every list of parts
  abbrev Held : Progress → List (List ℕ) → Type 0
  Held p parts = (es : List Entry) × (q : Progress) × Session limit p parts es q

  -- what a call did not take is shorter
  hand_over_by : (p : Progress) (part : List ℕ) (parts : List (List ℕ)) → fits limit p ≡ true
      → ((q : Progress) (less : List ℕ) → length less < length part → fits limit q ≡ true → Held q (less ∷ parts))
      → ((q : Progress) → fits limit q ≡ true → Held q parts) → Held p (part ∷ parts)
  hand_over_by p part parts f rest others = go (record_in (take limit p part).notice) refl
    where
      same : take limit p part ≡ advance limit p part
      same = take_fit limit p part f

      f' : fits limit (take limit p part).after ≡ true
      f' = rw same (advance_fits limit small p part f)

      go : (o : Option Entry) → record_in (take limit p part).notice ≡ o → Held p (part ∷ parts)
      go None q = let h = others (take limit p part).after f' in (h.0, h.1, next_part q h.2)
      go (Some e) q =
          let c = advance limit p part in
          let i : (1 ≤ (take limit p part).taken) × ((take limit p part).taken ≤ length part)
          = rw same (taken_some c.notice c.taken (length part) e (advance_taken limit p part) (rw same at q)) in
          let h = rest (take limit p part).after (drop (take limit p part).taken part) (rw length-drop (omega (arith, i.0, i.1))) f' in
          (e ∷ h.0, h.1, again q h.2)

  hand_over : (k : ℕ) (p : Progress) (part : List ℕ) (parts : List (List ℕ)) → length part ≤ k → fits limit p ≡ true
      → ((q : Progress) → fits limit q ≡ true → Held q parts) → Held p (part ∷ parts)
  hand_over zero p part parts short f others = hand_over_by p part parts f (λ q less l. absurd (omega arith)) others
  hand_over (suc k) p part parts short f others = hand_over_by p part parts f (λ q less l g. hand_over k q less parts (omega arith) g others) others

  pub every_session : (p : Progress) (parts : List (List ℕ)) → fits limit p ≡ true → Held p parts
  every_session p [] f = ([], (finish limit p).after, announced)
  every_session p (part ∷ parts) f = hand_over (length part) p part parts (omega arith) f (λ q g. every_session q parts g)
