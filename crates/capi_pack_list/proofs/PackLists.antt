-- The answer of `vof_find_block`, and the lent words at exit, from what was found: the words are stored exactly where there is room. The place of an
-- entry's item is told by the length of what follows, so the pack is named where the entry has it.
use Prim.Native.Nat.{ℕ, ◌-◌, ◌%◌, ◌^◌, ◌<◌}
use mathlib.Core.Bool.{cond}
use mathlib.Core.List.{List, [], ◌∷◌}
use Rattle.std.specs.Prelude.{Option, None, Some, Result, Ok}
use mathlib.Core.Path.{◌≡◌, refl, sym, ap, ◌∙◌}
use native.Mathlib.Omega.{arith}
use lib.Dec.{leb}
use lib.ListN.{length, get_or, length-drop}
use Rattle.slices.specs.Overwriting.{written_bytes}
use Rattle.refusals.specs.Answers.{granted, refused}
use Rattle.pack_list.specs.Lists.{Entry}
use Rattle.pack_list.specs.Answers.{entry_of, entry_items, EntryStands}
use Rattle.pack_list.specs.Walks.{entry_is}
use Rattle.pack_list.specs.declared.Entry as placed
use Rattle.pack_list.specs.declared.Fault.{Fault}
use Rattle.block_of_byte.specs.Finding.{Found, nowhere, in_entry, in_block}
use Rattle.block_of_byte.specs.Answers.{found_of, find_in, FoundStands}
use Rattle.block_of_byte.specs.declared.Block.{Block}
use Rattle.block_of_byte.specs.declared.Found as found
use Rattle.block_of_byte.specs.declared.Found.TheVariants as found-answer
use Rattle.words.specs.Words.{answer, answer_whole}
use Rattle.capi_pack_list.specs.PackLists.{pack_start, found_words, find_answer, find_told}

-- ---- an entry at its places

pub start_told : (s : List ℕ) (number : ℕ) (e : placed.Entry) → EntryStands s number e → pack_start s number ≡ e.pack.start
unfolding pack_start
start_told s number e st =
    let long : length (get_or (entry_items s) number []) ≡ length s - st.at = ap length (sym st.item) ∙ length-drop st.at s in
    let place : length s - length (get_or (entry_items s) number []) ≡ st.at = omega (arith, long, st.within) in
    rw (place, ← st.here.pack)

-- ---- a byte

-- `r` is what the code found
module _ (s words : List ℕ) (byte : ℕ) (r : Result found.Found Fault) (finds : found_of s r ≡ find_in s byte) where
  -- what is answered, and what is left
  abbrev Tells : ℕ → List ℕ → Type 0
  Tells x left = (x ≡ find_answer (find_in s byte) (length words)) × (left ≡ find_told s (find_in s byte) words)

  -- by words that are stored where there is room
  abbrev TellsBy : List ℕ → Type 0
  TellsBy list = Tells (cond (leb (length list) (length words)) (answer 0 0) (answer 19 0)) (written_bytes words 0 list)

  pub find_refused : (n : ℕ) → found_of s r ≡ refused n → n < 256 → Tells (answer n 0 % 2 ^ 64) words
  find_refused n is small = rw (answer_whole n 0 small (omega arith), sym finds ∙ is) (refl, refl)

  find_told_lem : (f : Found) → found_of s r ≡ granted f → (list : List ℕ) → list ≡ found_words s f → length list ≡ 6 → TellsBy list
  unfolding written_bytes
  find_told_lem f is list are six = rw (sym finds ∙ is, six, ← are) (refl, refl)

  pub found_nowhere : r ≡ Ok found-answer.Nowhere → TellsBy (0 ∷ 0 ∷ 0 ∷ 0 ∷ 0 ∷ 0 ∷ [])
  found_nowhere is = find_told_lem nowhere (ap (found_of s) is) _ refl refl

  module _ (stands : FoundStands s r) where
    pub found_entry_lem : (k : ℕ) (e : placed.Entry) → r ≡ Ok (found-answer.Entry k e)
        → TellsBy (1 ∷ k ∷ 0 ∷ e.pack.start ∷ e.stored.start ∷ e.stored.len ∷ [])
    found_entry_lem k e is = by (entry_of s e) refl
      where
        st : EntryStands s k e
        st = stands.entry k e is

        by : (o : Option Entry) → entry_of s e ≡ o → TellsBy (1 ∷ k ∷ 0 ∷ e.pack.start ∷ e.stored.start ∷ e.stored.len ∷ [])
        by None q = absurd (st.here.there q)
        by (Some x) q = find_told_lem (in_entry k x) (ap (found_of s) is ∙ rw q) _ (rw (start_told s k e st, (entry_is s e x q).stored)) refl

    pub found_block_lem : (k : ℕ) (e : placed.Entry) (b : Block) → r ≡ Ok (found-answer.Block k e b)
        → TellsBy (2 ∷ k ∷ b.number ∷ e.pack.start ∷ b.stored.start ∷ b.stored.len ∷ [])
    found_block_lem k e b is = by (entry_of s e) refl
      where
        st : EntryStands s k e
        st = stands.block k e b is

        by : (o : Option Entry) → entry_of s e ≡ o → TellsBy (2 ∷ k ∷ b.number ∷ e.pack.start ∷ b.stored.start ∷ b.stored.len ∷ [])
        by None q = absurd (st.here.there q)
        by (Some x) q = find_told_lem (in_block k x b) (ap (found_of s) is ∙ rw q) _ (rw (start_told s k e st)) refl
