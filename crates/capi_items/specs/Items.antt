-- An item in words: its kind, its length in bytes, its argument, whether it is a negative integer, whether its form is the short one.
use Rattle.std.specs.Prelude.{ℕ, ◌-◌, Bool, true, false, cond, List, [], ◌∷◌, ◌≡◌, refl, leb, eqb, length}
use Rattle.slices.specs.Overwriting.{overwritten}
use Rattle.slices.specs.Tables.{values}
use Rattle.refusals.specs.Answers.{Answer, granted, refused}
use Rattle.msgpack.specs.Formats.{extension_kind, array_kind}
use Rattle.msgpack.specs.Readers.{Int, plus, minus}
use Rattle.msgpack_forms.specs.Items.{Item}
use Rattle.words.specs.Words.{answer, flag}

-- nil 0, boolean 1, integer 2, float 3, text 4, bytes 5, array 6, map 7, extension 8
unfoldable pub kind_number : ℕ → ℕ
kind_number kind = cond (eqb kind extension_kind) 8 (cond (leb array_kind kind) (kind - 2) (kind - 1))

-- of the kinds from nil on, as crate msgpack numbers them: extensions come before arrays and maps there
kind_numbers : values kind_number 1 9 ≡ 0 ∷ 1 ∷ 2 ∷ 3 ∷ 4 ∷ 5 ∷ 8 ∷ 6 ∷ 7 ∷ []
unfolding kind_number
kind_numbers = refl

abbrev pub magnitude : Int → ℕ
magnitude (plus n) = n
magnitude (minus n) = n

abbrev pub is_negative : Int → Bool
is_negative (plus n) = false
is_negative (minus n) = true

abbrev pub item_words : Item → List ℕ
item_words i =
    kind_number i.kind ∷ i.size ∷ magnitude i.form.argument ∷ flag (is_negative i.form.argument) ∷ flag i.form.short ∷ []

-- the answer, with so many words lent: a refusal of the item comes alone, and 19 after it
abbrev pub item_answer : Answer Item → ℕ → ℕ
item_answer (granted i) room = cond (leb 5 room) (answer 0 0) (answer 19 0)
item_answer (refused n) room = answer n 0

-- the lent words at exit
abbrev pub item_told : Answer Item → List ℕ → List ℕ
item_told (granted i) words = cond (leb 5 (length words)) (overwritten words 0 (item_words i)) words
item_told (refused n) words = words
