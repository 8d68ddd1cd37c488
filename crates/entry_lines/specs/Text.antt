-- The lines of a listing, as document 01's "The listing" has them: one a record, and the count.
use Rattle.std.specs.Prelude.{ℕ, zero, suc, ◌+◌, ◌/◌, ◌≤◌, ◌<◌, List, [], ◌∷◌, ◌++◌, ◌≡◌, refl, length, get_or, take}
use Rattle.std.proofs.Common.{append_assoc, append-nil, sym, arith, add-one, length-append, take-suc}
use Rattle.pack.specs.declared.Entry.{Entry}
use Rattle.io.specs.Digits.{last_digits}
use Rattle.console.specs.Text.{decimal, space, newline, decimal_length}

-- a number in so many small hex digits: a tag has 4, a hash 16
abbrev pub hex : ℕ → ℕ → List ℕ
hex width n = last_digits 16 width n

-- `records `
abbrev pub records_word : List ℕ
records_word = 0x72 ∷ 0x65 ∷ 0x63 ∷ 0x6F ∷ 0x72 ∷ 0x64 ∷ 0x73 ∷ 0x20 ∷ []

-- one line a record: start, tag and value length, and the value's hash
unfoldable pub front : Entry → List ℕ
front e = decimal e.start ++ space ++ hex 4 e.tag ++ space ++ decimal e.length ++ space

unfoldable pub line : Entry → List ℕ
line e = front e ++ hex 16 e.hash ++ newline

unfoldable pub lines : List Entry → List ℕ
lines [] = []
lines (e ∷ es) = line e ++ lines es

unfoldable pub count_line : ℕ → List ℕ
count_line n = records_word ++ decimal n ++ newline

-- ---- lengths

pub hex_length : (width n : ℕ) → length (hex width n) ≡ width
hex_length zero n = refl
hex_length (suc width) n = rw (length-append, hex_length width (n / 16)) (omega arith)

pub front_length : (e : Entry) → length (front e) ≤ 47
unfolding front
front_length e = simp length-append (omega (arith, decimal_length e.start, decimal_length e.length))

pub line_length : (e : Entry) → length (line e) ≤ 64
unfolding line
line_length e = simp length-append (omega (arith, front_length e))

pub count_length : (n : ℕ) → length (count_line n) ≤ 29
unfolding count_line
count_length n = simp length-append (omega (arith, decimal_length n))

-- one line more
pub lines_append : (es ds : List Entry) → lines (es ++ ds) ≡ lines es ++ lines ds
unfolding lines
lines_append [] ds = refl
lines_append (e ∷ es) ds = rw (lines_append es ds) (sym (append_assoc (line e) (lines es) (lines ds)))

pub lines_more : (es : List Entry) (i : ℕ) (d : Entry) → i < length es → lines (take (i + 1) es) ≡ lines (take i es) ++ line (get_or es i d)
unfolding lines
lines_more es i d h = rw (add-one, take-suc es i d h, lines_append, append-nil)
