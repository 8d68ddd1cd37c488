-- What the writers write are encodings; none is shorter; and each reads back.
use Rattle.std.specs.Prelude.{ℕ, ◌^◌, ◌<◌, List, ◌++◌, ◌≡◌, length}
use Rattle.std.specs.Prelude.{Some}
use Rattle.slices.specs.Bytes.{AllBytes}
use Rattle.msgpack.specs.Readers.{plus, content_of_part, read_text, read_binary, read_integer, counted, count_at, read_array}
use Rattle.msgpack_heads.specs.Heads.{text_head, binary_head, unsigned_integer, array_head}
use Rattle.msgpack_model.specs.Values.{Array, Values, count_values}
use Rattle.msgpack_model.specs.Encoding.{Encodes, array, EncodesValues}
use Rattle.msgpack_model.specs.Heads.{array_begins}
use Rattle.msgpack_model.proofs.Readers.{integer_reads, text_reads, binary_reads}
use Rattle.msgpack_model.specs.Writers.{array_head_lem, text_written, binary_written, unsigned_written}

-- ---- what is written is an encoding

pub array_written : {vs : Values} {e : List ℕ} → EncodesValues vs e → count_values vs < 2 ^ 32 → Encodes (Array vs) (array_head (count_values vs) ++ e)
array_written {vs = vs} x h = array (array_head_lem (count_values vs) h) x

-- ---- each reads back, whatever follows

pub text_reads_back : (t : List ℕ) → AllBytes t → length t < 2 ^ 32 → (rest : List ℕ)
    → content_of_part ((text_head (length t) ++ t) ++ rest) (read_text ((text_head (length t) ++ t) ++ rest)) ≡ Some t
text_reads_back t bytes h rest = text_reads (text_written t bytes h) rest

pub binary_reads_back : (t : List ℕ) → AllBytes t → length t < 2 ^ 32 → (rest : List ℕ)
    → content_of_part ((binary_head (length t) ++ t) ++ rest) (read_binary ((binary_head (length t) ++ t) ++ rest)) ≡ Some t
binary_reads_back t bytes h rest = binary_reads (binary_written t bytes h) rest

pub unsigned_reads_back : (n : ℕ) → n < 2 ^ 64 → (rest : List ℕ) → read_integer (unsigned_integer n ++ rest) ≡ Some (plus n)
unsigned_reads_back n h rest = integer_reads (unsigned_written n h) rest

pub array_reads_back : (n : ℕ) → n < 2 ^ 32 → (rest : List ℕ) → read_array (array_head n ++ rest) ≡ Some (counted n (length (array_head n)))
unfolding count_at
array_reads_back n h rest = rw (array_begins (array_head_lem n h) rest)
