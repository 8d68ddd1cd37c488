-- Short forms in bytes: the item at the front with its form, and whether all forms of an item are short, its own and those of each item in it.
use Rattle.std.specs.Prelude.{ℕ, zero, suc, ◌-◌, Bool, true, false, cond, List, leb, eqb, get_or}
use Rattle.std.specs.Prelude.{Option, None, Some, Result, Ok, Err}
use Rattle.refusals.specs.Answers.{Answer, granted, refused}
use Rattle.msgpack.specs.Formats.{kind_index, boolean_kind, integer_kind, text_kind, extension_kind}
use Rattle.msgpack.specs.Items.{Passage, whole, cut, too_deep, head_of, pass_items, pass_head, depth_allowed, number_of, pass_over}
use Rattle.msgpack.specs.Readers.{Int, plus, minus, read_integer}
use Rattle.msgpack.specs.Short.{is_short}
use Rattle.msgpack.specs.declared.Fault.{Fault}
use Rattle.msgpack_forms.specs.declared.Form as declared
use Rattle.msgpack_forms.specs.declared.Item as declared-item

-- ---- one form

-- what a head says of an item that is no integer: a boolean as 0 or 1; the length of a content, of an extension without its type byte; an array's items, a
-- map's pairs; else 0
unfoldable pub argument_of : ℕ → ℕ → ℕ → ℕ
argument_of kind b count =
    cond (eqb kind boolean_kind) (cond (eqb b 0xc3) 1 0) (cond (eqb kind extension_kind) (count - 1) (cond (leb text_kind kind) count 0))

-- the argument of the item at the front; none where an integer's bytes end early
unfoldable pub argument_at : List ℕ → Option Int
argument_at s =
    cond (eqb (head_of s).kind integer_kind) (read_integer s) (Some (plus (argument_of (head_of s).kind (get_or s 0 0) (head_of s).count)))

-- an argument, and whether it stands in its short form
pub record Form : Type 0 where
  pub argument : Int
  pub short : Bool

abbrev pub form_by : ℕ → Option Int → Form
form_by b (Some i) = record { argument = i; short = is_short b i }
form_by b None = record { argument = plus 0; short = false }

-- the same of an integer, by what its reader says of its form
abbrev pub integer_form_by : Bool → Option Int → Form
integer_form_by short (Some i) = record { argument = i; short = short }
integer_form_by short None = record { argument = plus 0; short = false }

abbrev pub form_at : List ℕ → Form
form_at s = form_by (get_or s 0 0) (argument_at s)

abbrev pub integer_by : Bool → ℕ → Int
integer_by negative n = cond negative (minus n) (plus n)

abbrev pub form_read : declared.Form → Form
form_read f = record { argument = integer_by f.negative f.argument; short = f.short }

-- ---- all forms

-- the item at the front passed over as `pass_item` does it, which goes no further, as if it were cut there, where a form is not the short one
unfoldable pub short_item : ℕ → List ℕ → Passage
short_item zero s = cond (form_at s).short (pass_head (λ count t. too_deep) (head_of s) s) cut
short_item (suc allowance) s = cond (form_at s).short (pass_head (pass_items (short_item allowance)) (head_of s) s) cut

abbrev pub is_whole_passage : Passage → Bool
is_whole_passage (whole n) = true
is_whole_passage cut = false
is_whole_passage too_deep = false

-- a whole item stands at the front, and its form and that of each item in it, keys included, is the short one
unfoldable pub all_short : List ℕ → Bool
all_short s = is_whole_passage (short_item depth_allowed s)

-- ---- the item at the front

pub record Item : Type 0 where
  pub kind : ℕ
  pub size : ℕ  -- in bytes, with all that it holds
  pub form : Form  -- its own

abbrev pub item : ℕ → ℕ → Form → Item
item kind size form = record { kind = kind; size = size; form = form }

abbrev pub item_by : List ℕ → Passage → Answer Item
item_by s (whole n) = granted (item (head_of s).kind n (form_at s))
item_by s cut = refused 9
item_by s too_deep = refused 10

unfoldable pub item_at : List ℕ → Answer Item
item_at s = item_by s (pass_over s)

abbrev pub item_read : Result declared-item.Item Fault → Answer Item
item_read (Ok i) = granted (item (kind_index i.kind) i.size (record { argument = integer_by i.negative i.argument; short = i.short }))
item_read (Err f) = refused (number_of f)
