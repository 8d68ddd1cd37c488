-- The view of values, and that bytes are seen as the value which they encode.
use Rattle.std.specs.Prelude.{ℕ, ◌≤◌, List, [], ◌∷◌, ◌++◌, ◌≡◌}
use Rattle.std.proofs.Common.{append-nil, sym}
use Rattle.std.specs.Prelude.{Option, Some, None as nothing}
use Rattle.msgpack.specs.Items.{depth_allowed}
use Rattle.msgpack.specs.Lookup.{Under, found, missing, broken, over}
use Rattle.msgpack.specs.Views.{View}
use Rattle.msgpack_model.specs.Values.{Value, Values, no_values_lem, value, Pairs, depth, as_boolean, as_integer, as_text, as_array, as_map}
use Rattle.msgpack_model.specs.Encoding.{Encodes}
use Rattle.msgpack_model.specs.Lookup.{last_in, times_in}

-- ---- values

abbrev pub list_of : Values → List Value
list_of no_values_lem = []
list_of (value v vs) = v ∷ list_of vs

abbrev pub found_by : Option Value → Under Value
found_by (Some v) = found v
found_by nothing = missing

abbrev pub under_in : List ℕ → Option Pairs → Under Value
under_in key (Some ps) = found_by (last_in key ps)
under_in key nothing = broken

abbrev pub value_view : View Value
value_view =
    record {
      integer = as_integer;
      boolean = as_boolean;
      text = as_text;
      items = λ v. over list_of (as_array v);
      under = λ key v. under_in key (as_map v);
      times = λ key v. times_in key (as_map v);
    }

-- ---- a list with an encoding of the value at its front

pub record Shows (s : List ℕ) (v : Value) : Type 0 where
  pub front : List ℕ
  pub rest : List ℕ
  pub is : s ≡ front ++ rest
  pub encodes : Encodes v front
  pub shallow : depth v ≤ depth_allowed

pub shown : {v : Value} {e : List ℕ} → Encodes v e → depth v ≤ depth_allowed → Shows e v
shown {e = e} x d = record { front = e; rest = []; is = sym (append-nil e); encodes = x; shallow = d }
