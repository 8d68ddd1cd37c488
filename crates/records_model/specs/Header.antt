-- What a value holds, by its header as a value and what follows it: no bytes are read and no places told. The rules for headers are those of crate value.
use Rattle.std.specs.Prelude.{ℕ, cond, List, leb, eqb, length}
use Rattle.std.specs.Prelude.{Option, None}
use Rattle.refusals.specs.Answers.{Answer, refused, granted}
use Rattle.msgpack.specs.Items.{depth_allowed}
use Rattle.msgpack.specs.Lookup.{at_place}
use Rattle.msgpack_model.specs.Values.{Value, depth, as_binary}
use Rattle.msgpack_model.specs.Views.{value_view}
use Rattle.value.specs.Header.{primary_key, Telling, telling, header_repeats, Header, header_by, tested}

-- the bytes under a key
abbrev pub bytes_under : List ℕ → Value → Option (List ℕ)
bytes_under key m = at_place None as_binary (value_view.under key m)

unfoldable pub header : ℕ → Value → Option (Header (List ℕ))
header limit m = header_by (bytes_under primary_key m) (telling value_view limit m)

-- ---- the value: the header m and what follows it

pub record Held : Type 0 where
  pub primary : List ℕ
  pub secondary : List ℕ
  pub told : Telling

abbrev pub filled_by : List ℕ → Answer (Header (List ℕ)) → Answer Held
filled_by rest (granted h) = cond (eqb h.told.length (length rest)) (granted (record { primary = h.primary; secondary = rest; told = h.told })) (refused 12)
filled_by rest (refused n) = refused n

unfoldable pub holds : ℕ → Value → List ℕ → Answer Held
holds limit m rest = cond (leb (depth m) depth_allowed) (filled_by rest (tested (header_repeats value_view m) (header limit m))) (refused 10)
