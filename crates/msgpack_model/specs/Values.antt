-- The values of MessagePack.
use Rattle.std.specs.Prelude.{ℕ, suc, max, Bool, List}
use Rattle.std.specs.Prelude.{Option, None, Some}
use Rattle.msgpack.specs.Readers.{Int}

mutual
  pub data Value : Type 0 where
    Nil : Value
    Boolean : Bool → Value
    Integer : Int → Value
    Float : List ℕ → Value  -- its four or eight bytes
    Text : List ℕ → Value  -- its bytes, which need not be UTF-8
    Binary : List ℕ → Value
    Extension : ℕ → List ℕ → Value  -- its type, as a byte, and its bytes
    Array : Values → Value
    Map : Pairs → Value

  pub data Values : Type 0 where
    no_values_lem : Values
    value : Value → Values → Values

  pub data Pairs : Type 0 where
    no_pairs : Pairs
    pair : Value → Value → Pairs → Pairs  -- a key and its value

abbrev pub count_values : Values → ℕ
count_values no_values_lem = 0
count_values (value v vs) = suc (count_values vs)

abbrev pub count_pairs : Pairs → ℕ
count_pairs no_pairs = 0
count_pairs (pair k v ps) = suc (count_pairs ps)

-- how deep containers stand in containers; the outermost is at depth 1
abbrev mutual
  pub depth : Value → ℕ
  depth Nil = 0
  depth (Boolean b) = 0
  depth (Integer i) = 0
  depth (Float e) = 0
  depth (Text e) = 0
  depth (Binary e) = 0
  depth (Extension t e) = 0
  depth (Array vs) = suc (values_depth vs)
  depth (Map ps) = suc (pairs_depth ps)

  pub values_depth : Values → ℕ
  values_depth no_values_lem = 0
  values_depth (value v vs) = max (depth v) (values_depth vs)

  pub pairs_depth : Pairs → ℕ
  pairs_depth no_pairs = 0
  pairs_depth (pair k v ps) = max (depth k) (max (depth v) (pairs_depth ps))

-- ---- what a value is, where it is of that type

abbrev pub as_boolean : Value → Option Bool
as_boolean Nil = None
as_boolean (Boolean b) = Some b
as_boolean (Integer i) = None
as_boolean (Float e) = None
as_boolean (Text e) = None
as_boolean (Binary e) = None
as_boolean (Extension t e) = None
as_boolean (Array vs) = None
as_boolean (Map ps) = None

abbrev pub as_integer : Value → Option Int
as_integer Nil = None
as_integer (Boolean b) = None
as_integer (Integer i) = Some i
as_integer (Float e) = None
as_integer (Text e) = None
as_integer (Binary e) = None
as_integer (Extension t e) = None
as_integer (Array vs) = None
as_integer (Map ps) = None

abbrev pub as_text : Value → Option (List ℕ)
as_text Nil = None
as_text (Boolean b) = None
as_text (Integer i) = None
as_text (Float e) = None
as_text (Text e) = Some e
as_text (Binary e) = None
as_text (Extension t e) = None
as_text (Array vs) = None
as_text (Map ps) = None

abbrev pub as_binary : Value → Option (List ℕ)
as_binary Nil = None
as_binary (Boolean b) = None
as_binary (Integer i) = None
as_binary (Float e) = None
as_binary (Text e) = None
as_binary (Binary e) = Some e
as_binary (Extension t e) = None
as_binary (Array vs) = None
as_binary (Map ps) = None

abbrev pub as_array : Value → Option Values
as_array Nil = None
as_array (Boolean b) = None
as_array (Integer i) = None
as_array (Float e) = None
as_array (Text e) = None
as_array (Binary e) = None
as_array (Extension t e) = None
as_array (Array vs) = Some vs
as_array (Map ps) = None

abbrev pub as_map : Value → Option Pairs
as_map Nil = None
as_map (Boolean b) = None
as_map (Integer i) = None
as_map (Float e) = None
as_map (Text e) = None
as_map (Binary e) = None
as_map (Extension t e) = None
as_map (Array vs) = None
as_map (Map ps) = Some ps
