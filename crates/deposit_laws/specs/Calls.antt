-- A list of such items, written one record a call, makes a deposited pack.
use Prim.Native.Nat.{ℕ, ◌^◌, ◌<◌}
use mathlib.Core.List.{List, ◌++◌}
use Rattle.std.specs.Prelude.{◌≡◌, drop}
use Rattle.std.proofs.Math.Path.{ap}
use Rattle.std.proofs.Common.{sym, ◌∙◌, drop-drop}
use Rattle.std.proofs.Math.ListN.{length, take}
use Rattle.std.proofs.Math.Seq.{drop-append_seam}
use Rattle.tlv.specs.Layout.{Record, Fits, layout, field}
use Rattle.tlv.specs.Stands as stands
use Rattle.tlv.specs.Stands.{record_of_layout}
use Rattle.pack.specs.Reading.{counted}
use Rattle.records.specs.Laws.{value_there}
use Rattle.writer.specs.Writing.{Item}
use Rattle.writer_laws.specs.Calls.{all_written, write_all}
use Rattle.deposit.specs.Packs.{spare_at, value_at, deposit}

-- the record at a place is the one that stands there
module _ (front rest : List ℕ) (r : Record) (fit : Fits r) where
  pub behind : drop (length front) (front ++ (layout r ++ rest)) ≡ layout r ++ rest
  behind = drop-append_seam front (layout r ++ rest)

  pub spare_there : spare_at (front ++ (layout r ++ rest)) (length front) ≡ r.spare
  spare_there = ap (λ t. field t 28 2) behind ∙ (unfold stands.record_of in ap (λ (x : Record). x.spare) (record_of_layout r rest fit))

  pub value_at_lem : value_at (front ++ (layout r ++ rest)) (length front) (length r.value) ≡ r.value
  value_at_lem = ap (take (length r.value)) (sym (drop-drop 32 (length front) (front ++ (layout r ++ rest))) ∙ ap (drop 32) behind) ∙ value_there r rest

module _ (limit : ℕ) (small : limit < 2 ^ 32) where
  -- THE THEOREM, over calls of the writer
  pub record DepositedCalls (items : List Item) (buf : List ℕ) : Type 0 where
    pub count : ℕ
    pub exit : List ℕ
    pub written : write_all limit items 0 buf ≡ all_written count exit
    pub deposited : deposit limit (take count exit) ≡ counted (length items)
