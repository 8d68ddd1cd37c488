-- The relations that the read-back is said with tell things apart: what differs in one respect alone is not related.
use Rattle.std.specs.Prelude.{ℕ, ◌≡◌, take, drop}
use mathlib.Core.List.{List}
use Rattle.std.specs.Prelude.{Some, Result}
use Rattle.std.proofs.Common.{sym, subst, ◌∙◌}
use Rattle.refusals.specs.Limit.{pack_limit}
use Rattle.pack.specs.Reading.{whole, reading}
use Rattle.records.specs.declared.Placed.{Placed}
use Rattle.records.specs.declared.PlaceFault.{PlaceFault}
use Rattle.writer.specs.Writing.{Item}
use Rattle.writer_laws.specs.Calls.{all_written, write_all}
use Rattle.writer_laws.specs.ReadBack.{AllMean, ReadsBack}
use Rattle.writer_laws.specs.Added.{Extends, Tells, IsAdded}

-- ---- what was written

module _ (limit : ℕ) (items : List Item) (buf : List ℕ) where
  module _ (n : ℕ) (exit : List ℕ) (is : write_all limit items 0 buf ≡ all_written n exit) (x : ReadsBack limit items buf) where
    same_count : x.count ≡ n
    same_count = let e = sym x.written ∙ is in cc

    same_exit : x.exit ≡ exit
    same_exit = let e = sym x.written ∙ is in cc

    pub bytes_behind_differ : (drop n exit ≡ drop n buf → ⊥) → ⊥
    bytes_behind_differ d = d (rw (← same_count, ← same_exit) x.behind)

    pub pack_is_refused : ((reading limit (take n exit)).ending ≡ whole → ⊥) → ⊥
    pack_is_refused d = d (rw (← same_count, ← same_exit) x.accepted)

    pub readings_differ : (AllMean limit (take n exit) items (reading limit (take n exit)).entries → ⊥) → ⊥
    readings_differ d = d (rw (← same_count, ← same_exit) x.reads)

-- ---- a record added

module _ (before front : List ℕ) (p : Result Placed PlaceFault) where
  module _ (item : Item) (x : IsAdded (Some item) before front p) where
    the_item : x.item ≡ item
    the_item = let e = x.is_asked_lem in cc

    pub another_item_is_told : (Tells front item p → ⊥) → ⊥
    another_item_is_told d = d (subst (λ i. Tells front i p) the_item x.tells)

    pub pack_is_not_extended : (reading pack_limit before).ending ≡ whole → (Extends pack_limit before item front → ⊥) → ⊥
    pack_is_not_extended accepted d = d (subst (λ i. Extends pack_limit before i front) the_item (x.extends accepted))
