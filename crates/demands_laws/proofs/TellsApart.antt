-- The relations of these theorems tell things apart: what differs in one respect alone is not related.
use Rattle.std.specs.Prelude.{ℕ, List, ◌≡◌}
use Rattle.std.specs.Prelude.{Option, Some}
use Rattle.std.proofs.Common.{sym, subst, ◌∙◌}
use Rattle.identifier.specs.Identity.{Identity}
use Rattle.writer.specs.Writing.{Item}
use Rattle.current_version.specs.Current.{Answer, lookup}
use Rattle.current_version.specs.Packs.{ReadablePack, SameAnswer}
use Rattle.current_version.specs.Bytes.{taken_out_of}
use Rattle.demands_laws.specs.Deletion.{deleted_by}
use Rattle.demands_laws.specs.TellsApart.{Taken}

-- ---- a deletion

module _ (limit : ℕ) (asked : Option Item) (before bucket object : List ℕ) (answer : Answer) where
  -- where i is what is deleted, and no other
  module _ (i : Identity) (is : deleted_by asked ≡ Some i) where
    the_identifier : (x : (Taken limit asked before bucket object answer)) → x.identifier ≡ i
    the_identifier x = let e = sym x.is_deleted_lem ∙ is in cc

    pub answers_differ : (SameAnswer answer (lookup limit (taken_out_of limit i before) bucket object) → ⊥) → (Taken limit asked before bucket object answer) → ⊥
    answers_differ d x = d (subst (λ j. SameAnswer answer (lookup limit (taken_out_of limit j before) bucket object)) (the_identifier x) x.same)

    pub left_is_not_readable : (ReadablePack limit (taken_out_of limit i before) → ⊥) → (Taken limit asked before bucket object answer) → ⊥
    left_is_not_readable d x = d (subst (λ j. ReadablePack limit (taken_out_of limit j before)) (the_identifier x) x.left)
