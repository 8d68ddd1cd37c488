-- A search for the earliest record that passes a test: those before it play no part.
use Prim.Native.Nat.{ℕ}
use mathlib.Core.Bool.{Bool, true, false}
use mathlib.Core.List.{List}
use Rattle.std.specs.Prelude.{None, Some}
use mathlib.Core.Path.{◌≡◌, refl, sym, ◌∙◌}
use Rattle.slices.specs.Logic.{absurd_numbers}
use Rattle.refusals.specs.Limit.{pack_limit}
use Rattle.identifier.specs.Identity.{Identity}
use Rattle.records.specs.Record.{version_delete_tag}
use Rattle.current_version.specs.Current.{Role, version, deletion, other, unreadable, role, version_by}
use Rattle.current_version.specs.Roles.{delete_tells_none}
use Rattle.lookup_records.specs.Answers.{role_in, value_in}
use Rattle.lookup_records.specs.Walk.{placed_from, Walked}
use Rattle.lookup_records.specs.Passes.{stands_at, Walks, first_there, goes_on, asked_seen}
use Rattle.lookup_records.specs.declared.Visited.{Visited}
use Rattle.explanation.specs.Reasons.{first_where, holds}

module _ (test : Role → Bool) (skipped : ℕ) (s : List ℕ) (at : ℕ) (w : Walks (first_where test) s at) (v : Visited) (walked : Walked skipped s at v) where
  pub found_here : test (stands_at s at v walked).role ≡ true → Some at ≡ first_where test (placed_from pack_limit s 0)
  unfolding first_where
  found_here e = sym (first_there (first_where test) s skipped at w v walked ∙ rw e)

  pub not_here : test (stands_at s at v walked).role ≡ false → Walks (first_where test) s v.next
  unfolding first_where
  not_here e = goes_on (first_where test) s skipped at w v walked (rw e)

-- ---- a record that holds a version: no `vd` does

none_held : (i : Identity) (r : Role) (start : ℕ) (value : List ℕ) → version_by start value r ≡ None → holds i r ≡ false
unfolding holds
none_held i (version j f) start value e = absurd_numbers (cc)
none_held i (deletion j) start value e = refl
none_held i other start value e = refl
none_held i (unreadable n) start value e = refl

pub holds_seen : (s : List ℕ) (at : ℕ) (v : Visited) (walked : Walked version_delete_tag s at v) (i : Identity)
    → holds i (stands_at s at v walked).role ≡ holds i (role_in s v.role)
unfolding holds
holds_seen s at v walked i =
    let value : List ℕ = value_in s at v.value.len in
    asked_seen (holds i) version_delete_tag s at v walked (none_held i (role pack_limit version_delete_tag value) at value (delete_tells_none pack_limit at value))
