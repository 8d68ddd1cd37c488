-- `pack_list::entry_at` meets its contract: one pass tells where the values stand, and no text `p` stands in what is no map.
use Prim.Native.Nat.{ℕ, ◌≤◌}
use mathlib.Core.List.{List}
use Rattle.std.specs.Prelude.{None}
use mathlib.Core.Path.{refl, sym, ap, subst, ◌∙◌}
use native.Mathlib.Omega.{arith}
use lib.ListN.{length, drop, length-drop}
use Rattle.msgpack.specs.Items.{depth_allowed}
use Rattle.msgpack.specs.Pairs.{PairsRead}
use Rattle.msgpack.specs.PassingLaws.{bounded}
use Rattle.msgpack.specs.Views.{size_of}
use Rattle.pack_list.proofs.Keys.{entry_codes, entry_places, no_entry_map}
use Rattle.pack_list.proofs.Entries.{pack_broken, no_entry_told, none_inside}
use borrow.Author.Tests.{not-false, not-true}
use Rattle.pack_list.proofs.entry_at.Goals as goal
use Rattle.pack_list.proofs.entry_at.Goals.{After-read_pairs-pairs, Start}

abbrev map_at : Start → List ℕ
map_at a = drop a.args.at a.args.part.now

pairs_read : (c : After-read_pairs-pairs) → PairsRead (map_at (goal.at.After-read_pairs-pairs c).Start) entry_codes c.read_pairs-pairs.result
pairs_read c = subst (λ (m : List ℕ). PairsRead m entry_codes c.read_pairs-pairs.result) c.from.ensures.result_value c.read_pairs-pairs.ensures

pub returns-then-not-pairs-clause-result_value : goal.returns-then-not-pairs-clause-result_value
returns-then-not-pairs-clause-result_value c =
    let p = c in
    let a = p in
    let broken = no_entry_map _ _ (pairs_read (goal.at.returns-then-not-pairs-clause-result_value p).After-read_pairs-pairs) a.requires (not-true _ c.if-not-pairs.true) in
    no_entry_told _ None _ _ _ _ (pack_broken _ broken) refl refl refl refl refl

pub returns-then-not-pairs-clause-inside : goal.returns-then-not-pairs-clause-inside
returns-then-not-pairs-clause-inside c = none_inside _ _

pub entry_by-requires : goal.entry_by-requires
entry_by-requires c =
    let e = c in
    let p = e in
    let a = p in
    let taken = bounded depth_allowed (map_at (goal.at.entry_by-requires c).Start) a.requires.size a.requires.is in
    let before_end : a.args.at ≤ length a.args.part.now =
    omega (arith, taken.some_byte, taken.within, length-drop a.args.at a.args.part.now) in
    let sized = sym (c.size_of-size.ensures ∙ ap size_of (pairs_read (goal.at.entry_by-requires p).After-read_pairs-pairs).passed) in
    (before_end, entry_places _ _ (pairs_read (goal.at.entry_by-requires p).After-read_pairs-pairs) a.requires _ sized (not-false _ e.if-not-pairs.false))
