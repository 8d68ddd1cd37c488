-- `pack_list::survey_entries` meets its contract: what all entries tell is what those from a place on tell, after those before it.
use mathlib.Core.Path.{refl, sym, ap, ◌∙◌}
use native.Mathlib.Omega.{arith}
use Rattle.pack_list.proofs.Surveys.{none_surveyed, surveyed_all, entry_whole, entry_missing, entry_ends, one_surveyed}
use Rattle.pack_list.proofs.survey_entries.Goals as goal

pub loop-k-init : goal.loop-k-init
loop-k-init c = none_surveyed _ _ _ c.requires

pub entry_at-requires : goal.entry_at-requires
entry_at-requires c = let l = c.loop-k in entry_whole _ _ _ l.at l.k l.all l.holder l.invariant (omega arith)

pub returns-in_err-e : goal.returns-in_err-e
returns-in_err-e c =
    let l = c.loop-k in
    let e = entry_missing _ _ _ l.at l.k l.all l.holder l.invariant (omega arith) c.in_err-e.ensures.result_value in
    rw c.from_residual.ensures (record { result_value = e.0; inside = e.1 })

pub overflow_add-at : goal.overflow_add-at
overflow_add-at c =
    let e = c.in_ok-e in
    let l = c.loop-k in
    let told = e.ensures.result_value in
    let there = (e.ensures.inside.here _ _ refl).there in
    omega (arith, entry_ends _ _ _ l.at l.k l.all l.holder l.invariant (omega arith) e.e e.t told there)

pub loop-k-preserved : goal.loop-k-preserved
loop-k-preserved c =
    let e = c.in_ok-e in
    let l = c.loop-k in
    let told = e.ensures.result_value in
    let here = e.ensures.inside.here _ _ refl in
    one_surveyed _ _ _ l.at l.k l.all l.holder l.invariant (omega arith) e.e e.t told here _
    c.with_entry-all.ensures _ (c.with_holder-holder.ensures ∙ rw c.holds.ensures) _ refl

pub returns : goal.returns
returns c =
    let l = c.loop-k in
    let e = surveyed_all _ _ _ l.at l.k l.all l.holder l.invariant (omega arith) in
    record { result_value = e.0; inside = e.1 }
