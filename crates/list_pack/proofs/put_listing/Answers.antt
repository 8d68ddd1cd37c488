-- `list_pack::put_listing` meets its contract. Each arm puts the text of the reading; the arm of a list that is too short is never reached.
use mathlib.Core.Path.{◌≡◌, sym, ap, ◌∙◌}
use Rattle.std.specs.Prelude.{Err}
use Rattle.refusals.specs.Limit.{pack_limit}
use Rattle.pack.specs.Reading.{refused, reading, fault_number, fault_place}
use Rattle.pack.specs.Scan.{scanned_of, scanned}
use Rattle.list_pack.proofs.Answers.{no_length, filled, refusal, never_short, listing_put, refusal_put}
use Rattle.list_pack.proofs.put_listing.Goals as goal
use Rattle.list_pack.proofs.put_listing.Goals.{After-scan}

-- what the scan's answer says
said : (c : After-scan) → scanned_of c.scan.result ≡ scanned (reading pack_limit c.args.pack.now) 2048
said c = rw (c.no_entries-entries.ensures, no_length) at c.scan.ensures.0

pub returns-in-Ok : goal.returns-in-Ok
returns-in-Ok c =
    let answer = ap scanned_of (sym c.in-Ok.is) ∙ said (goal.at.returns-in-Ok c).After-scan in
    let put = c.put_lines-at.ensures in
    listing_put _ _ (filled _ _ answer) c.requires.1 put.1 (rw (c.scan.ensures.1, c.no_entries-entries.ensures) at put.0) c.put_lines-at.auto.out c.put_count.ensures

pub returns-in-Err-Pack : goal.returns-in-Err-Pack
returns-in-Err-Pack c =
    let r = reading pack_limit c.args.pack.now in
    let n = c.from.result in
    let at = c.place.result in
    let number = c.from.ensures ∙ ap fault_number c.in-Err-Pack.f-is in
    let place = c.place.ensures ∙ ap fault_place c.in-Err-Pack.f-is in
    let answer = ap scanned_of (sym (c.in-Err-Pack.is ∙ ap Err c.in-Err-Pack.field-0-is)) ∙ said (goal.at.returns-in-Err-Pack c).After-scan in
    refusal_put r n at c.requires.1 (refusal r n at ((λ i. refused (number i) (place i)) ∙ answer)) c.put_refusal.ensures

pub returns-in-Err-NoRoom : goal.returns-in-Err-NoRoom
returns-in-Err-NoRoom c =
    let answer = ap scanned_of (sym (c.in-Err-NoRoom.is ∙ ap Err c.in-Err-NoRoom.field-0-is)) ∙ said (goal.at.returns-in-Err-NoRoom c).After-scan in
    absurd (never_short c.args.pack.now (record { below = λ k. (c.type_inv.pack k).fits }) c.requires.0 answer)
