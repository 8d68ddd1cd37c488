-- `identifier::is_character` meets its contract: the ranges are the alphabet.
use borrow.Author.Rules.{rules}
use Rattle.identifier.proofs.Ranges.{ranges_are}
use Rattle.identifier.proofs.is_character.Goals as goal

pub returns : goal.returns
returns c =
    let p = c in
    rw (p.is_between.ensures, p.is_between-2.ensures, p.is_between-3.ensures, c.is_between-4.ensures, c.is_between-5.ensures, c.is_between-6.ensures)
    (ranges_are p.args.x (search rules))
