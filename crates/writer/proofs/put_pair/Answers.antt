-- The key, and then the text.
use mathlib.Core.Path.{refl}
use borrow.Author.Rules.{rules}
use Rattle.writer.specs.Values.{text_item, pair}
use Rattle.writer.proofs.Chains.{first_fits, next_fits, puts_both}
use Rattle.writer.proofs.put_pair.Goals as goal

pub put_text-start-requires : goal.put_text-start-requires
unfolding pair
put_text-start-requires c =
    let entry = c in
    (search rules, first_fits (text_item entry.args.key.now) (text_item entry.args.text.now) refl _ _ entry.requires.2)

pub put_text-requires : goal.put_text-requires
unfolding pair
put_text-requires c =
    let at-put-text = c in
    let entry = at-put-text in
    (search rules, next_fits _ _ refl at-put-text.put_text-start.ensures entry.requires.2)

pub returns : goal.returns
unfolding pair
returns c =
    let at-put-text = c in
    let entry = at-put-text in
    puts_both _ _ refl at-put-text.put_text-start.ensures c.put_text.ensures entry.requires.2
