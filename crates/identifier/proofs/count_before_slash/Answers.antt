-- Where there is no slash all of the text stands before it.
use mathlib.Core.Path.{ap, ◌∙◌}
use lib.ListN.{length}
use Rattle.std.specs.Option.{unwrap_or}
use Rattle.identifier.specs.Identity.{slash}
use Rattle.identifier.proofs.Searches.{before_counted}
use Rattle.identifier.proofs.count_before_slash.Goals as goal

pub returns : goal.returns
returns c = c.unwrap_or.ensures ∙ ap (λ o. unwrap_or o (length c.args.s.now)) c.find_slash.ensures ∙ before_counted slash c.args.s.now
