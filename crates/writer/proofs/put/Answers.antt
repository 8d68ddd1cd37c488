-- The bytes lie within, so that they are written.
use borrow.Author.Rules.{rules}
use Rattle.writer.proofs.Chains.{bytes_put}
use Rattle.writer.proofs.put.Goals as goal

pub returns : goal.returns
returns c = bytes_put c.write_bytes.ensures.out_after (search rules) c.requires
