-- `records::texts_from` meets its contract, text by text.
use Rattle.records.proofs.texts_from.Goals as goal

pub returns : goal.returns
returns c = rw (c.place_from-ulid.ensures, c.place_from-bucket.ensures, c.place_from-object.ensures)
