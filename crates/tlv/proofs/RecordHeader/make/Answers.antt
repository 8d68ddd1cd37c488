-- `tlv::RecordHeader::make` meets its contract. Field by field.
use lib.ListN.{length}
use Rattle.tlv.specs.Found.{made}
use Rattle.tlv.proofs.RecordHeader.make.Goals as goal

pub returns : goal.returns
unfolding made
returns c = λ i. record { tag = c.args.tag; length = length c.args.value.now; hash = c.xxh64.ensures i }
