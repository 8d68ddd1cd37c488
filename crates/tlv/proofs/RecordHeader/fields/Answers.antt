-- `tlv::RecordHeader::fields` meets its contract. Field by field, where there are 32 bytes.
use borrow.Author.Tests.{lt-ltb, le-ltb}
use Rattle.tlv.specs.Found.{header_of, fields_of}
use Rattle.tlv.proofs.RecordHeader.fields.Goals as goal

pub returns-then-s-lt-LENGTH : goal.returns-then-s-lt-LENGTH
unfolding fields_of
returns-then-s-lt-LENGTH c = rw (lt-ltb _ _ c.if-s-lt-LENGTH.true) c.no_header.ensures

pub returns : goal.returns
unfolding fields_of header_of
returns c =
    rw (le-ltb _ _ c.if-s-lt-LENGTH.false)
    (λ i. record { tag = c.field.ensures.0 i; length = c.field-2.ensures.0 i; hash = c.field-3.ensures.0 i })
