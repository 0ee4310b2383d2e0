-- Bytes are read as one list of records, after which one rest is left, of one kind.
use Rattle.wf_listing.proofs.Lines.{one_listing}
use Rattle.wf_listing.proofs.theorem.bytes_have_one_listing.Goals as goal

pub returns : goal.returns
returns c = one_listing c.records_are_read_one_way.ensures.one
