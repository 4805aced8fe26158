use Rattle.trick_record.proofs.log_header.header.Goals as goal

pub returns : goal.returns
returns c = record {
  text = rw (c.as_slice.ensures, c.group_of-group.ensures.group) at c.header_of.ensures;
}
