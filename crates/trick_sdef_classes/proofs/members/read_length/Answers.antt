use Rattle.std.proofs.Common.{rules}
use Rattle.trick_sdef_classes.proofs.members.read_length.Goals as goal
use Rattle.trick_sdef_classes.specs.Members.{length_body}

pub returns : goal.returns
unfolding length_body
returns c = search rules
