use Rattle.trick_input.proofs.Cuts.{both, front_is, shorter_is}
use Rattle.trick_input.proofs.reader.front_line.Goals as goal

pub returns : goal.returns
returns c = record {
  front = front_is c.args.rest.now c.split_at.result.0.now c.split_at.result.1.now _ c.line_len.result c.requires c.line_len.ensures.length c.split_at.ensures.front c.split_at.ensures.back;
  shorter = shorter_is c.args.rest.now c.split_at.result.1.now _ c.line_len.result c.requires c.line_len.ensures.length c.split_at.ensures.back;
  tokens = λ text h. both text c.args.rest.now c.split_at.result.0.now c.split_at.result.1.now c.line_len.result c.split_at.ensures.front c.split_at.ensures.back h;
}
