use Rattle.std.proofs.Common.{inl}
use Rattle.trick_input.proofs.Cuts.{all_read}
use Rattle.trick_input.proofs.reader.read_tokens.Goals as goal

pub read_lines-requires : goal.read_lines-requires
read_lines-requires c = all_read c.args.text.now c.args.tokens.now c.args.fault c.requires

pub returns : goal.returns
returns c = inl (c.args.tokens.now, c.args.fault, c.requires, c.read_lines.ensures)
