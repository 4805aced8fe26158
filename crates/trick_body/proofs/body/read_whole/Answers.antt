use Rattle.trick_text.specs.declared.token.Style.TheVariants.{Command}
use Rattle.trick_body.proofs.Refused.{all_read}
use Rattle.trick_body.proofs.body.read_whole.Goals as goal

pub lexemes-requires : goal.lexemes-requires
lexemes-requires c = all_read Command c.args.text.now c.args.tokens.now c.args.fault c.requires
