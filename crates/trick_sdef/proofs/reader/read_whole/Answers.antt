use Rattle.trick_sdef.proofs.Refused.{all_read}
use Rattle.trick_text.specs.declared.token.Style.TheVariants as style
use Rattle.trick_sdef.proofs.reader.read_whole.Goals as goal

pub lexemes-requires : goal.lexemes-requires
lexemes-requires c = all_read style.SDefine c.args.text.now c.args.tokens.now c.args.fault c.requires
