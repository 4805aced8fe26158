use Rattle.std.proofs.Common.{arith}
use Rattle.trick_command.proofs.Indexes.{index_read}
use Rattle.trick_command.proofs.path.take_index.Goals as goal

pub returns-clause-read : goal.returns-clause-read
returns-clause-read c =
    index_read c.args.name.now.items c.push_index.new.name.items c.args.words.now c.word-item.result c.close-item.result c.in-Some.index c.in-len2-up.len_at_least
    c.word-item.is c.close-item.is c.in-Some.is (grind (arith, c.is_word.ensures, c.if-not-is_word.false)) c.in_ok-push_index.ensures
