use Rattle.trick_top_alone.proofs.WordLemmas.{says_none, says_words}
use Rattle.trick_top_alone.proofs.words.read_words.Goals as goal
use Rattle.trick_top_words.specs.Command.{AreRefused, Asks}

pub returns-in-Some : goal.returns-in-Some
returns-in-Some c =
    let asked : Asks c.args.words.now c.in-Some.command = rw c.in-Some.is at c.in_ok-command.ensures in
    says_words c.one_command.ensures _ c.in-Some.command asked c.alone.result c.alone.ensures

pub returns-in-None : goal.returns-in-None
returns-in-None c =
    let refused : AreRefused c.args.words.now = rw c.in-None.is at c.in_ok-command.ensures in
    says_none _ refused
