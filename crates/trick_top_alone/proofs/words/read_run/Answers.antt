use Rattle.trick_top_alone.proofs.WordLemmas.{runs_none, says_run}
use Rattle.trick_top_alone.proofs.words.read_run.Goals as goal
use Rattle.trick_top_words.specs.Command.{AreRefused, Asks}

pub returns-in-Some : goal.returns-in-Some
returns-in-Some c =
    let asked : Asks c.args.words.now c.in-Some.command = rw c.in-Some.is at c.in_ok-command.ensures in
    says_run c.one_command.ensures _ c.in-Some.command asked c.threaded.result c.threaded.ensures

pub returns-in-None : goal.returns-in-None
returns-in-None c =
    let refused : AreRefused c.args.words.now = rw c.in-None.is at c.in_ok-command.ensures in
    runs_none _ refused
