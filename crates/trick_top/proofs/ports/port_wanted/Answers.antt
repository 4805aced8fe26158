use Rattle.trick_top.proofs.PortLemmas.{no_port, says_port}
use Rattle.trick_top.proofs.ports.port_wanted.Goals as goal
use Rattle.trick_top_words.specs.Command.{AreRefused, Asks}

pub returns-in-Some : goal.returns-in-Some
returns-in-Some c =
    let asked : Asks c.args.words.now c.in-Some.command = rw c.in-Some.is at c.in_ok-command.ensures in
    says_port c.one_command.ensures _ c.in-Some.command asked _ c.port_of.ensures

pub returns-in-None : goal.returns-in-None
returns-in-None c =
    let refused : AreRefused c.args.words.now = rw c.in-None.is at c.in_ok-command.ensures in
    no_port _ refused
