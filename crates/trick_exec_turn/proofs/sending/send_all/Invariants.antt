use Rattle.std.proofs.Common.{drop}
use Rattle.trick_exec_turn.proofs.sending.send_all.Given as goal
use Rattle.trick_exec_entries.specs.Hearing.{said_of}
use Rattle.trick_exec_meaning.proofs.SayLemmas.{Saying}

-- the messages so far were handed over, and these are left
abbrev pub invariant-loop-message : goal.invariant-loop-message
invariant-loop-message g l =
    Saying g.T.Turns l.fn.turns l.turns (said_of l.messages) (said_of (drop l.message-index l.messages))
