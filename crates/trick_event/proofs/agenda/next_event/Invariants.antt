use Rattle.trick_event.proofs.agenda.next_event.Given as goal
use Rattle.trick_event.specs.Due.{IsNextEvent}

-- the least tic of the first events
abbrev pub invariant-loop-place : goal.invariant-loop-place
invariant-loop-place l = IsNextEvent l.events l.on l.from l.place l.next
