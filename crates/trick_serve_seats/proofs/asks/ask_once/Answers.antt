use Rattle.std.proofs.Common.{inl, inr, refl}
use Rattle.trick_outside.specs.Visits.{Ended, Failed, Gave, NotYet, OutOfMemory}
use Rattle.trick_serve_seats.proofs.asks.ask_once.Goals as goal

pub returns-in-Client : goal.returns-in-Client
returns-in-Client g c = record { visit = Gave c.in-Client.input c.in-Client.output; visited_is = c.in-Client.ensures.visited; first = λ has. tt; is = refl }

pub returns-in-NotYet : goal.returns-in-NotYet
returns-in-NotYet g c = record { visit = NotYet; visited_is = c.in-NotYet.ensures.visited; first = c.in-NotYet.ensures.first; is = refl }

pub returns-in-Ended : goal.returns-in-Ended
returns-in-Ended g c = record { visit = Ended; visited_is = c.in-Ended.ensures.visited; first = c.in-Ended.ensures.first; is = λ count. inl refl }

pub returns-in-Failed : goal.returns-in-Failed
returns-in-Failed g c = record { visit = Failed; visited_is = c.in-Failed.ensures.visited; first = c.in-Failed.ensures.first; is = λ count. inr (inl refl) }

pub returns-in-OutOfMemory : goal.returns-in-OutOfMemory
returns-in-OutOfMemory g c = record { visit = OutOfMemory; visited_is = c.in-OutOfMemory.ensures.visited; first = λ has. tt; is = λ count. inr refl }
