-- What the source of entries did, call after call, where its caller asks the door.
use Rattle.std.specs.Prelude.{List, [], ◌++◌}
use Rattle.trick_model.specs.Session.{Message}
use Rattle.trick_serve_source.specs.CallLaws.{went_on_join, went_on_none}
use Rattle.trick_serve_source.specs.Calls.{WentOn}
use Rattle.trick_serve_source.specs.Rolls.{view_of, ways_of}
use Rattle.trick_serve_source.specs.declared.here.ServedHere.{ServedHere}
use Rattle.trick_serve_door.specs.Asking.{KeepsAsking}
use Rattle.trick_serve_seats.specs.Taking.{Hosts}
use Rattle.trick_exec_sources.specs.Turns.{Answer}

-- From the first moment to the second just these answers were given, and these messages handed over, by the same
-- queues, and whoever asks the door did nothing but ask.
pub record WentHere {D I O S R : Type 0} (h : Hosts D I O S) (old new : ServedHere D S R I O) (answers : List Answer)
    (messages : List Message) : Type 0 where
  pub went_on : WentOn (view_of old.served) (view_of new.served) (ways_of old.served) (ways_of new.served) answers
      messages
  pub asked : KeepsAsking h old.asking new.asking

pub went_here_none : {D I O S R : Type 0} (h : Hosts D I O S) (s : ServedHere D S R I O) → WentHere h s s [] []
went_here_none h s = record { went_on = went_on_none (view_of s.served) (ways_of s.served); asked = λ start is. is }

pub went_here_join : {D I O S R : Type 0} (h : Hosts D I O S) (first second third : ServedHere D S R I O)
    (early late : List Answer) (some more : List Message) → WentHere h first second early some
    → WentHere h second third late more → WentHere h first third (early ++ late) (some ++ more)
went_here_join h first second third early late some more one two = record {
  went_on = went_on_join (view_of first.served) (view_of second.served) (view_of third.served)
      (ways_of first.served) (ways_of second.served) (ways_of third.served) early late some more one.went_on two.went_on;
  asked = λ start is. two.asked start (one.asked start is);
}
