-- What an acceptor in a thread comes to, and where it is.
use Rattle.trick_serve_door.specs.declared.running.Outcome.TheVariants.{Back, Done}
use Rattle.trick_serve_door.specs.declared.running.Outcome.{Outcome}
use Rattle.trick_serve_door.specs.declared.running.RunningAcceptor.TheVariants.{Here, There}
use Rattle.trick_serve_door.specs.declared.running.RunningAcceptor.{RunningAcceptor}

-- The first holds of the result, or the second of the work that was given back.
abbrev pub MatchOutcome : {W T : Type 0} → Outcome W T → (T → Type 0) → (W → Type 0) → Type 0
MatchOutcome (Done result) OfResult OfWork = OfResult result
MatchOutcome (Back work) OfResult OfWork = OfWork work

-- The first holds of the thread, or the second of the result that is there.
abbrev pub MatchRunning : {H T : Type 0} → RunningAcceptor H T → (H → Type 0) → (T → Type 0) → Type 0
MatchRunning (There thread) OfThread OfResult = OfThread thread
MatchRunning (Here result) OfThread OfResult = OfResult result
