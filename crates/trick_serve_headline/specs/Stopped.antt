-- What a run that stopped leaves, and what its clients were sent.
use Rattle.std.specs.Prelude.{List}
use Rattle.trick_base.specs.Files.{Files}
use Rattle.trick_serve_headline.specs.Clients.{WereSent}
use Rattle.trick_model.specs.Files.{messages_to, session_text}
use Rattle.trick_model.specs.Plan.{Plan}
use Rattle.trick_model.specs.Run.{Lasts, opened}
use Rattle.trick_model.specs.Session.{Message}
use Rattle.trick_model.specs.State.{State, World}
use Rattle.trick_model.specs.declared.entry.Entry.{Entry}
use Rattle.trick_exec_laws.specs.Left.{Left}
use Rattle.trick_serve_seats.specs.Taking.{Hosts}

-- A run that was given these lists, and had handed over these messages, left its files so. In each whole run that goes on
-- from what the whole lines of its journal tell, each client was sent a first part of its session text.
pub record LeavesServed {D I O S : Type 0} (h : Hosts D I O S) (p : Plan) (s : State) (lists : List (List Entry))
    (sent : List Message) (before left : Files) (door now : D) : Type 0 where
  pub files : Left p s lists sent before left
  pub clients : (more : List (List Entry)) (end : World) → Lasts p (opened s) files.cut more end
      → WereSent h (session_text p s more) door now

-- So it is where each client was sent a first part of the messages to it that were handed over.
abbrev pub FrontsAreSent : {D I O S : Type 0} → Hosts D I O S → Type 0
FrontsAreSent {D} h =
    (p : Plan) (s : State) (lists : List (List Entry)) (sent : List Message) (before left : Files) (door now : D)
    → Left p s lists sent before left → WereSent h (λ n. messages_to n sent) door now
    → LeavesServed h p s lists sent before left door now
