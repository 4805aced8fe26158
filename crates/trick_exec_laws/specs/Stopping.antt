-- What runs that stopped leave.
use Rattle.std.specs.Prelude.{◌≡◌, List, Err, Some}
use Rattle.trick_base.specs.Files.{Files}
use Rattle.trick_exec.specs.declared.ended.Ended.{Ended as EndedValue}
use Rattle.trick_model.specs.Plan.{Plan}
use Rattle.trick_model.specs.State.{State}
use Rattle.trick_model.specs.declared.entry.Entry.{Entry}
use Rattle.trick_outside.specs.declared.stop.Stop.{Stop}
use Rattle.trick_exec_laws.specs.Left.{Left}
use Rattle.trick_exec_meaning.specs.Hosts.{Hosts, Place}
use Rattle.trick_exec_meaning.specs.Ran.{Stopped}

-- Where the shelf tells what it holds, a run that stopped, with these lists given and these messages handed over,
-- left its files so. `D` is the type of its memory.
abbrev pub StopsLeave : {S U M Q : Type 0} → Type 0 → Hosts S U M Q → Type 0
StopsLeave {S} {U} {M} {Q} D h =
    (p : Plan) (s : State) (old new : Place S U Q) (e : Stop) (before : Files) (lists : List (List Entry))
    (stopped : Stopped {T = EndedValue D} h p s lists old new (Err e)) → h.shelf.holds old.shelf ≡ Some before
    → (now : Files) × (h.shelf.holds new.shelf ≡ Some now) × Left p s lists stopped.sent before now
