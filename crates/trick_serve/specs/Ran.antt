-- A run by a source of entries that tells no journal.
use Rattle.std.specs.Prelude.{◌≡◌, List, Ok, Err, Result}
use Rattle.trick_exec.specs.declared.ended.Ended.{Ended as EndedValue}
use Rattle.trick_model.specs.Plan.{Plan}
use Rattle.trick_model.specs.Run.{final}
use Rattle.trick_model.specs.State.{State}
use Rattle.trick_model.specs.declared.entry.Entry.{Entry}
use Rattle.trick_outside.specs.declared.stop.Stop.{Stop}
use Rattle.trick_exec_meaning.specs.Hosts.{Hosts, Place}
use Rattle.trick_exec_meaning.specs.Ran.{Ran, Stopped}
use Rattle.trick_exec_alone.specs.Serial.{summary_of}
use Rattle.trick_exec_alone.specs.declared.summary.Summary.{Summary}

-- A run from a state came to its end, and this is said of its last state; or it stopped. `D` is the type of its memory.
abbrev pub HasRun : {S U M Q : Type 0} → Type 0 → Hosts S U M Q → Plan → State → Place S U Q → Place S U Q
    → Result Summary Stop → Type 0
HasRun D h p s old new (Ok ended) =
    (lists : List (List Entry)) × Ran h p s lists old new × (ended ≡ summary_of (final p s lists))
HasRun D h p s old new (Err e) = (lists : List (List Entry)) × Stopped {T = EndedValue D} h p s lists old new (Err e)
