-- What words ask for, worked; and wrong bodies that no row holds, whatever their proofs are.
use Rattle.std.proofs.Common.{◌≡◌, List, ℕ, ◌∷◌, Option, None, true, false, refl}
use Rattle.trick_outside.specs.Calls.{Call, Get, Stopped, fails}
use Rattle.trick_outside.specs.Pieces as pieces
use Rattle.trick_outside.specs.declared.sink.Sink.{Ghosts}
use Rattle.trick_outside.specs.declared.stop.Stop.TheVariants.{Shelf}
use Rattle.trick_top_alone.proofs.OutcomeLemmas.{faults}
use Rattle.trick_top_alone.proofs.PrintLemmas.{Given}
use Rattle.trick_top_alone.specs.Aims as aim
use Rattle.trick_top_alone.specs.Outcome.{Outcome}
use Rattle.trick_top_alone.specs.Verdict.{OutOfMemory, Verdict}
use Rattle.trick_top_alone.specs.Words.{Wanted, aim_of_task, has_task, journal_of}
use Rattle.trick_top_words.specs.declared.command.Task.TheVariants.{Run}

-- `run`, with a port or not, runs its texts without a journal
run_aims : (port : Option ℕ) → (aim_of_task (Run port) ≡ aim.Run) × (journal_of (Run port) ≡ None)
run_aims port = (refl, refl)

-- and the call that waits for nobody has no `run`
run_alone : (port : Option ℕ) → has_task false (Run port) ≡ false
run_alone port = refl

-- a call after one that failed
no_call_after : (wanted : Wanted) (verdict : Verdict) (name : List ℕ) (call : Call) (calls : List Call)
    → Outcome wanted (Stopped (Get name) Shelf ∷ call ∷ calls) verdict → ⊥
no_call_after wanted verdict name call calls outcome =
    let none = (faults wanted (Stopped (Get name) Shelf ∷ call ∷ calls) verdict outcome).ends.0 refl in
    cc

-- a call that failed, told as want of memory
not_as_memory : (wanted : Wanted) (calls : List Call) → Outcome wanted calls OutOfMemory → fails calls ≡ true → ⊥
not_as_memory wanted calls outcome fault = let is = (faults wanted calls OutOfMemory outcome).there fault in cc

-- a sink that failed, told as want of memory
not_as_six : {O : Type 0} {sink : Ghosts O} {old new : O} {verdict : Verdict} → (so : Given sink old new verdict 6)
    → pieces.fails so.pieces ≡ true → ⊥
not_as_six so fault = let is = so.fault fault in cc
