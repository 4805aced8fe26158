-- Ports, lines and counts, worked.
use Rattle.std.proofs.Common.{◌≡◌, ℕ, Bool, true, false, None, Some, Err, refl}
use Rattle.std.specs.Prelude.{◌-◌, ◌^◌, ◌++◌, codes, pos}
use Rattle.trick_outside.specs.declared.stop.Stop.TheVariants as stop
use Rattle.trick_exec_alone.specs.declared.summary.Summary.{Summary}
use Rattle.trick_top_alone.specs.Verdict.{OutOfMemory, Served, ShelfFault, ended_facts, line_of, status_of}
use Rattle.trick_top.specs.Ports.{port_of_task}
use Rattle.trick_top.specs.Rows.{has_risen, served_verdict}
use Rattle.trick_top_words.specs.declared.command.Task.TheVariants.{Run, Serial}

-- ---- ports

a_port : port_of_task (Run (Some 7000)) ≡ Some 7000
a_port = refl

no_port : port_of_task (Run None) ≡ None
no_port = refl

no_run : port_of_task Serial ≡ None
no_run = refl

-- ---- what is said of a run

-- four turns, 3,000,001 tics, and no fault
four_turns : Summary
four_turns = record { turns = 4; tic = 3000001; faults = 0; sum = pos 103 }

it_ended : (sessions : ℕ) → line_of (Served four_turns sessions false) ≡ ended_facts four_turns sessions ++ codes "\n"
it_ended sessions = refl

its_door_failed : (sessions : ℕ) → line_of (Served four_turns sessions true) ≡ ended_facts four_turns sessions ++ codes " door=failed\n"
its_door_failed sessions = refl

-- a door that failed is no fault of the run
no_fault : status_of (Served four_turns 0 true) ≡ 0
unfolding four_turns
no_fault = refl

some_faults : status_of (Served (record four_turns { faults = 2 }) 0 false) ≡ 4
unfolding four_turns
some_faults = refl

by_shelf : (sessions : ℕ) (failed : Bool) → served_verdict (Err stop.Shelf) sessions failed ≡ ShelfFault
by_shelf sessions failed = refl

by_memory : (sessions : ℕ) (failed : Bool) → served_verdict (Err stop.Memory) sessions failed ≡ OutOfMemory
by_memory sessions failed = refl

-- ---- counts

it_rose : has_risen 3 4 ≡ true
it_rose = refl

it_stayed : has_risen 3 3 ≡ false
it_stayed = refl

-- at its end a count cannot rise, and says so
at_its_end : has_risen (2 ^ 64 - 1) (2 ^ 64 - 1) ≡ true
at_its_end = refl
