-- How many sessions left since a thread was refused to their clients.
use Rattle.std.specs.Prelude.{◌≤◌, ℕ, Bool, true, false, List, count_by}
use Rattle.trick_model.specs.Plan.{Plan}
use Rattle.trick_model.specs.State.{State}
use Rattle.trick_model.specs.declared.entry.Cause.TheVariants as cause
use Rattle.trick_model.specs.declared.entry.Entry.{Entry}
use Rattle.trick_model.specs.declared.entry.Entry.TheVariants.{Join, Said, Leave, Publish}
use Rattle.trick_exec_meaning.specs.Answers.{IsSuccession}
use Rattle.trick_serve_source.specs.Calls.{View}
use Rattle.trick_serve_hearing.specs.declared.seat.Seat.{Seat}
use Rattle.trick_serve_facts.specs.Serves.{IsServedRun, all_entries}

-- whether a session left since a thread was refused to it
abbrev pub is_no_thread : Entry → Bool
is_no_thread (Join session) = false
is_no_thread (Said session line) = false
is_no_thread (Leave session cause.Exit) = false
is_no_thread (Leave session cause.HungUp) = false
is_no_thread (Leave session cause.LinkFault) = false
is_no_thread (Leave session cause.LongLine) = false
is_no_thread (Leave session cause.Slow) = false
is_no_thread (Leave session cause.NoThread) = true
is_no_thread (Leave session cause.OutOfMemory) = false
is_no_thread (Publish thread) = false

-- how many did
abbrev pub no_thread_leaves : List (List Entry) → ℕ
no_thread_leaves lists = count_by is_no_thread (all_entries lists)

-- to how many of these clients a thread was refused
abbrev pub refused_seats : List Seat → ℕ
refused_seats seats = count_by (λ (seat : Seat). seat.refused) seats

-- In a run that was served at most as many sessions left for want of a thread as there are clients with a seat to which
-- one was refused.
abbrev pub FewNoThreads : Type 0
FewNoThreads =
    (p : Plan) (s : State) (lists : List (List Entry)) (old new : View)
    → IsServedRun p s lists old new → IsSuccession false lists → no_thread_leaves lists ≤ refused_seats new.seats
