-- A run under what its turns noted, and so under the journal that it wrote: it is the same to each session.
use Rattle.std.specs.Prelude.{◌≡◌, ℕ, List}
use Rattle.trick_model_sessions.specs.Silence.{newcomers}
use Rattle.trick_model.specs.Files.{session_text}
use Rattle.trick_model.specs.Plan.{Plan}
use Rattle.trick_model.specs.Run.{opened}
use Rattle.trick_model.specs.State.{State}
use Rattle.trick_model.specs.declared.entry.Entry.{Entry}
use Rattle.trick_exec_laws.specs.Left.{journal_lists}
use Rattle.trick_serve_hearing.specs.Life.{own}
use Rattle.trick_serve_hearing.specs.Sides.{Queues}
use Rattle.trick_serve_facts.specs.Clients.{HasServed, LinkTale}
use Rattle.trick_serve_facts.specs.IsServed.{FreezeHasEntries}
use Rattle.trick_serve_facts.specs.Serves.{all_entries}

-- the lists of the journal that a run from a state writes: what each of its turns noted
abbrev pub noted_of : Plan → State → List (List Entry) → List (List Entry)
noted_of p s lists = journal_lists p (opened s) lists

-- Under these lists each session has the entries that it has in the journal, and is sent the same; the same sessions
-- join; and a turn that begins in Freeze has an entry of a client there too.
pub record IsTheSameAsNoted (p : Plan) (s : State) (lists : List (List Entry)) : Type 0 where
  pub entries : (n : ℕ) → own n (all_entries (noted_of p s lists)) ≡ own n (all_entries lists)
  pub texts : (n : ℕ) → session_text p s (noted_of p s lists) n ≡ session_text p s lists n
  pub joins : newcomers (all_entries (noted_of p s lists)) ≡ newcomers (all_entries lists)
  pub frozen : FreezeHasEntries p (opened s) lists → FreezeHasEntries p (opened s) (noted_of p s lists)

-- So it is with each run.
abbrev pub RunsAreTheSameAsNoted : Type 0
RunsAreTheSameAsNoted = (p : Plan) (s : State) (lists : List (List Entry)) → IsTheSameAsNoted p s lists

-- A client was served under the journal as it was in the run: it said the same lines, and left, or did not, by the same
-- cause; and what was left out of its text is the same.
pub record IsServedAsNoted (p : Plan) (s : State) (lists : List (List Entry)) (n : ℕ) (queues : Queues) (tale : LinkTale)
    (run : HasServed p s lists n queues tale) : Type 0 where
  pub served : HasServed p s (noted_of p s lists) n queues tale
  pub lines : served.lines ≡ run.lines
  pub leave : served.leave ≡ run.leave
  pub dropped : served.dropped ≡ run.dropped

-- So was each client that was served.
abbrev pub ClientsAreServedAsNoted : Type 0
ClientsAreServedAsNoted =
    (p : Plan) (s : State) (lists : List (List Entry)) (n : ℕ) (queues : Queues) (tale : LinkTale)
    (run : HasServed p s lists n queues tale) → IsServedAsNoted p s lists n queues tale run
