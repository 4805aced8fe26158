-- The parts of a turn: its lines, and its publications.
use Rattle.std.specs.List.{list_any}
use Rattle.std.specs.Prelude.{◌≡◌, ◌++◌, false, not, List, filter}
use Rattle.trick_base.specs.Files.{Write}
use Rattle.trick_model.specs.Events.{Asking}
use Rattle.trick_model.specs.Journal.{is_of_session}
use Rattle.trick_model.specs.Plan.{Plan}
use Rattle.trick_model.specs.State.{State}
use Rattle.trick_model.specs.Turn.{checkpoint_jobs, checkpoint_writes, counted, framed, publishes, rounds, runs}
use Rattle.trick_model.specs.declared.entry.Entry.{Entry}
use Rattle.trick_exec_sources.specs.Turns.{has_line}

-- Entries are lines, which are joins, lines and leaves, and then publications.
pub record AreApart (entries lines publications : List Entry) : Type 0 where
  pub all : entries ≡ lines ++ publications
  pub no_publication : list_any (λ entry. not (is_of_session entry)) lines ≡ false
  pub no_line : has_line publications ≡ false

-- the publications of a turn that count, by the state after its lines were heard
abbrev pub counting : Plan → State → List Entry → List Entry
counting p s publications = filter (publishes p s) publications

-- the state after the rest of a turn, whose lines were heard before
abbrev pub state_after : Plan → List Entry → Asking → State
state_after p publications a =
    let asked = (framed p (runs a.state) publications a).asking in
    counted (rounds p (runs a.state) (checkpoint_jobs p asked.checkpoint asked.state))

-- the rows and the checkpoint of the rest of a turn
abbrev pub writes_after : Plan → List Entry → Asking → List Write
writes_after p publications a =
    let ran = framed p (runs a.state) publications a in
    ran.writes ++ checkpoint_writes p (ran.asking).checkpoint (state_after p publications a)
