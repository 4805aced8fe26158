-- One tic, and the tics of a frame.
use Rattle.std.specs.Prelude.{ℕ, zero, suc, ◌+◌, nat_lt, true, false, List, [], ◌++◌}
use Rattle.trick_base.specs.Files.{Write}
use Rattle.trick_model.specs.Beside.{must_finish}
use Rattle.trick_model.specs.Events.{Asking, fire}
use Rattle.trick_model.specs.Plan.{Plan}
use Rattle.trick_model.specs.Records.{rows}
use Rattle.trick_model.specs.Running.{serial, settled}
use Rattle.trick_model.specs.State.{State}
use Rattle.trick_model.specs.Time.{tics_left}

-- what a tic or more come to: a state in a turn, and what was written
pub record Ticked : Type 0 where
  pub asking : Asking
  pub writes : List Write

-- the due jobs of a tic run
abbrev pub jobs_done : Plan → ℕ → State → State
jobs_done p tic s = settled (serial p s.jobs tic s.memory) s

-- In a tic its reads come first, then its events, then must-finish work, then the due jobs, and then
-- the rows. Then `tic` is one more.
abbrev pub tic : Plan → Asking → Ticked
tic p a =
    let now = a.state.tic in
    let b = fire p now a in
    let s = jobs_done p now (must_finish p now b.state) in
    let recorded = rows now 0 p.groups s in
    let t = recorded.state in
    record { asking = record b { state = record t { tic = now + 1 } }; writes = recorded.writes }

-- A tic is run where it is below the limit, which an earlier tic of the frame may have changed.
abbrev pub tic_below_limit : Plan → Asking → Ticked
tic_below_limit p a = elim (nat_lt a.state.tic a.state.limit) [
  | true ↦ tic p a
  | false ↦ record { asking = a; writes = [] }
]

-- so many tics one after the other, while they are below the limit
abbrev pub tics : Plan → ℕ → Asking → Ticked
tics p zero a = record { asking = a; writes = [] }
tics p (suc count) a =
    let first = tic_below_limit p a in
    let others = tics p count first.asking in
    record { asking = others.asking; writes = first.writes ++ others.writes }

-- the tics from `tic` to the last one of its frame
abbrev pub frame : Plan → Asking → Ticked
frame p a = tics p (tics_left p a.state.tic) a
