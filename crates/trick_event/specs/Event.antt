-- What one read and one event do at a tic.
use Rattle.std.specs.Prelude.{ℕ, ◌==◌, true, false}
use Rattle.trick_model.specs.Events.{Asking, act_all, fired, fires}
use Rattle.trick_model.specs.Plan.{Event}
use Rattle.trick_model.specs.declared.read_at.ReadAt.{ReadAt}

-- The deeds of a read of the tic are done; another read does nothing.
abbrev pub read_done : ℕ → ReadAt → Asking → Asking
read_done tic read a = elim (read.tic == tic) [ true ↦ act_all tic read.actions a | false ↦ a ]

-- The event of number k fires, or does nothing.
abbrev pub event_done : ℕ → ℕ → Event → Asking → Asking
event_done tic k event a = elim (fires tic k event a.state) [ true ↦ fired tic k event a | false ↦ a ]
