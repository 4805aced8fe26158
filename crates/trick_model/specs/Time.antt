-- Tics, frames, and when a job is due.
use Rattle.std.specs.Prelude.{ℕ, ◌+◌, ◌-◌, ◌*◌, ◌/◌, ◌^◌}
use Rattle.trick_cycle.specs.declared.Due.{Due}
use Rattle.trick_model.specs.Plan.{Plan, job_at}
use Rattle.trick_model.specs.declared.flags.Flags.{Flags}

-- The start, cycle and stop by which a job of class scheduled is due. The flags will choose among
-- several allowed cycles once a job may have them; today it has one.
abbrev pub due_of : Plan → Flags → ℕ → Due
due_of p flags k = let job = job_at p.jobs k in record { start = job.start; cycle = job.cycle; stop = job.stop }

-- Frame f has the tics from f F to f F + F - 1: the first tic after the frame that a tic is in.
abbrev pub frame_end : Plan → ℕ → ℕ
frame_end p tic = (tic / p.frame + 1) * p.frame

-- the tics that are left of a frame, from this one on
abbrev pub tics_left : Plan → ℕ → ℕ
tics_left p tic = frame_end p tic - tic

-- The count of turns stands still at 2^63 - 1.
abbrev pub last_turn : ℕ
last_turn = 2 ^ 63 - 1
