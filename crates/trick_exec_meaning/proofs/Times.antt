-- Hearing entries changes neither the count of turns, nor the next tic, nor what is taken.
use Rattle.std.proofs.Common.{◌≡◌, ◌∙◌, List, [], ◌∷◌, Bool, true, false, Option, Some, None, refl}
use Rattle.trick_lang.specs.declared.class.Class.TheVariants as class
use Rattle.trick_model.specs.Events.{Asking, enter_freeze, leave_freeze}
use Rattle.trick_model.specs.Plan.{Plan}
use Rattle.trick_model.specs.Running.{run_class}
use Rattle.trick_model.specs.Session.{answered}
use Rattle.trick_model.specs.State.{State}
use Rattle.trick_model.specs.Turn.{Hearing, do_between, hear, heard, resumed, session_of}
use Rattle.trick_model.specs.declared.deed.Deed.{Deed}
use Rattle.trick_model.specs.declared.deed.Deed.TheVariants.{SetCell, SetJob, Freeze, Stop as StopRun, Checkpoint, SetGroup, SetEvent}
use Rattle.trick_model.specs.declared.entry.Entry.{Entry}
use Rattle.trick_model.specs.declared.entry.Entry.TheVariants.{Join, Said, Leave, Publish}
use Rattle.trick_model.specs.declared.mode.Mode.{Mode}
use Rattle.trick_model.specs.declared.mode.Mode.TheVariants as mode

-- Two states have one count of turns, one next tic, and the same records.
pub record SameTime (s t : State) : Type 0 where
  pub turn : t.turn ≡ s.turn
  pub tic : t.tic ≡ s.tic
  pub taken : t.taken ≡ s.taken

one_time : (s : State) → SameTime s s
one_time s = record { turn = refl; tic = refl; taken = refl }

time_then : {s t u : State} → SameTime s t → SameTime t u → SameTime s u
time_then one two = record { turn = two.turn ∙ one.turn; tic = two.tic ∙ one.tic; taken = two.taken ∙ one.taken }

pub enter_time : (p : Plan) (s : State) → SameTime s (enter_freeze p s)
enter_time p s = by_mode s.mode
  where
    by_mode : (m : Mode) → (let t : State = elim m [
      | mode.Run ↦ run_class p class.Freeze (record s { mode = mode.Freeze })
      | mode.Freeze ↦ s
      | mode.Shutdown ↦ s
    ] in SameTime s t)
    by_mode mode.Run = record { turn = refl; tic = refl; taken = refl }
    by_mode mode.Freeze = one_time s
    by_mode mode.Shutdown = one_time s

leave_time : (p : Plan) (s : State) → SameTime s (leave_freeze p s)
leave_time p s = by_mode s.mode
  where
    by_mode : (m : Mode) → (let t : State = elim m [
      | mode.Run ↦ s
      | mode.Freeze ↦ run_class p class.Unfreeze (record s { mode = mode.Run })
      | mode.Shutdown ↦ s
    ] in SameTime s t)
    by_mode mode.Run = one_time s
    by_mode mode.Freeze = record { turn = refl; tic = refl; taken = refl }
    by_mode mode.Shutdown = one_time s

between_time : (p : Plan) (deed : Option Deed) (a : Asking) → SameTime a.state (do_between p deed a).state
between_time p None a = one_time a.state
between_time p (Some (SetCell cell number)) a = record { turn = refl; tic = refl; taken = refl }
between_time p (Some (SetJob job on)) a = record { turn = refl; tic = refl; taken = refl }
between_time p (Some Freeze) a = enter_time p a.state
between_time p (Some (StopRun at)) a = record { turn = refl; tic = refl; taken = refl }
between_time p (Some Checkpoint) a = one_time a.state
between_time p (Some (SetGroup group on)) a = record { turn = refl; tic = refl; taken = refl }
between_time p (Some (SetEvent event on)) a = record { turn = refl; tic = refl; taken = refl }

resumed_time : (p : Plan) (resume : Bool) (a : Asking) → SameTime a.state (resumed p resume a).state
resumed_time p false a = one_time a.state
resumed_time p true a = leave_time p a.state

hear_time : (p : Plan) (entry : Entry) (h : Hearing) → SameTime h.asking.state (hear p entry h).asking.state
hear_time p (Join number) h = one_time h.asking.state
hear_time p (Said number line) h =
    let a = answered p (p.command line) (session_of number h.sessions) in
    time_then (between_time p a.deed h.asking) (resumed_time p a.resume (do_between p a.deed h.asking))
hear_time p (Leave number cause) h = one_time h.asking.state
hear_time p (Publish thread) h = one_time h.asking.state

pub heard_time : (p : Plan) (entries : List Entry) (h : Hearing) → SameTime h.asking.state (heard p entries h).asking.state
heard_time p [] h = one_time h.asking.state
heard_time p (entry ∷ entries) h = time_then (hear_time p entry h) (heard_time p entries (hear p entry h))
