-- A turn without entries at whose tics nothing is due.
use Rattle.std.proofs.Common.{◌≡◌, ◌∙◌, ◌==◌, ℕ, suc, List, [], ◌∷◌, ◌++◌, Bool, true, false, ap, arith, length, refl, subst, sym}
use Rattle.std.proofs.lemmas.Bool.Decides.{nat_tests}
use Rattle.std.specs.Prelude.{map}
use Rattle.trick_base.specs.Files.{Write}
use Rattle.trick_exec_posts.specs.Stations.{AreStations}
use Rattle.trick_exec_posts.specs.declared.station.Station.{Station}
use Rattle.trick_lang.specs.declared.class.Class.{Class}
use Rattle.trick_lang.specs.declared.class.Class.TheVariants as class
use Rattle.trick_model.specs.Beside.{each_thread, start_round}
use Rattle.trick_model.specs.Events.{Asking}
use Rattle.trick_model.specs.Order.{jobs_in}
use Rattle.trick_model.specs.Plan.{Plan, is_on, threads_beside}
use Rattle.trick_model.specs.Running.{after_jobs, run_class, settled}
use Rattle.trick_model.specs.State.{State}
use Rattle.trick_model.specs.Tic.{Ticked, frame}
use Rattle.trick_model.specs.Turn.{checkpoint_jobs, checkpoint_writes, counted, framed, frozen, rounds, runs}
use Rattle.trick_model.specs.declared.thread.Thread.{Thread}
use Rattle.trick_exec_frame.specs.Pass.{Passed, passed, unasked}

-- a class without jobs does nothing
pub class_idles : (p : Plan) (of : Class) (s : State) → jobs_in p.jobs of ≡ [] → run_class p of s ≡ s
class_idles p of s none = ap (λ (ks : List ℕ). settled (after_jobs p (is_on s.jobs) s.tic ks s.memory) s) none

-- what follows the tics of a run frame
abbrev frame_end : Plan → Ticked → Ticked
frame_end p ran =
    let bottom = run_class p class.EndOfFrame ran.asking.state in
    record { asking = record (ran.asking) { state = frozen p ran.asking.freeze bottom }; writes = ran.writes }

-- what follows a frame
abbrev turn_end : Plan → Bool → Ticked → Passed
turn_end p ran t =
    let asked = t.asking in
    let s = counted (rounds p ran (checkpoint_jobs p asked.checkpoint asked.state)) in
    record { state = s; writes = t.writes ++ checkpoint_writes p asked.checkpoint s }

-- the tics of an idle frame
abbrev pub idle_frame : State → Ticked
idle_frame s = record { asking = unasked s; writes = [] }

pub idle_turn : (p : Plan) (s later bottom : State) → runs s ≡ true → jobs_in p.jobs class.TopOfFrame ≡ [] → threads_beside p ≡ []
    → frame p (unasked s) ≡ idle_frame later → bottom ≡ run_class p class.EndOfFrame later
    → passed p [] (unasked s) ≡ record { state = counted bottom; writes = [] }
idle_turn p s later bottom running top none idle end =
    ap (λ (b : Bool). turn_end p b (framed p b [] (unasked s))) running
    ∙ ap (λ (t : State). turn_end p true (frame_end p (frame p (unasked t)))) (class_idles p class.TopOfFrame s top)
    ∙ ap (λ (t : Ticked). turn_end p true (frame_end p t)) idle
    ∙ ap (λ (threads : List Thread). record { state = counted (each_thread (start_round p) 0 threads (run_class p class.EndOfFrame later)); writes = [] }) none
    ∙ ap (λ (t : State). record { state = counted t; writes = [] }) (sym end)

some : (n : ℕ) → true ≡ (suc n == 0) → ⊥
some n e = grind (arith, nat_tests)

-- no station, no thread
pub no_threads : (p : Plan) (stations : List Station) → AreStations p stations → true ≡ (length stations == 0) → threads_beside p ≡ []
no_threads p [] are none = sym are.threads
no_threads p (station ∷ stations) are none = absurd (some (length stations) none)
