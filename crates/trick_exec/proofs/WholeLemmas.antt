-- A run, as the code does it.
use Rattle.std.proofs.Common.{◌≡◌, ◌∙◌, ℕ, ℤ, List, [], ◌∷◌, Err, Ok, IsOk, ap, refl, subst, sym}
use Rattle.std.specs.Prelude.{Result, map}
use Rattle.trick_exec_posts.specs.Stations.{AreStations}
use Rattle.trick_exec_posts.specs.declared.station.Station.{Station}
use Rattle.trick_model.specs.Plan.{Plan}
use Rattle.trick_exec.specs.Ended.{AreTurns, Closes, IsRun}
use Rattle.trick_exec.specs.declared.ended.Ended.{Ended as EndedValue}
use Rattle.trick_exec.specs.declared.ended.Ended.TheVariants as ended
use Rattle.trick_model.specs.Files.{start_writes}
use Rattle.trick_model.specs.Run.{shut}
use Rattle.trick_model.specs.State.{State, World}
use Rattle.trick_model.specs.declared.entry.Entry.{Entry}
use Rattle.trick_model.specs.declared.thread.Thread.{Thread}
use Rattle.trick_outside.specs.Does.{Does}
use Rattle.trick_outside.specs.declared.stop.Stop.{Stop}
use Rattle.trick_exec_meaning.proofs.Going.{Laws}
use Rattle.trick_exec_meaning.proofs.Whole.{missed_over, missed_short, missed_started, ran, started, stopped_at_end, stopped_in_turns, stopped_started}
use Rattle.trick_exec_meaning.specs.Hosts.{Hosts, Place, at}
use Rattle.trick_exec_meaning.specs.Over.{AreOver, AreShort}
use Rattle.trick_exec_meaning.specs.Ran.{Missed}
use Rattle.trick_exec_meaning.specs.Rounds.{no_waits}
use Rattle.trick_exec_tic.specs.Steps.{steps_of}

zeros : (stations : List Station) → map {B = ℕ} (λ (station : Station). 0) stations ≡ map {B = ℕ} (λ (thread : Thread). 0) (map (λ (station : Station). station.thread) stations)
zeros [] = refl
zeros (station ∷ stations) = ap (λ (l : List ℕ). 0 ∷ l) (zeros stations)

-- no round has waited
pub waits_of : (p : Plan) (one other : List Station) → one ≡ other → AreStations p other → map {B = ℕ} (λ (station : Station). 0) one ≡ no_waits p
waits_of p one other same are = ap (map {B = ℕ} (λ (station : Station). 0)) same ∙ zeros other ∙ ap (map {B = ℕ} (λ (thread : Thread). 0)) are.threads

module _ {S U M Q D : Type 0} (h : Hosts S U M Q) (laws : Laws h) (numbers : D → List ℤ) (p : Plan) (start : State) where
  -- a run whose turns are over comes to what its end comes to
  pub closed : {A : Type 0} {shelf mid : S} {turns : U} {first held : Q} {over : Place S U Q} {begun : Result A Stop} {lists : List (List Entry)} (new : S) (now : U) (w : World)
      (result : Result (EndedValue D) Stop)
      → h.posts.asked first [] held → Does h.shelf shelf mid begun (steps_of (start_writes p start.turn)) → IsOk begun
      → AreOver h p start (at mid turns held) over w lists
      → Closes h.shelf h.turns numbers p w over.shelf new over.turns now result
      → IsRun h numbers p start (at shelf turns first) (at new now over.posts) result
  closed {shelf = shelf} {turns = turns} {first = first} {held = held} {lists = lists} new now w (Ok (ended.Done last)) quiet begins ok over closes = (
    lists,
    started shelf turns first held laws.posts quiet
        (ran h laws p start {old = at shelf turns held} (shut p w.state) begins ok over closes.1 closes.2 refl closes.0 refl),
    closes.3 ∙ ap (λ (v : World). let x : World = record { state = shut p v.state; sessions = v.sessions } in x) over.is,
  )
  closed {shelf = shelf} {turns = turns} {first = first} {held = held} {over = at_end} {lists = lists} new now w (Ok (ended.Length kept given)) quiet begins ok over closes =
      let missed = missed_over h laws p start {old = at shelf turns held} kept given begins ok over closes.1 closes.2 in (
        lists,
        missed_started shelf turns first held laws.posts quiet
            (subst (λ (s : S). Missed h p start lists (at shelf turns held) (at s now at_end.posts) kept given) (sym closes.0) missed),
      )
  closed {shelf = shelf} {turns = turns} {first = first} {held = held} {lists = lists} new now w (Err e) quiet begins ok over closes =
      let result : Result (EndedValue D) Stop = Err e in
      (lists, stopped_started shelf turns first held laws.posts quiet (stopped_at_end h laws p start {old = at shelf turns held} result e e (shut p w.state) begins ok over closes.1 refl closes.0 refl refl refl))

  -- its turns stopped
  pub stopped : {A : Type 0} {shelf mid : S} {begun : Result A Stop} (u : U) (first held : Q) (now : Place S U Q) (result other : Result (EndedValue D) Stop) (e f : Stop)
      → h.posts.asked first [] held → Does h.shelf shelf mid begun (steps_of (start_writes p start.turn)) → IsOk begun
      → AreTurns h numbers p start (at mid u held) now result → result ≡ Err e → other ≡ Err f → f ≡ e
      → IsRun h numbers p start (at shelf u first) now other
  stopped u first held now (Ok value) other e f quiet begins ok turns is at_other same = cc is
  stopped {shelf = shelf} u first held now (Err g) other e f quiet begins ok turns is at_other same =
      let result : Result (EndedValue D) Stop = Err g in
      let last : Result (EndedValue D) Stop = Err f in
      subst (λ (r : Result (EndedValue D) Stop). IsRun h numbers p start (at shelf u first) now r) (sym at_other)
      (turns.0, stopped_started shelf u first held laws.posts quiet (stopped_in_turns h laws p start {old = at shelf u held} last e f begins ok turns.1 is refl same))

  -- the journal ended before the run
  pub short : {A : Type 0} {shelf mid : S} {turns : U} {first held : Q} {now : Place S U Q} {begun : Result A Stop} {lists : List (List Entry)} {w : World} (kept given : ℕ)
      → h.posts.asked first [] held → Does h.shelf shelf mid begun (steps_of (start_writes p start.turn)) → IsOk begun
      → AreShort h p start (at mid turns held) now w kept given lists → Missed h p start lists (at shelf turns first) now kept given
  short {shelf = shelf} {turns = turns} {first = first} {held = held} kept given quiet begins ok turned =
      missed_started shelf turns first held laws.posts quiet (missed_short h laws p start {old = at shelf turns held} kept given begins ok turned)
