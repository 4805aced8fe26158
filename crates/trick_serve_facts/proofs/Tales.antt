-- The turns of a run as its source was handed them, and the ends of its sessions.
use Rattle.std.proofs.Common.{◌≡◌, ◌∙◌, ⊎_elim, ℕ, ◌≤◌, true, false, List, [], le_trans, refl, subst, sym, ap}
use Rattle.std.proofs.lemmas.Bool.{false≢true}
use Rattle.std.specs.List.{list_any}
use Rattle.trick_model.specs.Plan.{Plan}
use Rattle.trick_model.specs.Run.{after_turns}
use Rattle.trick_model.specs.Session.{Message}
use Rattle.trick_model.specs.State.{World}
use Rattle.trick_model.specs.Turn.{turn}
use Rattle.trick_model.specs.declared.entry.Entry.{Entry}
use Rattle.trick_outside.specs.Causes.{Rose}
use Rattle.trick_outside.specs.declared.link_in.LinkIn.{Ghosts as InGhosts}
use Rattle.trick_outside.specs.declared.link_out.LinkOut.{Ghosts as OutGhosts}
use Rattle.trick_exec_meaning.specs.Answers.{list_answer}
use Rattle.trick_exec_meaning.specs.Ran as ran
use Rattle.trick_serve_source.specs.Calls.{View, Went}
use Rattle.trick_serve_hearing.specs.Sides.{Side}
use Rattle.trick_serve_seats.specs.declared.arrival.Arrival.{Arrival}
use Rattle.trick_serve_door.specs.declared.ending.SessionEnd.{SessionEnd}
use Rattle.trick_serve_seats.specs.declared.past.Past.{Past}
use Rattle.trick_serve_facts.specs.Clients.{EndSays}
use Rattle.trick_serve_facts.specs.Life.{is_write_fault}
use Rattle.trick_serve_facts.specs.Serves.{Serves, no_turn, one_more}
use Rattle.trick_serve_facts.specs.Tales.{IsEndOf, tale_of}
use Rattle.trick_exec_sources.specs.Turns.{Answer}
use Rattle.trick_exec_sources.specs.declared.turns.Turns.{Ghosts as TurnsGhosts}
use Rattle.trick_wire.specs.HasWritten.{IsUnwritten, cause_of}
use Rattle.trick_wire.specs.declared.heard.WriteStop.{WriteStop}
use Rattle.trick_wire.specs.declared.heard.WriteStop.TheVariants as stop

-- Where each step of a source is one of its view, the turns that it was handed were served.
pub handed_serves : {U M : Type 0} → (turns : TurnsGhosts U M) (view : U → View)
    → ((old new : U) (answers : List Answer) (said : List Message) → turns.went old answers said new → Went (view old) (view new) answers said)
    → (p : Plan) (w : World) (lists : List (List Entry)) (old new : U) → ran.Handed turns false p w lists old new → Serves p w lists (view old) (view new)
handed_serves turns view steps p w lists old new (ran.no_turn u) = no_turn (view u)
handed_serves turns view steps p w all old new (ran.one_more lists entries one before gave now early gives said) =
    one_more lists entries (view one) (view before) (view gave) (view now) (handed_serves turns view steps p w lists one before early)
    (steps before gave (list_answer false (after_turns p w lists) entries) [] gives)
    (steps gave now [] (turn p (after_turns p w lists) entries).said said)

-- ---- the end of a session

fault_stops : (why : WriteStop) → list_any is_write_fault (cause_of why) ≡ true → why ≡ stop.LinkFault
fault_stops stop.Closed is = absurd (false≢true is)
fault_stops stop.LinkFault is = refl
fault_stops stop.OutOfMemory is = absurd (false≢true is)

rose_later : (before now later : ℕ) → now ≤ later → Rose before now → Rose before later
rose_later before now later more rose = le_trans rose more

-- What is said of the end of a session is what its links tell.
pub end_says : {I O : Type 0} → (input : InGhosts I) (output : OutGhosts O) (arrival : Arrival I O) (past : Past I O) (ended : SessionEnd I O) (s : Side)
    → IsEndOf input output arrival past ended s → EndSays (tale_of input output arrival ended) s
end_says input output arrival past ended s end = record {
  heard = end.heard;
  sent = end.sent;
  told = λ fault. ⊎_elim
      (λ none. absurd (false≢true (ap (list_any is_write_fault) (sym none) ∙ fault)))
      (λ one.
      let why : past.writer.stop ≡ stop.LinkFault = fault_stops past.writer.stop (ap (list_any is_write_fault) (sym one) ∙ fault) in
      let wrote = end.is_past.writer.wrote in
      rose_later (output.failures arrival.output.value) (output.failures past.writer.link) (output.failures ended.output) end.later
      (subst (λ (x : WriteStop). IsUnwritten wrote.rest (Rose (output.failures arrival.output.value) (output.failures past.writer.link)) x) why wrote.unwritten))
      end.cause;
}
