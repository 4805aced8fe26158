-- What a run that stopped leaves of its files.
use Rattle.std.proofs.Common.{◌≡◌, ◌∙◌, List, [], ◌∷◌, ◌++◌, ℕ, Bool, true, false, not, ◌&&◌, Option, Some, None, ap, append-nil, append_assoc, refl, sym}
use Rattle.std.proofs.lemmas.Bool.{and_parts}
use Rattle.std.specs.Prelude.{◌||◌, IsTrue, nat_le}
use Rattle.trick_base.specs.Files.{Files, Write}
use Rattle.trick_model.proofs.Runs.{fitting_lasts, one_run, runs_join}
use Rattle.trick_model.specs.Files.{start_writes, turns_said}
use Rattle.trick_model.specs.Plan.{Plan as PlanSeen}
use Rattle.trick_model.specs.PlanOf.{plan_of}
use Rattle.trick_model.specs.Run.{after_turns, goes_on, has_session_entry, is_over, is_shut, opened}
use Rattle.trick_model.specs.Session.{Message}
use Rattle.trick_model.specs.State.{State, World}
use Rattle.trick_model.specs.Turn.{is_frozen, turn}
use Rattle.trick_model.specs.declared.entry.Entry.{Entry}
use Rattle.trick_model.specs.declared.plan.Plan.{Plan}
use Rattle.trick_outside.specs.Calls.{AllLeave, Call}
use Rattle.trick_exec_laws.proofs.Lasting.{AllOn}
use Rattle.trick_exec_laws.proofs.Leaves.{left_of_calls}
use Rattle.trick_exec_laws.specs.Left.{Left}
use Rattle.trick_exec_meaning.specs.Follows.{Follows}
use Rattle.trick_exec_meaning.specs.Laws.{told_by}
use Rattle.trick_exec_meaning.specs.Stops.{StopsAt, at_end, before, between, in_turn}
use Rattle.trick_top_alone.specs.Acts.{StopsWith}
use Rattle.trick_top_alone.specs.Runs.{IsUnderWay}
use Rattle.trick_exec_sources.specs.Turns.{Told, behind}

-- ---- before each turn the run was not over

on_by : (shut out frozen : Bool) → not (shut || (out || frozen)) ≡ true → (shut || out) ≡ false
on_by true out frozen e = cc e
on_by false true frozen e = cc e
on_by false false frozen e = refl

on_here : (w : World) (left : List (List Entry)) → IsTrue (not (is_over w.state left)) → (is_shut w.state.mode || nat_le w.state.limit w.state.tic) ≡ false
on_here w left e = on_by (is_shut w.state.mode) (nat_le w.state.limit w.state.tic) (is_frozen w.state.mode && not (has_session_entry left)) e

on_of_goes : (p : PlanSeen) (w : World) (lists : List (List Entry)) → IsTrue (goes_on p w lists) → AllOn p w lists
on_of_goes p w [] goes = tt
on_of_goes p w (entries ∷ lists) goes =
    let parts = and_parts (not (is_over w.state (entries ∷ lists))) (goes_on p (turn p w entries).world lists) goes in
    (on_here w (entries ∷ lists) parts.0, on_of_goes p (turn p w entries).world lists parts.1)

on_of_follows : (p : PlanSeen) (w : World) (told : Told) (lists : List (List Entry)) → Follows p w told lists → AllOn p w lists
on_of_follows p w told [] follows = tt
on_of_follows p w told (entries ∷ lists) follows =
    (on_here w told.lists follows.2, on_of_follows p (turn p w entries).world (behind told) lists follows.3)

on_way : (plan : Plan) (journal : Option (List ℕ)) (first : State) (lists : List (List Entry)) → IsUnderWay plan journal first lists
    → AllOn (plan_of plan) (opened first) lists
on_way plan None first lists way = on_of_goes (plan_of plan) (opened first) lists way.goes
on_way plan (Some text) first lists way =
    on_of_follows (plan_of plan) (opened first) (told_by way.journal.entries way.journal.end first) lists way.follows

-- ---- the messages that were handed over are the first of the turns

said_first : (p : PlanSeen) (s : State) (head : List Write) (lists : List (List Entry)) (calls : List Call) (said : List Message)
    → StopsAt p s head lists calls said → (unsaid : List Message) × (turns_said p (opened s) lists ≡ said ++ unsaid)
said_first p s head lists calls said (before early is) = ([], refl)
said_first p s head lists calls said (between given) = ([], sym (append-nil (turns_said p (opened s) given)))
said_first p s head lists calls said (in_turn most entries later some stops) =
    let w = after_turns p (opened s) most in (
      stops.rest,
      runs_join.said p (opened s) most (entries ∷ [])
          ∙ ap (λ (ms : List Message). turns_said p (opened s) most ++ ms) (append-nil (turn p w entries).said ∙ stops.front)
          ∙ sym (append_assoc (turns_said p (opened s) most) some stops.rest),
    )
said_first p s head lists calls said (at_end given later fits is) = ([], sym (append-nil (turns_said p (opened s) given)))

-- ---- its files

pub left_so : (plan : Plan) (journal : Option (List ℕ)) (first : State) (lists : List (List Entry)) (calls : List Call) → IsUnderWay plan journal first lists
    → (stops : StopsWith plan first lists calls) → (begun now : Files) → AllLeave calls begun now → Left (plan_of plan) first lists stops.said begun now
left_so plan journal first lists calls way stops begun now left =
    let p = plan_of plan in
    let rest = said_first p first (start_writes p first.turn) lists calls stops.said stops.stops in
    left_of_calls p first lists calls stops.said rest.0 one_run fitting_lasts (on_way plan journal first lists way) rest.1 stops.stops begun now left
