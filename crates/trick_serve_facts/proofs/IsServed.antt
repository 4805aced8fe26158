-- What a run with clients came to.
use Rattle.std.proofs.Common.{◌≢◌, false, IsTrue, List, [], ◌∷◌, ◌++◌, Option, Some, None, ap, subst}
use Rattle.std.specs.List.{filter}
use Rattle.trick_model.specs.Journal.{is_of_session}
use Rattle.trick_model.specs.Plan.{Plan}
use Rattle.trick_model.specs.Run.{after_turns, opened}
use Rattle.trick_model.specs.State.{World}
use Rattle.trick_model.specs.Turn.{is_frozen, turn}
use Rattle.trick_model.specs.declared.entry.Entry.{Entry}
use Rattle.trick_model.specs.declared.mode.Mode.{Mode}
use Rattle.trick_exec_meaning.specs.Answers.{list_answer}
use Rattle.trick_serve_hearing.proofs.Placing.{side_past}
use Rattle.trick_serve_source.specs.Calls.{Answers, Breaks, Call, DoAll, Hands, IsAnswered, Looks, View, Went, answers_of}
use Rattle.trick_serve_hearing.specs.Sides.{Side}
use Rattle.trick_serve_facts.proofs.Clients.{others_absent}
use Rattle.trick_serve_facts.proofs.Joins.{joins_in_order}
use Rattle.trick_serve_facts.proofs.Outcomes.{clients_served}
use Rattle.trick_serve_facts.specs.IsServed.{FreezeHasEntries, RunsAreServed}
use Rattle.trick_serve_facts.specs.Serves.{Serves, no_turn, one_more}
use Rattle.trick_exec_sources.specs.Turns.{Answer}

-- ---- lists given in Freeze

-- A list that is given in Freeze is not empty.
abbrev IsFilled : Mode → Option (List Entry) → Type 0
IsFilled mode None = Unit {0}
IsFilled mode (Some list) = IsTrue (is_frozen mode) → list ≢ []

abbrev AreFilled : List Answer → Type 0
AreFilled [] = Unit {0}
AreFilled (answer ∷ answers) = IsFilled answer.mode answer.list × AreFilled answers

filled_one : (list : Option (List Entry)) (answer : Answer) (old new : View) → IsAnswered list answer old new → IsFilled answer.mode list
filled_one None answer old new did = tt
filled_one (Some list) answer old new did = did.0.frozen

filled_calls : (calls : List Call) (old new : View) → DoAll calls old new → AreFilled (answers_of calls)
filled_calls [] old new did = tt
filled_calls (Looks there ∷ calls) old new did = filled_calls calls did.0 new did.2
filled_calls (Answers answer ∷ calls) old new did =
    (filled_one answer.list answer old did.0 did.1, filled_calls calls did.0 new did.2)
filled_calls (Breaks there ∷ calls) old new did = filled_calls calls did.0 new did.2
filled_calls (Hands message ∷ calls) old new did = filled_calls calls did.0 new did.2

filled_went : (old new : View) (answers : List Answer) → Went old new answers [] → AreFilled answers
filled_went old new answers went = subst (λ (l : List Answer). AreFilled l) went.answers_are (filled_calls went.calls old new went.did)

freeze_more : (p : Plan) (w : World) (lists : List (List Entry)) (entries : List Entry) → FreezeHasEntries p w lists
    → (IsTrue (is_frozen (after_turns p w lists).state.mode) → filter is_of_session entries ≢ []) → FreezeHasEntries p w (lists ++ entries ∷ [])
freeze_more p w [] entries all one = (one, tt)
freeze_more p w (first ∷ lists) entries all one = (all.0, freeze_more p (turn p w first).world lists entries all.1 one)

freeze_filled : (p : Plan) (w : World) (lists : List (List Entry)) (old new : View) → Serves p w lists old new → FreezeHasEntries p w lists
freeze_filled p w all old new (no_turn v) = tt
freeze_filled p w all old new (one_more lists entries one before gave now early gives said) =
    freeze_more p w lists entries (freeze_filled p w lists one before early)
    (filled_went before gave (list_answer false (after_turns p w lists) entries) gives).0

-- ---- the law

pub runs_served : RunsAreServed
runs_served p s lists old new run right = record {
  joins = joins_in_order p s lists old new run right;
  clients = λ k queues tale seated says. clients_served p s lists old new k queues tale run seated says;
  others = λ k past. others_absent p s lists old new k run (ap (λ (t : Side). t.queues) (side_past new.seats k past));
  frozen = freeze_filled p (opened s) lists old run.mid run.turns;
}
