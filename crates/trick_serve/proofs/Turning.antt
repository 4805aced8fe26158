-- What a run says, of a source of entries that is seen as its clients.
use Rattle.std.proofs.Common.{◌≡◌, ◌∙◌, ℕ, Bool, true, false, List, [], ◌++◌, Ok, Err, ap, refl, subst, sym}
use Rattle.std.specs.Arc.{arc_value}
use Rattle.std.specs.Prelude.{◌&&◌, nat_lt, Result}
use Rattle.trick_model.specs.Plan.{Plan}
use Rattle.trick_model.specs.Run.{after_turns, opened}
use Rattle.trick_model.specs.Session.{Message}
use Rattle.trick_model.specs.State.{State, World}
use Rattle.trick_model.specs.Turn.{is_frozen}
use Rattle.trick_model.specs.declared.entry.Entry.{Entry}
use Rattle.trick_outside.specs.declared.stop.Stop.{Stop}
use Rattle.trick_post_work.specs.Polls.{Poll}
use Rattle.trick_exec_meaning.specs.Answers.{IsSuccession, answers, no_more}
use Rattle.trick_exec_meaning.specs.Hosts.{Hosts, Place}
use Rattle.trick_exec_meaning.specs.Ran.{Handed, Ran, Stopped, last_answer}
use Rattle.trick_exec_meaning.specs.Rounds.{AreChosen}
use Rattle.trick_exec_meaning.specs.Turned.{Asks}
use Rattle.trick_exec_alone.specs.declared.summary.Summary.{Summary}
use Rattle.trick_serve_source.specs.Calls.{View, Went}
use Rattle.trick_serve_source.specs.Rolls.{ways_of}
use Rattle.trick_serve_source.specs.declared.served.Served.{Served}
use Rattle.trick_serve_seats.specs.declared.arrival.Comes.{Comes}
use Rattle.trick_serve_seats.specs.declared.departure.Departure.{Departure}
use Rattle.trick_serve_facts.proofs.Tales.{handed_serves}
use Rattle.trick_serve_facts.specs.Serves.{GiveNothing, IsServedRun}
use Rattle.trick_serve.specs.Ran.{HasRun}
use Rattle.trick_exec_sources.specs.Turns.{Answer}
use Rattle.trick_wire.specs.Ends.{AreEnds}
use Rattle.trick_wire.specs.declared.queue.Putter.{Putter}
use Rattle.trick_wire.specs.declared.queue.Taker.{Taker}

-- The last answer of a run gives no list.
nothing_last : (w : World) → GiveNothing (last_answer w)
nothing_last w = by (is_frozen w.state.mode && nat_lt w.state.tic w.state.limit)
  where
    by : (b : Bool) → (let l : List Answer = elim b [ true ↦ no_more w | false ↦ [] ] in GiveNothing l)
    by true = (refl, tt)
    by false = tt

-- What was given and handed over, until it came to its end or stopped.
pub run_went : {S U M Q : Type 0} (D : Type 0) (h : Hosts S U M Q) (p : Plan) (s : State) (old new : Place S U Q) (result : Result Summary Stop)
    → HasRun D h p s old new result → (given : List Answer) × (said : List Message) × h.turns.went old.turns given said new.turns
run_went D h p s old new (Ok ended) (lists, ran, last) = (_, _, ran.done.step)
run_went D h p s old new (Err e) (lists, stopped) = (_, _, stopped.step)

-- The clients came by the same queue, and of those that left it was told by the same one.
module _ {I O R : Type 0} (old new : Served I O R) (same : ways_of new ≡ ways_of old) where
  pub same_way : (tells : Putter (Comes I O)) → AreEnds tells old.coming → AreEnds tells new.coming
  same_way tells ends = ends ∙ sym (ap (λ ways. arc_value ways.0) same)

  pub same_back : (hears : Taker Departure) → AreEnds old.gone hears → AreEnds new.gone hears
  same_back hears ends = ap (λ ways. arc_value ways.1) same ∙ ends

module _ {S U M Q : Type 0} {h : Hosts S U M Q} {old new : Place S U Q} (view : U → View)
    (steps : (before now : U) (given : List Answer) (said : List Message) → h.turns.went before given said now → Went (view before) (view now) given said)
    (undecided : h.turns.decided old.turns ≡ false) where
  -- The turns of a run that came to its end were served, where there was memory all along, up to its last answer.
  pub was_served : (p : Plan) (s : State) (lists : List (List Entry)) → Ran h p s lists old new → (view old.turns).seats ≡ []
      → (view new.turns).broke ≡ false
      → (run : IsServedRun p s lists (view old.turns) (view new.turns)) × (run.last ≡ last_answer (after_turns p (opened s) lists))
  was_served p s lists ran none whole =
      let last = last_answer (after_turns p (opened s) lists) in
      let handed = ran.done.handed in (
        record {
          mid = view handed.0;
          last = last;
          turns = handed_serves h.turns view steps p (opened s) lists old.turns handed.0
              (subst (λ (b : Bool). Handed h.turns b p (opened s) lists old.turns handed.0) undecided handed.1);
          ends = steps handed.0 new.turns last [] handed.2;
          nothing = nothing_last (after_turns p (opened s) lists);
          none = none;
          whole = whole;
        },
        refl,
      )

  -- Its lists keep the rules of entries.
  pub ran_right : (p : Plan) (s : State) (lists : List (List Entry)) → Ran h p s lists old new → IsSuccession false lists
  ran_right p s lists ran = subst (λ (b : Bool). IsSuccession b lists) undecided ran.done.rules

  pub stopped_right : {T : Type 0} {result : Result T Stop} (p : Plan) (s : State) (lists : List (List Entry)) → Stopped h p s lists old new result
      → IsSuccession false lists
  stopped_right p s lists stopped = subst (λ (b : Bool). IsSuccession b lists) undecided stopped.rules

  -- Its publications were chosen.
  pub ran_chosen : (p : Plan) (s : State) (lists : List (List Entry)) → Ran h p s lists old new
      → (polls : List Poll) × (waits : List ℕ) × AreChosen p (opened s) lists polls waits
  ran_chosen p s lists ran =
      let asks = subst (λ (b : Bool). Asks b h.posts.asked (λ polls. (waits : List ℕ) × AreChosen p (opened s) lists polls waits) old.posts new.posts)
      undecided ran.done.asks in
      let chosen = asks.2 in
      (asks.0, chosen.0, chosen.1)

  -- What was handed over where it stopped.
  pub stopped_went : {T : Type 0} {result : Result T Stop} (p : Plan) (s : State) (lists : List (List Entry)) (stopped : Stopped h p s lists old new result)
      → (given : List Answer) × Went (view old.turns) (view new.turns) given stopped.sent
  stopped_went p s lists stopped =
      let given = answers (h.turns.decided old.turns) p (opened s) lists ++ stopped.last in
      (given, steps old.turns new.turns given stopped.sent stopped.step)
