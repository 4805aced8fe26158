-- The headline of a run that came to its end.
use Rattle.std.proofs.Common.{◌≡◌, ◌≢◌, ◌∙◌, ◌≤◌, ℕ, List, [], Option, Some, None, Ok, Err, inl, inr, ap, arith, length, refl, subst, sym}
use Rattle.std.specs.Prelude.{◌⊎◌, Result}
use Rattle.trick_serve_headline.specs.Alone.{RunsOfNobodyAreAlone}
use Rattle.trick_serve_headline.specs.Clients.{ServesClients}
use Rattle.trick_serve_headline.specs.Headline.{Headline, RunsKeepHeadline}
use Rattle.trick_model_sessions.specs.Silence.{newcomers}
use Rattle.trick_model.specs.Laws.{PlansAreSound, StartsValid}
use Rattle.trick_model.specs.PlanOf.{plan_of}
use Rattle.trick_model.specs.Run.{final}
use Rattle.trick_model.specs.State.{State}
use Rattle.trick_model.specs.Time.{last_turn}
use Rattle.trick_model.specs.declared.entry.Entry.{Entry}
use Rattle.trick_model.specs.declared.plan.Plan.{Plan}
use Rattle.trick_outside.proofs.DoesLemmas.{Joins}
use Rattle.trick_outside.specs.Visits.{clients}
use Rattle.trick_outside.specs.declared.sink.Sink as sink
use Rattle.trick_outside.specs.declared.stop.Stop.TheVariants as stop
use Rattle.trick_outside.specs.declared.stop.Stop.{Stop}
use Rattle.trick_exec_alone.specs.Serial.{summary_of}
use Rattle.trick_exec_alone.specs.declared.summary.Summary.{Summary}
use Rattle.trick_serve_seats.specs.Taking.{Hosts}
use Rattle.trick_serve_facts.specs.Joins.{numbers_from}
use Rattle.trick_serve_facts.specs.Serves.{all_entries}
use Rattle.trick_serve.specs.Served.{HasServedRun, IsWholeServed}
use Rattle.trick_serve.specs.Serving.{Moment, Outside, moment}
use Rattle.trick_top_alone.proofs.PrintLemmas.{decided, given as shown}
use Rattle.trick_top_alone.specs.First.{IsFirst}
use Rattle.trick_top_alone.specs.Printed.{Prints}
use Rattle.trick_top_alone.specs.Status.{TookLine}
use Rattle.trick_top_alone.specs.Verdict.{Served, Verdict, line_of, status_of}
use Rattle.trick_top.proofs.RowLemmas.{Ran, found_same, row_cases}
use Rattle.trick_top.specs.Answers.{AnswersRun}
use Rattle.trick_top.specs.Headline.{Begins, KeepsHeadline, TellsServed}
use Rattle.trick_top.specs.Rows.{has_risen, served_verdict}
use Rattle.trick_exec_sources.specs.Joins.{joins_of}

-- the first state's turn is one that is counted
first_counted : StartsValid → PlansAreSound → (plan : Plan) (from : Option (List ℕ)) (first : State) → IsFirst plan from first → first.turn ≤ last_turn
first_counted valid sound plan None first is = subst (λ (s : State). s.turn ≤ last_turn) (sym is) (valid.start (plan_of plan) (sound plan)).turn
first_counted valid sound plan (Some text) first loaded = loaded.is.valid.turn

-- nobody joined where the door gave no client
nobody : {D I O S : Type 0} (h : Hosts D I O S) (plan : Plan) (first : State) (lists : List (List Entry)) (door now : D) (spawner after : S)
    → (all : ServesClients h (plan_of plan) first lists door now spawner after) → clients all.visits.asks ≡ [] → newcomers (all_entries lists) ≡ []
nobody h plan first lists door now spawner after all none =
    let few : all.joined ≡ 0 = omega (arith, all.given, all.visits.each ∙ ap length none) in
    all.joins ∙ ap (numbers_from 1) few

module _ {F D I O S : Type 0} {o : Outside F D I O S} {words : List (List ℕ)} {old new : Moment F D S} where
  -- from the shelf before the files were read
  headline_from : (plan : Plan) (first : State) (mid : F) → Begins o words plan first old.shelf mid
      → Headline o.shelf o.clients plan first mid new.shelf old.door new.door old.spawner new.spawner
      → Headline o.shelf o.clients plan first old.shelf new.shelf old.door new.door old.spawner new.spawner
  headline_from plan first mid begins line = record {
    text = line.text;
    journal = line.journal;
    is = line.is;
    fits = line.fits;
    files = λ files told. line.files files (found_same {shelf = o.shelf} begins.found files told);
    remainder = line.remainder;
    clients = line.clients;
  }

module _ {F D S K : Type 0} {failures : D → ℕ} {sink : sink.Ghosts K} {old new : Moment F D S} {before now : K} {status : ℕ} where
  -- what is told of a run that came to its end
  tells_end : (plan : Plan) (first : State) (lists : List (List Entry)) (ended : Summary) (sessions : ℕ) (verdict : Verdict) (due : ℕ)
      → Prints sink before now verdict status → verdict ≡ Served ended sessions (has_risen (failures old.door) (failures new.door))
      → ended ≡ summary_of (final (plan_of plan) first lists) → sessions ≡ joins_of lists → status ≡ due → due ≢ 6 → due ≢ 8
      → TellsServed failures sink plan first lists old new before now status
  tells_end plan first lists ended sessions verdict due prints told is joined due_is six eight =
      let both = decided (shown prints) due due_is six eight in
      let all : verdict ≡ Served (summary_of (final (plan_of plan) first lists)) (joins_of lists) (has_risen (failures old.door) (failures new.door)) =
      told ∙ ap (λ (e : Summary). Served e sessions (has_risen (failures old.door) (failures new.door))) is
      ∙ ap (λ (n : ℕ). Served (summary_of (final (plan_of plan) first lists)) n (has_risen (failures old.door) (failures new.door))) joined in
      record {
        status_is = due_is ∙ sym both.0 ∙ ap status_of all;
        line = subst (λ (v : Verdict). TookLine (sink.holds before) (sink.holds now) (line_of v)) all both.1;
      }

module _ {F D I O S K : Type 0} {o : Outside F D I O S} {failures : D → ℕ} {sink : sink.Ghosts K} {words : List (List ℕ)} {old new : Moment F D S}
    {before now : K} {status : ℕ} where
  module _ (law : RunsKeepHeadline o.shelf o.clients) (lone : RunsOfNobodyAreAlone) (valid : StartsValid) (sound : PlansAreSound) where
    kept : (plan : Plan) (first : State) (mid : F) (lists : List (List Entry)) → Begins o words plan first old.shelf mid
        → IsWholeServed o (plan_of plan) first lists (moment mid old.door old.spawner) new
        → TellsServed failures sink plan first lists old new before now status → KeepsHeadline o failures sink words old new before now status
    kept plan first mid lists begins run tells = record {
      plan = plan;
      first = first;
      lists = lists;
      ran = record { mid = mid; begins = begins; served = run.whole };
      tells = tells;
      headline = λ less.
          headline_from plan first mid begins
          (law plan first lists mid new.shelf old.door new.door old.spawner new.spawner begins.ready.accepted
          (first_counted valid sound plan begins.given.from first begins.starts) less run.whole);
      alone = λ none quiet.
          let whole = run.whole in
          lone (plan_of plan) first lists whole.chosen.0 whole.chosen.1 whole.fits whole.rules whole.chosen.2
          (nobody o.clients plan first lists old.door new.door old.spawner new.spawner whole.clients none) quiet;
    }

    ran_keeps : Ran o failures sink words old new before now status → (due : ℕ) → (due ≡ 0) ⊎ (due ≡ 4) → status ≡ due → KeepsHeadline o failures sink words old new before now status
    ran_keeps ran due ends is = by ran.served.ended ran.served.sessions ran.served.run ran.served.told
      where
        six : due ≢ 6
        six e = elim ends [ inl zero ↦ omega (arith, sym zero ∙ e) | inr four ↦ omega (arith, sym four ∙ e) ]

        eight : due ≢ 8
        eight e = elim ends [ inl zero ↦ omega (arith, sym zero ∙ e) | inr four ↦ omega (arith, sym four ∙ e) ]

        five : due ≢ 5
        five e = elim ends [ inl zero ↦ omega (arith, sym zero ∙ e) | inr four ↦ omega (arith, sym four ∙ e) ]

        by : (ended : Result Summary Stop) (sessions : ℕ)
            → HasServedRun o (plan_of ran.plan) ran.first (moment ran.mid old.door old.spawner) new sessions ended
            → ran.verdict ≡ served_verdict ended sessions (has_risen (failures old.door) (failures new.door))
            → KeepsHeadline o failures sink words old new before now status
        by (Ok ended) sessions (lists, run, same, joined) told =
            kept ran.plan ran.first ran.mid lists ran.begins run
            (tells_end ran.plan ran.first lists ended sessions ran.verdict due ran.prints told same joined is six eight)
        by (Err stop.Shelf) sessions (lists, run) told =
            absurd (five (sym (decided (shown ran.prints) due is six eight).0 ∙ ap status_of told))
        by (Err stop.Memory) sessions (lists, run) told =
            absurd (six (sym (decided (shown ran.prints) due is six eight).0 ∙ ap status_of told))

    pub keeps : ((s : F) → o.shelf.called s [] s) → Joins o.shelf → AnswersRun o failures sink words old new before now status → (status ≡ 0) ⊎ (status ≡ 4)
        → KeepsHeadline o failures sink words old new before now status
    keeps none join row ends = elim (row_cases o failures sink words old new before now status none join row) [
      | inl early ↦ absurd (early.no_end ends)
      | inr ran ↦ elim ends [ inl zero ↦ ran_keeps ran 0 (inl refl) zero | inr four ↦ ran_keeps ran 4 (inr refl) four ]
    ]
