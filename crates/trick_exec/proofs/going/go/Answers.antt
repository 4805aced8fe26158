use Rattle.std.proofs.Common.{rules, ◌≡◌, ◌∙◌, List, [], Err, None, Some, ap, length, refl, subst, sym}
use Rattle.std.proofs.lemmas.Bool.{or_parts}
use Rattle.std.proofs.lemmas.List.{length-map}
use Rattle.std.proofs.lemmas.Result.{err_from_is_err_and}
use Rattle.std.specs.Prelude.{Option, Result, nat_le}
use Rattle.trick_exec.proofs.GoLemmas.{came_as, gave_as, gave_list, gave_nothing, none_known, step_as, under_more, under_stops}
use Rattle.trick_exec.proofs.GapLemmas.{equipped_later, gap_as, gap_known, under_as, under_gap}
use Rattle.trick_exec.proofs.IdleTurns.{idle_known, idle_turn}
use Rattle.trick_exec.proofs.going.go.Goals as goal
use Rattle.trick_exec_turn.specs.CameTo.{HasGiven}
use Rattle.trick_exec.specs.Ended.{AreTurns}
use Rattle.trick_exec_turn.specs.Worlds.{world_of}
use Rattle.trick_exec.specs.declared.ended.Ended.{Ended as EndedValue}
use Rattle.trick_model.specs.declared.world.World.{World as WorldValue}
use Rattle.trick_model.specs.Plan.{threads_beside}
use Rattle.trick_model.specs.PlanOf.{plan_of}
use Rattle.trick_model.specs.Run.{is_shut, opened}
use Rattle.trick_model.specs.State.{State, World, seen}
use Rattle.trick_model.specs.declared.entry.Entry.{Entry}
use Rattle.trick_model.specs.declared.thread.Thread.{Thread}
use Rattle.trick_outside.specs.declared.stop.Stop.TheVariants.{Memory}
use Rattle.trick_outside.specs.declared.stop.Stop.{Stop}
use Rattle.trick_exec_meaning.proofs.Ending.{ends_short, over_asked, over_unasked, stops_between}
use Rattle.trick_exec_meaning.proofs.Gaps.{AreQuiet, AreStill, GivesTurn, none_still, turn_still}
use Rattle.trick_exec_meaning.proofs.Going.{Gave, IsGoing, Laws, going_starts}
use Rattle.trick_exec_meaning.specs.Hosts.{Place, at, hosts}
use Rattle.trick_exec_meaning.specs.Rounds.{no_waits}
use Rattle.trick_exec_sources.specs.Gap.{Gap}
use Rattle.trick_exec_sources.specs.Turns.{Gives, Told}
use Rattle.trick_exec_sources.specs.declared.turns.Next.TheVariants as next

pub loop-turn-init : goal.loop-turn-init
loop-turn-init g c =
    let p = plan_of c.args.accepted.now.plan in
    let h = hosts g.F.Shelf g.T.Turns g.P.Posts in
    let start : State = seen g.M.Cells.numbers c.args.world.state in
    let one : Place g.row.F.Denot g.row.T.Denot g.row.P.Denot = at c.args.run.now.shelf.now c.args.run.now.turns.now c.args.run.now.workers.now.posts in
    let same : opened start ≡ world_of g.M.Cells.numbers c.args.world = λ i. record { state = start; sessions = sym c.requires.sessions i } in
    record {
      under = record {
        lists = [];
        waits = no_waits p;
        going = subst (λ (w : World). IsGoing h p start one one w (no_waits p) []) same
            (going_starts h p start one (g.met.F.Shelf.called_none c.args.run.now.shelf.now) (g.met.T.Turns.went_none c.args.run.now.turns.now) (g.met.P.Posts.asked_none c.args.run.now.workers.now.posts) c.requires.paid c.requires.unknown);
        same = λ none. c.requires.waits;
      };
      ready = c.requires.ready;
      same = (refl, refl, refl);
      waits = ap length c.requires.waits ∙ length-map (threads_beside p) (λ (thread : Thread). 0);
      known = none_known p c.args.world.sessions.items (g.T.Turns.sessions c.args.run.now.turns.now) c.requires.sessions c.requires.unknown;
      still = none_still c.args.world.sessions.items c.requires.sessions;
    }

pub returns-then-is_over-clause-turns : goal.returns-then-is_over-clause-turns
returns-then-is_over-clause-turns g c =
    let plan = c.args.accepted.now.plan in
    let p = plan_of plan in
    let h = hosts g.F.Shelf g.T.Turns g.P.Posts in
    let laws : Laws h = record { shelf = g.met.F.Shelf.called_join; turns = g.met.T.Turns.went_join; posts = g.met.P.Posts.asked_join; runs = c.runs_join.ensures } in
    let start : State = seen g.M.Cells.numbers c.args.world.state in
    let under = c.loop-turn.invariant.under in
    (under.lists, over_unasked h laws p start (g.met.T.Turns.went_none c.loop-turn.run.turns.now) under.going (sym c.is_over.ensures ∙ c.if-is_over.true))

pub turn-requires-clause-given : goal.turn-requires-clause-given
turn-requires-clause-given g c =
    let p = plan_of c.args.accepted.now.plan in
    let under = c.loop-turn.invariant.under in
    let w : World = world_of g.M.Cells.numbers c.loop-turn.world in
    let own : HasGiven p c.decides-decides.result w c.in-Entries.entries.items (g.T.Turns.sessions c.ask.new.source) = record {
      known = g.T.Turns.sessions c.loop-turn.run.turns.now;
      are = c.loop-turn.invariant.known;
      may = c.in-Entries.ensures.rules.0;
      after = c.in-Entries.ensures.rules.1;
      silent = λ none. c.in-Entries.ensures.rules.2 (under.going.decided ∙ sym c.decides-decides.ensures ∙ none);
    } in
    subst (λ (l : List Entry). HasGiven p c.decides-decides.result w l (g.T.Turns.sessions c.ask.new.source)) (sym c.deref-in-Entries.ensures.value) own

pub loop-turn-preserved : goal.loop-turn-preserved
loop-turn-preserved g c =
    let plan = c.args.accepted.now.plan in
    let p = plan_of plan in
    let h = hosts g.F.Shelf g.T.Turns g.P.Posts in
    let laws : Laws h = record { shelf = g.met.F.Shelf.called_join; turns = g.met.T.Turns.went_join; posts = g.met.P.Posts.asked_join; runs = c.runs_join.ensures } in
    let start : State = seen g.M.Cells.numbers c.args.world.state in
    let under = c.loop-turn.invariant.under in
    let w : World = world_of g.M.Cells.numbers c.loop-turn.world in
    let tests = or_parts (is_shut w.state.mode) (nat_le w.state.limit w.state.tic) (sym c.is_over.ensures ∙ c.if-is_over.false) in
    let gave : Gave g.T.Turns w c.deref-in-Entries.result.now c.loop-turn.run.turns.now c.ask.new.source =
    gave_as (sym c.deref-in-Entries.ensures.value)
    (gave_list g.T.Turns w c.deref.result.now c.in-Entries.entries c.loop-turn.run.turns.now c.ask.new.source c.deref.ensures.value
    c.in-Entries.ensures.step c.in-Entries.ensures.pays c.in-Entries.ensures.gives c.in-Entries.ensures.rules c.in-Entries.ensures.decides) in
    record {
      under = under_more h laws g.M.Cells.numbers p start c.in_ok-world-in-Entries.world under c.decides-decides.ensures tests.0 tests.1 gave
          c.in_ok-world-in-Entries.ensures.came_to;
      ready = c.in_ok-world-in-Entries.ensures.ready;
      same = Prim.search rules;
      waits = c.in_ok-world-in-Entries.ensures.waits;
      known = c.in_ok-world-in-Entries.ensures.known;
      still = turn_still p w c.in_ok-world-in-Entries.ensures.came_to.entries c.in_ok-world-in-Entries.world.sessions.items
          (ap (λ (v : World). v.sessions) c.in_ok-world-in-Entries.ensures.came_to.world);
    }

pub turn-requires-in-Nothing-clause-ready : goal.turn-requires-in-Nothing-clause-ready
turn-requires-in-Nothing-clause-ready g c =
    record { own = c.loop-turn.invariant.ready.own; posts = c.loop-turn.invariant.ready.posts; equipped = c.idles.ensures.equipped }

pub turn-requires-in-Nothing-clause-given : goal.turn-requires-in-Nothing-clause-given
turn-requires-in-Nothing-clause-given g c =
    let p = plan_of c.args.accepted.now.plan in
    let own : HasGiven p c.decides-decides.result (world_of g.M.Cells.numbers c.loop-turn.world) [] (g.T.Turns.sessions c.ask.new.source) = record {
      known = g.T.Turns.sessions c.loop-turn.run.turns.now;
      are = c.loop-turn.invariant.known;
      may = refl;
      after = c.in-Nothing.ensures.rules;
      silent = λ none. refl;
    } in
    subst (λ (v : WorldValue g.row.M.Denot). HasGiven p c.decides-decides.result (world_of g.M.Cells.numbers v) [] (g.T.Turns.sessions c.ask.new.source))
    (sym (c.if-idles.ensures.unchanged refl)) own

pub loop-turn-preserved-in-Nothing : goal.loop-turn-preserved-in-Nothing
loop-turn-preserved-in-Nothing g c =
    let plan = c.args.accepted.now.plan in
    let p = plan_of plan in
    let h = hosts g.F.Shelf g.T.Turns g.P.Posts in
    let laws : Laws h = record { shelf = g.met.F.Shelf.called_join; turns = g.met.T.Turns.went_join; posts = g.met.P.Posts.asked_join; runs = c.runs_join.ensures } in
    let start : State = seen g.M.Cells.numbers c.args.world.state in
    let under = c.loop-turn.invariant.under in
    let w : World = world_of g.M.Cells.numbers c.loop-turn.world in
    let tests = or_parts (is_shut w.state.mode) (nat_le w.state.limit w.state.tic) (sym c.is_over.ensures ∙ c.if-is_over.false) in
    let gave : Gave g.T.Turns w [] c.loop-turn.run.turns.now c.ask.new.source =
    gave_nothing g.T.Turns w c.deref.result.now c.loop-turn.run.turns.now c.ask.new.source c.deref.ensures.value
    c.in-Nothing.ensures.step c.in-Nothing.ensures.pays c.in-Nothing.ensures.gives c.in-Nothing.ensures.rules c.in-Nothing.ensures.decides in
    record {
      under = under_more h laws g.M.Cells.numbers p start c.in_ok-world-in-Nothing.world under c.decides-decides.ensures tests.0 tests.1 gave
          (came_as c.idles.new.world c.loop-turn.world (c.if-idles.ensures.unchanged refl) c.in_ok-world-in-Nothing.ensures.came_to);
      ready = c.in_ok-world-in-Nothing.ensures.ready;
      same = Prim.search rules;
      waits = c.in_ok-world-in-Nothing.ensures.waits;
      known = c.in_ok-world-in-Nothing.ensures.known;
      still = turn_still p (world_of g.M.Cells.numbers c.idles.new.world) c.in_ok-world-in-Nothing.ensures.came_to.entries
          c.in_ok-world-in-Nothing.world.sessions.items
          (ap (λ (v : World). v.sessions) c.in_ok-world-in-Nothing.ensures.came_to.world);
    }

pub loop-turn-preserved-then-idles : goal.loop-turn-preserved-then-idles
loop-turn-preserved-then-idles g c =
    let plan = c.args.accepted.now.plan in
    let p = plan_of plan in
    let h = hosts g.F.Shelf g.T.Turns g.P.Posts in
    let laws : Laws h = record { shelf = g.met.F.Shelf.called_join; turns = g.met.T.Turns.went_join; posts = g.met.P.Posts.asked_join; runs = c.runs_join.ensures } in
    let start : State = seen g.M.Cells.numbers c.args.world.state in
    let under = c.loop-turn.invariant.under in
    let w : World = world_of g.M.Cells.numbers c.loop-turn.world in
    let tests = or_parts (is_shut w.state.mode) (nat_le w.state.limit w.state.tic) (sym c.is_over.ensures ∙ c.if-is_over.false) in
    let gave : Gave g.T.Turns w [] c.loop-turn.run.turns.now c.ask.new.source =
    gave_nothing g.T.Turns w c.deref.result.now c.loop-turn.run.turns.now c.ask.new.source c.deref.ensures.value
    c.in-Nothing.ensures.step c.in-Nothing.ensures.pays c.in-Nothing.ensures.gives c.in-Nothing.ensures.rules c.in-Nothing.ensures.decides in
    let idle = c.if-idles.ensures in
    let host : Place g.row.F.Denot g.row.T.Denot g.row.P.Denot = at c.loop-turn.run.shelf.now c.ask.new.source c.loop-turn.run.workers.now.posts in
    record {
      under = under_more h laws g.M.Cells.numbers p start c.idles.new.world under c.decides-decides.ensures tests.0 tests.1 gave
          (idle_turn h g.M.Cells.numbers p c.decides-decides.result c.loop-turn.world c.idles.new.world c.loop-turn.run.waits.now.items host
          (g.met.F.Shelf.called_none host.shelf) (g.met.T.Turns.went_none host.turns) (g.met.P.Posts.asked_none host.posts)
          (idle.no_session refl) idle.sessions (idle.alone refl) c.loop-turn.invariant.waits (idle.state refl) (idle.writes refl));
      ready = record { own = c.loop-turn.invariant.ready.own; posts = c.loop-turn.invariant.ready.posts; equipped = c.idles.ensures.equipped };
      same = c.loop-turn.invariant.same;
      waits = c.loop-turn.invariant.waits;
      known = idle_known p (g.T.Turns.sessions c.loop-turn.run.turns.now) (g.T.Turns.sessions c.ask.new.source) c.loop-turn.world.sessions.items
          c.idles.new.world.sessions.items c.loop-turn.invariant.known c.in-Nothing.ensures.rules (ap (λ v. v.items) c.idles.ensures.sessions);
      still = subst AreStill (sym (ap (λ v. v.items) c.idles.ensures.sessions)) c.loop-turn.invariant.still;
    }

pub loop-turn-preserved-in-Gap : goal.loop-turn-preserved-in-Gap
loop-turn-preserved-in-Gap g c =
    let plan = c.args.accepted.now.plan in
    let p = plan_of plan in
    let h = hosts g.F.Shelf g.T.Turns g.P.Posts in
    let laws : Laws h = record { shelf = g.met.F.Shelf.called_join; turns = g.met.T.Turns.went_join; posts = g.met.P.Posts.asked_join; runs = c.runs_join.ensures } in
    let quiet : AreQuiet h = record { shelf = g.met.F.Shelf.called_none; turns = g.met.T.Turns.went_none; posts = g.met.P.Posts.asked_none } in
    let start : State = seen g.M.Cells.numbers c.args.world.state in
    let w : World = world_of g.M.Cells.numbers c.loop-turn.world in
    let tests = or_parts (is_shut w.state.mode) (nat_le w.state.limit w.state.tic) (sym c.is_over.ensures ∙ c.if-is_over.false) in
    let now = c.ask.new.source in
    let given : Gap (GivesTurn g.T.Turns w.sessions) w.state c.in-Gap.turns c.loop-turn.run.turns.now now =
    gap_as g.T.Turns c.deref.result.now w.sessions w.state c.in-Gap.turns c.loop-turn.run.turns.now now c.deref.ensures.value c.in-Gap.ensures.gap in
    let counted = sym c.later-world.ensures in
    record {
      under = under_as g.M.Cells.numbers c.loop-turn.world c.in-Gap.turns c.later-world.result counted
          (under_gap h laws quiet p start c.in-Gap.turns now c.loop-turn.invariant.under tests.1 c.loop-turn.invariant.still given);
      ready = record {
        own = c.loop-turn.invariant.ready.own;
        posts = c.loop-turn.invariant.ready.posts;
        equipped = equipped_later plan _ _ w.state _ c.in-Gap.turns _ counted c.loop-turn.invariant.ready.equipped;
      };
      same = c.loop-turn.invariant.same;
      waits = c.loop-turn.invariant.waits;
      known = gap_known p g.T.Turns w.sessions w.state c.in-Gap.turns c.loop-turn.run.turns.now now w.sessions given c.loop-turn.invariant.known;
      still = c.loop-turn.invariant.still;
    }

pub returns-in_err-world-in-Entries-clause-turns : goal.returns-in_err-world-in-Entries-clause-turns
returns-in_err-world-in-Entries-clause-turns g c =
    let plan = c.args.accepted.now.plan in
    let p = plan_of plan in
    let h = hosts g.F.Shelf g.T.Turns g.P.Posts in
    let laws : Laws h = record { shelf = g.met.F.Shelf.called_join; turns = g.met.T.Turns.went_join; posts = g.met.P.Posts.asked_join; runs = c.runs_join.ensures } in
    let start : State = seen g.M.Cells.numbers c.args.world.state in
    let under = c.loop-turn.invariant.under in
    let w : World = world_of g.M.Cells.numbers c.loop-turn.world in
    let tests = or_parts (is_shut w.state.mode) (nat_le w.state.limit w.state.tic) (sym c.is_over.ensures ∙ c.if-is_over.false) in
    let gave : Gave g.T.Turns w c.deref-in-Entries.result.now c.loop-turn.run.turns.now c.ask.new.source =
    gave_as (sym c.deref-in-Entries.ensures.value)
    (gave_list g.T.Turns w c.deref.result.now c.in-Entries.entries c.loop-turn.run.turns.now c.ask.new.source c.deref.ensures.value
    c.in-Entries.ensures.step c.in-Entries.ensures.pays c.in-Entries.ensures.gives c.in-Entries.ensures.rules c.in-Entries.ensures.decides) in
    let error = err_from_is_err_and c.from_residual.result c.from_residual.ensures.1 in
    let result : Result (EndedValue g.row.M.Denot) Stop = Err error.0 in
    let old : Place g.row.F.Denot g.row.T.Denot g.row.P.Denot = at c.args.run.now.shelf.now c.args.run.now.turns.now c.args.run.now.workers.now.posts in
    let new : Place g.row.F.Denot g.row.T.Denot g.row.P.Denot = at c.turn.new.self.shelf.now c.turn.new.self.turns.now c.turn.new.self.workers.now.posts in
    subst (λ (r : Result (EndedValue g.row.M.Denot) Stop). AreTurns h g.M.Cells.numbers p start old new r) (sym error.1)
    (under_stops h laws g.M.Cells.numbers p start result _ error.0 under c.decides-decides.ensures tests.0 tests.1 gave
    c.in_err-world-in-Entries.ensures.came_to refl refl error.2)

pub returns-in_err-world-in-Nothing-clause-turns : goal.returns-in_err-world-in-Nothing-clause-turns
returns-in_err-world-in-Nothing-clause-turns g c =
    let plan = c.args.accepted.now.plan in
    let p = plan_of plan in
    let h = hosts g.F.Shelf g.T.Turns g.P.Posts in
    let laws : Laws h = record { shelf = g.met.F.Shelf.called_join; turns = g.met.T.Turns.went_join; posts = g.met.P.Posts.asked_join; runs = c.runs_join.ensures } in
    let start : State = seen g.M.Cells.numbers c.args.world.state in
    let under = c.loop-turn.invariant.under in
    let w : World = world_of g.M.Cells.numbers c.loop-turn.world in
    let tests = or_parts (is_shut w.state.mode) (nat_le w.state.limit w.state.tic) (sym c.is_over.ensures ∙ c.if-is_over.false) in
    let gave : Gave g.T.Turns w [] c.loop-turn.run.turns.now c.ask.new.source =
    gave_nothing g.T.Turns w c.deref.result.now c.loop-turn.run.turns.now c.ask.new.source c.deref.ensures.value
    c.in-Nothing.ensures.step c.in-Nothing.ensures.pays c.in-Nothing.ensures.gives c.in-Nothing.ensures.rules c.in-Nothing.ensures.decides in
    let error = err_from_is_err_and c.from_residual-in_err-world-in-Nothing.result c.from_residual-in_err-world-in-Nothing.ensures.1 in
    let result : Result (EndedValue g.row.M.Denot) Stop = Err error.0 in
    let old : Place g.row.F.Denot g.row.T.Denot g.row.P.Denot = at c.args.run.now.shelf.now c.args.run.now.turns.now c.args.run.now.workers.now.posts in
    let new : Place g.row.F.Denot g.row.T.Denot g.row.P.Denot = at c.turn-in-Nothing.new.self.shelf.now c.turn-in-Nothing.new.self.turns.now c.turn-in-Nothing.new.self.workers.now.posts in
    subst (λ (r : Result (EndedValue g.row.M.Denot) Stop). AreTurns h g.M.Cells.numbers p start old new r) (sym error.1)
    (under_stops h laws g.M.Cells.numbers p start result _ error.0 under c.decides-decides.ensures tests.0 tests.1 gave
    (came_as c.idles.new.world c.loop-turn.world (c.if-idles.ensures.unchanged refl) c.in_err-world-in-Nothing.ensures.came_to) refl refl error.2)

pub returns-in-NoMore-clause-turns : goal.returns-in-NoMore-clause-turns
returns-in-NoMore-clause-turns g c =
    let plan = c.args.accepted.now.plan in
    let p = plan_of plan in
    let h = hosts g.F.Shelf g.T.Turns g.P.Posts in
    let laws : Laws h = record { shelf = g.met.F.Shelf.called_join; turns = g.met.T.Turns.went_join; posts = g.met.P.Posts.asked_join; runs = c.runs_join.ensures } in
    let start : State = seen g.M.Cells.numbers c.args.world.state in
    let under = c.loop-turn.invariant.under in
    let w : World = world_of g.M.Cells.numbers c.loop-turn.world in
    let tests = or_parts (is_shut w.state.mode) (nat_le w.state.limit w.state.tic) (sym c.is_over.ensures ∙ c.if-is_over.false) in (
      under.lists,
      over_asked h laws p start c.ask.new.source under.going tests.1 c.in-NoMore.ensures.pays.0 c.in-NoMore.ensures.pays.1
          (step_as g.T.Turns w c.deref.result.now None c.loop-turn.run.turns.now c.ask.new.source c.deref.ensures.value c.in-NoMore.ensures.step)
          (λ none. subst (λ (x : Option Told). Gives w.state x next.NoMore (g.T.Turns.journal c.ask.new.source)) none c.in-NoMore.ensures.gives)
          (λ told is. subst (λ (x : Option Told). Gives w.state x next.NoMore (g.T.Turns.journal c.ask.new.source)) is c.in-NoMore.ensures.gives),
    )

pub returns-in-Length-clause-turns : goal.returns-in-Length-clause-turns
returns-in-Length-clause-turns g c =
    let plan = c.args.accepted.now.plan in
    let p = plan_of plan in
    let h = hosts g.F.Shelf g.T.Turns g.P.Posts in
    let laws : Laws h = record { shelf = g.met.F.Shelf.called_join; turns = g.met.T.Turns.went_join; posts = g.met.P.Posts.asked_join; runs = c.runs_join.ensures } in
    let start : State = seen g.M.Cells.numbers c.args.world.state in
    let under = c.loop-turn.invariant.under in
    let w : World = world_of g.M.Cells.numbers c.loop-turn.world in
    let tests = or_parts (is_shut w.state.mode) (nat_le w.state.limit w.state.tic) (sym c.is_over.ensures ∙ c.if-is_over.false) in
    let told_of = λ (o : Option Told) (is : g.T.Turns.journal c.loop-turn.run.turns.now ≡ o).
    subst (λ (x : Option Told). Gives w.state x (next.Length c.in-Length.kept c.in-Length.given) (g.T.Turns.journal c.ask.new.source)) is c.in-Length.ensures.gives in (
      under.lists,
      w,
      ends_short h laws p start c.ask.new.source c.in-Length.kept c.in-Length.given under.going tests.0 tests.1 c.in-Length.ensures.step
          (λ none. told_of None none) (λ told is. told_of (Some told) is),
    )

pub returns-in-OutOfMemory-clause-turns : goal.returns-in-OutOfMemory-clause-turns
returns-in-OutOfMemory-clause-turns g c =
    let plan = c.args.accepted.now.plan in
    let p = plan_of plan in
    let h = hosts g.F.Shelf g.T.Turns g.P.Posts in
    let laws : Laws h = record { shelf = g.met.F.Shelf.called_join; turns = g.met.T.Turns.went_join; posts = g.met.P.Posts.asked_join; runs = c.runs_join.ensures } in
    let start : State = seen g.M.Cells.numbers c.args.world.state in
    let under = c.loop-turn.invariant.under in
    let result : Result (EndedValue g.row.M.Denot) Stop = Err Memory in
    (under.lists, stops_between h laws p start result c.ask.new.source under.going c.in-OutOfMemory.ensures.step (λ ok. cc) (λ fault. cc))

pub returns-clause-turns : goal.returns-clause-turns
returns-clause-turns g c =
    let plan = c.args.accepted.now.plan in
    let p = plan_of plan in
    let h = hosts g.F.Shelf g.T.Turns g.P.Posts in
    let laws : Laws h = record { shelf = g.met.F.Shelf.called_join; turns = g.met.T.Turns.went_join; posts = g.met.P.Posts.asked_join; runs = c.runs_join.ensures } in
    let start : State = seen g.M.Cells.numbers c.args.world.state in
    let under = c.loop-turn.invariant.under in
    let result : Result (EndedValue g.row.M.Denot) Stop = Err Memory in
    (under.lists, stops_between h laws p start result c.loop-turn.run.turns.now under.going (g.met.T.Turns.went_none c.loop-turn.run.turns.now) (λ ok. cc) (λ fault. cc))
