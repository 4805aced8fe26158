use Rattle.std.proofs.Common.{◌≡◌, ◌∙◌, ◌++◌, ℕ, List, Err, Ok, ap, arith, drop, length, refl, subst, sym, take}
use Rattle.std.proofs.lemmas.Result.{IfOk-weaker, err_from_is_err_and}
use Rattle.std.specs.Prelude.{Result, cond}
use Rattle.trick_base.proofs.Results.{not_ok}
use Rattle.trick_exec_posts.proofs.Seats.{stations_many}
use Rattle.trick_exec_posts.specs.Flight.{GoesWith}
use Rattle.trick_exec_frame.proofs.ChoiceLemmas.{goes_as_is}
use Rattle.trick_exec_turn.proofs.TurnLemmas.{apart_of, asks_of, came_late, came_short, came_so, heard_goes, line_entries, line_known, line_reached, line_replies, line_sessions, made, worlds_so, written_back}
use Rattle.trick_exec_turn.proofs.lent.Run.turn.Goals as goal
use Rattle.trick_exec_turn.specs.CameTo.{HasGiven}
use Rattle.trick_exec_turn.specs.Known.{AreKnown}
use Rattle.trick_exec_turn.specs.Worlds.{world_of}
use Rattle.trick_model.specs.declared.world.World.{World as WorldValue}
use Rattle.trick_exec_entries.specs.Hearing.{hearing_of, said_of}
use Rattle.trick_model.specs.Files.{note}
use Rattle.trick_model.specs.Plan.{threads_beside}
use Rattle.trick_model.specs.PlanOf.{plan_of}
use Rattle.trick_model.specs.Session.{Message, samples, staying}
use Rattle.trick_model.specs.State.{State, World, seen}
use Rattle.trick_model.specs.Turn.{Hearing, begun, heard, replies, turn}
use Rattle.trick_model.specs.declared.entry.Entry.{Entry}
use Rattle.trick_model.specs.declared.plan.Plan.{Plan as PlanValue}
use Rattle.trick_outside.proofs.DoesLemmas.{does_as, does_fail}
use Rattle.trick_outside.specs.Does.{Does}
use Rattle.trick_outside.specs.declared.stop.Stop.TheVariants.{Memory}
use Rattle.trick_outside.specs.declared.stop.Stop.{Stop}
use Rattle.trick_exec_meaning.proofs.Going.{Laws}
use Rattle.trick_exec_meaning.proofs.PartLemmas.{IsMade}
use Rattle.trick_exec_meaning.proofs.SayLemmas.{says_as}
use Rattle.trick_exec_meaning.proofs.Times.{heard_time}
use Rattle.trick_exec_meaning.proofs.TurnedLemmas.{turned, turned_second}
use Rattle.trick_exec_meaning.specs.Hosts.{hosts}
use Rattle.trick_exec_meaning.specs.Parts.{AreApart, counting, state_after, writes_after}
use Rattle.trick_exec_meaning.specs.Rounds.{waited}
use Rattle.trick_exec_tic.specs.Steps.{steps_of}

pub hear_lines-requires-clause-entries : goal.hear_lines-requires-clause-entries
hear_lines-requires-clause-entries g c =
    let plan = c.args.accepted.now.plan in
    let p = plan_of plan in
    let w : World = world_of g.M.Cells.numbers c.args.world in
    let list = c.args.given.entries.now in
    let lines = c.split_at.result.0.now in
    let tail = c.split_at.result.1.now in
    let now = g.T.Turns.sessions c.args.self.now.turns.now in
    let has : HasGiven p c.args.given.decides w list now = c.requires.given in
    let apart : AreApart list lines tail = apart_of list (take c.count_lines.result list) (drop c.count_lines.result list) lines tail
    c.split_at.ensures.front c.split_at.ensures.back (c.count_lines.ensures.apart _ has.may) in
    line_entries p c.args.given.decides w list lines tail now has apart

pub hear_lines-requires-clause-sessions : goal.hear_lines-requires-clause-sessions
hear_lines-requires-clause-sessions g c =
    let plan = c.args.accepted.now.plan in
    let p = plan_of plan in
    let w : World = world_of g.M.Cells.numbers c.args.world in
    let list = c.args.given.entries.now in
    let lines = c.split_at.result.0.now in
    let tail = c.split_at.result.1.now in
    let now = g.T.Turns.sessions c.args.self.now.turns.now in
    let has : HasGiven p c.args.given.decides w list now = c.requires.given in
    let apart : AreApart list lines tail = apart_of list (take c.count_lines.result list) (drop c.count_lines.result list) lines tail
    c.split_at.ensures.front c.split_at.ensures.back (c.count_lines.ensures.apart _ has.may) in
    line_sessions p c.args.given.decides w list lines tail now has apart

pub returns-in_err-replies-clause-came_to : goal.returns-in_err-replies-clause-came_to
returns-in_err-replies-clause-came_to g c =
    let plan = c.args.accepted.now.plan in
    let p = plan_of plan in
    let w : World = world_of g.M.Cells.numbers c.args.world in
    let list = c.args.given.entries.now in
    let lines = c.split_at.result.0.now in
    let tail = c.split_at.result.1.now in
    let now = g.T.Turns.sessions c.args.self.now.turns.now in
    let has : HasGiven p c.args.given.decides w list now = c.requires.given in
    let apart : AreApart list lines tail = apart_of list (take c.count_lines.result list) (drop c.count_lines.result list) lines tail
    c.split_at.ensures.front c.split_at.ensures.back (c.count_lines.ensures.apart _ has.may) in
    let h = hosts g.F.Shelf g.T.Turns g.P.Posts in
    let laws : Laws h = record { shelf = g.met.F.Shelf.called_join; turns = g.met.T.Turns.went_join; posts = g.met.P.Posts.asked_join; runs = c.runs_join.ensures } in
    let error = err_from_is_err_and c.from_residual.result c.from_residual.ensures.1 in
    came_short p c.args.given.decides w list lines tail now has apart h laws (heard p lines (begun w)) c.from_residual.result error.0 refl
    (g.met.T.Turns.went_none c.args.self.now.turns.now) error.1 (does_fail c.from_residual.result _ _ c.in_err-replies.ensures.does refl error.1 error.2)

pub choose_publications-requires-clause-goes : goal.choose_publications-requires-clause-goes
choose_publications-requires-clause-goes g c =
    let plan = c.args.accepted.now.plan in
    let w : World = world_of g.M.Cells.numbers c.args.world in
    let s : State = seen g.M.Cells.numbers c.hear_lines.new.hearing.current.state in
    let in_flight = g.P.Posts.in_flight c.args.self.now.workers.now.posts in
    let scalars = g.M.Cells.scalars c.hear_lines.new.hearing.current.state.memory in
    subst (λ (x : PlanValue). GoesWith x in_flight s.tic s scalars) (sym c.requires.ready.posts)
    (heard_goes plan in_flight w c.split_at.result.0.now s (g.M.Cells.scalars c.args.world.state.memory) scalars (c.plans_are_sound.ensures plan)
    (ap (λ (h : Hearing). h.asking.state) c.in_ok-replies.ensures.heard) c.in_ok-replies.ensures.memory c.requires.ready.equipped.under_way.goes)

pub returns-in_default-clause-came_to : goal.returns-in_default-clause-came_to
returns-in_default-clause-came_to g c =
    let plan = c.args.accepted.now.plan in
    let p = plan_of plan in
    let w : World = world_of g.M.Cells.numbers c.args.world in
    let list = c.args.given.entries.now in
    let lines = c.split_at.result.0.now in
    let tail = c.split_at.result.1.now in
    let now = g.T.Turns.sessions c.args.self.now.turns.now in
    let has : HasGiven p c.args.given.decides w list now = c.requires.given in
    let apart : AreApart list lines tail = apart_of list (take c.count_lines.result list) (drop c.count_lines.result list) lines tail
    c.split_at.ensures.front c.split_at.ensures.back (c.count_lines.ensures.apart _ has.may) in
    let h = hosts g.F.Shelf g.T.Turns g.P.Posts in
    let laws : Laws h = record { shelf = g.met.F.Shelf.called_join; turns = g.met.T.Turns.went_join; posts = g.met.P.Posts.asked_join; runs = c.runs_join.ensures } in
    let hearing : Hearing = hearing_of g.M.Cells.numbers c.hear_lines.new.hearing in
    let heard_is : hearing ≡ heard p lines (begun w) = c.in_ok-replies.ensures.heard in
    let result : Result (WorldValue g.row.M.Denot) Stop = Err Memory in
    came_short p c.args.given.decides w list lines tail now has apart h laws hearing result Memory heard_is
    (g.met.T.Turns.went_none c.args.self.now.turns.now) refl (does_as result c.in_ok-replies.ensures.does (λ ok. cc) (λ fault. cc) (λ fault. cc))

pub returns-in_err-note_publications-clause-came_to : goal.returns-in_err-note_publications-clause-came_to
returns-in_err-note_publications-clause-came_to g c =
    let plan = c.args.accepted.now.plan in
    let p = plan_of plan in
    let w : World = world_of g.M.Cells.numbers c.args.world in
    let list = c.args.given.entries.now in
    let lines = c.split_at.result.0.now in
    let tail = c.split_at.result.1.now in
    let now = g.T.Turns.sessions c.args.self.now.turns.now in
    let has : HasGiven p c.args.given.decides w list now = c.requires.given in
    let apart : AreApart list lines tail = apart_of list (take c.count_lines.result list) (drop c.count_lines.result list) lines tail
    c.split_at.ensures.front c.split_at.ensures.back (c.count_lines.ensures.apart _ has.may) in
    let h = hosts g.F.Shelf g.T.Turns g.P.Posts in
    let laws : Laws h = record { shelf = g.met.F.Shelf.called_join; turns = g.met.T.Turns.went_join; posts = g.met.P.Posts.asked_join; runs = c.runs_join.ensures } in
    let hearing : Hearing = hearing_of g.M.Cells.numbers c.hear_lines.new.hearing in
    let heard_is : hearing ≡ heard p lines (begun w) = c.in_ok-replies.ensures.heard in
    let chosen = c.in-Ok.chosen.items in
    let pubs = cond c.args.given.decides tail chosen in
    let published : c.decided-publications.result.now ≡ pubs =
    c.decided-publications.ensures ∙ ap (λ (es : List Entry). cond c.args.given.decides tail es) c.deref.ensures.value in
    let built : IsMade p w (lines ++ pubs) lines pubs hearing = made p c.args.given.decides w list lines tail now has apart chosen hearing c.in-Ok.ensures.silent heard_is in
    let error = err_from_is_err_and c.from_residual-in_err-note_publications.result c.from_residual-in_err-note_publications.ensures.1 in
    let first : Result (Unit {0}) Stop = Err c.in_err-note_publications.field-0.0 in
    let counted : Does g.F.Shelf c.hear_lines.new.shelf c.note_publications.new.shelf first (steps_of (note w.state.turn (counting p hearing.asking.state pubs))) =
    subst (λ (es : List Entry). Does g.F.Shelf c.hear_lines.new.shelf c.note_publications.new.shelf first (steps_of (note w.state.turn (counting p hearing.asking.state es)))) published
    (c.in_err-note_publications.ensures plan c.in_ok-replies.ensures.course.ends.stations) in
    let waits = c.args.self.now.waits.now.items in
    let asks = asks_of g.P.Posts c.args.given.decides plan hearing.asking.state _ waits chosen c.args.self.now.workers.now.posts c.choose_publications.new.posts
    c.requires.ready.posts c.as_mut_slice.ensures.value c.in-Ok.ensures.asks in
    came_late p c.args.given.decides w list lines tail now has apart h chosen c.from_residual-in_err-note_publications.result error.0 hearing g.met.P.Posts.asked_join c.in-Ok.ensures.silent heard_is
    (turned_second h laws p w (lines ++ pubs) lines pubs hearing built c.from_residual-in_err-note_publications.result _ _
    (g.met.T.Turns.went_none c.args.self.now.turns.now) (not_ok c.from_residual-in_err-note_publications.result error.0 error.1) c.in_ok-replies.ensures.does refl
    counted refl error.1 error.2) error.1 asks (g.met.P.Posts.asked_none c.choose_publications.new.posts)

pub finish-requires-clause-ready : goal.finish-requires-clause-ready
finish-requires-clause-ready g c =
    let s : State = seen g.M.Cells.numbers c.hear_lines.new.hearing.current.state in
    let plan = c.args.accepted.now.plan in
    let w : World = world_of g.M.Cells.numbers c.args.world in
    let old = g.P.Posts.in_flight c.args.self.now.workers.now.posts in
    let scalars = g.M.Cells.scalars c.hear_lines.new.hearing.current.state.memory in
    let heard_of : GoesWith plan old s.tic s scalars =
    heard_goes plan old w c.split_at.result.0.now s (g.M.Cells.scalars c.args.world.state.memory) scalars (c.plans_are_sound.ensures plan)
    (ap (λ (h : Hearing). h.asking.state) c.in_ok-replies.ensures.heard) c.in_ok-replies.ensures.memory c.requires.ready.equipped.under_way.goes in
    let chosen_of : GoesWith (g.P.Posts.plan c.choose_publications.new.posts) (g.P.Posts.in_flight c.choose_publications.new.posts) s.tic s scalars =
    goes_as_is s.tic s scalars c.choose_publications.ensures.same (subst (λ (x : PlanValue). GoesWith x old s.tic s scalars) (sym c.requires.ready.posts) heard_of) in
    record {
      own = c.requires.ready.own;
      posts = c.choose_publications.ensures.same.plan ∙ c.requires.ready.posts;
      equipped = record {
        under_way = record {
          goes = subst (λ (x : PlanValue). GoesWith x (g.P.Posts.in_flight c.choose_publications.new.posts) s.tic s scalars) (c.choose_publications.ensures.same.plan ∙ c.requires.ready.posts) chosen_of;
          ready = c.in_ok-replies.ensures.course;
        };
        bench = c.hear_lines.ensures.bench;
      };
    }

pub finish-requires-clause-replies : goal.finish-requires-clause-replies
finish-requires-clause-replies g c =
    let plan = c.args.accepted.now.plan in
    let p = plan_of plan in
    let w : World = world_of g.M.Cells.numbers c.args.world in
    let list = c.args.given.entries.now in
    let lines = c.split_at.result.0.now in
    let tail = c.split_at.result.1.now in
    let now = g.T.Turns.sessions c.args.self.now.turns.now in
    let has : HasGiven p c.args.given.decides w list now = c.requires.given in
    let apart : AreApart list lines tail = apart_of list (take c.count_lines.result list) (drop c.count_lines.result list) lines tail
    c.split_at.ensures.front c.split_at.ensures.back (c.count_lines.ensures.apart _ has.may) in
    line_replies p c.args.given.decides w list lines tail now has apart (said_of c.deref-2.result.now)
    (ap said_of c.deref-2.ensures.value ∙ c.in_ok-replies.ensures.replies)

pub finish-requires-clause-reached : goal.finish-requires-clause-reached
finish-requires-clause-reached g c =
    let plan = c.args.accepted.now.plan in
    let p = plan_of plan in
    let w : World = world_of g.M.Cells.numbers c.args.world in
    let list = c.args.given.entries.now in
    let lines = c.split_at.result.0.now in
    let tail = c.split_at.result.1.now in
    let now = g.T.Turns.sessions c.args.self.now.turns.now in
    let has : HasGiven p c.args.given.decides w list now = c.requires.given in
    let apart : AreApart list lines tail = apart_of list (take c.count_lines.result list) (drop c.count_lines.result list) lines tail
    c.split_at.ensures.front c.split_at.ensures.back (c.count_lines.ensures.apart _ has.may) in
    let hearing : Hearing = hearing_of g.M.Cells.numbers c.hear_lines.new.hearing in
    let heard_is : hearing ≡ heard p lines (begun w) = c.in_ok-replies.ensures.heard in
    line_reached p c.args.given.decides w list lines tail now has apart hearing heard_is

pub returns-clause-came_to : goal.returns-clause-came_to
returns-clause-came_to g c =
    let plan = c.args.accepted.now.plan in
    let p = plan_of plan in
    let w : World = world_of g.M.Cells.numbers c.args.world in
    let list = c.args.given.entries.now in
    let lines = c.split_at.result.0.now in
    let tail = c.split_at.result.1.now in
    let now = g.T.Turns.sessions c.args.self.now.turns.now in
    let has : HasGiven p c.args.given.decides w list now = c.requires.given in
    let apart : AreApart list lines tail = apart_of list (take c.count_lines.result list) (drop c.count_lines.result list) lines tail
    c.split_at.ensures.front c.split_at.ensures.back (c.count_lines.ensures.apart _ has.may) in
    let h = hosts g.F.Shelf g.T.Turns g.P.Posts in
    let laws : Laws h = record { shelf = g.met.F.Shelf.called_join; turns = g.met.T.Turns.went_join; posts = g.met.P.Posts.asked_join; runs = c.runs_join.ensures } in
    let hearing : Hearing = hearing_of g.M.Cells.numbers c.hear_lines.new.hearing in
    let heard_is : hearing ≡ heard p lines (begun w) = c.in_ok-replies.ensures.heard in
    let chosen = c.in-Ok.chosen.items in
    let pubs = cond c.args.given.decides tail chosen in
    let published : c.decided-publications.result.now ≡ pubs =
    c.decided-publications.ensures ∙ ap (λ (es : List Entry). cond c.args.given.decides tail es) c.deref.ensures.value in
    let built : IsMade p w (lines ++ pubs) lines pubs hearing = made p c.args.given.decides w list lines tail now has apart chosen hearing c.in-Ok.ensures.silent heard_is in
    let same_tic : hearing.asking.state.tic ≡ w.state.tic = ap (λ (h : Hearing). h.asking.state.tic) heard_is ∙ (heard_time p lines (begun w)).tic in
    let same_said : replies p lines (begun w) ++ samples w.state.tic (state_after p pubs hearing.asking) hearing.sessions
    ≡ said_of c.deref-2.result.now ++ samples hearing.asking.state.tic (state_after p c.decided-publications.result.now hearing.asking) hearing.sessions =
    ap (λ (m : List Message). m ++ samples w.state.tic (state_after p pubs hearing.asking) hearing.sessions) (sym (ap said_of c.deref-2.ensures.value ∙ c.in_ok-replies.ensures.replies))
    ∙ ap (λ (es : List Entry). said_of c.deref-2.result.now ++ samples w.state.tic (state_after p es hearing.asking) hearing.sessions) (sym published)
    ∙ ap (λ (tic : ℕ). said_of c.deref-2.result.now ++ samples tic (state_after p c.decided-publications.result.now hearing.asking) hearing.sessions) (sym same_tic) in
    let noted_result : Result (Unit {0}) Stop = Ok c.in_ok-note_publications.field-0 in
    let counted : Does g.F.Shelf c.hear_lines.new.shelf c.note_publications.new.shelf noted_result (steps_of (note w.state.turn (counting p hearing.asking.state pubs))) =
    subst (λ (es : List Entry). Does g.F.Shelf c.hear_lines.new.shelf c.note_publications.new.shelf noted_result (steps_of (note w.state.turn (counting p hearing.asking.state es)))) published
    (c.in_ok-note_publications.ensures plan c.in_ok-replies.ensures.course.ends.stations) in
    let result : Result (WorldValue g.row.M.Denot) Stop = c.finish.result in
    let rest : Does g.F.Shelf c.note_publications.new.shelf c.finish.new.self.shelf.now result (steps_of (writes_after p pubs hearing.asking)) =
    subst (λ (es : List Entry). Does g.F.Shelf c.note_publications.new.shelf c.finish.new.self.shelf.now result (steps_of (writes_after p es hearing.asking))) published
    c.finish.ensures.does in
    let waits = c.args.self.now.waits.now.items in
    let state_is : state_after p c.decided-publications.result.now hearing.asking ≡ (turn p w (lines ++ pubs)).world.state =
    ap (λ (es : List Entry). state_after p es hearing.asking) published ∙ sym built.state in
    let asks = asks_of g.P.Posts c.args.given.decides plan hearing.asking.state _ waits chosen c.args.self.now.workers.now.posts c.choose_publications.new.posts
    c.requires.ready.posts c.as_mut_slice.ensures.value c.in-Ok.ensures.asks in
    came_so p c.args.given.decides w list lines tail now has apart h g.M.Cells.numbers chosen result hearing g.met.P.Posts.asked_join c.in-Ok.ensures.silent heard_is
    (turned h laws p w (lines ++ pubs) lines pubs hearing built c.in_ok-replies.ensures.does refl counted refl rest
    (says_as result (replies p lines (begun w) ++ samples w.state.tic (state_after p pubs hearing.asking) hearing.sessions) same_said c.finish.ensures.says (λ ok. ok)))
    (worlds_so g.M.Cells.numbers result (turn p w (lines ++ pubs)).world c.finish.ensures.state c.finish.ensures.sessions state_is (sym built.sessions))
    asks c.finish.ensures.asks.asked
    (λ none. ap (λ v. v.items) c.finish.ensures.waits ∙ written_back c.args.self.now.waits.now.len c.choose_publications.new.waits waits (omega (arith, c.args.self.now.waits.now.ok.0))
    (c.choose_publications.ensures.as_many ∙ stations_many p c.hear_lines.new.equipment.course.ends.stations c.in_ok-replies.ensures.course.ends.stations ∙ sym c.requires.waits)
    ∙ c.in-Ok.ensures.waits none
    ∙ ap (λ (l : List ℕ). waited (plan_of (g.P.Posts.plan c.args.self.now.workers.now.posts)) hearing.asking.state l chosen) c.as_mut_slice.ensures.value
    ∙ ap (λ (x : PlanValue). waited (plan_of x) hearing.asking.state waits chosen) c.requires.ready.posts)

pub returns-clause-waits : goal.returns-clause-waits
returns-clause-waits g c =
    let p = plan_of c.args.accepted.now.plan in
    let waits = c.args.self.now.waits.now.items in
    let many : length c.choose_publications.new.waits ≡ length (threads_beside p) =
    c.choose_publications.ensures.as_many ∙ stations_many p c.hear_lines.new.equipment.course.ends.stations c.in_ok-replies.ensures.course.ends.stations in
    let same : length c.finish.new.self.waits.now.items ≡ length (threads_beside p) =
    ap length (ap (λ v. v.items) c.finish.ensures.waits ∙ written_back c.args.self.now.waits.now.len c.choose_publications.new.waits waits
    (omega (arith, c.args.self.now.waits.now.ok.0)) (many ∙ sym c.requires.waits)) ∙ many in
    let hearing : Hearing = hearing_of g.M.Cells.numbers c.hear_lines.new.hearing in
    IfOk-weaker c.finish.result (λ (after : WorldValue g.row.M.Denot). after.sessions.items ≡ staying hearing.sessions)
    (λ (after : WorldValue g.row.M.Denot). length c.finish.new.self.waits.now.items ≡ length (threads_beside p)) (λ after is. same) c.finish.ensures.sessions

pub returns-clause-known : goal.returns-clause-known
returns-clause-known g c =
    let plan = c.args.accepted.now.plan in
    let p = plan_of plan in
    let w : World = world_of g.M.Cells.numbers c.args.world in
    let list = c.args.given.entries.now in
    let lines = c.split_at.result.0.now in
    let tail = c.split_at.result.1.now in
    let now = g.T.Turns.sessions c.args.self.now.turns.now in
    let has : HasGiven p c.args.given.decides w list now = c.requires.given in
    let apart : AreApart list lines tail = apart_of list (take c.count_lines.result list) (drop c.count_lines.result list) lines tail
    c.split_at.ensures.front c.split_at.ensures.back (c.count_lines.ensures.apart _ has.may) in
    let hearing : Hearing = hearing_of g.M.Cells.numbers c.hear_lines.new.hearing in
    let heard_is : hearing ≡ heard p lines (begun w) = c.in_ok-replies.ensures.heard in
    let reached = g.T.Turns.sessions c.finish.new.self.turns.now in
    IfOk-weaker c.finish.result (λ (after : WorldValue g.row.M.Denot). after.sessions.items ≡ staying hearing.sessions)
    (λ (after : WorldValue g.row.M.Denot). AreKnown p reached after.sessions.items)
    (λ after is. line_known p c.args.given.decides w list lines tail now has apart hearing reached after.sessions.items heard_is
    c.finish.ensures.says.kept.sessions is c.in_ok-replies.ensures.sessions) c.finish.ensures.sessions
