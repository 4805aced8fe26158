use Rattle.std.proofs.Common.{◌≡◌, ◌∙◌, ◌<◌, ap, length, subst, sym, Some, ℕ, List}
use Rattle.std.proofs.lemmas.List.{get_or-set_same}
use Rattle.std.specs.List.{slice_index_or}
use Rattle.std.specs.Prelude.{slice_set}
use Rattle.trick_exec_posts.proofs.Flights.{as_many, is_free}
use Rattle.trick_exec_posts.proofs.Loops.{asks_none}
use Rattle.trick_exec_posts.proofs.Seats.{record_is, start_right, take_goes}
use Rattle.trick_exec_posts.proofs.seat.take.Goals as goal
use Rattle.trick_exec_posts.specs.Flight.{GoesWith}
use Rattle.trick_exec_posts.specs.Stations.{record_of}
use Rattle.trick_model.specs.Beside.{take, taken_from}
use Rattle.trick_model.specs.PlanOf.{plan_of}
use Rattle.trick_model.specs.State.{State, seen}
use Rattle.trick_model.specs.declared.plan.Plan.{Plan as PlanValue}
use Rattle.trick_model.specs.declared.taken.Taken.{Taken}
use Rattle.trick_post_work.specs.Work.{CanStart, Started}
use Rattle.trick_post_work.specs.declared.posts.Job1.{Job1}

pub fill-requires : goal.fill-requires
fill-requires g c =
    subst (λ (n : ℕ). c.args.seat.place < n)
    (sym (as_many (plan_of (g.P.Posts.plan c.args.posts.now)) (seen g.M.Cells.numbers c.args.state.now) c.requires.goes.valid)) c.requires.seat.there

pub work_at-requires-clause-cycle : goal.work_at-requires-clause-cycle
work_at-requires-clause-cycle g c = c.requires.seat.right.cycle

pub start-requires-clause-right : goal.start-requires-clause-right
start-requires-clause-right g c =
    let plan = g.P.Posts.plan c.args.posts.now in
    let p = plan_of plan in
    let place = c.args.seat.place in
    let station = c.args.seat.station.now in
    let s : State = seen g.M.Cells.numbers c.args.state.now in
    let there : place < length s.taken = subst (λ (n : ℕ). place < n) (sym (as_many p s c.requires.goes.valid)) c.requires.seat.there in
    let given : Taken = record_of s.memory s.jobs station in
    let is : c.index-as_slice-seat.result ≡ taken_from p station.thread s =
    c.index-as_slice-seat.is ∙ ap (λ (ts : List Taken). slice_index_or ts place c.index-as_slice-seat.result) c.as_slice.ensures
    ∙ ap (λ (u : State). slice_index_or u.taken place c.index-as_slice-seat.result) c.in_ok-fill.ensures.state
    ∙ get_or-set_same s.taken place given c.index-as_slice-seat.result there ∙ record_is p station s c.requires.seat.right in
    subst (λ (t : Taken). CanStart p station.thread.number t c.work_at.result) (sym is)
    (subst (λ (w : Job1). CanStart p station.thread.number (taken_from p station.thread s) w) (sym c.work_at.ensures)
    (start_right plan place c.args.tic station s c.requires.seat c.requires.goes.valid))

pub start-requires-clause-free : goal.start-requires-clause-free
start-requires-clause-free g c =
    is_free (plan_of (g.P.Posts.plan c.args.posts.now)) (g.P.Posts.in_flight c.args.posts.now) c.args.tic c.args.seat.place c.args.state.now.taken
    c.args.seat.station.now.thread c.requires.goes.tied c.requires.seat.there c.requires.seat.thread c.requires.empty

pub returns-in_err-fill-clause-asks : goal.returns-in_err-fill-clause-asks
returns-in_err-fill-clause-asks g c = asks_none g.P.Posts c.args.posts.now (g.met.P.Posts.asked_none c.args.posts.now)

pub returns-clause-state : goal.returns-clause-state
returns-clause-state g c =
    let s : State = seen g.M.Cells.numbers c.args.state.now in
    c.in_ok-fill.ensures.state
    ∙ ap (λ (t : Taken). record s { taken = slice_set s.taken c.args.seat.place t })
    (record_is (plan_of (g.P.Posts.plan c.args.posts.now)) c.args.seat.station.now s c.requires.seat.right)

pub returns-clause-goes : goal.returns-clause-goes
returns-clause-goes g c =
    let plan = g.P.Posts.plan c.args.posts.now in
    let p = plan_of plan in
    let place = c.args.seat.place in
    let station = c.args.seat.station.now in
    let s : State = seen g.M.Cells.numbers c.args.state.now in
    let t : State = seen g.M.Cells.numbers c.fill.new.state in
    let there : place < length s.taken = subst (λ (n : ℕ). place < n) (sym (as_many p s c.requires.goes.valid)) c.requires.seat.there in
    let given : Taken = record_of s.memory s.jobs station in
    let taken : c.index-as_slice-seat.result ≡ taken_from p station.thread s =
    c.index-as_slice-seat.is ∙ ap (λ (ts : List Taken). slice_index_or ts place c.index-as_slice-seat.result) c.as_slice.ensures
    ∙ ap (λ (u : State). slice_index_or u.taken place c.index-as_slice-seat.result) c.in_ok-fill.ensures.state
    ∙ get_or-set_same s.taken place given c.index-as_slice-seat.result there ∙ record_is p station s c.requires.seat.right in
    let is : t ≡ take p place station.thread s =
    c.in_ok-fill.ensures.state ∙ ap (λ (x : Taken). record s { taken = slice_set s.taken place x }) (record_is p station s c.requires.seat.right) in
    let started : Taken → Job1 → Started = λ x w. record { taken = x; work = w } in
    subst (λ (x : PlanValue). GoesWith x (g.P.Posts.in_flight c.start.new.self) c.args.tic t (g.M.Cells.scalars c.fill.new.state.memory)) (sym c.start.ensures.plan)
    (take_goes station (g.P.Posts.in_flight c.start.new.self) t (g.M.Cells.scalars c.fill.new.state.memory) c.requires.goes c.requires.seat is
    (ap g.M.Cells.scalars c.fill.ensures.memory)
    (c.start.ensures.started ∙ ap (λ (x : Taken). Some (started x c.work_at.result)) taken
    ∙ ap (λ (w : Job1). Some (started (taken_from p station.thread s) w)) c.work_at.ensures)
    c.start.ensures.others)

pub returns-clause-asks : goal.returns-clause-asks
returns-clause-asks g c = record { plan = c.start.ensures.plan; late = c.start.ensures.late; asked = c.start.ensures.asked }
