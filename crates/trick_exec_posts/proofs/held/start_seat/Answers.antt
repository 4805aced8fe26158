use Rattle.std.proofs.Common.{◌≡◌, ◌∙◌, ◌<◌, List, ap, length, subst, sym, true, ℕ}
use Rattle.std.proofs.lemmas.List.{get_or_default}
use Rattle.std.specs.List.{slice_index_or}
use Rattle.trick_exec_posts.proofs.Flights.{as_many}
use Rattle.trick_exec_posts.proofs.Seats.{held_right}
use Rattle.trick_exec_posts.proofs.held.start_seat.Goals as goal
use Rattle.trick_model.specs.PlanOf.{plan_of}
use Rattle.trick_model.specs.State.{State, nothing_taken, seen, taken_at}
use Rattle.trick_model.specs.declared.taken.Taken.{Taken}
use Rattle.trick_post_work.specs.Work.{CanStart}
use Rattle.trick_post_work.specs.declared.posts.Job1.{Job1}

pub start-requires-clause-right : goal.start-requires-clause-right
start-requires-clause-right g c =
    let plan = g.P.Posts.plan c.args.posts.now in
    let p = plan_of plan in
    let place = c.args.seat.place in
    let station = c.args.seat.station.now in
    let s : State = seen g.M.Cells.numbers c.args.state.now in
    let held : (taken_at s place).held ≡ true = sym c.is_held.ensures ∙ c.if-not-is_held.false in
    let there : place < length s.taken = subst (λ (n : ℕ). place < n) (sym (as_many p s c.requires.valid)) c.requires.seat.there in
    let is : c.index-as_slice-seat.result ≡ taken_at s place =
    c.index-as_slice-seat.is ∙ ap (λ (ts : List Taken). slice_index_or ts place c.index-as_slice-seat.result) c.as_slice.ensures
    ∙ get_or_default s.taken place c.index-as_slice-seat.result nothing_taken there in
    subst (λ (t : Taken). CanStart p station.thread.number t c.work_at.result) (sym is)
    (subst (λ (w : Job1). CanStart p station.thread.number (taken_at s place) w) (sym c.work_at.ensures)
    (held_right plan place c.args.state.now.tic station s c.requires.seat c.requires.valid held))
