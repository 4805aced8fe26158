use Rattle.std.proofs.Common.{rules, ◌≡◌, ◌∙◌, ◌<◌, ◌≤◌, ◌+◌, ◌-◌, Bool, List, ℕ, cond, ap, arith, length, slice_index_or, subst, sym}
use Rattle.std.proofs.lemmas.List.{take_all, take_more}
use Rattle.std.specs.List.{filter}
use Rattle.std.specs.Prelude.{not}
use Rattle.trick_serve_source.proofs.Leaving.{dismissed}
use Rattle.trick_serve_hearing.proofs.Placing.{side_at}
use Rattle.trick_serve_source.proofs.roll.Roll.dismiss.Goals as goal
use Rattle.trick_serve_hearing.specs.Rules.{is_live}
use Rattle.trick_serve_hearing.specs.Sides.{Side}
use Rattle.trick_serve_hearing.specs.declared.seat.Seat.{Seat}
use Rattle.trick_serve_seats.specs.Departures.{left_of}
use Rattle.trick_wire.specs.Ends.{put_by}

pub returns-clause-left : goal.returns-clause-left
returns-clause-left g c =
    let seats = c.args.self.now.seats.items in
    let past : length c.args.self.now.live.items ≤ c.loop-session.session-index = search rules in
    subst (λ (l : List ℕ). left_of (put_by c.loop-session.gone) + length (filter (is_live seats) l) ≤ left_of (put_by c.args.gone.now) + length l)
    (take_all c.loop-session.session-index c.args.self.now.live.items past) c.loop-session.invariant.left

pub loop-session-preserved : goal.loop-session-preserved
loop-session-preserved g c =
    let seats = c.args.self.now.seats.items in
    let live = c.args.self.now.live.items in
    let i = c.loop-session.session-index in
    let n = slice_index_or live i 0 in
    let here : i < length live = search rules in
    let in_range = c.args.self.now.seated i 0 here in
    let positive : 0 < n = in_range.0 in
    let within : n ≤ length seats = in_range.1 in
    let seat : Seat = c.index-seat.result.now in
    let same : seat ≡ slice_index_or seats (n - 1) seat = search rules in
    let is : is_live seats n ≡ not seat.left =
    ap (λ (s : Side). not s.left) (side_at seats (n - 1) seat (omega (arith, positive, within))) ∙ ap (λ (s : Seat). not s.left) (sym same) in
    record {
      queue = c.dismiss_one.ensures.queue ∙ c.loop-session.invariant.queue;
      left = dismissed seats live i n (put_by c.args.gone.now) (put_by c.loop-session.gone) (put_by c.dismiss_one.new.gone) (take_more live i 0 here)
          c.loop-session.invariant.left
          (subst (λ (b : Bool). left_of (put_by c.dismiss_one.new.gone) + cond b 1 0 ≤ left_of (put_by c.loop-session.gone) + 1) (sym is) c.dismiss_one.ensures.left);
    }
