use Rattle.std.proofs.Common.{rules, ◌≡◌, ◌∙◌, ◌<◌, ◌≤◌, ◌-◌, true, arith, length, slice_index_or, subst, sym}
use Rattle.std.proofs.lemmas.List.{get_or_default}
use Rattle.trick_serve_source.proofs.Calm.{IsCalmAt, calm_all, calm_here, calm_more}
use Rattle.trick_serve_source.proofs.roll.Roll.is_calm.Goals as goal
use Rattle.trick_serve_hearing.specs.declared.seat.Seat.{Seat}

pub returns : goal.returns
returns c =
    let past : length c.args.self.now.live.items ≤ c.loop-at.at = search rules in
    let many : length c.args.reached.now ≡ length c.args.self.now.live.items = search rules in
    λ yes. calm_all c.args.self.now.seats.items c.args.self.now.live.items c.args.reached.now c.loop-at.at many past c.loop-at.invariant

pub loop-at-preserved : goal.loop-at-preserved
loop-at-preserved c =
    let seats = c.args.self.now.seats.items in
    let live = c.args.self.now.live.items in
    let n = c.index-session.result.now in
    let here : c.loop-at.at < length live = search rules in
    let read : n ≡ slice_index_or live c.loop-at.at n = search rules in
    let number : slice_index_or live c.loop-at.at 0 ≡ n = get_or_default live c.loop-at.at 0 n here ∙ sym read in
    let in_range = c.args.self.now.seated c.loop-at.at 0 here in
    let positive : 0 < n = subst (λ m. 0 < m) number in_range.0 in
    let within : n ≤ length seats = subst (λ m. m ≤ length seats) number in_range.1 in
    let seat : Seat = c.index-seat.result.now in
    let is : seat ≡ slice_index_or seats (n - 1) seat = search rules in
    let same : slice_index_or c.args.reached.now c.loop-at.at 0 ≡ n = search rules in
    let calm : c.is_calm.result ≡ true = search rules in
    calm_more seats live c.args.reached.now c.loop-at.at (same ∙ sym number)
    (subst (IsCalmAt seats) (sym number)
    (calm_here seats n seat (omega (arith, positive, within)) is (c.is_calm.ensures.stays calm) (c.is_calm.ensures.quick calm)))
    c.loop-at.invariant
