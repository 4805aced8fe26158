use Rattle.std.proofs.Common.{◌∙◌, ◌<◌, ◌≤◌, length, ◌-◌, ap, arith, subst, sym}
use Rattle.trick_serve_hearing.proofs.Placing.{side_at, side_other, side_set}
use Rattle.trick_serve_hearing.proofs.Seating.{handed_keeps, queues_set}
use Rattle.trick_serve_source.proofs.roll.Roll.hand.Goals as goal
use Rattle.trick_serve_hearing.specs.Messages.{IsHanded}
use Rattle.trick_serve_hearing.specs.Sides.{Side, queues_of, side, side_of}

pub returns-clause-own : goal.returns-clause-own
returns-clause-own g c =
    let low : 0 < c.args.session = c.requires.0 in
    let high : c.args.session ≤ length c.args.self.now.seats.items = c.requires.1 in
    let inside : c.args.session - 1 < length c.args.self.now.seats.items = omega (arith, low, high) in
    subst (λ (s : Side). IsHanded c.args.message (side c.args.self.now.seats.items (c.args.session - 1)) s) (sym (side_set c.args.self.now.seats.items (c.args.session - 1) c.hand.new.seat inside))
    (subst (λ (s : Side). IsHanded c.args.message s (side_of c.hand.new.seat))
    (ap side_of c.index_mut.ensures.value ∙ sym (side_at c.args.self.now.seats.items (c.args.session - 1) c.index_mut.result.now inside))
    c.hand.ensures)

pub returns-clause-others : goal.returns-clause-others
returns-clause-others g c = λ k apart.
    let low : 0 < c.args.session = c.requires.0 in
    side_other c.args.self.now.seats.items (c.args.session - 1) k c.hand.new.seat (λ same. apart (omega (arith, same, low)))

pub returns-clause-queues : goal.returns-clause-queues
returns-clause-queues g c =
    let low : 0 < c.args.session = c.requires.0 in
    let high : c.args.session ≤ length c.args.self.now.seats.items = c.requires.1 in
    let inside : c.args.session - 1 < length c.args.self.now.seats.items = omega (arith, low, high) in
    queues_set c.args.self.now.seats.items (c.args.session - 1) c.index_mut.result.now c.hand.new.seat inside
    (handed_keeps c.args.message c.index_mut.result.now c.hand.new.seat c.hand.ensures ∙ ap queues_of c.index_mut.ensures.value)
