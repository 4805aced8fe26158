use Rattle.std.proofs.Common.{rules, ◌≡◌, ◌∙◌, true, false, Bool, ap, arith, length, refl, subst, sym, Vec, Global, ℕ}
use Rattle.std.specs.Prelude.{is_ok}
use Rattle.trick_serve_hearing.specs.declared.seat.Seat.{Seat}
use Rattle.trick_serve_source.proofs.Looking.{gathered_as}
use Rattle.trick_serve_hearing.proofs.Placing.{seated_more}
use Rattle.trick_serve_hearing.proofs.Seating.{last_same, none_before, same_many}
use Rattle.trick_serve_source.proofs.served.Served.look.Goals as goal
use Rattle.trick_serve_hearing.specs.Clients.{seat_queues}
use Rattle.trick_serve_source.specs.Rolls.{IsGathered}
use Rattle.trick_serve_hearing.specs.Rules.{is_live}
use Rattle.std.specs.List.{filter}
use Rattle.trick_wire.specs.Ends.{taken_by}

pub invariant_of-self : goal.invariant_of-self
invariant_of-self g c =
    let was = c.args.self.now.roll.seats.items in
    let kept = c.hang_up.ensures.queues ∙ ap (λ (v : Vec Seat Global). seat_queues v.items) c.begin.ensures.seats in
    let many = same_many was c.hang_up.new.self.seats.items kept in
    let live : length c.hang_up.new.self.live.items ≡ length (filter (is_live was) c.args.self.now.roll.live.items) =
    ap (λ (v : Vec ℕ Global). length v.items) c.hang_up.ensures.live ∙ ap length c.begin.ensures.live in
    record {
      clients = kept ∙ c.args.self.now.clients;
      last = λ yes. last_same (taken_by c.args.self.now.coming) (taken_by c.args.self.now.coming) was c.hang_up.new.self.seats.items refl (omega (arith, many)) (c.args.self.now.last yes);
      reach = seated_more c.args.self.now.reached.items was c.hang_up.new.self.seats.items (omega (arith, many)) c.args.self.now.reach;
      first = c.args.self.now.first;
      quiet = λ asked none. c.args.self.now.quiet asked (none_before was c.hang_up.new.self.seats.items (omega (arith, many)) none);
      calm = c.args.self.now.calm;
      memory = c.args.self.now.memory;
      departed = omega (arith, many, live, c.dismiss.ensures.left, c.args.self.now.departed);
    }

pub invariant_of-self-2 : goal.invariant_of-self-2
invariant_of-self-2 g c =
    let more = same_many c.seat.new.self.roll.seats.items c.listen.new.self.seats.items c.listen.ensures.queues in
    let live : length c.listen.new.self.live.items ≡ length c.seat.new.self.roll.live.items = ap (λ (v : Vec ℕ Global). length v.items) c.listen.ensures.live in
    let came = taken_by c.seat.new.self.coming in
    record {
      clients = c.listen.ensures.queues ∙ c.seat.new.self.clients;
      last = λ yes. last_same came came c.seat.new.self.roll.seats.items c.listen.new.self.seats.items refl (omega (arith, more)) (c.seat.new.self.last yes);
      reach = seated_more c.seat.new.self.reached.items c.seat.new.self.roll.seats.items c.listen.new.self.seats.items (omega (arith, more)) c.seat.new.self.reach;
      first = c.seat.new.self.first;
      quiet = λ asked none. c.seat.new.self.quiet asked (none_before c.seat.new.self.roll.seats.items c.listen.new.self.seats.items (omega (arith, more)) none);
      calm = c.seat.new.self.calm;
      memory = c.seat.new.self.memory;
      departed = omega (arith, more, live, c.seat.new.self.departed);
    }

pub returns-in_err-seat-clause-gathered : goal.returns-in_err-seat-clause-gathered
returns-in_err-seat-clause-gathered g c =
    let ok : is_ok c.hang_up.result ≡ true = search rules in
    let was = c.args.self.now.roll.seats.items in
    let known = filter (is_live c.args.self.now.roll.seats.items) c.args.self.now.roll.live.items in
    let started : IsGathered c.args.there.now was known c.hang_up.new.self true =
    gathered_as c.args.there.now c.begin.new.self.seats.items was c.begin.new.self.live.items known c.hang_up.new.self true
    (ap (λ (v : Vec Seat Global). v.items) c.begin.ensures.seats) c.begin.ensures.live
    (subst (λ (b : Bool). IsGathered c.args.there.now c.begin.new.self.seats.items c.begin.new.self.live.items c.hang_up.new.self b) ok c.hang_up.ensures.gathered) in
    let one : is_ok c.seat.result ≡ false = search rules in
    let two : is_ok c.from_residual-in_err-seat.result ≡ false = search rules in
    subst (λ (b : Bool). IsGathered c.args.there.now was known c.seat.new.self.roll b) (one ∙ sym two) (c.seat.ensures.gathers c.args.there.now was known started)

pub returns-clause-gathered : goal.returns-clause-gathered
returns-clause-gathered g c =
    let ok : is_ok c.hang_up.result ≡ true = search rules in
    let was = c.args.self.now.roll.seats.items in
    let known = filter (is_live c.args.self.now.roll.seats.items) c.args.self.now.roll.live.items in
    let started : IsGathered c.args.there.now was known c.hang_up.new.self true =
    gathered_as c.args.there.now c.begin.new.self.seats.items was c.begin.new.self.live.items known c.hang_up.new.self true
    (ap (λ (v : Vec Seat Global). v.items) c.begin.ensures.seats) c.begin.ensures.live
    (subst (λ (b : Bool). IsGathered c.args.there.now c.begin.new.self.seats.items c.begin.new.self.live.items c.hang_up.new.self b) ok c.hang_up.ensures.gathered) in
    let good : is_ok c.seat.result ≡ true = search rules in
    c.listen.ensures.gathered c.args.there.now was known
    (subst (λ (b : Bool). IsGathered c.args.there.now was known c.seat.new.self.roll b) good (c.seat.ensures.gathers c.args.there.now was known started))

pub returns-clause-quick : goal.returns-clause-quick
returns-clause-quick g c = λ ok. c.listen.ensures.quick ok
