use Rattle.std.proofs.Common.{rules, ◌≡◌, ◌≢◌, ◌∙◌, arith, Ok, true, false, Bool, Result, refl, subst, sym}
use Rattle.std.specs.Prelude.{IfOk, OnOk, is_ok}
use Rattle.std.specs.declared.alloc.AllocError.{AllocError}
use Rattle.trick_serve_source.proofs.clients.take_clients.Goals as goal
use Rattle.trick_serve_hearing.proofs.Seating.{none_before}
use Rattle.trick_serve_hearing.specs.Clients.{IsSilent, has_lack}
use Rattle.trick_serve_source.specs.Rolls.{IsGathered}
use Rattle.trick_serve_source.specs.declared.clients.Took.{Took}
use Rattle.trick_serve_source.specs.declared.clients.Took.TheVariants as kind
use Rattle.trick_wire.specs.Ends.{taken_by}

ok_same : (a b : Took) → (let one : Result Took AllocError = Ok a in one) ≡ Ok b → a ≡ b
ok_same a b is = cc

pub loop-init : goal.loop-init
loop-init g c = record {
  queue = refl;
  clients = λ so. so;
  still = λ so. so;
  took = λ no. cc;
  silent = λ so. so;
  first = λ so empty no. absurd (no refl);
  memory = λ none. none;
  count = omega arith;
  live = omega arith;
  gathers = λ there was known so. so;
}

pub returns-in_err-take_client-clause-clients : goal.returns-in_err-take_client-clause-clients
returns-in_err-take_client-clause-clients g c = λ so. c.take_client.ensures.clients (c.loop.invariant.clients so)

pub returns-in_err-take_client-clause-still : goal.returns-in_err-take_client-clause-still
returns-in_err-take_client-clause-still g c = λ so. c.take_client.ensures.still (c.loop.invariant.still so)

pub returns-in-Nothing-clause-clients : goal.returns-in-Nothing-clause-clients
returns-in-Nothing-clause-clients g c = λ so. c.take_client.ensures.clients (c.loop.invariant.clients so)

pub returns-in-Nothing-clause-still : goal.returns-in-Nothing-clause-still
returns-in-Nothing-clause-still g c = λ so. c.take_client.ensures.still (c.loop.invariant.still so)

pub returns-in-Nothing-clause-last : goal.returns-in-Nothing-clause-last
returns-in-Nothing-clause-last g c = λ yes. absurd (c.loop.invariant.took (ok_same c.loop.took kind.Over yes))

pub returns-in-Over-clause-clients : goal.returns-in-Over-clause-clients
returns-in-Over-clause-clients g c = λ so. c.take_client.ensures.clients (c.loop.invariant.clients so)

pub returns-in-Over-clause-still : goal.returns-in-Over-clause-still
returns-in-Over-clause-still g c = λ so. c.take_client.ensures.still (c.loop.invariant.still so)

pub returns-in-Over-clause-last : goal.returns-in-Over-clause-last
returns-in-Over-clause-last g c =
    let is : c.take_client.result ≡ Ok kind.Over = search rules in
    λ yes. c.take_client.ensures.last is

pub returns-clause-last : goal.returns-clause-last
returns-clause-last g c = λ yes. absurd (c.loop.invariant.took (ok_same c.loop.took kind.Over yes))

pub returns-in_err-take_client-clause-gathers : goal.returns-in_err-take_client-clause-gathers
returns-in_err-take_client-clause-gathers g c =
    let one : is_ok c.take_client.result ≡ false = search rules in
    let two : is_ok c.from_residual.result ≡ false = search rules in
    let same : is_ok c.take_client.result ≡ is_ok c.from_residual.result = one ∙ sym two in
    λ there was known so. subst (λ (b : Bool). IsGathered there was known c.take_client.new.roll b) same
    (c.take_client.ensures.gathers there was known (c.loop.invariant.gathers there was known so))

pub returns-in-Nothing-clause-gathers : goal.returns-in-Nothing-clause-gathers
returns-in-Nothing-clause-gathers g c =
    let same : is_ok c.take_client.result ≡ true = search rules in
    λ there was known so. subst (λ (b : Bool). IsGathered there was known c.take_client.new.roll b) same
    (c.take_client.ensures.gathers there was known (c.loop.invariant.gathers there was known so))

pub returns-in-Over-clause-gathers : goal.returns-in-Over-clause-gathers
returns-in-Over-clause-gathers g c =
    let same : is_ok c.take_client.result ≡ true = search rules in
    λ there was known so. subst (λ (b : Bool). IsGathered there was known c.take_client.new.roll b) same
    (c.take_client.ensures.gathers there was known (c.loop.invariant.gathers there was known so))

pub loop-preserved : goal.loop-preserved
loop-preserved g c =
    let same : is_ok c.take_client.result ≡ true = search rules in
    let is : c.take_client.result ≡ Ok kind.Some = search rules in
    record {
      queue = c.take_client.ensures.queue ∙ c.loop.invariant.queue;
      clients = λ so. c.take_client.ensures.clients (c.loop.invariant.clients so);
      still = λ so. c.take_client.ensures.still (c.loop.invariant.still so);
      took = λ no. cc;
      silent = λ so. c.take_client.ensures.silent (c.loop.invariant.silent so);
      first = λ so empty no. subst (λ (r : Result Took AllocError). IfOk r (λ took. took ≢ kind.Nothing → IsSilent (taken_by c.take_client.new.coming))) is
          (c.take_client.ensures.first (c.loop.invariant.clients so) empty) no;
      memory = λ none. subst (λ (r : Result Took AllocError). OnOk r (has_lack (taken_by c.take_client.new.coming) ≡ false)) is
          (c.take_client.ensures.memory (c.loop.invariant.memory none));
      count = omega (arith, c.take_client.ensures.count, c.loop.invariant.count);
      live = omega (arith, c.take_client.ensures.live, c.loop.invariant.live);
      gathers = λ there was known so. subst (λ (b : Bool). IsGathered there was known c.take_client.new.roll b) same
          (c.take_client.ensures.gathers there was known (c.loop.invariant.gathers there was known so));
    }

pub returns-in_err-take_client-clause-silent : goal.returns-in_err-take_client-clause-silent
returns-in_err-take_client-clause-silent g c = λ so. c.take_client.ensures.silent (c.loop.invariant.silent so)

pub returns-in-Nothing-clause-silent : goal.returns-in-Nothing-clause-silent
returns-in-Nothing-clause-silent g c = λ so. c.take_client.ensures.silent (c.loop.invariant.silent so)

pub returns-in-Over-clause-silent : goal.returns-in-Over-clause-silent
returns-in-Over-clause-silent g c = λ so. c.take_client.ensures.silent (c.loop.invariant.silent so)

pub returns-in-Nothing-clause-first : goal.returns-in-Nothing-clause-first
returns-in-Nothing-clause-first g c = λ so empty no. c.take_client.ensures.silent
    (c.loop.invariant.first so (none_before c.loop.roll.seats.items c.take_client.new.roll.seats.items c.take_client.ensures.count empty) no)

pub returns-in-Over-clause-first : goal.returns-in-Over-clause-first
returns-in-Over-clause-first g c =
    let is : c.take_client.result ≡ Ok kind.Over = search rules in
    λ so empty. subst (λ (r : Result Took AllocError). IfOk r (λ took. took ≢ kind.Nothing → IsSilent (taken_by c.take_client.new.coming))) is
    (c.take_client.ensures.first (c.loop.invariant.clients so) empty)

pub returns-clause-first : goal.returns-clause-first
returns-clause-first g c = λ so empty no. c.loop.invariant.first so empty no

pub returns-in-Nothing-clause-memory : goal.returns-in-Nothing-clause-memory
returns-in-Nothing-clause-memory g c =
    let is : c.take_client.result ≡ Ok kind.Nothing = search rules in
    λ none. subst (λ (r : Result Took AllocError). OnOk r (has_lack (taken_by c.take_client.new.coming) ≡ false)) is
    (c.take_client.ensures.memory (c.loop.invariant.memory none))

pub returns-in-Over-clause-memory : goal.returns-in-Over-clause-memory
returns-in-Over-clause-memory g c =
    let is : c.take_client.result ≡ Ok kind.Over = search rules in
    λ none. subst (λ (r : Result Took AllocError). OnOk r (has_lack (taken_by c.take_client.new.coming) ≡ false)) is
    (c.take_client.ensures.memory (c.loop.invariant.memory none))
