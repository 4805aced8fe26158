use Rattle.std.proofs.Common.{rules, ◌≡◌, ◌∙◌, true, false, Bool, refl, subst, sym}
use Rattle.std.specs.Prelude.{is_ok}
use Rattle.trick_serve_hearing.proofs.hear.listen.Goals as goal
use Rattle.trick_serve_hearing.proofs.Living.{listed_join, slow_stays}
use Rattle.trick_serve_hearing.specs.Gathering.{HasListed}
use Rattle.trick_serve_hearing.specs.Sides.{queues_of, side_of}

pub returns-in_err-more-clause-listed : goal.returns-in_err-more-clause-listed
returns-in_err-more-clause-listed g c =
    let one : is_ok c.hear_one.result ≡ false = search rules in
    let two : is_ok c.from_residual-in_err-more.result ≡ false = search rules in
    let same : is_ok c.hear_one.result ≡ is_ok c.from_residual-in_err-more.result = one ∙ sym two in
    listed_join c.args.session (side_of c.args.seat.now) (side_of c.loop.seat) (side_of c.hear_one.new.seat) c.args.list.now.items c.loop.list.items c.hear_one.new.list.items (is_ok c.from_residual-in_err-more.result) c.loop.invariant.listed
    (subst (λ (b : Bool). HasListed c.args.session (side_of c.loop.seat) (side_of c.hear_one.new.seat) c.loop.list.items c.hear_one.new.list.items b) same c.hear_one.ensures)

pub loop-preserved : goal.loop-preserved
loop-preserved g c =
    let same : is_ok c.hear_one.result ≡ true = search rules in
    let stays : c.loop.seat.left ≡ false = search rules in
    record {
      listed = listed_join c.args.session (side_of c.args.seat.now) (side_of c.loop.seat) (side_of c.hear_one.new.seat) c.args.list.now.items c.loop.list.items c.hear_one.new.list.items true c.loop.invariant.listed
          (subst (λ (b : Bool). HasListed c.args.session (side_of c.loop.seat) (side_of c.hear_one.new.seat) c.loop.list.items c.hear_one.new.list.items b) same c.hear_one.ensures);
      quick = λ still. slow_stays c.hear_one.ensures.happened (side_of c.loop.seat) (side_of c.hear_one.new.seat) (queues_of c.loop.seat) refl c.hear_one.ensures.happens
          ∙ c.loop.invariant.quick stays;
    }

pub returns-then-not-more-clause-listed : goal.returns-then-not-more-clause-listed
returns-then-not-more-clause-listed g c =
    let same : is_ok c.hear_one.result ≡ true = search rules in
    listed_join c.args.session (side_of c.args.seat.now) (side_of c.loop.seat) (side_of c.hear_one.new.seat) c.args.list.now.items c.loop.list.items c.hear_one.new.list.items true c.loop.invariant.listed
    (subst (λ (b : Bool). HasListed c.args.session (side_of c.loop.seat) (side_of c.hear_one.new.seat) c.loop.list.items c.hear_one.new.list.items b) same c.hear_one.ensures)

pub returns-then-not-more-clause-quick : goal.returns-then-not-more-clause-quick
returns-then-not-more-clause-quick g c =
    let stays : c.loop.seat.left ≡ false = search rules in
    λ ok still. slow_stays c.hear_one.ensures.happened (side_of c.loop.seat) (side_of c.hear_one.new.seat) (queues_of c.loop.seat) refl c.hear_one.ensures.happens
    ∙ c.loop.invariant.quick stays
