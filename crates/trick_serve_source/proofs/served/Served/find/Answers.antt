use Rattle.std.proofs.Common.{rules, ◌≡◌, ◌∙◌, [], ℕ, true, false, Bool, ap, subst, sym, Vec, Global}
use Rattle.std.specs.Prelude.{is_ok}
use Rattle.trick_serve_source.proofs.Looking.{empty_from, found_more, looked_more}
use Rattle.trick_serve_source.proofs.served.Served.find.Goals as goal
use Rattle.trick_serve_source.specs.Rolls.{IsGathered, view_of}
use Rattle.trick_serve_hearing.specs.Rules.{is_live}
use Rattle.std.specs.List.{filter}

pub returns-in_err-look-clause-found : goal.returns-in_err-look-clause-found
returns-in_err-look-clause-found g c = λ no.
    let one : is_ok c.look.result ≡ false = search rules in
    let two : is_ok c.from_residual.result ≡ false = search rules in
    let same : is_ok c.look.result ≡ is_ok c.from_residual.result = one ∙ sym two in
    found_more c.args.there.now (view_of c.args.self.now)
    c.loop.self c.look.new.self (is_ok c.from_residual.result) c.loop.invariant.looks c.look.ensures.silent
    (subst (λ (b : Bool). IsGathered c.args.there.now c.loop.self.roll.seats.items (filter (is_live c.loop.self.roll.seats.items) c.loop.self.roll.live.items) c.look.new.self.roll b) same c.look.ensures.gathered)

pub returns-then-not-is_empty-clause-found : goal.returns-then-not-is_empty-clause-found
returns-then-not-is_empty-clause-found g c = λ no.
    let same : is_ok c.look.result ≡ true = search rules in
    found_more c.args.there.now (view_of c.args.self.now)
    c.loop.self c.look.new.self true c.loop.invariant.looks c.look.ensures.silent
    (subst (λ (b : Bool). IsGathered c.args.there.now c.loop.self.roll.seats.items (filter (is_live c.loop.self.roll.seats.items) c.loop.self.roll.live.items) c.look.new.self.roll b) same c.look.ensures.gathered)

pub returns-then-are_over-clause-over : goal.returns-then-are_over-clause-over
returns-then-are_over-clause-over g c = λ yes.
    let same : is_ok c.look.result ≡ true = search rules in
    let none : c.is_empty.result ≡ true = search rules in
    let kept : c.look.new.self.broke ≡ c.loop.self.broke = search rules in
    let empty : c.look.new.self.roll.list.items ≡ [] =
    empty_from c.look.new.self.roll.list.items c.look.new.self.roll.list.len c.is_empty.result c.look.new.self.roll.list.ok.0 c.is_empty.ensures none in
    record {
      looks = looked_more c.args.there.now (view_of c.args.self.now)
          c.loop.self c.look.new.self (ap (λ (v : Vec ℕ Global). v.items) c.look.ensures.reached) kept c.look.ensures.over c.look.ensures.silent c.loop.invariant.looks
          (subst (λ (b : Bool). IsGathered c.args.there.now c.loop.self.roll.seats.items (filter (is_live c.loop.self.roll.seats.items) c.loop.self.roll.live.items) c.look.new.self.roll b) same c.look.ensures.gathered)
          empty;
      frozen_is = search rules;
      over = search rules;
      ended = search rules;
    }

pub loop-preserved : goal.loop-preserved
loop-preserved g c =
    let same : is_ok c.look.result ≡ true = search rules in
    let none : c.is_empty.result ≡ true = search rules in
    let kept : c.look.new.self.broke ≡ c.loop.self.broke = search rules in
    let empty : c.look.new.self.roll.list.items ≡ [] =
    empty_from c.look.new.self.roll.list.items c.look.new.self.roll.list.len c.is_empty.result c.look.new.self.roll.list.ok.0 c.is_empty.ensures none in
    record {
      asked = g.met.A.Asks.keeps_join c.args.asks.now c.loop.asks c.ask.new.self c.loop.invariant.asked c.ask.ensures;
      looks = looked_more c.args.there.now (view_of c.args.self.now)
          c.loop.self c.look.new.self (ap (λ (v : Vec ℕ Global). v.items) c.look.ensures.reached) kept c.look.ensures.over c.look.ensures.silent c.loop.invariant.looks
          (subst (λ (b : Bool). IsGathered c.args.there.now c.loop.self.roll.seats.items (filter (is_live c.loop.self.roll.seats.items) c.loop.self.roll.live.items) c.look.new.self.roll b) same c.look.ensures.gathered)
          empty;
      coming = c.look.ensures.coming ∙ c.loop.invariant.coming;
      gone = c.look.ensures.gone ∙ c.loop.invariant.gone;
      reached = c.look.ensures.reached ∙ c.loop.invariant.reached;
      broke = kept ∙ c.loop.invariant.broke;
    }

pub returns-then-not-is_empty-clause-quick : goal.returns-then-not-is_empty-clause-quick
returns-then-not-is_empty-clause-quick g c = λ up.
    let same : is_ok c.look.result ≡ true = search rules in
    c.look.ensures.quick same
