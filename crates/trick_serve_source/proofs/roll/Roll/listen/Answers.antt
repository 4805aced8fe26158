use Rattle.std.proofs.Common.{List, ℕ, true, subst, sym}
use Rattle.std.specs.List.{filter}
use Rattle.std.specs.Prelude.{is_ok}
use Rattle.trick_serve_source.proofs.roll.Roll.listen.Goals as goal
use Rattle.trick_serve_hearing.specs.Gathering.{Gathers}
use Rattle.trick_serve_hearing.specs.Rules.{AreQuick, is_live}

pub returns-clause-gathered : goal.returns-clause-gathered
returns-clause-gathered g c = λ there was known so.
    subst (λ (l : List ℕ). Gathers there was known c.listen_all.new.seats.items l c.listen_all.new.list.items (is_ok c.listen_all.result)) c.deref.ensures.value
    (c.listen_all.ensures.gathers there was known
    (subst (λ (l : List ℕ). Gathers there was known c.args.self.now.seats.items l c.args.self.now.list.items true) (sym c.deref.ensures.value) so))

pub returns-clause-quick : goal.returns-clause-quick
returns-clause-quick g c = λ ok.
    subst (λ (l : List ℕ). AreQuick c.listen_all.new.seats.items (filter (is_live c.listen_all.new.seats.items) l)) c.deref.ensures.value
    (c.listen_all.ensures.quick ok)
