use Rattle.trick_grammar.proofs.Limits.{limits}
use Rattle.trick_grammar.proofs.laws.limits_are_told.Goals as goal

pub returns : goal.returns
returns g c = let l = g.L.Limited in limits l.number l.class l.spelled l.each_is_spelled l.grammar l.larger l.is_larger l.next_token_decides l.next_token_decides_it
