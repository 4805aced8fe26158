use Rattle.trick_grammar.proofs.Cut.{first}
use Rattle.trick_grammar.proofs.laws.the_earlier_place_decides.Goals as goal

pub returns : goal.returns
returns g c = let l = g.L.Language in first l.number l.class l.spelled l.grammar l.each_is_spelled l.next_token_decides l.has_a_text
