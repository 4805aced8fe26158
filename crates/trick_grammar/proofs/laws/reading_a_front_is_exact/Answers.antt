use Rattle.trick_grammar.proofs.Exact.{exact_front}
use Rattle.trick_grammar.proofs.laws.reading_a_front_is_exact.Goals as goal

pub returns : goal.returns
returns g c = let l = g.L.Language in exact_front l.number l.class l.spelled l.each_is_spelled l.grammar l.next_token_decides l.has_a_text
