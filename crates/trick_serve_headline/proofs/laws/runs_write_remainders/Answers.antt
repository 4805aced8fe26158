use Rattle.trick_serve_headline.proofs.Remainders.{remainders}
use Rattle.trick_serve_headline.proofs.laws.runs_write_remainders.Goals as goal

pub returns : goal.returns
returns c = λ plan s entries end turn lists later within fits applies.
    remainders c.remainders_are_written.ensures c.same_lines_write_the_same.ensures plan s entries end turn lists later within fits applies
