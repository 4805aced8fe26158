use Rattle.std.proofs.Common.{rules}
use Rattle.trick_wire.proofs.Reading.{read_more}
use Rattle.trick_wire.proofs.reader.step.Goals as goal

pub returns-in-Failed-clause-read : goal.returns-in-Failed-clause-read
returns-in-Failed-clause-read g c = search rules

pub returns-in-Count-clause-read : goal.returns-in-Count-clause-read
returns-in-Count-clause-read g c = λ start before r none.
    read_more start _ _ before _ _ _ _ _ _ _ _ r c.in-Count.ensures.given c.in-Count.ensures.cause.later (c.take_in.ensures.fed r.read r.fed none)
