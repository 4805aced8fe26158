use Rattle.trick_serve_seats.proofs.Telling.{rose_later}
use Rattle.trick_serve_seats.proofs.seat.begin_writer.Goals as goal

pub returns-in-Started-Here-clause-cause : goal.returns-in-Started-Here-clause-cause
returns-in-Started-Here-clause-cause g c = rose_later _ _ _ _ c.start.ensures.cause.later c.refuse.ensures.later c.refuse.ensures.counted
