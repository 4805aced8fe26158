use Rattle.std.specs.Arc.{arc_value}
use Rattle.std.specs.Prelude.{Some}
use Rattle.trick_serve.proofs.served.serve.Given as goal

abbrev pub ghosts-serve_by_crew : goal.ghosts-serve_by_crew
ghosts-serve_by_crew g a = record { plan = Some (arc_value a.accepted.now).plan }
