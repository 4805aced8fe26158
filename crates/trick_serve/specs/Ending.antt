-- How a served run ended, once its clients are closed.
use Rattle.std.specs.Prelude.{Bool, true, false, Ok, Err, Result}
use Rattle.trick_outside.specs.declared.stop.Stop.TheVariants.{Memory}
use Rattle.trick_outside.specs.declared.stop.Stop.{Stop}
use Rattle.trick_exec_alone.specs.declared.summary.Summary.{Summary}

-- A run that came to its end has stopped for want of memory all the same, where there was none for its clients.
abbrev pub concluded : Result Summary Stop → Bool → Result Summary Stop
concluded (Ok ended) true = Ok ended
concluded (Ok ended) false = Err Memory
concluded (Err e) whole = Err e
