use Rattle.std.proofs.Common.{◌∷◌, [], None, refl}
use Rattle.trick_outside.specs.Calls.{Get, Read, Stopped}
use Rattle.trick_outside.specs.declared.stop.Stop.TheVariants.{Memory, Shelf}
use Rattle.trick_top_alone.proofs.GoneLemmas.{found_one}
use Rattle.trick_top_alone.proofs.files.read_file.Goals as goal
use Rattle.trick_top_alone.specs.Outcome.{missing, no_memory_to_read, not_read}

pub returns-in-Found-clause-found : goal.returns-in-Found-clause-found
returns-in-Found-clause-found g c = rw c.from_vec.ensures (found_one c.args.name.now _ c.in-Found.ensures)

pub returns-in-Missing-clause-not_found : goal.returns-in-Missing-clause-not_found
returns-in-Missing-clause-not_found g c =
    record { calls = Read c.args.name.now None ∷ []; went = c.in-Missing.ensures; unread = missing [] c.args.name.now [] refl }

pub returns-in-Failed-clause-not_found : goal.returns-in-Failed-clause-not_found
returns-in-Failed-clause-not_found g c =
    record { calls = Stopped (Get c.args.name.now) Shelf ∷ []; went = c.in-Failed.ensures; unread = not_read [] c.args.name.now [] refl }

pub returns-in-OutOfMemory-clause-not_found : goal.returns-in-OutOfMemory-clause-not_found
returns-in-OutOfMemory-clause-not_found g c =
    record { calls = Stopped (Get c.args.name.now) Memory ∷ []; went = c.in-OutOfMemory.ensures; unread = no_memory_to_read [] c.args.name.now [] refl }
