-- The entries that publish rounds.
use Rattle.std.specs.Prelude.{ℕ, true, false, List, [], ◌∷◌}
use Rattle.trick_model.specs.Beside.{has_round}
use Rattle.trick_model.specs.State.{State}
use Rattle.trick_model.specs.declared.entry.Entry.{Entry}
use Rattle.trick_model.specs.declared.entry.Entry.TheVariants.{Publish}
use Rattle.trick_model.specs.declared.thread.Thread.{Thread}

-- the publication of the round of a thread at its place, where one is in flight
abbrev pub publication_of : State → ℕ → Thread → List Entry
publication_of s place thread = elim (has_round s place thread) [ true ↦ Publish thread.number ∷ [] | false ↦ [] ]
