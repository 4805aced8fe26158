-- Turns with the same lines and publications do the same.
use Rattle.std.specs.Prelude.{◌≡◌, false, ℕ, List, [], ◌∷◌, ◌++◌, Option}
use Rattle.trick_base.specs.Content.{content, same_name}
use Rattle.trick_base.specs.Files.{Write}
use Rattle.trick_model.specs.Files.{file, journal_name, turns_writes}
use Rattle.trick_model.specs.Plan.{Plan}
use Rattle.trick_model.specs.Run.{after_turns, final}
use Rattle.trick_model.specs.State.{State, World}
use Rattle.trick_model.specs.Turn.{turn}
use Rattle.trick_model.specs.declared.entry.Entry.{Entry}
use Rattle.trick_model.specs.declared.entry.Entry.TheVariants.{Join, Said, Leave, Publish}

-- ---- what entries ask for

-- the bytes of the lines of a turn, in their order; who said them is dropped
abbrev pub line_texts : List Entry → List (List ℕ)
line_texts [] = []
line_texts (Join session ∷ entries) = line_texts entries
line_texts (Said session line ∷ entries) = line ∷ line_texts entries
line_texts (Leave session cause ∷ entries) = line_texts entries
line_texts (Publish thread ∷ entries) = line_texts entries

-- the threads that it publishes, in their order
abbrev pub threads_in : List Entry → List ℕ
threads_in [] = []
threads_in (Join session ∷ entries) = threads_in entries
threads_in (Said session line ∷ entries) = threads_in entries
threads_in (Leave session cause ∷ entries) = threads_in entries
threads_in (Publish thread ∷ entries) = thread ∷ threads_in entries

-- The entries of two turns apply the same: they have the same lines, and the same publications.
pub record ApplySame (one other : List Entry) : Type 0 where
  pub lines : line_texts one ≡ line_texts other
  pub publications : threads_in one ≡ threads_in other

-- So do as many turns, one after another.
abbrev pub AllApplySame : List (List Entry) → List (List Entry) → Type 0
AllApplySame [] [] = Unit {0}
AllApplySame [] (entries ∷ lists) = ⊥
AllApplySame (entries ∷ lists) [] = ⊥
AllApplySame (one ∷ some) (other ∷ more) = ApplySame one other × AllApplySame some more

-- ---- what they do

-- the rows and the checkpoints that turns write, one after another
abbrev pub rows_and_checkpoints : Plan → World → List (List Entry) → List Write
rows_and_checkpoints p w [] = []
rows_and_checkpoints p w (entries ∷ lists) =
    let t = turn p w entries in
    let next = t.world in t.writes ++ rows_and_checkpoints p next lists

-- Turns of two worlds come to one state, and write the same rows and checkpoints; so each file is the same after
-- both, but for the journal.
pub record TurnsDoSame (p : Plan) (w v : World) (one other : List (List Entry)) : Type 0 where
  pub state : (after_turns p w one).state ≡ (after_turns p v other).state
  pub rows : rows_and_checkpoints p w one ≡ rows_and_checkpoints p v other
  pub files : (name : List ℕ) (before : Option (List ℕ)) → same_name name journal_name ≡ false
      → content name (turns_writes p w one) before ≡ content name (turns_writes p v other) before

-- Worlds of one state do the same under lists that apply the same.
abbrev pub SameLinesDoTheSame : Type 0
SameLinesDoTheSame =
    (p : Plan) (w v : World) (one other : List (List Entry)) → w.state ≡ v.state → AllApplySame one other
    → TurnsDoSame p w v one other

-- Two runs of a state end with one state, and their files are the same, but for the journal.
pub record RunsWriteSame (p : Plan) (s : State) (one other : List (List Entry)) : Type 0 where
  pub ends : final p s one ≡ final p s other
  pub files : (name : List ℕ) (before : Option (List ℕ)) → same_name name journal_name ≡ false
      → file name p s one before ≡ file name p s other before

-- So it is with lists that apply the same.
abbrev pub SameLinesWriteTheSame : Type 0
SameLinesWriteTheSame =
    (p : Plan) (s : State) (one other : List (List Entry)) → AllApplySame one other → RunsWriteSame p s one other
