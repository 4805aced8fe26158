-- What goes on from the last state of a run.
use Rattle.std.specs.Prelude.{◌≡◌, ◌≤◌, ℕ, List, Option, codes}
use Rattle.trick_model.specs.Files.{file}
use Rattle.trick_model.specs.Journal.{Noted}
use Rattle.trick_model.specs.Plan.{Plan}
use Rattle.trick_model.specs.Run.{Fits, final, lists_of}
use Rattle.trick_model.specs.State.{State}
use Rattle.trick_model.specs.declared.entry.Entry.{Entry}

-- A run from the last state of a run, under a journal with the end of that run, is over at once and has no turn. It
-- ends in the same state, and its last two files are those of the run: so `final.chk` is the checkpoint of a frame.
pub record GoesNoFurther (p : Plan) (s : State) (lists : List (List Entry)) (entries : List Noted) (end : ℕ)
    : Type 0 where
  pub fits : Fits p (final p s lists) (lists_of entries end (final p s lists).turn (final p s lists).mode)
  pub ends : final p (final p s lists) (lists_of entries end (final p s lists).turn (final p s lists).mode)
      ≡ final p s lists
  pub last : (before later : Option (List ℕ)) → file (codes "final.chk") p s lists before
      ≡ file (codes "final.chk") p (final p s lists)
      (lists_of entries end (final p s lists).turn (final p s lists).mode) later
  pub faults : (before later : Option (List ℕ)) → file (codes "faults.txt") p s lists before
      ≡ file (codes "faults.txt") p (final p s lists)
      (lists_of entries end (final p s lists).turn (final p s lists).mode) later

-- So it is with each list of entries and each end that is not above the turn of that state.
abbrev pub LastGoesNoFurther : Type 0
LastGoesNoFurther =
    (p : Plan) (s : State) (lists : List (List Entry)) (entries : List Noted) (end : ℕ) → end ≤ (final p s lists).turn
    → GoesNoFurther p s lists entries end
