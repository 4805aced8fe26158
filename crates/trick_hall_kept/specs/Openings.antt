-- What the chief's own entries say of the tic that is open.
use Rattle.std.specs.Prelude.{ℕ, ℤ, List, [], ◌∷◌, Option, Some, None}
use Rattle.trick_phase_board.specs.Board.{Opened}
use Rattle.trick_hall_kept.specs.HallView.{HallView}
use Rattle.trick_hall_kept.specs.Histories.{Opening}
use Rattle.trick_hall_kept.specs.declared.entry.Entry.{Entry}
use Rattle.trick_hall_kept.specs.declared.entry.Entry.TheVariants.{Open, Take, Commit, Close, Shut}
use Rattle.trick_model.specs.declared.flags.Flags.{Flags}

abbrev pub opened_from : Option Opening → List Entry → Option Opening
opened_from o [] = o
opened_from o (Open seat memory on tic ∷ es) =
    opened_from (Some (record { memory = memory; on = on; tic = tic })) es
opened_from o (Take seat job ∷ es) = opened_from o es
opened_from o (Commit seat job ∷ es) = opened_from o es
opened_from o (Close seat ∷ es) = opened_from None es
opened_from o (Shut seat ∷ es) = opened_from o es

-- what the last open of these entries put in, where no close came after it
abbrev pub opened_at : List Entry → Option Opening
opened_at own = opened_from None own

-- ---- the entry of an open

abbrev pub memory_in : Option Opened → List ℤ
memory_in None = []
memory_in (Some o) = o.progress.memory

-- the entry that opened the board that is now behind the turn, by the memory that it has
abbrev pub open_entry : HallView → Flags → ℕ → Entry
open_entry hall on tic = Open 1 (memory_in hall.board.opened) on tic
