-- The pass that an entry names.
use Rattle.std.specs.Prelude.{ℕ}
use Rattle.trick_turn_tests.specs.declared.board.Entry.{Entry}
use Rattle.trick_turn_tests.specs.declared.board.Entry.TheVariants.{Open, Store, Close}

abbrev pub seat_of : Entry → ℕ
seat_of (Open seat numbers flags tic) = seat
seat_of (Store seat cell number) = seat
seat_of (Close seat) = seat
