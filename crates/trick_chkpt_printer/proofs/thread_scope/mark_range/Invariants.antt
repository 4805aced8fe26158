use Rattle.std.proofs.Common.{◌≡◌, ℕ, ◌<◌, length}
use Rattle.std.specs.Prelude.{◌&&◌, ◌||◌, nat_le, nat_lt}
use Rattle.trick_chkpt_printer.proofs.thread_scope.mark_range.Given as goal
use Rattle.trick_chkpt_printer.specs.Marks.{is_marked}

abbrev pub invariant-loop-cell : goal.invariant-loop-cell
invariant-loop-cell l =
    (c : ℕ) → c < length l.fn.marks →
    is_marked l.marks c ≡ ((nat_le l.first c && nat_lt c l.cell) || is_marked l.fn.marks c)
