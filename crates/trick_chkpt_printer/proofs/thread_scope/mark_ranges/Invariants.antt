use Rattle.std.proofs.Common.{◌≡◌, ℕ, ◌<◌, length, drop}
use Rattle.std.specs.Prelude.{◌||◌}
use Rattle.trick_chkpt_printer.proofs.thread_scope.mark_ranges.Given as goal
use Rattle.trick_chkpt_printer.specs.Marks.{is_marked}
use Rattle.trick_lang.specs.Access.{is_in}

abbrev pub invariant-loop-range : goal.invariant-loop-range
invariant-loop-range l =
    (c : ℕ) → c < length l.fn.marks →
    (is_in (drop l.range-index l.ranges) c || is_marked l.marks c) ≡ (is_in l.ranges c || is_marked l.fn.marks c)
