use Rattle.std.proofs.Common.{◌≡◌}
use Rattle.std.specs.List.{list_any}
use Rattle.std.specs.Prelude.{false, not, take}
use Rattle.trick_exec_turn.proofs.lines.count_lines.Given as goal
use Rattle.trick_model.specs.Journal.{is_of_session}

-- the entries so far are lines
abbrev pub invariant-loop-entry : goal.invariant-loop-entry
invariant-loop-entry l =
    record {
      count : l.count ≡ l.entry-index;
      lines : list_any (λ entry. not (is_of_session entry)) (take l.entry-index l.entries) ≡ false;
    }
