use Rattle.std.proofs.Common.{◌≡◌, drop}
use Rattle.std.specs.List.{list_any}
use Rattle.trick_model.specs.Journal.{is_of_session}
use Rattle.trick_exec_sources.proofs.due.has_line.Given as goal

abbrev pub invariant-loop-entry : goal.invariant-loop-entry
invariant-loop-entry l = list_any is_of_session (drop l.entry-index l.list) ≡ list_any is_of_session l.list
