use Rattle.std.proofs.Common.{◌≡◌, ◌+◌, ◌≤◌, ◌++◌, [], length, true}
use Rattle.trick_journal.proofs.reader.read_rows.Given as goal
use Rattle.trick_journal.specs.Fronts.{front_text, going}
use Rattle.trick_journal.specs.Rules.{Keeps}
use Rattle.trick_model.specs.JournalText.{all_may_publish}
use Rattle.trick_model.specs.PlanOf.{plan_of}

abbrev pub invariant-loop-here : goal.invariant-loop-here
invariant-loop-here l = record {
  keeps : Keeps l.rows;
  from : l.rows.from ≡ l.from;
  published : all_may_publish (plan_of l.plan) l.rows.entries ≡ true;
  room : length l.rows.entries + length l.here ≤ length l.fn.text;
  text : front_text (going l.from []) ++ l.fn.text ≡ front_text (going l.from l.rows.entries) ++ l.here;
}

abbrev pub decreases-loop-here : goal.decreases-loop-here
decreases-loop-here l = length l.here
