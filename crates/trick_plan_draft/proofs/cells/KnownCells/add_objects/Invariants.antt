use Rattle.std.proofs.Common.{◌≡◌, drop}
use Rattle.trick_plan_draft.specs.Cells.{with_objects}
use Rattle.trick_plan_draft.proofs.cells.KnownCells.add_objects.Given as goal

-- the objects that are left are still to be known
abbrev pub invariant-loop-object : goal.invariant-loop-object
invariant-loop-object l = record {
  known : with_objects (drop l.object-index l.objects) l.self ≡ with_objects l.objects l.fn.self;
  scalars : l.self.scalars ≡ l.fn.self.scalars;
}
