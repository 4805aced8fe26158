use Rattle.std.proofs.Common.{◌≡◌, ◌++◌, drop, length, map}
use Rattle.serde_json.specs.View.{view}
use Rattle.trick_memory.proofs.Entries.{datas}
use Rattle.trick_memory.proofs.list.listing.Given as goal

abbrev pub invariant-loop-variable : goal.invariant-loop-variable
invariant-loop-variable l = record {
  count : length l.entries.items ≡ l.variable-index;
  so_far : map view l.entries.items ++ datas l.variable-index (drop l.variable-index l.plan.program.cells)
      ≡ datas 0 l.plan.program.cells;
}
