use Rattle.std.proofs.Common.{◌≡◌}
use Rattle.trick_serve_source.proofs.served.Served.find.Given as goal
use Rattle.trick_serve_source.specs.Looks.{HasLooked}
use Rattle.trick_serve_source.specs.Rolls.{view_of}
use Rattle.trick_wire.specs.Ends.{IsSamePutter, IsSameTaker}

abbrev pub invariant-loop : goal.invariant-loop
invariant-loop g l = record {
  asked : g.A.Asks.keeps l.fn.asks l.asks;
  looks : HasLooked (view_of l.fn.self) (view_of l.self);
  coming : IsSameTaker l.fn.self.coming l.self.coming;
  gone : IsSamePutter l.fn.self.gone l.self.gone;
  reached : l.self.reached ≡ l.fn.self.reached;
  broke : l.self.broke ≡ l.fn.self.broke;
}
