use Rattle.std.proofs.Common.{◌≡◌, drop, map}
use Rattle.trick_body_symbols.specs.Symbols.{looked_up}
use Rattle.trick_body_symbols.proofs.lexer.looked_up.Given as goal

abbrev pub invariant-loop-row : goal.invariant-loop-row
invariant-loop-row l = looked_up l.bytes (map (λ row. (row.0.now, row.1)) l.rows) l.other ≡ looked_up l.bytes (map (λ row. (row.0.now, row.1)) (drop l.row-index l.rows)) l.other
