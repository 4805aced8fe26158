use Rattle.std.proofs.Common.{rules, ◌++◌, ◌∷◌, []}
use Rattle.trick_wire.proofs.Reading.{one_line_more}
use Rattle.trick_wire.proofs.letterbox.Letterbox.put_lines.Goals as goal

pub loop-preserved : goal.loop-preserved
loop-preserved g c = let h = c.loop.invariant in let line = c.in-Some-pull.line in
    let more = one_line_more h.0 _ _ _ line _ _ _ h.1 c.in-Some-pull.ensures.line h.2 (c.put.ensures.put (search rules)) in (h.0 ++ line ∷ [], more.0, more.1, search rules, search rules)
