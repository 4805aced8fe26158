use Rattle.std.proofs.Common.{rules, ap, sym, ◌∙◌, ◌++◌, ◌∷◌, []}
use Rattle.trick_wire.proofs.Writing.{wrote_then, wrote_more}
use Rattle.trick_wire.specs.Ends.{taken_by}
use Rattle.trick_wire.proofs.writer.write_messages.Goals as goal

pub returns-then-ne-clause-wrote : goal.returns-then-ne-clause-wrote
returns-then-ne-clause-wrote g c = λ none. let h = c.loop.invariant.1 none in
    wrote_then _ _ _ _ _ _ _ _ _ _ h.0 h.1 c.write_whole-stop.ensures (c.in-Some-pop.ensures.taken ∙ ap (λ m. taken_by c.loop.outbox ++ m ∷ []) (sym c.as_slice.ensures))

pub loop-preserved : goal.loop-preserved
loop-preserved g c = (
  search rules,
  λ none. let h = c.loop.invariant.1 none in
      wrote_more _ _ _ _ _ _ _ _ _ _ h.0 h.1 c.write_whole-stop.ensures (search rules) (c.in-Some-pop.ensures.taken ∙ ap (λ m. taken_by c.loop.outbox ++ m ∷ []) (sym c.as_slice.ensures)),
)
