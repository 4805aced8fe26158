use Rattle.std.proofs.Common.{rules, ap, arith, sym, ◌∙◌, ◌++◌, ◌∷◌, []}
use Rattle.trick_wire.proofs.Joining.{wrote_front}
use Rattle.trick_wire.proofs.Writing.{wrote_then, wrote_more}
use Rattle.trick_wire.specs.Ends.{taken_by}
use Rattle.trick_wire.proofs.join.write_left.Goals as goal

pub returns-then-ne : goal.returns-then-ne
returns-then-ne g c = record {
  later = (let before = c.loop.invariant.3 in let more = c.write_whole-stop.ensures.later in omega arith);
  wrote = λ start before took less. let h = c.loop.invariant.2 start before took less in
      let w = wrote_then start _ _ before _ _ _ _ _ _ h.0 h.1 c.write_whole-stop.ensures (c.in-Some-pop.ensures.taken ∙ ap (λ m. taken_by c.loop.outbox ++ m ∷ []) (sym c.as_slice.ensures)) in
      let left = c.learn.ensures.left (search rules) in wrote_front start _ before _ _ _ left.0 _ w (sym c.loop.invariant.1 ∙ sym c.in-Some-pop.ensures.given ∙ left.1) (search rules);
}

pub loop-preserved : goal.loop-preserved
loop-preserved g c = (
  search rules,
  search rules,
  λ start before took less. let h = c.loop.invariant.2 start before took less in
      wrote_more start _ _ before _ _ _ _ _ _ h.0 h.1 c.write_whole-stop.ensures (search rules) (c.in-Some-pop.ensures.taken ∙ ap (λ m. taken_by c.loop.outbox ++ m ∷ []) (sym c.as_slice.ensures)),
  (let before = c.loop.invariant.3 in let more = c.write_whole-stop.ensures.later in omega arith),
)
