use Rattle.std.proofs.Common.{◌≡◌, take, drop, sym, ap, ◌∙◌, Result, Err, rules}
use Rattle.std.proofs.lemmas.List.{take-append-drop}
use Rattle.trick_command.proofs.FedPieces.{one_more}
use Rattle.trick_command.specs.Fed.{Fed}
use Rattle.trick_command.specs.declared.feed_fault.FeedFault.{FeedFault}
use Rattle.trick_command.specs.declared.feed_fault.FeedFault.TheVariants.{LongLine, OutOfMemory}
use Rattle.trick_command.proofs.feed.Feed.push.Goals as goal

differ : (r : Result (Unit {0}) FeedFault) → r ≡ Err OutOfMemory → r ≡ Err LongLine → ⊥
differ r memory long = cc

pub returns-in_err-take-clause-long : goal.returns-in_err-take-clause-long
returns-in_err-take-clause-long c = (
  λ e. absurd (differ c.from_residual.result (search rules) e),
  λ e. absurd (c.in_err-take.ensures.takes (sym (ap (λ (f : Fed). f.held) c.in_err-take.ensures.err) ∙ e)),
)

pub returns-in_err-take-clause-memory : goal.returns-in_err-take-clause-memory
returns-in_err-take-clause-memory c = λ _. (
  take c.loop-byte.byte-index c.args.piece.now,
  drop c.loop-byte.byte-index c.args.piece.now,
  sym (take-append-drop c.loop-byte.byte-index c.args.piece.now),
  c.in_err-take.ensures.err ∙ c.loop-byte.invariant,
)

pub loop-byte-preserved : goal.loop-byte-preserved
loop-byte-preserved c = one_more c.args.self.now c.loop-byte.self c.take.new.self c.args.piece.now c.loop-byte.byte-index _ c.loop-byte-test.true c.loop-byte.invariant c.in_ok-take.ensures.ok
