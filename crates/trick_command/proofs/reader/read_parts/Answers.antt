use Rattle.std.proofs.Common.{◌∙◌, arith, refl, sym}
use Rattle.trick_command.proofs.Pieces.{next_within, part_next}
use Rattle.trick_command.specs.Answers.{actions_of_words}
use Rattle.trick_command.specs.Seen.{lexemes_in}
use Rattle.trick_command.proofs.reader.read_parts.Goals as goal

pub loop-found-preserved : goal.loop-found-preserved
loop-found-preserved c = record {
  read = part_next c.loop-found.found.items c.push.new.self.items c.loop-found.rest.now _ _ c.part_len-len.result c.in-Some.action (actions_of_words (lexemes_in c.args.words.now)) c.part_len-len.ensures.parts refl (sym c.in-Some.is ∙ c.in_ok-action.ensures) c.in_ok-push.ensures.items c.loop-found.invariant.read refl (omega (arith, c.part_len-len.ensures.within, c.if-len-rest.false));
  within = next_within c.args.words.now c.loop-found.rest.now _ _ c.loop-found.invariant.within;
}
