use Rattle.std.proofs.Common.{◌∙◌, refl, subst, sym}
use Rattle.trick_top_words.specs.Command.{HasRest}
use Rattle.trick_top_words.specs.Reads.{values_of}
use Rattle.trick_top_words.proofs.command.texts_of.Goals as goal

pub returns : goal.returns
returns c =
    let rest = subst (λ f. HasRest (values_of c.args.found.now) f c.args.task) c.in_ok-from.ensures c.requires.rest in
    (refl, ((sym c.get_str.ensures ∙ c.in_ok-s_define.ensures, sym c.get_str-2.ensures ∙ c.in_ok-input.ensures), rest))
