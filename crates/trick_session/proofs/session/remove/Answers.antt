use Rattle.std.proofs.Common.{ℕ, List, Option, ap, rules, ◌∙◌}
use Rattle.std.proofs.lemmas.Fn.{filter_same}
use Rattle.std.specs.Prelude.{not}
use Rattle.std.specs.Str.{bytes_eq}
use Rattle.trick_lang.specs.declared.cells.Cell.{Cell}
use Rattle.trick_model.specs.Session.{without}
use Rattle.trick_session.proofs.session.remove.Goals as goal

pub returns : goal.returns
returns c =
    c.from_vec.ensures
    ∙ filter_same _ (λ (v : List ℕ × Option Cell). not (bytes_eq v.0 c.args.name.now)) _ (λ x b f k. search rules) _ _ c.retain.ensures.filtered
    ∙ ap (without c.args.name.now) (c.into_vec-kept.ensures ∙ c.replace.ensures.value)
