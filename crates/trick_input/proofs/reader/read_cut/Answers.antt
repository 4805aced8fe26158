use Rattle.std.proofs.Common.{◌∙◌, ap, arith, sym}
use Rattle.trick_input.proofs.Cuts.{cut_is}
use Rattle.trick_input.specs.Forms.{outcome_of}
use Rattle.trick_input.specs.Lexemes.{classes}
use Rattle.trick_input.specs.Lines.{fault_at}
use Rattle.trick_input.specs.Seen.{all_seen}
use Rattle.trick_input.proofs.reader.read_cut.Goals as goal

pub returns : goal.returns
returns c =
    cut_is c.args.text.now c.args.first c.args.tokens.now (all_seen c.in-Ok.words.items) c.in-Err.place c.fault_at.result c.line_of.result c.in-Ok.ensures
    (ap (λ ws. outcome_of (classes (all_seen ws))) (sym c.deref.ensures.value) ∙ (sym c.row_of.ensures ∙ c.in-Err.is))
    (λ e. omega (arith, e, c.if-place-eq0.false))
    (c.fault_at.ensures ∙ ap (λ ws. fault_at c.line_of.result (classes (all_seen ws)) c.in-Err.place) c.deref-else-place-eq0.ensures.value) c.line_of.ensures
