use Rattle.std.proofs.Common.{◌∙◌, ap, sym}
use Rattle.trick_input.proofs.Cuts.{call_is, refused_is}
use Rattle.trick_input.specs.Forms.{outcome_of}
use Rattle.trick_input.specs.Lexemes.{classes}
use Rattle.trick_input.specs.Lines.{fault_at}
use Rattle.trick_input.specs.Says.{form_of}
use Rattle.trick_input.specs.Seen.{all_seen}
use Rattle.trick_input.proofs.reader.read_line.Goals as goal

pub returns-in-Ok : goal.returns-in-Ok
returns-in-Ok c =
    call_is c.args.text.now c.args.tokens.now (all_seen c.in_ok-words.words.items) c.in-Ok.row c.in_ok-form_of-in-Ok.field-0 c.line_of-line.result c.in_ok-words.ensures
    (ap (λ ws. outcome_of (classes (all_seen ws))) (sym c.deref.ensures.value) ∙ (sym c.row_of.ensures ∙ c.in-Ok.is))
    (c.in_ok-form_of-in-Ok.ensures ∙ ap (λ ws. form_of c.in-Ok.row (all_seen ws)) c.deref-in-Ok.ensures.value) c.line_of-line.ensures

pub returns : goal.returns
returns c =
    refused_is c.args.text.now c.args.tokens.now (all_seen c.in_ok-words.words.items) c.in-Err.place c.fault_at.result c.line_of-line.result c.in_ok-words.ensures
    (ap (λ ws. outcome_of (classes (all_seen ws))) (sym c.deref.ensures.value) ∙ (sym c.row_of.ensures ∙ c.in-Err.is))
    (c.fault_at.ensures ∙ ap (λ ws. fault_at c.line_of-line.result (classes (all_seen ws)) c.in-Err.place) c.deref-in-Err.ensures.value) c.line_of-line.ensures
