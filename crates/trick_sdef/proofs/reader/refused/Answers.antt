use Rattle.std.proofs.Common.{inl, inr, ap, ◌∙◌, sym, ◌-◌, length, take}
use Rattle.trick_body_symbols.specs.Symbols.{number_of, Token}
use Rattle.trick_grammar.specs.Reading.{Refused}
use Rattle.trick_grammar.specs.Gives.{class_of}
use Rattle.trick_grammar.specs.Text.{read_all}
use Rattle.trick_sdef.proofs.Refused.{fault_at_end, file_refused, nil_of, not_nil}
use Rattle.trick_sdef.specs.Answers.{told_behind}
use Rattle.trick_sdef_classes.specs.Profile.{file}
use Rattle.trick_sdef.proofs.reader.refused.Goals as goal

pub returns-in-None : goal.returns-in-None
returns-in-None c e =
    let r = c.args.read in
    let z : Refused Token = record { kind = c.args.reason; rest = c.args.rest.now } in
    file_refused r.text.now r.tokens.now c.args.fault z _ (ap (λ us. read_all number_of class_of (file r.text.now) us) (sym c.requires.lexemes) ∙ e) (inl c.in-None.is) (c.told_by.ensures ∙ ap (λ us. told_behind r.text.now r.tokens.now (take (length us - length c.args.rest.now) us) z) c.requires.lexemes)

pub returns-in-empty : goal.returns-in-empty
returns-in-empty c e =
    let r = c.args.read in
    rw c.in-Some.is (fault_at_end r.text.now r.tokens.now c.args.reason c.args.rest.now c.in-Some.first (nil_of c.args.rest.now c.in-empty.len_below) (ap (λ us. read_all number_of class_of (file r.text.now) us) (sym c.requires.lexemes) ∙ e))

pub returns-in-len1-up : goal.returns-in-len1-up
returns-in-len1-up c e =
    let r = c.args.read in
    let z : Refused Token = record { kind = c.args.reason; rest = c.args.rest.now } in
    file_refused r.text.now r.tokens.now c.args.fault z _ (ap (λ us. read_all number_of class_of (file r.text.now) us) (sym c.requires.lexemes) ∙ e) (inr (not_nil c.args.rest.now c.in-len1-up.len_at_least)) (c.told_by-in-len1-up.ensures ∙ ap (λ us. told_behind r.text.now r.tokens.now (take (length us - length c.args.rest.now) us) z) c.requires.lexemes)
