use Rattle.std.proofs.Common.{ap, ◌∙◌, refl, sym, subst}
use Rattle.trick_body_symbols.specs.Symbols.{number_of}
use Rattle.trick_grammar.specs.Gives.{class_of}
use Rattle.trick_grammar.specs.Text.{read_all}
use Rattle.trick_sdef.proofs.Refused.{all_read, fault_behind, file_read}
use Rattle.trick_text.specs.Tokens.{IsCut}
use Rattle.trick_text.specs.declared.token.Style.TheVariants as style
use Rattle.trick_sdef_classes.specs.Profile.{file}
use Rattle.trick_sdef.proofs.reader.read_cut.Goals as goal

pub returns-in-None : goal.returns-in-None
returns-in-None c =
    let r = c.args.read in
    rw c.in-None.is (file_read r.text.now r.tokens.now c.in-Ok.definitions.items c.whole_of.result c.whole_of.ensures
    (ap (λ us. read_all number_of class_of (file r.text.now) us) (sym c.requires.lexemes) ∙ c.in-Ok.ensures))

pub returns-in-Some : goal.returns-in-Some
returns-in-Some c =
    let r = c.args.read in
    rw c.in-Some.is (fault_behind r.text.now r.tokens.now c.in-Ok.definitions.items c.in-Some.first (ap (λ us. read_all number_of class_of (file r.text.now) us) (sym c.requires.lexemes) ∙ c.in-Ok.ensures))

pub refused-requires-clause-tokens : goal.refused-requires-clause-tokens
refused-requires-clause-tokens c = all_read style.SDefine c.args.read.text.now c.args.read.tokens.now c.args.fault c.requires.cut

pub whole_of-requires-clause-cut : goal.whole_of-requires-clause-cut
whole_of-requires-clause-cut c =
    subst (IsCut style.SDefine c.args.read.text.now c.args.read.tokens.now) c.in-None.is c.requires.cut
