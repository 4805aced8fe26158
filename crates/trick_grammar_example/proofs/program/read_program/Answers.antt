use Rattle.std.proofs.Common.{refl, subst, ap, ◌∙◌}
use Rattle.trick_grammar.proofs.Exact.{exact}
use Rattle.trick_grammar.proofs.Fronts.{front_is}
use Rattle.trick_grammar.specs.Gives.{class_of}
use Rattle.trick_grammar.specs.Text.{IsExact}
use Rattle.trick_grammar_example.specs.Statements.{program}
use Rattle.trick_grammar_example.specs.Told.{told_line}
use Rattle.trick_grammar_example.specs.Words.{number_of, spelled}
use Rattle.trick_grammar_example.proofs.Predictive.{program_test}
use Rattle.trick_grammar_example.proofs.program.read_program.Goals as goal

pub returns-in-Ok : goal.returns-in-Ok
returns-in-Ok c =
    let text = c.args.cut.text.now in
    let ts = c.args.cut.tokens.now in
    let g = program text c.args.limit c.args.depth in
    subst (IsExact number_of class_of spelled g ts) c.in-Ok.ensures (exact number_of class_of spelled (λ word. refl) g (program_test text c.args.limit c.args.depth) refl ts)

pub returns-in-Err-At : goal.returns-in-Err-At
returns-in-Err-At c =
    let text = c.args.cut.text.now in
    let ts = c.args.cut.tokens.now in
    let rest = c.in-Err-At.rest.now in
    let g = program text c.args.limit c.args.depth in
    let e = rw c.in-Err-At.field-0-is at c.in-Err-At.ensures in
    let exactly = subst (IsExact number_of class_of spelled g ts) e (exact number_of class_of spelled (λ word. refl) g (program_test text c.args.limit c.args.depth) refl ts) in
    let line = c.told_at.ensures ∙ ap (λ us. told_line c.args.cut.last_line c.in-Err-At.kind us rest) (front_is ts exactly.front rest exactly.parts) in
    (exactly.front, rest, exactly.parts, exactly, line, e)
