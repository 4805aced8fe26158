use Rattle.std.proofs.Common.{◌≡◌, ◌+◌, ◌∙◌, drop, subst, ap}
use Rattle.trick_lang.specs.Syntax.{definition_of, definitions_of}
use Rattle.trick_check_names.proofs.Definitions.{definitions_next}
use Rattle.trick_check_names.proofs.Noted.{noted_next}
use Rattle.trick_check_names.proofs.file.look_definitions.Goals as goal
use Rattle.trick_check_names.specs.FileMistakes.{definition_mistakes, definitions_mistakes, past}
use Rattle.trick_check_names.specs.Mistakes.{noted}
use Rattle.trick_check_names.specs.declared.scope.FileScope.{FileScope}

pub loop-definition-preserved : goal.loop-definition-preserved
loop-definition-preserved c =
    let xs = c.args.definitions.now in
    let i = c.loop-definition.definition-index in
    let item = definition_of c.definition-item.result in
    let w = c.loop-definition.scope in
    let next = definitions_next xs i c.definition-item.result c.loop-definition-test.true c.definition-item.is in
    let rest = definitions_of (drop (i + 1) xs) in
    let done = c.in_ok-look_definition.ensures in
    let told = subst (λ q. noted (definitions_mistakes q w) c.loop-definition.found ≡ noted (definitions_mistakes (definitions_of xs) c.args.scope.now) c.args.found.now) next c.loop-definition.invariant.told in
    record {
      number = ap (λ (v : FileScope). v.own + 1) done.scope ∙ ap (λ n. n + 1) c.loop-definition.invariant.number;
      tables = ap (λ (v : FileScope). v.tables) done.scope ∙ c.loop-definition.invariant.tables;
      told = ap (λ (v : FileScope). noted (definitions_mistakes rest (record { tables = v.tables; names = v.names; own = v.own + 1 })) c.look_definition.new.found) done.scope
          ∙ noted_next (definition_mistakes item w) (definitions_mistakes rest (past item w)) c.loop-definition.found c.look_definition.new.found _ told done.found;
    }
