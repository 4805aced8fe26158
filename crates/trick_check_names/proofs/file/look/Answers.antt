use Rattle.std.proofs.Common.{◌≡◌, ◌∙◌, List, ap, sym}
use Rattle.trick_lang.specs.Syntax.{definitions_of}
use Rattle.trick_check_names.proofs.Noted.{decided}
use Rattle.trick_check_names.proofs.file.look.Goals as goal
use Rattle.trick_check_names.specs.FileMistakes.{definitions_mistakes}
use Rattle.trick_check_names.specs.Mistakes.{Mistake, fault_of, fault_of_found, noted, nothing_found}
use Rattle.trick_check_names.specs.declared.found.Found.{Found}

-- what was found of all mistakes decides as they do
found_all : (ms : List Mistake) (start f : Found) → start ≡ nothing_found → f ≡ noted ms start → fault_of_found f ≡ fault_of ms
found_all ms start f none found = ap fault_of_found (found ∙ ap (noted ms) none) ∙ decided ms

pub returns-in-Some-clause-err : goal.returns-in-Some-clause-err
returns-in-Some-clause-err c =
    let ms = definitions_mistakes (definitions_of c.args.definitions.now) c.args.scope.now in
    λ other.
    sym (found_all ms _ _ c.nothing-found.ensures c.in_ok-look_definitions.ensures.found) ∙ (sym c.fault.ensures ∙ c.in-Some.is)

pub returns-in-None-clause-ok : goal.returns-in-None-clause-ok
returns-in-None-clause-ok c =
    let ms = definitions_mistakes (definitions_of c.args.definitions.now) c.args.scope.now in
    sym (found_all ms _ _ c.nothing-found.ensures c.in_ok-look_definitions.ensures.found) ∙ (sym c.fault.ensures ∙ c.in-None.is)
