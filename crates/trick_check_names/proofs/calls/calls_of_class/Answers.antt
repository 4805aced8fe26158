use Rattle.std.proofs.Common.{◌≡◌, ◌+◌, ◌++◌, ◌∷◌, [], List, ℕ, drop, ap, ◌∙◌, subst}
use Rattle.std.proofs.lemmas.List.{append_assoc}
use Rattle.trick_lang.specs.Syntax.{class_parts_of}
use Rattle.trick_check_names.proofs.Definitions.{parts_next}
use Rattle.trick_check_names.proofs.calls.calls_of_class.Goals as goal
use Rattle.trick_check_names.specs.Calls.{class_calls}

pub loop-part-preserved : goal.loop-part-preserved
loop-part-preserved c =
    let own = c.args.own.now in
    let xs = c.args.parts.now in
    let i = c.loop-part.part-index in
    let before : List (List ℕ) = c.loop-part.calls.items in
    let next = parts_next xs i c.part-item.result c.loop-part-test.true c.part-item.is in
    let rest = class_calls (class_parts_of (drop (i + 1) xs)) own in
    let was = subst (λ q. before ++ class_calls q own ≡ class_calls (class_parts_of xs) own) next c.loop-part.invariant in
    ap (λ cs. cs ++ rest) c.in_ok-push.ensures.items ∙ (append_assoc before (c.in_ok-of_part.of_part ∷ []) rest ∙ (ap (λ x. before ++ x ∷ rest) c.in_ok-of_part.ensures ∙ was))
