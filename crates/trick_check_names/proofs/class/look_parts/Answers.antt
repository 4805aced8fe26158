use Rattle.std.proofs.Common.{◌≡◌, ◌+◌, ◌++◌, ◌∙◌, drop, subst, ap}
use Rattle.trick_lang.specs.Syntax.{class_part_of, class_parts_of}
use Rattle.trick_check_names.proofs.Definitions.{parts_next}
use Rattle.trick_check_names.proofs.Noted.{noted_next}
use Rattle.trick_check_names.proofs.class.look_parts.Goals as goal
use Rattle.trick_check_names.specs.FileMistakes.{class_mistakes, declared_mistakes, done_mistakes}
use Rattle.trick_check_names.specs.Mistakes.{noted}
use Rattle.trick_check_names.specs.Tables.{behind_part}

pub loop-number-preserved : goal.loop-number-preserved
loop-number-preserved c =
    let w = c.args.scope.now in
    let class = c.args.class.now in
    let xs = c.args.parts.now in
    let i = c.loop-number.number in
    let item = class_part_of c.index-parts-number.result in
    let inside = c.loop-number.inside in
    let next = parts_next xs i c.index-parts-number.result c.loop-number-test.true c.index-parts-number.is in
    let rest = class_parts_of (drop (i + 1) xs) in
    let added = c.in_ok-add_part.ensures in
    let told = subst (λ q. noted (class_mistakes q i class inside w) c.loop-number.found ≡ noted (class_mistakes (class_parts_of xs) 0 class c.args.inside.now w) c.args.found.now) next c.loop-number.invariant in
    let left = class_mistakes rest (i + 1) class (behind_part item i w.names inside) w in
    let declared = noted_next (declared_mistakes item w.names inside) (done_mistakes item class w ++ left) c.loop-number.found c.add_part.new.found _ told added.found in
    ap (λ s. noted (class_mistakes rest (i + 1) class s w) c.look_part.new.found) added.inside
    ∙ noted_next (done_mistakes item class w) left c.add_part.new.found c.look_part.new.found _ declared c.in_ok-look_part.ensures
