use Rattle.std.proofs.Common.{◌≡◌, add-one, false, get_or, length, ap, sym, ◌∙◌, subst, arith}
use Rattle.trick_check_bodies.specs.Classes.{Made, made}
use Rattle.trick_check.proofs.Walked.{first_layout, sizes_fit}
use Rattle.trick_check.proofs.walk.make_classes.Goals as goal
use Rattle.trick_check.specs.Parts.{order_at, parts_at}
use Rattle.trick_check.specs.Walk.{SizesFit, has_object, made_of_first, nothing_made, with_class_if}
use Rattle.trick_lang.specs.Syntax.{definitions_of}
use Rattle.trick_check_names.specs.Kept.{AreLaid}

pub loop-class-init : goal.loop-class-init
loop-class-init c = record {
  is_made = c.nothing-bodies.ensures.made ∙ ap nothing_made c.requires.layout;
  whole = c.nothing-bodies.ensures.whole;
}

pub add_definition-requires-clause-laid : goal.add_definition-requires-clause-laid
add_definition-requires-clause-laid c =
    let ds = definitions_of c.args.definitions.now in
    let layout = ap (λ (m : Made). m.progress.scope.layout) c.loop-class.invariant.is_made ∙ first_layout ds c.args.objects.now c.loop-class.class in
    subst AreLaid (sym (layout ∙ sym c.requires.layout)) c.requires.laid

pub add_definition-requires-clause-sizes : goal.add_definition-requires-clause-sizes
add_definition-requires-clause-sizes c =
    let ds = definitions_of c.args.definitions.now in
    let layout = ap (λ (m : Made). m.progress.scope.layout) c.loop-class.invariant.is_made ∙ first_layout ds c.args.objects.now c.loop-class.class in
    subst SizesFit (sym layout) (sizes_fit ds)

pub loop-class-preserved : goal.loop-class-preserved
loop-class-preserved c =
    let ds = definitions_of c.args.definitions.now in
    let objects = c.args.objects.now in
    let class = c.loop-class.class in
    let order = order_at ds class in
    let parts = parts_at ds class in
    let used : get_or c.as_slice-used.result.now class false ≡ has_object objects class =
    ap (λ us. get_or us class false) c.as_slice-used.ensures.value ∙ c.in_ok-marks.ensures.used class (omega arith) in
    record {
      is_made =
          c.in_ok-add_definition.ensures.made
          ∙ (ap (λ b. with_class_if b class order parts (made c.loop-class.bodies)) used
          ∙ (ap (λ (m : Made). with_class_if (has_object objects class) class order parts m) c.loop-class.invariant.is_made
          ∙ ap (λ n. made_of_first ds objects n) (sym (add-one class))));
      whole = c.in_ok-add_definition.ensures.whole;
    }

pub returns-clause-made : goal.returns-clause-made
returns-clause-made c =
    let ds = definitions_of c.args.definitions.now in
    let all : c.loop-class.class ≡ length c.args.definitions.now = omega arith in
    subst (λ n. made c.loop-class.bodies ≡ made_of_first ds c.args.objects.now n) all c.loop-class.invariant.is_made
