use Rattle.std.proofs.Common.{◌≡◌, Bool, true, false, Some, None, sym, ◌∙◌}
use Rattle.std.proofs.lemmas.Bool.Decides.{Decides-eqb}
use Rattle.std.proofs.lemmas.Slice.Eq.{strip_prefix_is}
use Rattle.std.specs.Bool.{Decides}
use Rattle.trick_plan_deeds.proofs.Joined.{dot_behind, other_behind, other_front}
use Rattle.trick_plan_deeds.proofs.find.is_joined.Goals as goal

not_so : (b : Bool) (P : Type 0) → Decides b P → (P → ⊥) → b ≡ false
not_so true P decides apart = absurd (apart (decides.0 cc))
not_so false P decides apart = cc

pub returns-in_default : goal.returns-in_default
returns-in_default c =
    other_front c.args.name.now c.args.object.now c.args.method.now (strip_prefix_is Decides-eqb c.args.name.now c.args.object.now None c.in_default.ensures.cases)

pub returns-then-first-eq46 : goal.returns-then-first-eq46
returns-then-first-eq46 c =
    let is = strip_prefix_is Decides-eqb c.args.name.now c.args.object.now (Some c.in-Some.rest) c.in-Some.ensures.cases in
    c.eq.ensures ∙ dot_behind c.args.name.now c.args.object.now c.args.method.now c.in-Some.rest.now c.in-Some-split_first.behind.now c.in-Some-split_first.first.now is c.in-Some-split_first.ensures.cases.0 c.if-first-eq46.true

pub returns-else-first-eq46 : goal.returns-else-first-eq46
returns-else-first-eq46 c =
    let is = strip_prefix_is Decides-eqb c.args.name.now c.args.object.now (Some c.in-Some.rest) c.in-Some.ensures.cases in
    not_so _ _ (Decides-eqb c.in-Some-split_first.first.now 46) c.if-first-eq46.false
    ∙ sym (other_behind c.args.name.now c.args.object.now c.args.method.now c.in-Some.rest.now c.in-Some-split_first.behind.now c.in-Some-split_first.first.now is c.in-Some-split_first.ensures.cases.0 c.if-first-eq46.false)
