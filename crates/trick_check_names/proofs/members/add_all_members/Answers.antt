use Rattle.std.proofs.Common.{◌≡◌, ◌+◌, ◌∙◌, drop, subst, ap}
use Rattle.trick_lang.specs.Syntax.{all_members_of, members_of}
use Rattle.trick_check_names.proofs.Definitions.{members_next}
use Rattle.trick_check_names.proofs.Noted.{noted_next}
use Rattle.trick_check_names.proofs.members.add_all_members.Goals as goal
use Rattle.trick_check_names.specs.FileMistakes.{all_members_mistakes, members_mistakes}
use Rattle.trick_check_names.specs.Mistakes.{noted}
use Rattle.trick_check_names.specs.Tables.{with_all_members, with_members}

pub loop-written-preserved : goal.loop-written-preserved
loop-written-preserved c =
    let names = c.args.names.now in
    let xs = c.args.all.now in
    let i = c.loop-written.written-index in
    let item = members_of c.written-item.result in
    let known = c.loop-written.members in
    let next = members_next xs i c.written-item.result c.loop-written-test.true c.written-item.is in
    let rest = all_members_of (drop (i + 1) xs) in
    let done = c.in_ok-add_members.ensures in
    let members = subst (λ q. with_all_members q names known ≡ with_all_members (all_members_of xs) names c.args.members.now) next c.loop-written.invariant.members in
    let told = subst (λ q. noted (all_members_mistakes q names known) c.loop-written.found ≡ noted (all_members_mistakes (all_members_of xs) names c.args.members.now) c.args.found.now) next c.loop-written.invariant.told in
    record {
      members = ap (with_all_members rest names) done.members ∙ members;
      told = ap (λ ms. noted (all_members_mistakes rest names ms) c.add_members.new.found) done.members
          ∙ noted_next (members_mistakes item names known) (all_members_mistakes rest names (with_members item names known)) c.loop-written.found c.add_members.new.found _ told done.found;
    }
