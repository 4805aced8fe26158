use Rattle.std.proofs.Common.{◌∙◌, ◌∷◌, ◌+◌, ap, arith, drop, sym}
use Rattle.std.proofs.lemmas.List.{drop_more}
use Rattle.trick_crew_team.proofs.Starting.{refused_more}
use Rattle.trick_crew_team.proofs.members.add_refused.Goals as goal

pub loop-member-preserved : goal.loop-member-preserved
loop-member-preserved g c =
    let members = c.args.members.now in
    let i = c.loop-member.member-index in
    let member = c.member-item.result in
    record {
      room = omega (arith, c.loop-member.invariant.room, c.add_if_refused.ensures.len);
      capacity = c.add_if_refused.ensures.capacity ∙ c.loop-member.invariant.capacity;
      so_far = refused_more members i member (λ w. w.thread) c.loop-member.threads.items c.add_if_refused.new.threads.items _
          (ap (λ m. m ∷ drop (i + 1) members) c.member-item.is ∙ sym (drop_more members i member c.loop-member-test.true))
          c.add_if_refused.ensures.added c.loop-member.invariant.so_far;
    }
