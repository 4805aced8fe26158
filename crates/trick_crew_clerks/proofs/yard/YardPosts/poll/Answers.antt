use Rattle.std.proofs.Common.{ap, subst, sym, ℕ, ◌≡◌, ◌∷◌, [], ⊎_elim}
use Rattle.std.specs.Arc.{arc_value}
use Rattle.std.specs.Prelude.{All}
use Rattle.trick_crew_clerks.proofs.Posted.{tended_of_post}
use Rattle.trick_crew_clerks.proofs.Tended.{tended_for}
use Rattle.trick_crew_clerks.proofs.yard.YardPosts.poll.Goals as goal
use Rattle.trick_crew_clerks.specs.Staffs.{RunsAtPost}
use Rattle.trick_crew_clerks.specs.Tending.{WasAsked}

pub invariant_of-self : goal.invariant_of-self
invariant_of-self g c =
    let yard = c.args.self.now in
    let same = ap arc_value c.poll.ensures.asked.1 in
    record {
      here_of_post = tended_of_post (λ (n : ℕ). n ≡ c.args.thread) (arc_value yard.desk.rack.lock) (arc_value c.poll.new.self.rack.lock) yard.staff.here.items
          c.attend_each.new.here.items same c.attend_each.ensures yard.here_of_post;
      away_of_post = subst (λ lock. ∥ All (RunsAtPost lock) yard.staff.away.items ∥₁) (sym same) yard.away_of_post;
    }

pub returns-clause-asked : goal.returns-clause-asked
returns-clause-asked g c = (
  c.poll.ensures.asked.0,
  tended_for (λ (n : ℕ). n ≡ c.args.thread) (WasAsked (record { thread = c.args.thread; turn = c.args.turn; answer = c.poll.result } ∷ [])) (λ n asked. ⊎_elim sym absurd asked) c.args.self.now.staff.here.items c.attend_each.new.here.items
      c.attend_each.ensures,
)
