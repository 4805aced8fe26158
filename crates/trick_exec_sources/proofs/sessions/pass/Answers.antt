use Rattle.std.proofs.Common.{BTreeSet, ℕ, sym, ap, subst, ◌∙◌}
use Rattle.trick_exec_sources.proofs.Joining.{insert_last, quiet, remove_one}
use Rattle.trick_exec_sources.specs.Due.{MayCome, live_with}
use Rattle.trick_model.specs.declared.entry.Entry.{Entry}
use Rattle.trick_exec_sources.proofs.sessions.pass.Goals as goal
use Rattle.trick_exec_sources.proofs.sessions.pass.Goals.{in-Join+in_ok-insert-in-Join, in-Leave, in-Said}

pub returns : goal.returns
returns c =
    let live = c.args.live.now.keys in
    elim (c.match-entry.branch) [
      | in-Join+in_ok-insert-in-Join w ↦
          ap (λ (s : BTreeSet ℕ). s.keys) w.live-is ∙ w.in_ok-insert-in-Join.ensures.keys
          ∙ insert_last w.in-Join.session live (subst (λ (e : Entry). MayCome live e) w.in-Join.is c.requires)
          ∙ sym (ap (λ (e : Entry). live_with e live) w.in-Join.is)
      | in-Leave w ↦
          ap (λ (s : BTreeSet ℕ). s.keys) w.live-is ∙ w.remove.ensures.keys
          ∙ remove_one w.in-Leave.session c.args.entry live c.requires ∙ sym (ap (λ (e : Entry). live_with e live) w.in-Leave.is)
      | in-Said w ↦ ap (λ (s : BTreeSet ℕ). s.keys) w.live-is ∙ sym (quiet c.args.entry live w.in-Said.is)
    ]
