use Rattle.std.proofs.Common.{rules, ◌≡◌, ◌∙◌, ◌==◌, ◌&&◌, ◌++◌, ◌∷◌, [], if◌then◌else◌, ℕ, true, false, ap, sym, subst, length, slice_get, Some}
use Rattle.std.specs.List.{list_any}
use Rattle.trick_cycle.specs.Due.{IsInRange}
use Rattle.trick_cycle.specs.declared.Due.{Due}
use Rattle.trick_queue.proofs.Grouping.{at_key, goes_last, groups_more, jobs_but_last, keys_push, many_keys, new_times}
use Rattle.trick_queue.proofs.group.Grouping.group_of.Goals as goal
use Rattle.trick_queue.specs.Groups.{AreGroups, HaveJobsBut, is_one_of, keys_of, times_by}

pub returns-in_ok-push-clause-groups : goal.returns-in_ok-push-clause-groups
returns-in_ok-push-clause-groups c = λ jobs ids_of end are.
    let groups = c.args.self.now.groups.items in
    let none : is_one_of c.args.times (times_by groups) ≡ false =
    new_times c.args.times c.args.self.now.known.keys (times_by groups) c.requires.known (sym c.in-Ok.ensures.added ∙ c.if-is_new.true) in
    subst (λ l. AreGroups jobs ids_of end l) (sym c.in_ok-push.ensures.items)
    (groups_more jobs ids_of end groups c.new.result are (ap (λ (e : Due). is_one_of e (times_by groups)) c.new.ensures.times ∙ none)
    (subst IsInRange (sym c.new.ensures.times) c.requires.range) c.new.ensures.places c.new.ensures.jobs)

pub returns-in_ok-push-clause-times : goal.returns-in_ok-push-clause-times
returns-in_ok-push-clause-times c = λ none.
    let stored = c.in-Ok.ensures.stored in
    let groups = c.args.self.now.groups.items in
    let absent : list_any (λ (k : ℕ × ℕ × ℕ). ((c.args.times.start == k.0) && (c.args.times.cycle == k.1)) && (c.args.times.stop == k.2)) c.args.self.now.known.keys ≡ false = search rules in
    let known : c.insert_full.new.self.keys ≡ keys_of (times_by c.push.new.self.items) =
    c.in-Ok.ensures.keys
    ∙ ap (λ b. if b then c.args.self.now.known.keys else (c.args.self.now.known.keys ++ (c.args.times.start, c.args.times.cycle, c.args.times.stop) ∷ [])) absent
    ∙ ap (λ (e : Due). c.args.self.now.known.keys ++ (e.start, e.cycle, e.stop) ∷ []) (sym c.new.ensures.times)
    ∙ keys_push c.args.self.now.known.keys groups c.new.result c.requires.known
    ∙ ap (λ l. keys_of (times_by l)) (sym c.in_ok-push.ensures.items) in
    at_key (times_by c.push.new.self.items) c.in-Ok.found.0 stored.0 c.args.times none (subst (λ ks. slice_get ks c.in-Ok.found.0 ≡ Some stored.0) known stored.1) stored.2

pub returns-else-is_new-clause-times : goal.returns-else-is_new-clause-times
returns-else-is_new-clause-times c = λ none.
    let stored = c.in-Ok.ensures.stored in
    let there : list_any (λ (k : ℕ × ℕ × ℕ). ((c.args.times.start == k.0) && (c.args.times.cycle == k.1)) && (c.args.times.stop == k.2)) c.args.self.now.known.keys ≡ true = search rules in
    let known : c.insert_full.new.self.keys ≡ keys_of (times_by c.args.self.now.groups.items) =
    c.in-Ok.ensures.keys
    ∙ ap (λ b. if b then c.args.self.now.known.keys else (c.args.self.now.known.keys ++ (c.args.times.start, c.args.times.cycle, c.args.times.stop) ∷ [])) there
    ∙ c.requires.known in
    at_key (times_by c.args.self.now.groups.items) c.in-Ok.found.0 stored.0 c.args.times none (subst (λ ks. slice_get ks c.in-Ok.found.0 ≡ Some stored.0) known stored.1) stored.2

pub returns-in_ok-push-clause-jobs : goal.returns-in_ok-push-clause-jobs
returns-in_ok-push-clause-jobs c = λ jobs ids_of end have.
    let same = λ (k : ℕ × ℕ × ℕ). ((c.args.times.start == k.0) && (c.args.times.cycle == k.1)) && (c.args.times.stop == k.2) in
    let absent : list_any same c.args.self.now.known.keys ≡ false = search rules in
    let last : c.in-Ok.found.0 ≡ length c.args.self.now.groups.items =
    c.in-Ok.ensures.index
    ∙ goes_last same c.args.self.now.known.keys (0, 0, 0) absent
    ∙ ap length c.requires.known
    ∙ many_keys c.args.self.now.groups.items in
    subst (λ l. HaveJobsBut jobs ids_of end l c.in-Ok.found.0) (sym c.in_ok-push.ensures.items)
    (subst (HaveJobsBut jobs ids_of end (c.args.self.now.groups.items ++ c.new.result ∷ [])) (sym last) (jobs_but_last jobs ids_of end c.args.self.now.groups.items c.new.result have))
