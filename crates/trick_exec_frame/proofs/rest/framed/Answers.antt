use Rattle.std.proofs.Common.{◌≡◌, ◌∙◌, Bool, false, true, ap, subst, sym}
use Rattle.std.specs.Prelude.{IfOk}
use Rattle.trick_model.specs.Events.{Asking}
use Rattle.trick_model.specs.PlanOf.{plan_of}
use Rattle.trick_model.specs.Turn.{framed, runs}
use Rattle.trick_outside.proofs.DoesLemmas.{does_idle}
use Rattle.trick_outside.specs.Does.{Does}
use Rattle.trick_exec_frame.proofs.rest.framed.Goals as goal
use Rattle.trick_exec_tic.specs.Current.{asking_of}
use Rattle.trick_exec_tic.specs.Steps.{steps_of}
use Rattle.trick_exec_tic.specs.declared.current.Current.{Current as CurrentValue}

pub returns-then-not-runs-clause-does : goal.returns-then-not-runs-clause-does
returns-then-not-runs-clause-does g c =
    let a : Asking = asking_of g.M.Cells.numbers c.args.rest.current in
    let none : runs a.state ≡ false = sym c.runs.ensures ∙ c.if-not-runs.true in
    does_idle _ _ _ (g.met.F.Shelf.called_none _) (λ f. cc)
    (ap (λ (b : Bool). steps_of (framed (plan_of c.args.accepted.now.plan) b c.args.rest.publications.now a).writes) none)

pub returns-clause-state : goal.returns-clause-state
returns-clause-state g c =
    let a : Asking = asking_of g.M.Cells.numbers c.args.rest.current in
    let some : true ≡ runs a.state = sym (sym c.runs.ensures ∙ c.if-not-runs.false) in
    subst (λ (b : Bool). IfOk c.run_frame.result (λ (after : CurrentValue g.row.M.Denot). asking_of g.M.Cells.numbers after
    ≡ (framed (plan_of c.args.accepted.now.plan) b c.args.rest.publications.now a).asking)) some c.run_frame.ensures.state

pub returns-clause-does : goal.returns-clause-does
returns-clause-does g c =
    let a : Asking = asking_of g.M.Cells.numbers c.args.rest.current in
    let some : true ≡ runs a.state = sym (sym c.runs.ensures ∙ c.if-not-runs.false) in
    subst (λ (b : Bool). Does g.F.Shelf c.args.shelf.now c.run_frame.new.shelf c.run_frame.result
    (steps_of (framed (plan_of c.args.accepted.now.plan) b c.args.rest.publications.now a).writes)) some c.run_frame.ensures.does
