use Rattle.std.proofs.Common.{◌≡◌, IsTrue, List, ap, ◌∙◌, subst}
use Rattle.trick_check_bodies.specs.Classes.{Made, made}
use Rattle.trick_check.proofs.Refusing.{long_refused}
use Rattle.trick_check.proofs.program.make_jobs.Goals as goal
use Rattle.trick_check.specs.Walk.{all_made, jobs_named}
use Rattle.trick_check_bodies.specs.Jobs.{jobs_from}
use Rattle.trick_lang.specs.Syntax.{definitions_of}
use Rattle.trick_lang.specs.Valid.{are_short}
use Rattle.trick_lang.specs.declared.object.Object.{Object}

pub returns-in-Err-clause-refused : goal.returns-in-Err-clause-refused
returns-in-Err-clause-refused c =
    let ds = definitions_of c.args.definitions.now in
    let jobs : c.in_ok-jobs.jobs ≡ jobs_named ds =
    c.in_ok-jobs.ensures
    ∙ (ap (λ q. jobs_from ds q 0 c.args.objects.now) (c.as_slice.ensures ∙ ap (λ (m : Made). m.numbers) c.requires.made)
    ∙ ap (λ (q : List Object). jobs_from ds (all_made ds).numbers 0 q) c.requires.objects) in
    long_refused ds (made c.args.bodies.now) c.args.objects.now c.as_slice-2.result.now c.in-Err.fault c.requires.right c.requires.made c.requires.objects (c.as_slice-2.ensures ∙ jobs) c.in-Err.ensures.refused

pub returns-in-Ok-clause-jobs : goal.returns-in-Ok-clause-jobs
returns-in-Ok-clause-jobs c =
    let ds = definitions_of c.args.definitions.now in
    c.in_ok-jobs.ensures
    ∙ (ap (λ q. jobs_from ds q 0 c.args.objects.now) (c.as_slice.ensures ∙ ap (λ (m : Made). m.numbers) c.requires.made)
    ∙ ap (λ (q : List Object). jobs_from ds (all_made ds).numbers 0 q) c.requires.objects)

pub returns-in-Ok-clause-short : goal.returns-in-Ok-clause-short
returns-in-Ok-clause-short c =
    subst (λ q. IsTrue (are_short c.args.bodies.now.blocks.items c.args.bodies.now.methods q)) c.as_slice-2.ensures c.in-Ok.ensures.short
