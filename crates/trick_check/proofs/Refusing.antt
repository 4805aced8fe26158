-- Refusals of each kind are refusals of the file.
use Rattle.std.proofs.Common.{◌≡◌, ◌≢◌, ℕ, List, Some, subst}
use Rattle.trick_check_bodies.specs.Classes.{Made}
use Rattle.trick_check.specs.Refused.{HasLongJob, IsLongJob, IsRefused, IsStepFault, JobsAreRight, check_fault}
use Rattle.trick_check.specs.Walk.{all_made, jobs_named, objects_of}
use Rattle.trick_check.specs.declared.fault.CheckFault.{CheckFault}
use Rattle.trick_check.specs.declared.fault.CheckFault.TheVariants.{TooManySteps, OutOfMemory}
use Rattle.trick_lang.specs.SyntaxTree.{Name, SDefine}
use Rattle.trick_lang.specs.declared.job.Job.{Job}
use Rattle.trick_lang.specs.declared.object.Object.{Object}
use Rattle.trick_check_names.specs.FileMistakes.{mistakes}
use Rattle.trick_check_names.specs.Mistakes.{fault_of}
use Rattle.trick_check_names.specs.declared.fault.NameFault.{NameFault}
use Rattle.trick_check_names.specs.declared.fault.NameFault.TheVariants as names

pub names_refused : (ds : SDefine) (fault : NameFault) → (fault ≢ names.OutOfMemory → fault_of (mistakes ds) ≡ Some fault) → IsRefused ds (check_fault fault)
names_refused ds (names.Twice name) h = h (λ e. cc e)
names_refused ds (names.Unknown line) h = h (λ e. cc e)
names_refused ds (names.NotScalar line) h = h (λ e. cc e)
names_refused ds names.OutOfMemory h = tt

long_job : (ds : SDefine) (m : Made) (objects : List Object) (jobs : List Job) (name : Name) (instance : ℕ) → m ≡ all_made ds → objects ≡ objects_of ds → jobs ≡ jobs_named ds → IsLongJob m objects jobs name instance → HasLongJob ds name instance
long_job ds m objects jobs name instance is_made are_objects are_jobs long =
    let one = subst (λ q. IsLongJob q objects jobs name instance) is_made long in
    let two = subst (λ q. IsLongJob (all_made ds) q jobs name instance) are_objects one in
    subst (λ q. IsLongJob (all_made ds) (objects_of ds) q name instance) are_jobs two

pub long_refused : (ds : SDefine) (m : Made) (objects : List Object) (jobs : List Job) (fault : CheckFault) → JobsAreRight ds → m ≡ all_made ds → objects ≡ objects_of ds → jobs ≡ jobs_named ds → IsStepFault m objects jobs fault → IsRefused ds fault
long_refused ds m objects jobs (TooManySteps job instance) right is_made are_objects are_jobs h =
    (right, long_job ds m objects jobs job instance is_made are_objects are_jobs h)
long_refused ds m objects jobs OutOfMemory right is_made are_objects are_jobs h = tt
long_refused ds m objects jobs fault right is_made are_objects are_jobs h = absurd h
