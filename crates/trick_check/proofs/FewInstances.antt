-- The instances of jobs: a job has no more than there are jobs.
use Rattle.std.proofs.Common.{◌≡◌, ℕ, suc, ◌+◌, ◌≤◌, Bool, true, false, List, [], ◌∷◌, ◌++◌, ap, arith, if◌then◌else◌, length, refl}
use Rattle.std.proofs.lemmas.Bool.{and_from, le-leb}
use Rattle.std.proofs.lemmas.List.{length-append}
use Rattle.std.specs.Str.{bytes_eq}
use Rattle.trick_check_bodies.specs.Jobs.{calls_in, jobs_from, lines_at, numbers_at, object_jobs}
use Rattle.trick_lang.specs.SyntaxTree.{JobLine, Name, SDefine}
use Rattle.trick_lang.specs.Valid.{have_right_instances}
use Rattle.trick_lang.specs.declared.job.Job.{Job}
use Rattle.trick_lang.specs.declared.object.Object.{Object}
use Rattle.trick_check_names.specs.Names.{Names}

-- each of these jobs has an instance up to a number
abbrev Within : ℕ → List Job → Type 0
Within most [] = Unit {0}
Within most (job ∷ jobs) = (job.instance ≤ most) × Within most jobs

both_within : (most : ℕ) (xs ys : List Job) → Within most xs → Within most ys → Within most (xs ++ ys)
both_within most [] ys one other = other
both_within most (x ∷ xs) ys one other = (one.0, both_within most xs ys one.1 other)

few_calls : (name : Name) (lines : List JobLine) → calls_in name lines ≤ length lines
few_calls name [] = none
  where
    none : 0 ≤ 0
    none = omega arith
few_calls name (line ∷ lines) = by (bytes_eq name line.method) (few_calls name lines)
  where
    one : (n m : ℕ) → n ≤ m → 1 + n ≤ suc m
    one n m most = omega (arith, most)

    zero_more : (n m : ℕ) → n ≤ m → 0 + n ≤ suc m
    zero_more n m most = omega (arith, most)

    by : (b : Bool) → calls_in name lines ≤ length lines → (if b then 1 else 0) + calls_in name lines ≤ suc (length lines)
    by true most = one (calls_in name lines) (length lines) most
    by false most = zero_more (calls_in name lines) (length lines) most

object_within : (most object : ℕ) (numbers : Names ℕ) (before lines : List JobLine) → length before + length lines ≤ most
    → Within most (object_jobs object numbers before lines)
object_within most object numbers before [] few = tt
object_within most object numbers before (line ∷ lines) few = (
  here (calls_in line.method before) (length before) (length lines) (few_calls line.method before) few,
  object_within most object numbers (before ++ line ∷ []) lines
      (later (length (before ++ line ∷ [])) (length before) (length lines) (length-append before (line ∷ [])) few),
)
  where
    here : (calls before rest : ℕ) → calls ≤ before → before + suc rest ≤ most → calls + 1 ≤ most
    here calls before rest fewer few = omega (arith, fewer, few)

    later : (longer before rest : ℕ) → longer ≡ before + 1 → before + suc rest ≤ most → longer + rest ≤ most
    later longer before rest is few = omega (arith, is, few)

object_count : (object : ℕ) (numbers : Names ℕ) (before lines : List JobLine) → length (object_jobs object numbers before lines) ≡ length lines
object_count object numbers before [] = refl
object_count object numbers before (line ∷ lines) = ap suc (object_count object numbers (before ++ line ∷ []) lines)

jobs_within : (most : ℕ) (ds : SDefine) (all : List (Names ℕ)) (object : ℕ) (os : List Object) → length (jobs_from ds all object os) ≤ most
    → Within most (jobs_from ds all object os)
jobs_within most ds all object [] few = tt
jobs_within most ds all object (o ∷ os) few =
    let own = object_jobs object (numbers_at all o.class) [] (lines_at ds o.class) in
    let rest = jobs_from ds all (object + 1) os in
    let whole : length (own ++ rest) ≡ length own + length rest = length-append own rest in
    let lines : length own ≡ length (lines_at ds o.class) = object_count object (numbers_at all o.class) [] (lines_at ds o.class) in
    both_within most own rest
    (object_within most object (numbers_at all o.class) [] (lines_at ds o.class) (first (length (own ++ rest)) (length own) (length rest) (length (lines_at ds o.class)) whole lines few))
    (jobs_within most ds all (object + 1) os (second (length (own ++ rest)) (length own) (length rest) whole few))
  where
    first : (all own rest lines : ℕ) → all ≡ own + rest → own ≡ lines → all ≤ most → 0 + lines ≤ most
    first all own rest lines whole is few = omega (arith, whole, is, few)

    second : (all own rest : ℕ) → all ≡ own + rest → all ≤ most → rest ≤ most
    second all own rest whole few = omega (arith, whole, few)

each_few : (jobs : List Job) → Within 512 jobs → have_right_instances jobs ≡ true
each_few [] within = refl
each_few (job ∷ jobs) within = and_from _ _ (le-leb job.instance 512 within.0) (each_few jobs within.1)

pub instances_right : (ds : SDefine) (all : List (Names ℕ)) (object : ℕ) (os : List Object) → length (jobs_from ds all object os) ≤ 512
    → have_right_instances (jobs_from ds all object os) ≡ true
instances_right ds all object os few = each_few (jobs_from ds all object os) (jobs_within 512 ds all object os few)
