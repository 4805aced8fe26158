-- What each job line of a tree passes, each job that the tree names passes.
use Rattle.std.proofs.Common.{◌≡◌, ℕ, zero, suc, ◌+◌, Bool, true, false, if◌then◌else◌, List, [], ◌∷◌, ◌++◌, refl}
use Rattle.std.proofs.lemmas.Bool.{and_parts}
use Rattle.std.specs.List.{list_all}
use Rattle.trick_check_bodies.specs.Jobs.{class_lines, definition_lines, is_constructor, job_of, jobs_from, lines_at, numbers_at, object_jobs, part_lines}
use Rattle.trick_lang.specs.SyntaxTree as tree
use Rattle.trick_lang.specs.SyntaxTree.{Definition, JobLine, Part, SDefine}
use Rattle.trick_lang.specs.Valid as valid
use Rattle.trick_lang.specs.declared.class.Class.{Class}
use Rattle.trick_lang.specs.declared.class.Class.TheVariants.{Scheduled}
use Rattle.trick_lang.specs.declared.job.Job.{Job}
use Rattle.trick_lang.specs.declared.object.Object.{Object}
use Rattle.trick_check_names.specs.Names.{Names}
use Rattle.trick_lang.specs.Facts.{has_right_times}
use Rattle.trick_lang.specs.PartTests.{PartTests, anything, definition_passes, file_passes, part_passes}

pub all_append : {A : Type 0} (p : A → Bool) (xs ys : List A) → list_all p xs ≡ true → list_all p ys ≡ true
    → list_all p (xs ++ ys) ≡ true
all_append p [] ys all more = more
all_append p (x ∷ xs) ys all more =
    let both = and_parts (p x) _ all in rw (both.0, all_append p xs ys both.1 more) refl

-- ---- the job lines of a file

module _ (q : JobLine → Bool) where
  abbrev l : PartTests
  l = record anything { job = q }

  lines_of_part : (part : Part) → part_passes l part ≡ true → list_all q (part_lines part) ≡ true
  lines_of_part tree.Public h = refl
  lines_of_part (tree.HasMembers m) h = refl
  lines_of_part (tree.HasMethod m) h = refl
  lines_of_part (tree.Constructor line name jobs) h = h

  lines_of_class : (parts : List Part) → list_all (part_passes l) parts ≡ true → list_all q (class_lines parts) ≡ true
  lines_of_class [] h = refl
  lines_of_class (part ∷ rest) h =
      let both = and_parts (part_passes l part) _ h in
      by (is_constructor part) (lines_of_part part both.0) (lines_of_class rest both.1)
    where
      by : (b : Bool) → list_all q (part_lines part) ≡ true → list_all q (class_lines rest) ≡ true
          → list_all q (if b then part_lines part else class_lines rest) ≡ true
      by true here behind = here
      by false here behind = behind

  lines_of_definition : (d : Definition) → definition_passes l d ≡ true → list_all q (definition_lines d) ≡ true
  lines_of_definition tree.Include h = refl
  lines_of_definition (tree.Enum name items) h = refl
  lines_of_definition (tree.Struct name members) h = refl
  lines_of_definition (tree.ClassOf name parts) h = lines_of_class parts h
  lines_of_definition (tree.Object line class name) h = refl

  lines_of_file : (ds : SDefine) (class : ℕ) → list_all (definition_passes l) ds ≡ true
      → list_all q (lines_at ds class) ≡ true
  lines_of_file [] class h = refl
  lines_of_file (d ∷ ds) zero h = lines_of_definition d (and_parts (definition_passes l d) _ h).0
  lines_of_file (d ∷ ds) (suc class) h = lines_of_file ds class (and_parts (definition_passes l d) _ h).1

  -- ---- the jobs

  module _ (p : Job → Bool) (same : (object : ℕ) (numbers : Names ℕ) (before : List JobLine) (line : JobLine)
      → q line ≡ true → p (job_of object numbers before line) ≡ true) where
    jobs_of_object : (object : ℕ) (numbers : Names ℕ) (before lines : List JobLine) → list_all q lines ≡ true
        → list_all p (object_jobs object numbers before lines) ≡ true
    jobs_of_object object numbers before [] h = refl
    jobs_of_object object numbers before (line ∷ rest) h =
        let both = and_parts (q line) _ h in
        rw (same object numbers before line both.0, jobs_of_object object numbers (before ++ line ∷ []) rest both.1) refl

    pub jobs_pass : (ds : SDefine) (all : List (Names ℕ)) (object : ℕ) (os : List Object) → file_passes l ds ≡ true
        → list_all p (jobs_from ds all object os) ≡ true
    jobs_pass ds all object [] h = refl
    jobs_pass ds all object (o ∷ os) h =
        all_append p (object_jobs object (numbers_at all o.class) [] (lines_at ds o.class)) _
        (jobs_of_object object (numbers_at all o.class) [] (lines_at ds o.class) (lines_of_file ds o.class h))
        (jobs_pass ds all (object + 1) os h)

-- ---- times

same_times : (class : Class) (object : ℕ) (numbers : Names ℕ) (before : List JobLine) (line : JobLine)
    → has_right_times class line ≡ true → valid.has_right_times class (job_of object numbers before line) ≡ true
same_times Scheduled object numbers before line h = h
same_times class object numbers before line h = h

pub line_times : (object : ℕ) (numbers : Names ℕ) (before : List JobLine) (line : JobLine)
    → has_right_times line.class line ≡ true
    → valid.has_right_times (job_of object numbers before line).class (job_of object numbers before line) ≡ true
line_times object numbers before line h = same_times line.class object numbers before line h
