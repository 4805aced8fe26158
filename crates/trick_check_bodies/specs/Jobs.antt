-- The jobs of a program: for each object in order, the lines of its class' constructor in order.
use Rattle.std.specs.Prelude.{ℕ, zero, suc, ◌+◌, Bool, true, false, if◌then◌else◌, List, [], ◌∷◌, ◌++◌, length, unwrap_or}
use Rattle.std.specs.Str.{bytes_eq}
use Rattle.trick_lang.specs.SyntaxTree as tree
use Rattle.trick_lang.specs.SyntaxTree.{Name, JobLine, SDefine, Constructor, ClassOf}
use Rattle.trick_lang.specs.declared.job.Job.{Job}
use Rattle.trick_lang.specs.declared.object.Object.{Object}
use Rattle.trick_check_names.specs.Names.{Names, meaning_of}

-- ---- lines

abbrev pub is_constructor : tree.Part → Bool
is_constructor (Constructor line name jobs) = true
is_constructor _ = false

abbrev pub part_lines : tree.Part → List JobLine
part_lines (Constructor line name jobs) = jobs
part_lines _ = []

-- the job lines of a class: those of its constructor, of which there is one at most
abbrev pub class_lines : List tree.Part → List JobLine
class_lines [] = []
class_lines (part ∷ rest) = if is_constructor part then part_lines part else class_lines rest

abbrev pub definition_lines : tree.Definition → List JobLine
definition_lines (ClassOf name parts) = class_lines parts
definition_lines _ = []

-- the job lines of the class of that number
abbrev pub lines_at : SDefine → ℕ → List JobLine
lines_at [] class = []
lines_at (d ∷ ds) zero = definition_lines d
lines_at (d ∷ ds) (suc class) = lines_at ds class

-- how many of the lines call the method
abbrev pub calls_in : Name → List JobLine → ℕ
calls_in name [] = 0
calls_in name (line ∷ rest) = (if bytes_eq name line.method then 1 else 0) + calls_in name rest

-- ---- jobs

-- the number of a method in the program, where these are those of its class
abbrev pub method_number : Names ℕ → Name → ℕ
method_number numbers name = unwrap_or (meaning_of name numbers) 0

-- the job of a line after those before it in the constructor
abbrev pub job_of : ℕ → Names ℕ → List JobLine → JobLine → Job
job_of object numbers before line = record {
  object = object;
  method = method_number numbers line.method;
  instance = calls_in line.method before + 1;
  class = line.class;
  thread = line.thread;
  phase = line.phase;
  start = line.start;
  cycle = line.cycle;
  stop = line.stop;
  number = length before;
}

abbrev pub object_jobs : ℕ → Names ℕ → List JobLine → List JobLine → List Job
object_jobs object numbers before [] = []
object_jobs object numbers before (line ∷ rest) =
    job_of object numbers before line ∷ object_jobs object numbers (before ++ line ∷ []) rest

-- the numbers of a class' methods
abbrev pub numbers_at : List (Names ℕ) → ℕ → Names ℕ
numbers_at [] class = []
numbers_at (numbers ∷ rest) zero = numbers
numbers_at (numbers ∷ rest) (suc class) = numbers_at rest class

-- the jobs of objects, of which the first has that number
abbrev pub jobs_from : SDefine → List (Names ℕ) → ℕ → List Object → List Job
jobs_from ds all object [] = []
jobs_from ds all object (o ∷ os) =
    object_jobs object (numbers_at all o.class) [] (lines_at ds o.class) ++ jobs_from ds all (object + 1) os

-- how many jobs all objects have
abbrev pub job_count : SDefine → List Object → ℕ
job_count ds [] = 0
job_count ds (o ∷ os) = length (lines_at ds o.class) + job_count ds os
