-- Lists of the file, one item after another.
use Rattle.std.proofs.Common.{◌≡◌, ℕ, zero, suc, ◌+◌, ◌<◌, ◌≤◌, List, [], ◌∷◌, ◌++◌, length, get_or, take, drop, refl, ap, sym, ◌∙◌, arith}
use Rattle.std.proofs.lemmas.List.{append_assoc, take_more}
use Rattle.trick_base.proofs.ListLemmas.{next_item}
use Rattle.trick_check_bodies.specs.Jobs.{calls_in, definition_lines, lines_at, method_number, numbers_at, object_jobs}
use Rattle.trick_lang.specs.SyntaxTree as tree
use Rattle.trick_lang.specs.Syntax.{class_part_of, class_parts_of, definition_of, definitions_of, jobs_of}
use Rattle.trick_lang.specs.declared.syntax.definition.ClassPart.{ClassPart}
use Rattle.trick_lang.specs.declared.syntax.definition.Definition.{Definition}
use Rattle.trick_lang.specs.declared.syntax.definition.JobLine.{JobLine}
use Rattle.trick_lang.specs.declared.job.Job.{Job}
use Rattle.trick_check_names.specs.Names.{Names}

pub parts_next : (xs : List ClassPart) (i : ℕ) (item : ClassPart) → i < length xs → item ≡ get_or xs i item → class_parts_of (drop i xs) ≡ class_part_of item ∷ class_parts_of (drop (i + 1) xs)
parts_next xs i item h is = ap class_parts_of (next_item xs i item h is)

-- a part after what is there, and then the rest
pub appended : {A : Type 0} (before part rest all made : List A) → before ++ (part ++ rest) ≡ all → made ≡ before ++ part → made ++ rest ≡ all
appended before part rest all made was is = ap (λ xs. xs ++ rest) is ∙ (append_assoc before part rest ∙ was)

pub lines_past : (ds : List Definition) (k : ℕ) → length ds ≤ k → lines_at (definitions_of ds) k ≡ []
lines_past [] k h = refl
lines_past (d ∷ ds) zero h = absurd (omega (arith, h))
lines_past (d ∷ ds) (suc k) h = lines_past ds k (omega (arith, h))

pub lines_in : (ds : List Definition) (k : ℕ) (d : Definition) → k < length ds → d ≡ get_or ds k d → definition_lines (definition_of d) ≡ lines_at (definitions_of ds) k
lines_in [] k d low is = absurd (omega (arith, low))
lines_in (e ∷ es) zero d low is = ap (λ x. definition_lines (definition_of x)) is
lines_in (e ∷ es) (suc k) d low is = lines_in es k d (omega (arith, low)) is

pub numbers_past : (all : List (Names ℕ)) (k : ℕ) → length all ≤ k → numbers_at all k ≡ []
numbers_past [] k h = refl
numbers_past (n ∷ ns) zero h = absurd (omega (arith, h))
numbers_past (n ∷ ns) (suc k) h = numbers_past ns k (omega (arith, h))

pub numbers_in : (all : List (Names ℕ)) (k : ℕ) (own : Names ℕ) → k < length all → own ≡ get_or all k own → own ≡ numbers_at all k
numbers_in [] k own low is = absurd (omega (arith, low))
numbers_in (n ∷ ns) zero own low is = is
numbers_in (n ∷ ns) (suc k) own low is = numbers_in ns k own (omega (arith, low)) is

abbrev line_of : JobLine → tree.JobLine
line_of j = record {
  class = j.class;
  thread = j.thread;
  phase = j.phase;
  start = j.start;
  cycle = j.cycle;
  stop = j.stop;
  line = j.line;
  method = j.method;
}

pub jobs_append : (xs : List JobLine) (line : JobLine) → jobs_of (xs ++ line ∷ []) ≡ jobs_of xs ++ jobs_of (line ∷ [])
jobs_append [] line = refl
jobs_append (x ∷ xs) line = ap (λ (ys : List tree.JobLine). line_of x ∷ ys) (jobs_append xs line)

pub jobs_length : (xs : List JobLine) → length (jobs_of xs) ≡ length xs
jobs_length [] = refl
jobs_length (x ∷ xs) = ap suc (jobs_length xs)

-- the job of a line is the first of those from that line on
pub object_next : (object : ℕ) (numbers : Names ℕ) (xs : List JobLine) (i : ℕ) (line : JobLine) (job : Job) → i < length xs → line ≡ get_or xs i line → job ∷ [] ≡ object_jobs object numbers (jobs_of (take i xs)) (jobs_of (line ∷ [])) → (job ∷ []) ++ object_jobs object numbers (jobs_of (take (i + 1) xs)) (jobs_of (drop (i + 1) xs)) ≡ object_jobs object numbers (jobs_of (take i xs)) (jobs_of (drop i xs))
object_next object numbers xs i line job low at is =
    let before = jobs_of (take i xs) in
    let rest = jobs_of (drop (i + 1) xs) in
    let more : take (i + 1) xs ≡ take i xs ++ line ∷ [] = take_more xs i line low ∙ ap (λ x. take i xs ++ x ∷ []) (sym at) in
    let grown : jobs_of (take (i + 1) xs) ≡ before ++ line_of line ∷ [] = ap jobs_of more ∙ jobs_append (take i xs) line in
    ap (λ q. (job ∷ []) ++ object_jobs object numbers q rest) grown
    ∙ (ap (λ js. js ++ object_jobs object numbers (before ++ line_of line ∷ []) rest) is
    ∙ sym (ap (λ q. object_jobs object numbers before (jobs_of q)) (next_item xs i line low at)))

-- the job of one line
pub job_is : (object : ℕ) (numbers : Names ℕ) (before : List JobLine) (line : JobLine) (method instance number : ℕ) → method ≡ method_number numbers line.method → instance ≡ calls_in line.method (jobs_of before) + 1 → number ≡ length (jobs_of before) → record {
  object = object;
  method = method;
  instance = instance;
  class = line.class;
  thread = line.thread;
  phase = line.phase;
  start = line.start;
  cycle = line.cycle;
  stop = line.stop;
  number = number;
} ∷ [] ≡ object_jobs object numbers (jobs_of before) (jobs_of (line ∷ []))
job_is object numbers before line method instance number e f g = rw (e, f, g) refl
