-- Objects lie in the memory, and jobs have numbers of their own.
use Rattle.std.proofs.Common.{◌≡◌, ℕ, zero, suc, ◌+◌, ◌<◌, ◌≤◌, ◌==◌, Bool, true, false, not, ◌&&◌, nat_le, if◌then◌else◌, List, [], ◌∷◌, ◌++◌, length, get_or, refl, ap, ◌∙◌, arith}
use Rattle.std.proofs.Math.ListN.{length-append}
use Rattle.std.proofs.lemmas.Bool.{and_from, le-leb}
use Rattle.std.proofs.lemmas.List.Folds.{list_all-append}
use Rattle.std.specs.List.{list_all}
use Rattle.trick_base.proofs.Numbers.{other_than_greater}
use Rattle.trick_base.specs.Capped.{capped}
use Rattle.trick_check_cells.specs.Counts.{global_count, names_count}
use Rattle.trick_check_cells.specs.Tables.{narrow, object_row, object_rows, taken}
use Rattle.trick_check_bodies.specs.Jobs.{job_count, job_of, jobs_from, lines_at, numbers_at, object_jobs}
use Rattle.trick_lang.specs.Names.{are_apart, of_one_number}
use Rattle.trick_lang.specs.SyntaxTree as tree
use Rattle.trick_lang.specs.SyntaxTree.{Name, SDefine}
use Rattle.trick_lang.specs.Valid.{object_stands, objects_stand}
use Rattle.trick_lang.specs.declared.job.Job.{Job}
use Rattle.trick_lang.specs.declared.object.Object.{Object}
use Rattle.trick_check_names.specs.Names.{Names}
use Rattle.trick_check_names.specs.declared.tables.Base.TheVariants.{Group}
use Rattle.trick_check_names.specs.declared.tables.Global.{Global}
use Rattle.trick_check_names.specs.declared.tables.Global.TheVariants as the

-- ---- objects

taken_less : (sizes : List ℕ) (k : ℕ) → get_or (taken sizes) k 0 ≤ get_or sizes k 0
taken_less [] k = omega arith
taken_less (n ∷ ns) zero = by (nat_le n 65536) where
  by : (b : Bool) → (if b then n else 0) ≤ n
  by true = omega arith
  by false = omega arith
taken_less (n ∷ ns) (suc k) = taken_less ns k

one_fits : (sizes : List ℕ) (first : ℕ) (name : Name) (g : Global) (cells : ℕ) → first + global_count sizes g ≤ cells → list_all (object_stands cells (taken sizes)) (object_row first name g) ≡ true
one_fits sizes first name the.Enum cells h = refl
one_fits sizes first name (the.Object (Group k)) cells h =
    and_from (nat_le (first + get_or (taken sizes) k 0) cells) true (le-leb (first + get_or (taken sizes) k 0) cells (omega (arith, h, taken_less sizes k))) refl
one_fits sizes first name g cells h = refl

all_fit : (sizes : List ℕ) (first : ℕ) (gs : Names Global) (cells : ℕ) → first + names_count sizes gs ≤ cells → cells ≤ 65536 → list_all (object_stands cells (taken sizes)) (object_rows sizes first gs) ≡ true
all_fit sizes first [] cells h low = refl
all_fit sizes first (g ∷ gs) cells h low =
    let next : narrow (first + global_count sizes g.1) ≡ first + global_count sizes g.1 = omega (arith, h, low) in
    list_all-append (object_stands cells (taken sizes)) (object_row first g.0 g.1) (object_rows sizes (narrow (first + global_count sizes g.1)) gs)
    ∙ and_from (list_all (object_stands cells (taken sizes)) (object_row first g.0 g.1)) (list_all (object_stands cells (taken sizes)) (object_rows sizes (narrow (first + global_count sizes g.1)) gs))
    (one_fits sizes first g.0 g.1 cells (omega (arith, h)))
    (all_fit sizes (narrow (first + global_count sizes g.1)) gs cells (omega (arith, h, next)) low)

pub objects_fit : (sizes : List ℕ) (gs : Names Global) (cells : ℕ) → names_count sizes gs ≤ cells → cells ≤ 65536 → objects_stand cells (taken sizes) (object_rows sizes 0 gs) ≡ true
objects_fit sizes gs cells h low = all_fit sizes 0 gs cells (omega (arith, h)) low

-- a count that stands still at 2^64 - 1 is the number where that is small
pub same_count : (a b : ℕ) → capped a ≡ capped b → b ≤ 65536 → a ≡ b
same_count a b is low = omega (arith, is, low)

-- ---- numbers of jobs

unlike_number : (a b : Job) → a.number < b.number → not (of_one_number a b) ≡ true
unlike_number a b h = by (a.object == b.object) (a.number == b.number) (other_than_greater a.number b.number h) where
  by : (x y : Bool) → y ≡ false → not (x && y) ≡ true
  by true y e = ap not e
  by false y e = refl

unlike_object : (a b : Job) → a.object < b.object → not (of_one_number a b) ≡ true
unlike_object a b h = by (a.object == b.object) (a.number == b.number) (other_than_greater a.object b.object h) where
  by : (x y : Bool) → x ≡ false → not (x && y) ≡ true
  by true y e = absurd (cc e)
  by false y e = refl

-- a job with a lower number in the constructor
lower : (object : ℕ) (numbers : Names ℕ) (before lines : List tree.JobLine) (a : Job) → a.number < length before → list_all (λ y. not (of_one_number a y)) (object_jobs object numbers before lines) ≡ true
lower object numbers before [] a h = refl
lower object numbers before (line ∷ rest) a h =
    let more : length (before ++ line ∷ []) ≡ length before + 1 = length-append before (line ∷ []) in
    and_from (not (of_one_number a (job_of object numbers before line))) (list_all (λ y. not (of_one_number a y)) (object_jobs object numbers (before ++ line ∷ []) rest))
    (unlike_number a (job_of object numbers before line) h) (lower object numbers (before ++ line ∷ []) rest a (omega (arith, h, more)))

-- a job of an object before
earlier : (object : ℕ) (numbers : Names ℕ) (before lines : List tree.JobLine) (a : Job) → a.object < object → list_all (λ y. not (of_one_number a y)) (object_jobs object numbers before lines) ≡ true
earlier object numbers before [] a h = refl
earlier object numbers before (line ∷ rest) a h =
    and_from (not (of_one_number a (job_of object numbers before line))) (list_all (λ y. not (of_one_number a y)) (object_jobs object numbers (before ++ line ∷ []) rest))
    (unlike_object a (job_of object numbers before line) h) (earlier object numbers (before ++ line ∷ []) rest a h)

all_later : (ds : SDefine) (all : List (Names ℕ)) (object : ℕ) (os : List Object) (a : Job) → a.object < object → list_all (λ y. not (of_one_number a y)) (jobs_from ds all object os) ≡ true
all_later ds all object [] a h = refl
all_later ds all object (o ∷ os) a h =
    list_all-append (λ y. not (of_one_number a y)) (object_jobs object (numbers_at all o.class) [] (lines_at ds o.class)) (jobs_from ds all (object + 1) os)
    ∙ and_from (list_all (λ y. not (of_one_number a y)) (object_jobs object (numbers_at all o.class) [] (lines_at ds o.class))) (list_all (λ y. not (of_one_number a y)) (jobs_from ds all (object + 1) os))
    (earlier object (numbers_at all o.class) [] (lines_at ds o.class) a h) (all_later ds all (object + 1) os a (omega (arith, h)))

object_then : (object : ℕ) (numbers : Names ℕ) (before lines : List tree.JobLine) (rest : List Job) → ((a : Job) → a.object ≡ object → list_all (λ y. not (of_one_number a y)) rest ≡ true) → are_apart of_one_number rest ≡ true → are_apart of_one_number (object_jobs object numbers before lines ++ rest) ≡ true
object_then object numbers before [] rest f apart = apart
object_then object numbers before (line ∷ lines) rest f apart =
    let a = job_of object numbers before line in
    let behind = object_jobs object numbers (before ++ line ∷ []) lines in
    let more : length (before ++ line ∷ []) ≡ length before + 1 = length-append before (line ∷ []) in
    and_from (list_all (λ y. not (of_one_number a y)) (behind ++ rest)) (are_apart of_one_number (behind ++ rest))
    (list_all-append (λ y. not (of_one_number a y)) behind rest
    ∙ and_from (list_all (λ y. not (of_one_number a y)) behind) (list_all (λ y. not (of_one_number a y)) rest) (lower object numbers (before ++ line ∷ []) lines a (omega (arith, more))) (f a refl))
    (object_then object numbers (before ++ line ∷ []) lines rest f apart)

pub numbers_apart : (ds : SDefine) (all : List (Names ℕ)) (object : ℕ) (os : List Object) → are_apart of_one_number (jobs_from ds all object os) ≡ true
numbers_apart ds all object [] = refl
numbers_apart ds all object (o ∷ os) =
    object_then object (numbers_at all o.class) [] (lines_at ds o.class) (jobs_from ds all (object + 1) os)
    (λ a is. all_later ds all (object + 1) os a (omega (arith, is))) (numbers_apart ds all (object + 1) os)

-- ---- counts of jobs

lines_many : (object : ℕ) (numbers : Names ℕ) (before lines : List tree.JobLine) → length (object_jobs object numbers before lines) ≡ length lines
lines_many object numbers before [] = refl
lines_many object numbers before (line ∷ rest) = ap suc (lines_many object numbers (before ++ line ∷ []) rest)

pub jobs_many : (ds : SDefine) (all : List (Names ℕ)) (object : ℕ) (os : List Object) → length (jobs_from ds all object os) ≡ job_count ds os
jobs_many ds all object [] = refl
jobs_many ds all object (o ∷ os) =
    length-append (object_jobs object (numbers_at all o.class) [] (lines_at ds o.class)) (jobs_from ds all (object + 1) os)
    ∙ (ap (λ n. n + length (jobs_from ds all (object + 1) os)) (lines_many object (numbers_at all o.class) [] (lines_at ds o.class))
    ∙ ap (λ n. length (lines_at ds o.class) + n) (jobs_many ds all (object + 1) os))
