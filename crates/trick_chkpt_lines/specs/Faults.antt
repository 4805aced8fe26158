-- The lines of the faults, and what is wrong with another line in the place of one.
use Rattle.std.specs.List.{list_any}
use Rattle.std.specs.Prelude.{ℕ, zero, suc, ◌+◌, ◌-◌, nat_le, Bool, ◌&&◌, ◌||◌, not, List, [], ◌∷◌, ◌++◌, length, take, drop, min, map, codes, decimal, Option, Some, None, Ok, Err, if◌then◌else◌}
use Rattle.std.specs.Str.{bytes_eq}
use Rattle.trick_codes.specs.Code.{Code, Told, behind, free_at, number, one_of, read_as, sequence}
use Rattle.trick_codes.specs.Forms.{are_numbers, kind_of}
use Rattle.trick_codes.specs.Lines.{Lines, and_then, line, numbered, seen_as}
use Rattle.trick_codes.specs.Loads.{front_of}
use Rattle.trick_codes.specs.Named.{indexed, named, number_line}
use Rattle.trick_codes.specs.declared.kind.Kind.{Kind}
use Rattle.trick_codes.specs.declared.kind.Kind.TheVariants.{BadLine, WrongPlan, OutOfRange}
use Rattle.trick_lang.specs.Names.{job_name}
use Rattle.trick_lang.specs.declared.fault.FaultKind.{FaultKind}
use Rattle.trick_lang.specs.declared.fault.FaultKind.TheVariants.{DivideByZero, IndexOutOfRange}
use Rattle.trick_lang.specs.declared.fault.JobFault.{JobFault}
use Rattle.trick_lang.specs.declared.job.Job.{Job}
use Rattle.trick_lang.specs.declared.job.JobId.{JobId}
use Rattle.trick_model.specs.FaultList.{FaultList, kept}
use Rattle.trick_base.specs.Time.{tic_limit}
use Rattle.trick_model.specs.declared.plan.Plan.{Plan}

-- ---- the words of a fault

-- a job as it stands in a fault: its name and its instance, each with a space after it
abbrev pub job_text : List ℕ → ℕ → List ℕ
job_text name instance = (name ++ codes " ") ++ (decimal instance ++ codes " ")

-- the jobs of a plan
abbrev pub job_texts : Plan → List (List ℕ)
job_texts plan = map (λ (job : Job). job_text (job_name plan.program.objects plan.program.methods job) job.instance)
    plan.program.jobs

-- the kinds, each with a space after it
abbrev pub kind_words : List (List ℕ)
kind_words = codes "DivideByZero " ∷ codes "IndexOutOfRange " ∷ []

abbrev pub kind_word_at : ℕ → FaultKind
kind_word_at zero = DivideByZero
kind_word_at (suc k) = IndexOutOfRange

abbrev pub kind_place : FaultKind → ℕ
kind_place DivideByZero = 0
kind_place IndexOutOfRange = 1

-- ---- what is wrong with a value in the place of a fault

-- its tic, what stands after the tic, its instance, the rest after that, its kind and its line
pub record Fields : Type 0 where
  pub tic : List ℕ
  pub job : List ℕ
  pub instance : List ℕ
  pub kind : List ℕ
  pub line : List ℕ

-- The kind is named and the numbers are written rightly, so that one of them is out of its range.
abbrev pub are_spelled : Fields → Bool
are_spelled f =
    (bytes_eq f.kind (codes "DivideByZero") || bytes_eq f.kind (codes "IndexOutOfRange"))
    && (are_numbers 1 f.tic && are_numbers 1 f.line)

-- The instance is a number, or else the line is bad. No job of this name and instance: another plan.
abbrev pub fields_kind : List (List ℕ) → Fields → Kind
fields_kind texts f =
    if not (are_numbers 1 f.instance) then BadLine
    else if not (list_any (bytes_eq f.job) texts) then WrongPlan
    else if are_spelled f then OutOfRange
    else BadLine

-- the bytes up to the first space, and what stands after it
abbrev pub field_at : List ℕ → Told (List ℕ)
field_at bytes = free_at (length bytes) 32 bytes

-- the fields, where the last one has no space
abbrev pub with_line : (tic job instance kind behind_kind : List ℕ) → Told (List ℕ) → Option Fields
with_line tic job instance kind behind_kind (Ok more) = None
with_line tic job instance kind behind_kind (Err e) =
    Some (record { tic = tic; job = job; instance = instance; kind = kind; line = behind_kind })

-- the fields of a value, which has five of them with spaces between
abbrev pub fields_after_kind : (tic job instance : List ℕ) → Told (List ℕ) → Option Fields
fields_after_kind tic job instance (Ok kind) = with_line tic job instance kind.0 kind.1 (field_at kind.1)
fields_after_kind tic job instance (Err e) = None

abbrev pub fields_after_instance : (tic behind_tic : List ℕ) → Told (List ℕ) → Option Fields
fields_after_instance tic behind_tic (Ok instance) =
    fields_after_kind tic (front_of behind_tic instance.1) instance.0 (field_at instance.1)
fields_after_instance tic behind_tic (Err e) = None

abbrev pub fields_after_name : (tic behind_tic : List ℕ) → Told (List ℕ) → Option Fields
fields_after_name tic behind_tic (Ok name) = fields_after_instance tic behind_tic (field_at name.1)
fields_after_name tic behind_tic (Err e) = None

abbrev pub fields_after_tic : Told (List ℕ) → Option Fields
fields_after_tic (Ok tic) = fields_after_name tic.0 tic.1 (field_at tic.1)
fields_after_tic (Err e) = None

abbrev pub fields_of : List ℕ → Option Fields
fields_of value = fields_after_tic (field_at value)

abbrev pub value_kind : List (List ℕ) → Option Fields → Kind
value_kind texts None = BadLine
value_kind texts (Some f) = fields_kind texts f

-- A value ends with `;` and a line feed.
abbrev pub ends_value : List ℕ → Bool
ends_value bytes = nat_le 2 (length bytes) && bytes_eq (drop (length bytes - 2) bytes) (codes ";\n")

abbrev pub kind_behind : List (List ℕ) → List ℕ → List ℕ → Option (List ℕ) → Kind
kind_behind texts name l None = kind_of name 0 l
kind_behind texts name l (Some bytes) =
    if ends_value bytes then value_kind texts (fields_of (take (length bytes - 2) bytes)) else kind_of name 0 l

-- what stands after a name and ` = `, of what stands after the name
abbrev pub value_behind : Option (List ℕ) → Option (List ℕ)
value_behind None = None
value_behind (Some rest) = behind (codes " = ") rest

-- What is wrong with a line in the place of a fault of this name. One with the name is judged by its fields, and
-- any other as in the place of a word.
abbrev pub fault_kind : List (List ℕ) → List ℕ → List ℕ → Kind
fault_kind texts name l = kind_behind texts name l (value_behind (behind name l))

-- ---- lines

-- a job by its text, and a kind by its word
abbrev pub job_code : List (List ℕ) → Code JobId
job_code texts = read_as (λ k. record { 0 = k }) (λ job. job.0) (one_of texts)

abbrev pub kind_code : Code FaultKind
kind_code = read_as kind_word_at kind_place (one_of kind_words)

-- the tic, the job, the kind and the line
abbrev pub Parts : Type 0
Parts = ℕ × (JobId × (FaultKind × ℕ))

abbrev pub fault_at : Parts → JobFault
fault_at v = record { tic = v.0; job = v.1.0; kind = v.1.1.0; line = v.1.1.1 }

abbrev pub fault_parts : JobFault → Parts
fault_parts f = (f.tic, (f.job, (f.kind, f.line)))

-- a fault; its line is at most 2^32 - 1
abbrev pub fault_code : List (List ℕ) → Code JobFault
fault_code texts =
    read_as fault_at fault_parts
    (sequence (number 0 (tic_limit + 1) 32)
    (λ tic. sequence (job_code texts) (λ job. sequence kind_code (λ kind. number 0 4294967295 59))))

unfoldable pub fault_line : List (List ℕ) → ℕ → Lines JobFault
fault_line texts k =
    let name = indexed (codes "fault") k in line (fault_kind texts name) (named name (fault_code texts))

-- a fault for a place that has none
abbrev pub no_fault : JobFault
no_fault = record { tic = 0; job = record { 0 = 0 }; kind = DivideByZero; line = 0 }

unfoldable pub faults_of : List (List ℕ) → ℕ → Lines (List JobFault)
faults_of texts count = numbered no_fault (fault_line texts) 0 (min count kept)

-- how many faults there can be: 2^64 - 1, and none in a plan without jobs
abbrev pub most_faults : List (List ℕ) → ℕ
most_faults [] = 0
most_faults (text ∷ texts) = 18446744073709551615

-- the count of the faults, and a line for each that is kept
unfoldable pub faults_lines : List (List ℕ) → Lines FaultList
faults_lines texts =
    seen_as (λ v. record { count = v.0; first = v.1 }) (λ f. (f.count, f.first))
    (and_then (number_line (codes "faults") 0 (most_faults texts)) (λ count. faults_of texts count))
