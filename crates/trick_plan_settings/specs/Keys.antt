-- The order of the jobs of a class, by one number for each key.
use Rattle.std.specs.Prelude.{ℕ, ◌+◌, ◌*◌, ◌<◌, ◌^◌, List, filter, map}
use Rattle.trick_lang.specs.declared.class.Class.{Class}
use Rattle.trick_lang.specs.declared.job.Job.{Job}
use Rattle.trick_model.specs.Order.{is_of_class}
use Rattle.trick_model.specs.Plan.{job_at, job_numbers}
use Rattle.trick_plan_settings.specs.declared.queue.Entry.{Entry}

-- Phase, object and number in the constructor, compared in this order, as one number.
abbrev pub key_number : Job → ℕ
key_number job = job.phase * 18446744073709551616 + job.object * 4294967296 + job.number

-- the parts of a key fit 32 bits
pub record HasSmallKey (job : Job) : Type 0 where
  pub phase : job.phase < 2 ^ 32
  pub object : job.object < 2 ^ 32
  pub number : job.number < 2 ^ 32

-- the number that goes before a job in an order
abbrev pub key_of : Entry → ℕ
key_of entry = entry.key

-- a job with its key
abbrev pub entry_of : List Job → ℕ → Entry
entry_of jobs k = record { key = key_number (job_at jobs k); job = record { 0 = k } }

-- the jobs of a class, in program order
abbrev pub numbers_of : List Job → Class → List ℕ
numbers_of jobs class = filter (is_of_class jobs class) (job_numbers jobs)

-- the numbers of jobs with their keys
abbrev pub jobs_of : List Entry → List ℕ
jobs_of found = map (λ (entry : Entry). (entry.job).0) found
