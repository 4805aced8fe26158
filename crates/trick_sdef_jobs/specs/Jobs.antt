-- The grammar of the jobs of a constructor. Classes, times, threads and phases outside the profile
-- are refused at their tokens.
use Rattle.std.specs.Prelude.{ℕ, ◌*◌, min, List, [], ◌∷◌, ◌++◌, Option, Some, None}
use Rattle.trick_body_symbols.specs.Expressions.{Of, names, name_of}
use Rattle.trick_body_symbols.specs.Symbols.{Token}
use Rattle.trick_body_symbols.specs.declared.symbol.Symbol.{Symbol}
use Rattle.trick_body_symbols.specs.declared.symbol.Symbol.TheVariants as the
use Rattle.trick_grammar.specs.Grammar.{outline, token, refuse, rule, act, one, optional, ◌⨾◌, ◌∣◌}
use Rattle.trick_grammar.specs.declared.refusal.Refusal.TheVariants.{NotInProfile, BadTime}
use Rattle.trick_lang.specs.SyntaxTree.{JobLine}
use Rattle.trick_lang.specs.declared.class.Class.{Class}
use Rattle.trick_lang.specs.declared.class.Class.TheVariants as class
use Rattle.trick_base.specs.Time.{tic_limit}

-- ---- what the tokens mean

-- the class of a string; other symbols name no class
abbrev pub job_class_of : Symbol → Class
job_class_of the.DefaultData = class.DefaultData
job_class_of the.Initialization = class.Initialization
job_class_of the.TopOfFrame = class.TopOfFrame
job_class_of the.EndOfFrame = class.EndOfFrame
job_class_of the.Freeze = class.Freeze
job_class_of the.Unfreeze = class.Unfreeze
job_class_of the.Checkpoint = class.Checkpoint
job_class_of the.Restart = class.Restart
job_class_of the.Shutdown = class.Shutdown
job_class_of _ = class.Scheduled

-- The tics of a time: a decimal token stands for its tics, and a whole one for its seconds. (No time
-- of the profile comes near the least of the two, which is what 64 bits hold.)
abbrev pub tics_of : Token → ℕ
tics_of t = elim t.class [
  | the.Decimal ↦ t.number
  | the.DecimalZero ↦ 0
  | _ ↦ min (t.number * 1000000)
      18446744073709551615
]

-- what stands in the parentheses of a job
pub record Times : Type 0 where
  pub class : Class
  pub start : ℕ
  pub cycle : ℕ
  pub stop : ℕ

abbrev pub unscheduled : Token → Times
unscheduled t = record { class = job_class_of t.class; start = 0; cycle = 0; stop = 0 }

-- a job stops at the latest tic where nothing else is written
abbrev pub stop_of : Option ℕ → ℕ
stop_of None = tic_limit
stop_of (Some stop) = stop

-- the start and the stop
abbrev pub span_of : Option (ℕ × Option ℕ) → ℕ × ℕ
span_of None = (0, tic_limit)
span_of (Some v) = (v.0, stop_of v.1)

abbrev pub scheduled : ℕ → ℕ × ℕ → Times
scheduled cycle span = record { class = class.Scheduled; start = span.0; cycle = cycle; stop = span.1 }

-- ---- terminals that are several symbols

abbrev pub other_classes : List Symbol
other_classes = the.DefaultData ∷ the.Initialization ∷ the.TopOfFrame ∷ the.EndOfFrame ∷ the.Freeze ∷ the.Unfreeze
    ∷ the.Checkpoint ∷ the.Restart ∷ the.Shutdown ∷ []

-- strings that name no class
abbrev pub no_classes : List Symbol
no_classes = the.KnownFile ∷ the.Text ∷ []

abbrev pub zero_times : List Symbol
zero_times = the.Zero ∷ the.LongZero ∷ the.DecimalZero ∷ []

abbrev pub positive_times : List Symbol
positive_times = the.One ∷ the.Small ∷ the.Large ∷ the.Decimal ∷ []

abbrev pub bad_times : List Symbol
bad_times = the.Huge ∷ the.BadDecimal ∷ []

-- ---- times and classes

-- TIME, of any length
unfoldable pub time_body : Of Token
time_body = refuse BadTime bad_times ∣ token (zero_times ++ positive_times)

abbrev pub time : Of Token
time = rule (outline (bad_times ++ (zero_times ++ positive_times)) [] []) time_body

-- TIME, as a cycle: not 0
unfoldable pub cycle_body : Of Token
cycle_body = refuse BadTime bad_times ∣ refuse NotInProfile zero_times ∣ token positive_times

abbrev pub cycle : Of Token
cycle = rule (outline (bad_times ++ (zero_times ++ positive_times)) [] []) cycle_body

-- STRING, after times: only the class of scheduled jobs has times
unfoldable pub scheduled_class_body : Of Token
scheduled_class_body = refuse NotInProfile (no_classes ++ other_classes) ∣ one the.Scheduled

abbrev pub scheduled_class : Of Token
scheduled_class = rule (outline (the.Scheduled ∷ (no_classes ++ other_classes)) [] []) scheduled_class_body

-- STRING, without times: each class but that of scheduled jobs
unfoldable pub other_class_body : Of Token
other_class_body = refuse NotInProfile (the.Scheduled ∷ no_classes) ∣ token other_classes

abbrev pub other_class : Of Token
other_class = rule (outline (the.Scheduled ∷ (no_classes ++ other_classes)) [] []) other_class_body

-- TIME ",", as a start or a stop
unfoldable pub timed_body : Of ℕ
timed_body = act (λ v. tics_of v.0) (time ⨾ one the.Comma)

abbrev pub timed : Of ℕ
timed = rule (outline (bad_times ++ (zero_times ++ positive_times)) [] []) timed_body

-- TIME ",", as a cycle
unfoldable pub every_body : Of ℕ
every_body = act (λ v. tics_of v.0) (cycle ⨾ one the.Comma)

abbrev pub every : Of ℕ
every = rule (outline (bad_times ++ (zero_times ++ positive_times)) [] []) every_body

-- [ TIME "," [ TIME "," ] ]: the start and the stop
abbrev pub span : Of (ℕ × ℕ)
span = act span_of (optional (timed ⨾ optional timed))

-- [ times ] STRING, where times = TIME "," [ TIME "," [ TIME "," ] ]: the cycle, the start and the
-- stop
unfoldable pub times_body : Of Times
times_body = act unscheduled other_class ∣ act (λ v. scheduled v.0 v.1.0) (every ⨾ span ⨾ scheduled_class)

abbrev pub times : Of Times
times = rule (outline ((the.Scheduled ∷ (no_classes ++ other_classes))
    ++ (bad_times ++ (zero_times ++ positive_times))) [] []) times_body

-- ---- jobs

-- n of `C<n>`, which is 15 at most, as its symbol says; without a thread a job is on thread 0
abbrev pub thread_of : Option Token → ℕ
thread_of None = 0
thread_of (Some t) = min t.number 15

-- n of `P<n>`, which is 65534 at most, as its symbol says; without a phase a job has phase 60000
abbrev pub phase_of : Option Token → ℕ
phase_of None = 60000
phase_of (Some t) = min t.number 65534

-- C<n>, from 1 to 15
unfoldable pub thread_body : Of Token
thread_body = refuse NotInProfile (the.OtherThread ∷ []) ∣ one the.Thread

abbrev pub thread : Of Token
thread = rule (outline (the.Thread ∷ the.OtherThread ∷ []) [] []) thread_body

-- P<n>, from 1 to 65534
unfoldable pub phase_body : Of Token
phase_body = refuse NotInProfile (the.OtherPhase ∷ []) ∣ one the.Phase

abbrev pub phase : Of Token
phase = rule (outline (the.Phase ∷ the.OtherPhase ∷ []) [] []) phase_body

abbrev pub job_of : List ℕ → ℕ → ℕ → Times → Token → JobLine
job_of text thread phase times method = record {
  class = times.class;
  thread = thread;
  phase = phase;
  start = times.start;
  cycle = times.cycle;
  stop = times.stop;
  line = method.line;
  method = name_of text method;
}

-- [ C<n> ]
abbrev pub thread_part : Of ℕ
thread_part = act thread_of (optional thread)

-- [ P<n> ]
abbrev pub phase_part : Of ℕ
phase_part = act phase_of (optional phase)

-- NAME "(" ")" ";": a call
unfoldable pub called_body : Of Token
called_body = act (λ v. v.0) (token names ⨾ one the.OpenParen ⨾ one the.CloseParen ⨾ one the.Semicolon)

abbrev pub called : Of Token
called = rule (outline names [] []) called_body

-- job = [ C<n> ] [ P<n> ] "(" [ times ] STRING ")" NAME "(" ")" ";"
unfoldable pub job_body : List ℕ → Of JobLine
job_body text = act (λ v. job_of text v.0 v.1.0 v.1.1.1.0 v.1.1.1.1.1) (thread_part ⨾ phase_part ⨾ one the.OpenParen
    ⨾ times ⨾ one the.CloseParen ⨾ called)

abbrev pub job : List ℕ → Of JobLine
job text = rule (outline (the.Thread ∷ the.OtherThread ∷ the.Phase ∷ the.OtherPhase ∷ the.OpenParen ∷ []) [] [])
    (job_body text)
