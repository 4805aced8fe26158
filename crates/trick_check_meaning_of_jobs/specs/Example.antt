-- A small file that keeps all that the laws ask, with a program that it names.
use Rattle.std.specs.Prelude.{◌≡◌, ℤ, pos, List, [], ◌∷◌, Option, Result, Err}
use Rattle.trick_check.specs.Named.{IsNamed}
use Rattle.trick_lang.specs.Effect.{effect}
use Rattle.trick_lang.specs.SyntaxTree as text
use Rattle.trick_lang.specs.SyntaxTree.{Basic, Decrease, HasMembers, JobLine, Name, NoPart, Part, SDefine, Statement, Update, path}
use Rattle.trick_lang.specs.declared.bound.Bound.TheVariants.{Below}
use Rattle.trick_lang.specs.declared.class.Class.TheVariants.{Initialization}
use Rattle.trick_lang.specs.declared.fault.FaultKind.TheVariants.{DivideByZero}
use Rattle.trick_lang.specs.declared.fault.StatementFault.{StatementFault}
use Rattle.trick_lang.specs.declared.job.Job.{Job}
use Rattle.trick_lang.specs.declared.operator.Arithmetic.TheVariants.{Divide}
use Rattle.trick_lang.specs.declared.program.Program.{Program}
use Rattle.trick_lang.specs.declared.scalar.Scalar.TheVariants.{Long}
use Rattle.trick_check_meaning.specs.Worked.{a, b, call, g, i, lit, local, m, method, n, o, v, var}
use Rattle.trick_check_meaning_of_jobs.specs.Jobs.{IsReadable, meant_by}

-- `name--;`
abbrev pub less : Name → Statement
less name = text.Assign 1 (path 1 name NoPart) Decrease

-- in line 9: `i /= i;`
abbrev pub divided : Statement
divided = text.Assign 9 (path 9 i NoPart) (Update Divide (var i))

-- ("initialization") m();
abbrev pub line : JobLine
line = record {
  class = Initialization;
  thread = 0;
  phase = 60000;
  start = 0;
  cycle = 0;
  stop = 0;
  line = 1;
  method = m;
}

-- void m() { long i = 2; n(); for (long a = 0; a < 2; a++) i--; i /= i; }
abbrev pub calling : Part
calling = method m (local i (lit 2) ∷ call n ∷ text.For a 0 (Below 2) (less i) ∷ divided ∷ [])

-- class g { long v; void n() { long b = 3; b--; } void m() { .. } g() { ("initialization") m(); } };  g o;
abbrev pub file : SDefine
file = text.ClassOf g (
    HasMembers (record { written = Basic Long; declarators = record { name = v; lengths = [] } ∷ [] })
    ∷ method n (local b (lit 3) ∷ less b ∷ [])
    ∷ calling
    ∷ text.Constructor 1 g (line ∷ [])
    ∷ []
    ) ∷ text.Object 1 g o ∷ []

-- its one job stops in line 9, since the local variable `i` is 0 there: the loop made it so, and `n` left it alone
abbrev pub stops : Result (List (Option ℤ)) StatementFault
stops = Err (record { kind = DivideByZero; line = 9 })

-- a program that the file names
pub record HasProgram : Type 0 where
  pub program : Program
  pub named : IsNamed file program
  pub readable : IsReadable file
  pub job : Job
  pub one_job : program.jobs ≡ job ∷ []
  pub effect_is : effect program (record { 0 = 0 }) (pos 5 ∷ []) ≡ stops
  pub meant_is : meant_by file program job (pos 5 ∷ []) ≡ stops
