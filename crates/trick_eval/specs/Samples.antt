-- A program that tests run: one job, whose body updates the one cell of the memory.
use Rattle.std.specs.Prelude.{◌≡◌, ℤ, false, List, [], ◌∷◌}
use Rattle.trick_lang.specs.Tree.{Code, Number, spot, NoStep, Update, Assign}
use Rattle.trick_lang.specs.TreeOf.{code_list}
use Rattle.trick_lang.specs.declared.class.Class.TheVariants.{Scheduled}
use Rattle.trick_lang.specs.declared.job.Job.{Job}
use Rattle.trick_lang.specs.declared.method.Method.{Method}
use Rattle.trick_lang.specs.declared.object.Object.{Object}
use Rattle.trick_lang.specs.declared.operator.Arithmetic.{Arithmetic}
use Rattle.trick_lang.specs.declared.scalar.Scalar.{Scalar}
use Rattle.trick_lang.specs.declared.tree.Block.{Block}
use Rattle.trick_lang.specs.declared.tree.Stmt.{Stmt}
use Rattle.trick_lang.specs.declared.variable.Variable.{Variable}

-- cell 0 `op=` a number, in line 3
abbrev pub update : Arithmetic → ℤ → List Code
update operator number = Assign 3 (spot false 0 1 0 0 NoStep) (Update operator (Number number)) ∷ []

-- one block, of the first class, which does that
pub record IsUpdate (operator : Arithmetic) (number : ℤ) (blocks : List Block) : Type 0 where
  pub statements : List Stmt
  pub block : blocks ≡ record { class = 0; statements = statements; deep = 1 } ∷ []
  pub code : code_list statements ≡ update operator number

-- the one cell, object, method and job
abbrev pub cells : Scalar → List Variable
cells scalar = record { name = []; scalar = scalar } ∷ []

abbrev pub objects : List Object
objects = record { name = []; class = 0; first = 0 } ∷ []

abbrev pub methods : List Method
methods = record { name = []; class = 0; block = 0 } ∷ []

abbrev pub jobs : List Job
jobs = record {
  object = 0;
  method = 0;
  instance = 1;
  class = Scheduled;
  thread = 0;
  phase = 60000;
  start = 0;
  cycle = 1;
  stop = 1000;
  number = 0;
} ∷ []
