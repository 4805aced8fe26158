-- Worked trees: for each test one that just passes it and one that just fails.
use Rattle.std.specs.List.{list_all, list_any}
use Rattle.std.specs.Prelude.{◌≡◌, ℕ, ℤ, pos, negsuc, Bool, true, false, not, ◌||◌, List, [], ◌∷◌, codes, replicate, Option, Some, None}
use Rattle.trick_body_symbols.specs.Expressions.{names}
use Rattle.trick_body_symbols.specs.Symbols.{named_symbols, number_of}
use Rattle.trick_grammar.specs.Classes.{is_one_of}
use Rattle.trick_lang.specs.SyntaxTree as tree
use Rattle.trick_lang.specs.SyntaxTree.{Declarator, EnumItem, JobLine, Members, Name, Part, SDefine, Statement}
use Rattle.trick_lang.specs.declared.bound.Bound.{Bound}
use Rattle.trick_lang.specs.declared.bound.Bound.TheVariants.{Below, UpTo}
use Rattle.trick_lang.specs.declared.class.Class.{Class}
use Rattle.trick_lang.specs.declared.class.Class.TheVariants as class
use Rattle.trick_lang.specs.declared.scalar.Scalar.TheVariants as scalar
use Rattle.trick_lang.specs.Facts.{give_no_trick, have_declarators, have_items, have_lists_within, have_no_keyword, have_right_lengths, have_right_phases, have_right_threads, have_right_times, have_right_values, have_short_lists, have_short_loops, have_short_names, have_spelled_names, is_keyword}

-- ---- small trees

abbrev pub named : ℕ → Name
named n = replicate n 97

abbrev pub declarator : Name → List ℕ → Declarator
declarator name lengths = record { name = name; lengths = lengths }

abbrev pub members : List Declarator → Members
members declarators = record { written = tree.Basic scalar.Long; declarators = declarators }

abbrev pub structure : List Members → SDefine
structure all = tree.Struct (codes "S") all ∷ []

abbrev pub enumeration : List EnumItem → SDefine
enumeration items = tree.Enum (codes "E") items ∷ []

abbrev pub item : Name → Option ℤ → EnumItem
item name value = record { line = 1; name = name; value = value }

abbrev pub class_of : List Part → SDefine
class_of parts = tree.ClassOf (codes "G") parts ∷ []

abbrev pub object : Name → SDefine
object name = tree.Object 1 (codes "G") name ∷ []

-- a class, a thread, a phase, and a start, a cycle and a stop
abbrev pub job : Class → ℕ → ℕ → ℕ → ℕ → ℕ → JobLine
job class thread phase start cycle stop = record {
  class = class;
  thread = thread;
  phase = phase;
  start = start;
  cycle = cycle;
  stop = stop;
  line = 1;
  method = codes "f";
}

abbrev pub constructor : List JobLine → SDefine
constructor jobs = class_of (tree.Constructor 1 (codes "G") jobs ∷ [])

abbrev pub scheduled : ℕ → ℕ → ℕ → SDefine
scheduled start cycle stop = constructor (job class.Scheduled 0 60000 start cycle stop ∷ [])

-- a job of another class, on thread 0
abbrev pub untimed : Class → ℕ → SDefine
untimed class stop = constructor (job class 0 60000 0 0 stop ∷ [])

abbrev pub other_classes : List Class
other_classes =
    class.DefaultData ∷ class.Initialization ∷ class.TopOfFrame ∷ class.EndOfFrame ∷ class.Freeze ∷ class.Unfreeze
    ∷ class.Checkpoint ∷ class.Restart ∷ class.Shutdown ∷ []

abbrev pub method : Name → Part
method name = tree.HasMethod (record { name = name; body = tree.NoStatement })

-- ---- loops

abbrev pub body_of : Statement → SDefine
body_of s = class_of (tree.HasMethod (record { name = codes "f"; body = tree.Then s tree.NoStatement }) ∷ [])

-- `for (long k = 0; k < N; k++) ;`
abbrev pub loop : Bound → Statement
loop bound = tree.For (codes "k") 0 bound tree.Empty

abbrev pub loop_to : Bound → SDefine
loop_to bound = body_of (loop bound)

-- each place in which a statement may stand in another one
abbrev pub nests : Statement → List Statement
nests s =
    tree.Block (tree.Then s tree.NoStatement)
    ∷ tree.Block (tree.Then tree.Empty (tree.Then s tree.NoStatement))
    ∷ tree.If (tree.Test 1 (tree.Whole 1 1) s tree.NoElse)
    ∷ tree.If (tree.Test 1 (tree.Whole 1 1) tree.Empty (tree.Test 1 (tree.Whole 1 1) s tree.NoElse))
    ∷ tree.If (tree.Test 1 (tree.Whole 1 1) tree.Empty (tree.Else s))
    ∷ tree.For (codes "i") 0 (Below 2) s
    ∷ []

-- ---- each place where a name may stand, and each list

-- one tree for each place, with this name there
abbrev pub name_places : Name → List SDefine
name_places name =
    (tree.Enum name [] ∷ [])
    ∷ enumeration (item name None ∷ [])
    ∷ (tree.Struct name [] ∷ [])
    ∷ structure (record { written = tree.Custom 1 name; declarators = [] } ∷ [])
    ∷ structure (members (declarator name [] ∷ []) ∷ [])
    ∷ (tree.ClassOf name [] ∷ [])
    ∷ class_of (tree.HasMembers (members (declarator name [] ∷ [])) ∷ [])
    ∷ class_of (method name ∷ [])
    ∷ class_of (tree.Constructor 1 name [] ∷ [])
    ∷ constructor (record (job class.Freeze 0 60000 0 0 0) { method = name } ∷ [])
    ∷ (tree.Object 1 name (codes "o") ∷ [])
    ∷ object name
    ∷ []

-- the places in which the file gives the name to a type, a member or an object
abbrev pub given_places : Name → List SDefine
given_places name =
    (tree.Enum name [] ∷ [])
    ∷ (tree.Struct name [] ∷ [])
    ∷ structure (members (declarator name [] ∷ []) ∷ [])
    ∷ (tree.ClassOf name [] ∷ [])
    ∷ class_of (tree.HasMembers (members (declarator name [] ∷ [])) ∷ [])
    ∷ object name
    ∷ []

-- one tree for each list, which has two items there and one in each other list at most
abbrev pub two_of_each : List SDefine
two_of_each =
    (tree.Include ∷ tree.Include ∷ [])
    ∷ enumeration (item (codes "A") None ∷ item (codes "B") None ∷ [])
    ∷ structure (members (declarator (codes "x") [] ∷ []) ∷ members (declarator (codes "y") [] ∷ []) ∷ [])
    ∷ structure (members (declarator (codes "x") [] ∷ declarator (codes "y") [] ∷ []) ∷ [])
    ∷ class_of (tree.Public ∷ tree.Public ∷ [])
    ∷ class_of (tree.HasMembers (members (declarator (codes "x") [] ∷ declarator (codes "y") [] ∷ [])) ∷ [])
    ∷ constructor (job class.Freeze 0 60000 0 0 0 ∷ job class.Shutdown 0 60000 0 0 0 ∷ [])
    ∷ []

abbrev pub all_pass : (SDefine → Bool) → List SDefine → Bool
all_pass test trees = list_all test trees

abbrev pub none_passes : (SDefine → Bool) → List SDefine → Bool
none_passes test trees = not (list_any test trees)

-- ---- what they pass and fail

pub record AreTold : Type 0 where
  pub names_of_64 : all_pass have_short_names (name_places (named 64)) ≡ true
  pub names_of_65 : none_passes have_short_names (name_places (named 65)) ≡ true
  pub spelled : all_pass have_spelled_names (name_places (codes "_9")) ≡ true
  pub no_name : none_passes have_spelled_names (name_places []) ≡ true
  pub digit_first : none_passes have_spelled_names (name_places (codes "9a")) ≡ true
  pub dot : none_passes have_spelled_names (name_places (codes "a.b")) ≡ true
  pub bracket : have_spelled_names (object (codes "a[0]")) ≡ false
  pub blank : have_spelled_names (object (codes "a b")) ≡ false
  pub free_words : all_pass have_no_keyword (name_places (codes "Trick")) ≡ true
  pub keyword : none_passes have_no_keyword (name_places (codes "while")) ≡ true
  pub prefix_of_a_keyword : is_keyword (codes "in") ≡ false
  pub first_keyword : is_keyword (codes "include") ≡ true
  pub last_keyword : is_keyword (codes "job_class_order") ≡ true
  -- each word that the reader takes for no name
  pub words_of_the_reader : list_all (λ row. is_one_of number_of row.1 names || is_keyword row.0) named_symbols ≡ true
  pub trick_item : give_no_trick (enumeration (item (codes "trick") None ∷ [])) ≡ true
  pub trick_method : give_no_trick (class_of (method (codes "trick") ∷ [])) ≡ true
  pub trick : none_passes give_no_trick (given_places (codes "trick")) ≡ true
  pub lists_of_two : all_pass (have_lists_within 2) two_of_each ≡ true
  pub lists_of_more : none_passes (have_lists_within 1) two_of_each ≡ true
  pub definitions_4096 : have_short_lists (replicate 4096 tree.Include) ≡ true
  pub definitions_4097 : have_short_lists (replicate 4097 tree.Include) ≡ false
  pub one_item : have_items (enumeration (item (codes "A") None ∷ [])) ≡ true
  pub no_item : have_items (enumeration []) ≡ false
  pub one_declarator : have_declarators (structure (members (declarator (codes "x") [] ∷ []) ∷ [])) ≡ true
  pub no_declarator : have_declarators (structure (members [] ∷ [])) ≡ false
  pub none_in_a_class : have_declarators (class_of (tree.HasMembers (members []) ∷ [])) ≡ false
  pub plain : have_right_lengths (structure (members (declarator (codes "x") [] ∷ []) ∷ [])) ≡ true
  pub two_lengths : have_right_lengths
      (structure (members (declarator (codes "x") (1 ∷ 9223372036854775808 ∷ []) ∷ []) ∷ [])) ≡ true
  pub three_lengths : have_right_lengths (structure (members (declarator (codes "x") (1 ∷ 1 ∷ 1 ∷ []) ∷ []) ∷ []))
      ≡ false
  pub length_0 : have_right_lengths (structure (members (declarator (codes "x") (1 ∷ 0 ∷ []) ∷ []) ∷ [])) ≡ false
  pub length_too_large : have_right_lengths
      (structure (members (declarator (codes "x") (9223372036854775809 ∷ []) ∷ []) ∷ [])) ≡ false
  pub largest : have_right_values (enumeration (item (codes "A") (Some (pos 9223372036854775808)) ∷ [])) ≡ true
  pub too_large : have_right_values (enumeration (item (codes "A") (Some (pos 9223372036854775809)) ∷ [])) ≡ false
  pub least : have_right_values (enumeration (item (codes "A") (Some (negsuc 9223372036854775807)) ∷ [])) ≡ true
  pub too_small : have_right_values (enumeration (item (codes "A") (Some (negsuc 9223372036854775808)) ∷ [])) ≡ false
  pub last_times : have_right_times (scheduled 1000000000000000 1000000000000000 1000000000000000) ≡ true
  pub cycle_1 : have_right_times (scheduled 0 1 0) ≡ true
  pub cycle_0 : have_right_times (scheduled 0 0 0) ≡ false
  pub late_start : have_right_times (scheduled 1000000000000001 1 1) ≡ false
  pub long_cycle : have_right_times (scheduled 0 1000000000000001 1) ≡ false
  pub late_stop : have_right_times (scheduled 0 1 1000000000000001) ≡ false
  pub no_times : list_all (λ c. have_right_times (untimed c 0)) other_classes ≡ true
  pub times_of_another_class : not (list_any (λ c. have_right_times (untimed c 1)) other_classes) ≡ true
  pub start_of_another_class : have_right_times (constructor (job class.Freeze 0 60000 1 0 0 ∷ [])) ≡ false
  pub cycle_of_another_class : have_right_times (constructor (job class.Freeze 0 60000 0 1 0 ∷ [])) ≡ false
  pub last_thread : have_right_threads (constructor (job class.Freeze 15 60000 0 0 0 ∷ [])) ≡ true
  pub other_thread : have_right_threads (constructor (job class.Freeze 16 60000 0 0 0 ∷ [])) ≡ false
  pub first_phase : have_right_phases (constructor (job class.Freeze 0 1 0 0 0 ∷ [])) ≡ true
  pub last_phase : have_right_phases (constructor (job class.Freeze 0 65534 0 0 0 ∷ [])) ≡ true
  pub phase_0 : have_right_phases (constructor (job class.Freeze 0 0 0 0 0 ∷ [])) ≡ false
  pub other_phase : have_right_phases (constructor (job class.Freeze 0 65535 0 0 0 ∷ [])) ≡ false
  pub no_loop : have_short_loops (class_of (method (codes "f") ∷ [])) ≡ true
  pub last_below : have_short_loops (loop_to (Below 1000000)) ≡ true
  pub too_far_below : have_short_loops (loop_to (Below 1000001)) ≡ false
  pub last_up_to : have_short_loops (loop_to (UpTo 1000000)) ≡ true
  pub too_far_up_to : have_short_loops (loop_to (UpTo 1000001)) ≡ false
  pub nested_last : list_all (λ s. have_short_loops (body_of s)) (nests (loop (Below 1000000))) ≡ true
  pub nested_too_far : list_any (λ s. have_short_loops (body_of s)) (nests (loop (Below 1000001))) ≡ false
