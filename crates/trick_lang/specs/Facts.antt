-- What the reader of a simulation definition knows of it: a test of its tree for each fact.
use Rattle.std.specs.List.{list_all, list_any}
use Rattle.std.specs.Prelude.{ℕ, ◌==◌, ℤ, nat_abs, Bool, true, not, ◌&&◌, nat_le, List, [], ◌∷◌, codes, length, Option, Some, None}
use Rattle.std.specs.Str.{bytes_eq}
use Rattle.trick_base.specs.Time.{tic_limit}
use Rattle.trick_lang.specs.Loops.{are_short_loops}
use Rattle.trick_lang.specs.Names.{is_short, is_spelled}
use Rattle.trick_lang.specs.PartTests.{anything, file_passes}
use Rattle.trick_lang.specs.SyntaxTree as tree
use Rattle.trick_lang.specs.SyntaxTree.{JobLine, Name}
use Rattle.trick_lang.specs.declared.class.Class.{Class}
use Rattle.trick_lang.specs.declared.class.Class.TheVariants.{DefaultData, Initialization, Scheduled, TopOfFrame, EndOfFrame, Freeze, Unfreeze, Checkpoint, Restart, Shutdown}

-- ---- names

-- each name has at most 64 bytes
abbrev pub have_short_names : tree.SDefine → Bool
have_short_names = file_passes (record anything { name = is_short })

-- each name is of letters, digits and `_`, so that none has a dot, a bracket or a blank
abbrev pub have_spelled_names : tree.SDefine → Bool
have_spelled_names = file_passes (record anything { name = is_spelled })

-- the keywords, those among them that the profile leaves out
abbrev pub keywords : List Name
keywords =
    codes "include" ∷ codes "enum" ∷ codes "struct" ∷ codes "class" ∷ codes "public" ∷ codes "bool" ∷ codes "char"
    ∷ codes "short" ∷ codes "int" ∷ codes "long" ∷ codes "unsigned" ∷ codes "void" ∷ codes "return" ∷ codes "if"
    ∷ codes "else" ∷ codes "for" ∷ codes "true" ∷ codes "false" ∷ codes "double" ∷ codes "float" ∷ codes "string"
    ∷ codes "template" ∷ codes "while" ∷ codes "do" ∷ codes "switch" ∷ codes "break" ∷ codes "continue"
    ∷ codes "goto" ∷ codes "static" ∷ codes "const" ∷ codes "protected" ∷ codes "private" ∷ codes "virtual"
    ∷ codes "collect" ∷ codes "vcollect" ∷ codes "integrate" ∷ codes "job_class_order" ∷ []

abbrev pub is_keyword : Name → Bool
is_keyword name = list_any (λ word. bytes_eq name word) keywords

-- no name is a keyword
abbrev pub have_no_keyword : tree.SDefine → Bool
have_no_keyword = file_passes (record anything { name = λ name. not (is_keyword name) })

-- no type, member or object is named `trick`
abbrev pub give_no_trick : tree.SDefine → Bool
give_no_trick = file_passes (record anything { given = λ name. not (bytes_eq name (codes "trick")) })

-- ---- lists

-- definitions, items of an enum, lines of members of a struct, declarators of a line, parts of a class
-- and jobs of a constructor are so many at most
abbrev pub have_lists_within : ℕ → tree.SDefine → Bool
have_lists_within limit = file_passes (record anything { list = λ n. nat_le n limit })

abbrev pub have_short_lists : tree.SDefine → Bool
have_short_lists = have_lists_within 4096

-- each enum has an item
abbrev pub have_items : tree.SDefine → Bool
have_items = file_passes (record anything { items = λ items. nat_le 1 (length items) })

-- each line of members has a declarator
abbrev pub have_declarators : tree.SDefine → Bool
have_declarators = file_passes (record anything { members = λ m. nat_le 1 (length m.declarators) })

-- ---- numbers

-- an array has one or two lengths, each from 1 to the largest whole number, which is 2^63
abbrev pub are_right_lengths : List ℕ → Bool
are_right_lengths lengths = nat_le (length lengths) 2
    && list_all (λ n. nat_le 1 n && nat_le n 9223372036854775808) lengths

abbrev pub have_right_lengths : tree.SDefine → Bool
have_right_lengths = file_passes (record anything { lengths = are_right_lengths })

-- a written value of an item is a whole number, up to 2^63, or one with a minus sign
abbrev pub is_right_value : Option ℤ → Bool
is_right_value None = true
is_right_value (Some v) = nat_le (nat_abs v) 9223372036854775808

abbrev pub have_right_values : tree.SDefine → Bool
have_right_values = file_passes (record anything { item = λ i. is_right_value i.value })

-- ---- jobs

-- a scheduled job has a cycle from 1, and times up to the last tic
abbrev pub is_scheduled_right : JobLine → Bool
is_scheduled_right j =
    nat_le 1 j.cycle && (nat_le j.cycle tic_limit && (nat_le j.start tic_limit && nat_le j.stop tic_limit))

-- a job of another class has no times
abbrev pub has_no_times : JobLine → Bool
has_no_times j = (j.start == 0) && ((j.cycle == 0) && (j.stop == 0))

abbrev pub has_right_times : Class → JobLine → Bool
has_right_times Scheduled j = is_scheduled_right j
has_right_times DefaultData j = has_no_times j
has_right_times Initialization j = has_no_times j
has_right_times TopOfFrame j = has_no_times j
has_right_times EndOfFrame j = has_no_times j
has_right_times Freeze j = has_no_times j
has_right_times Unfreeze j = has_no_times j
has_right_times Checkpoint j = has_no_times j
has_right_times Restart j = has_no_times j
has_right_times Shutdown j = has_no_times j

abbrev pub have_right_times : tree.SDefine → Bool
have_right_times = file_passes (record anything { job = λ j. has_right_times j.class j })

-- threads go from 0 to 15
abbrev pub have_right_threads : tree.SDefine → Bool
have_right_threads = file_passes (record anything { job = λ j. nat_le j.thread 15 })

-- phases go from 1 to 65534
abbrev pub have_right_phases : tree.SDefine → Bool
have_right_phases = file_passes (record anything { job = λ j. nat_le 1 j.phase && nat_le j.phase 65534 })

-- ---- bodies

-- each loop ends at 1,000,000 at most
abbrev pub have_short_loops : tree.SDefine → Bool
have_short_loops = file_passes (record anything { body = are_short_loops })
