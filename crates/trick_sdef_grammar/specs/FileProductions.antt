-- The language of simulation definitions production by production, as docs/FORMATS.md writes it, over
-- the parts of the grammar that is read. That grammar decides each step by one token ahead and names
-- reasons for refusals; here each production stands alone, and what is refused has no production.
use Rattle.std.specs.Prelude.{ℕ, suc, ℤ, pos, ◌-ℤ◌, List, [], ◌∷◌, ◌++◌, Option, Some, None}
use Rattle.trick_body_symbols.specs.Expressions.{Of, names, wholes, name_of}
use Rattle.trick_body_symbols.specs.Methods as methods
use Rattle.trick_sdef_grammar.specs.BodyProductions.{Same, type_name}
use Rattle.trick_body_symbols.specs.Symbols.{Token}
use Rattle.trick_body_symbols.specs.declared.symbol.Symbol.TheVariants as the
use Rattle.trick_grammar.specs.Grammar.{token, repetition, act, one, optional, ◌⨾◌, ◌∣◌}
use Rattle.trick_lang.specs.SyntaxTree as tree
use Rattle.trick_lang.specs.SyntaxTree.{Declarator, Definition, EnumItem, JobLine, Members, Part}
use Rattle.trick_sdef_classes.specs.Files as read
use Rattle.trick_sdef_jobs.specs.Jobs as jobs
use Rattle.trick_sdef_jobs.specs.Jobs.{Times, job_of, other_classes, phase_of, positive_times, scheduled, span_of, thread_of, tics_of, unscheduled, zero_times}
use Rattle.trick_sdef_classes.specs.Members as members
use Rattle.trick_sdef_classes.specs.Members.{declarator_of, free_names, lengths_of}

-- ---- enums

-- a number with its sign
abbrev pub signed : Option Token → ℕ → ℤ
signed None n = pos n
signed (Some minus) n = pos 0 -ℤ pos n

-- "=" [ "-" ] WHOLE
abbrev pub item_value : Of ℤ
item_value = act (λ v. signed v.1.0 v.1.1.number) (one the.Assign ⨾ optional (one the.Minus) ⨾ token wholes)

-- item = NAME [ "=" [ "-" ] WHOLE ]
abbrev pub item : List ℕ → Of EnumItem
item text =
    act (λ v. record { line = v.0.line; name = name_of text v.0; value = v.1 })
    (token names ⨾ optional item_value)

-- enum = "enum" NAME "{" item { "," item } [ "," ] "}" ";", with n items after the first at most
abbrev pub enum : List ℕ → ℕ → Of Definition
enum text n =
    act (λ v. tree.Enum (name_of text v.1.0) (v.1.1.1.0 ∷ v.1.1.1.1.0))
    (one the.Enum ⨾ token free_names ⨾ one the.OpenBrace
    ⨾ members.item text ⨾ repetition n (act (λ v. v.1) (one the.Comma ⨾ members.item text)) ⨾ optional (one the.Comma)
    ⨾ one the.CloseBrace ⨾ one the.Semicolon)

-- ---- members

-- "[" WHOLE "]", where the number is not 0
abbrev pub length : Of ℕ
length =
    act (λ v. v.1.0.number)
    (one the.OpenBracket ⨾ token (the.One ∷ the.Small ∷ the.Large ∷ the.Huge ∷ []) ⨾ one the.CloseBracket)

-- declarator = NAME [ "[" WHOLE "]" [ "[" WHOLE "]" ] ]
abbrev pub declarator : List ℕ → Of Declarator
declarator text =
    act (λ v. declarator_of text v.0 (lengths_of v.1)) (token free_names ⨾ optional (length ⨾ optional length))

-- member = type declarator { "," declarator } ";", with n declarators after the first at most
abbrev pub member : List ℕ → ℕ → Of Members
member text n =
    act (λ v. record { written = v.0.1; declarators = v.1.0 ∷ v.1.1.0 })
    (type_name text ⨾ declarator text ⨾ repetition n (act (λ v. v.1)
    (one the.Comma ⨾ declarator text)) ⨾ one the.Semicolon)

-- struct = "struct" NAME "{" { member } "}" ";"
abbrev pub struct : List ℕ → ℕ → Of Definition
struct text limit =
    act (λ v. tree.Struct (name_of text v.1.0) v.1.1.1.0)
    (one the.Struct ⨾ token free_names ⨾ one the.OpenBrace
    ⨾ repetition limit (members.member text limit) ⨾ one the.CloseBrace ⨾ one the.Semicolon)

-- ---- jobs

-- TIME ",", in tics
abbrev pub timed : Of ℕ
timed = act (λ v. tics_of v.0) (token (zero_times ++ positive_times) ⨾ one the.Comma)

-- [ times ] STRING, where times = TIME "," [ TIME "," [ TIME "," ] ], and the first time is not 0: only
-- the class of scheduled jobs has times
abbrev pub times : Of Times
times =
    act unscheduled (token other_classes)
    ∣ act (λ v. scheduled (tics_of v.0) (span_of v.1.1.0))
    (token positive_times ⨾ one the.Comma ⨾ optional (timed ⨾ optional timed) ⨾ one the.Scheduled)

-- job = [ C<n> ] [ P<n> ] "(" [ times ] STRING ")" NAME "(" ")" ";"
abbrev pub job : List ℕ → Of JobLine
job text =
    act (λ v. job_of text (thread_of v.0) (phase_of v.1.0) v.1.1.1.0 v.1.1.1.1.1.0)
    (optional (one the.Thread) ⨾ optional (one the.Phase) ⨾ one the.OpenParen ⨾ jobs.times ⨾ one the.CloseParen
    ⨾ token names ⨾ one the.OpenParen ⨾ one the.CloseParen ⨾ one the.Semicolon)

-- ---- classes

-- constructor = NAME "(" ")" "{" { job } "}"
abbrev pub constructor : List ℕ → ℕ → Of Part
constructor text limit =
    act (λ v. tree.Constructor v.0.line (name_of text v.0) v.1.1.1.1.0)
    (token names ⨾ one the.OpenParen ⨾ one the.CloseParen ⨾ one the.OpenBrace
    ⨾ repetition limit (jobs.job text) ⨾ one the.CloseBrace)

-- part = "public" ":" | member | method | constructor, with n levels left in the braces of a method
abbrev pub part : List ℕ → ℕ → ℕ → Of Part
part text limit n =
    act (λ v. tree.Public) (one the.Public ⨾ one the.Colon)
    ∣ act tree.HasMembers (members.member text limit)
    ∣ act tree.HasMethod (methods.method text limit n)
    ∣ constructor text limit

-- class = "class" NAME ":" "public" "Trick" "::" "SimObject" "{" { part } "}" ";"
abbrev pub class : List ℕ → ℕ → ℕ → Of Definition
class text limit n =
    act (λ v. tree.ClassOf (name_of text v.1.0) v.1.1.1.1.1.1.1.1.0)
    (one the.Class ⨾ token free_names ⨾ one the.Colon ⨾ one the.Public ⨾ one the.UpperTrick ⨾ one the.DoubleColon
    ⨾ one the.SimObject ⨾ one the.OpenBrace ⨾ repetition limit
    (read.part text limit n) ⨾ one the.CloseBrace ⨾ one the.Semicolon)

-- ---- files

-- include = "#" "include" STRING, where the string is that of the known file
abbrev pub include : Of Definition
include = act (λ v. tree.Include) (one the.Hash ⨾ one the.Include ⨾ one the.KnownFile)

-- object = NAME NAME ";"
abbrev pub object : List ℕ → Of Definition
object text =
    act (λ v. tree.Object v.0.line (name_of text v.0) (name_of text v.1.0))
    (token names ⨾ token free_names ⨾ one the.Semicolon)

-- ---- the promise

-- The parts of the grammar that is read have the texts of these productions, and the same trees. A list
-- has n items after its first at most.
pub record AreProductions (text : List ℕ) (n levels : ℕ) : Type 0 where
  pub item_values : Same members.item_value item_value
  pub items : Same (members.item text) (item text)
  pub enums : Same (members.enum text (suc n)) (enum text n)
  pub lengths : Same members.length length
  pub declarators : Same (members.declarator text) (declarator text)
  pub member_lists : Same (members.member text (suc n)) (member text n)
  pub structs : Same (members.struct text (suc n)) (struct text (suc n))
  pub times : Same jobs.times times
  pub job_lines : Same (jobs.job text) (job text)
  pub parts : Same (read.part text (suc n) levels) (part text (suc n) levels)
  pub classes : Same (read.class text (suc n) levels) (class text (suc n) levels)
  pub includes : Same read.include include
  pub objects : Same (read.object text (suc n)) (object text)
  -- definition = include | enum | struct | class | object
  pub definitions : Same (read.definition text (suc n) levels)
      (read.include ∣ members.enum text (suc n) ∣ members.struct text (suc n) ∣ read.class text
      (suc n) levels ∣ read.object text (suc n))
  -- file = { definition }
  pub files : Same (read.file text (suc n) levels) (repetition (suc n) (read.definition text (suc n) levels))

abbrev pub FilesHaveProductions : Type 0
FilesHaveProductions = (text : List ℕ) (n levels : ℕ) → AreProductions text n levels
