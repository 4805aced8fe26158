-- The grammar of classes and of a whole simulation definition. The limit bounds each list, and n says
-- how many levels may nest in the braces of a method.
use Rattle.std.specs.Prelude.{ℕ, true, List, [], ◌∷◌, ◌++◌}
use Rattle.trick_body_symbols.specs.Expressions.{Of, names, name_of}
use Rattle.trick_body_symbols.specs.Methods.{void_rest, int_rest, int_inside, method_of}
use Rattle.trick_body_symbols.specs.Statements.{scalar_of, unsigned_of, basic_more}
use Rattle.trick_body_symbols.specs.Symbols.{Token}
use Rattle.trick_body_symbols.specs.declared.symbol.Symbol.{Symbol}
use Rattle.trick_body_symbols.specs.declared.symbol.Symbol.TheVariants as the
use Rattle.trick_grammar.specs.Grammar.{outline, token, refuse, repetition, rule, hint, act, one, optional, ◌⨾◌, ◌∣◌}
use Rattle.trick_grammar.specs.declared.refusal.Refusal.TheVariants.{NotInProfile, BadName}
use Rattle.trick_lang.specs.SyntaxTree as tree
use Rattle.trick_lang.specs.SyntaxTree.{Statements, Declarator, JobLine, Part, Definition, SDefine, TypeName}
use Rattle.trick_lang.specs.declared.scalar.Scalar.{Scalar}
use Rattle.trick_lang.specs.declared.scalar.Scalar.TheVariants as scalar
use Rattle.trick_sdef_jobs.specs.Jobs.{other_classes, job}
use Rattle.trick_sdef_classes.specs.Members.{closing, free_names, free_name, lengths, declarator_of, more_declarators, declarators, declarator_first, members_of, custom, enum, struct}

-- the file of an include: another one, as a string or in angle brackets, is not in the profile
abbrev pub included : Of Token
included = refuse NotInProfile (the.Less ∷ the.Text ∷ the.Scheduled ∷ other_classes) ∣ one the.KnownFile

-- include = "#" "include" "\"sim_objects/default_trick_sys.sm\""
unfoldable pub include_body : Of Definition
include_body = act (λ v. tree.Include) (one the.Hash ⨾ one the.Include ⨾ included)

abbrev pub include : Of Definition
include = rule (outline (the.Hash ∷ []) [] []) include_body

-- "class" NAME ":" "public" "Trick" "::" "SimObject" "{": the name
unfoldable pub class_head_body : Of Token
class_head_body =
    act (λ v. v.1.0)
    (one the.Class ⨾ free_name ⨾ one the.Colon ⨾ one the.Public ⨾ one the.UpperTrick ⨾ one the.DoubleColon
    ⨾ one the.SimObject ⨾ one the.OpenBrace)

abbrev pub class_head : Of Token
class_head = rule (outline (the.Class ∷ []) [] []) class_head_body

-- what may stand after a NAME that a part begins with
pub data AfterName : Type 0 where
  -- the jobs of a constructor
  constructs : List JobLine → AfterName
  -- the members of a type with that name
  has_members : List Declarator → AfterName

-- what may stand after "int" NAME
pub data AfterInt : Type 0 where
  -- the body of a method
  does : Statements → AfterInt
  -- the lengths of the first member, and the members after it
  is_member : List ℕ → List Declarator → AfterInt

-- the type of a part that begins with a keyword other than "int"
abbrev pub other_basic : List Symbol
other_basic = the.Bool ∷ the.Char ∷ the.Short ∷ the.Long ∷ the.Unsigned ∷ []

-- the type of members: "bool" | "char" | "short" | "long" | "unsigned" [ "char" | "short" | "int" ]
unfoldable pub other_type_body : Of Scalar
other_type_body =
    act (λ t. scalar_of t.class) (token (the.Bool ∷ the.Char ∷ the.Short ∷ the.Long ∷ []))
    ∣ act (λ v. unsigned_of v.1) (one the.Unsigned ⨾ optional (token basic_more))

abbrev pub other_type : Of Scalar
other_type = rule (outline other_basic basic_more []) other_type_body

-- what a definition begins with
abbrev pub definition_first : List Symbol
definition_first = the.Hash ∷ the.Enum ∷ the.Struct ∷ the.Class ∷ names

-- what a part of a class begins with
abbrev pub part_first : List Symbol
part_first = the.Public ∷ the.Void ∷ the.Int ∷ (other_basic ++ names)

module _ (text : List ℕ) (limit : ℕ) where
  -- constructor = NAME "(" ")" "{" { job } "}": what stands after the NAME
  unfoldable pub constructor_body : Of (List JobLine)
  constructor_body = act (λ v. v.1.1.1.0) (one the.OpenParen ⨾ one the.CloseParen ⨾ one the.OpenBrace
      ⨾ repetition limit (job text) ⨾ one the.CloseBrace)

  abbrev pub constructor_rest : Of (List JobLine)
  constructor_rest = rule (outline (the.OpenParen ∷ []) [] []) constructor_body

  -- the lengths of the first member after "int" NAME, and the members after it
  abbrev pub int_member : Of AfterInt
  int_member = act (λ v. is_member v.0 v.1) (lengths ⨾ more_declarators text limit)

  abbrev pub int_part_of : Token → AfterInt → Part
  int_part_of t (does body) = tree.HasMethod (method_of text limit t body)
  int_part_of t (is_member ls ds) =
      tree.HasMembers (members_of text limit (tree.Basic scalar.Int) (declarator_of text t ls ∷ ds))

  -- what stands after the NAME that a part begins with: a constructor's, or that of a type
  unfoldable pub after_name_body : Of AfterName
  after_name_body = act constructs constructor_rest ∣ act has_members (declarators text limit)

  abbrev pub after_name : Of AfterName
  after_name = rule (outline (the.OpenParen ∷ declarator_first) [] []) after_name_body

  abbrev pub named_part_of : Token → AfterName → Part
  named_part_of t (constructs jobs) = tree.Constructor t.line (name_of text t) jobs
  named_part_of t (has_members ds) = tree.HasMembers (members_of text limit (custom text limit t) ds)

  -- members of a type of keywords other than "int"
  abbrev pub basic_part : Of Part
  basic_part = act (λ v. tree.HasMembers (members_of text limit (tree.Basic v.0) v.1)) (other_type
      ⨾ declarators text limit)

  -- a constructor, or members of a type with a name
  abbrev pub named_part : Of Part
  named_part = act (λ v. named_part_of v.0 v.1) (token names ⨾ after_name)

  -- object = NAME NAME ";"
  unfoldable pub object_body : Of Definition
  object_body = act (λ v. tree.Object v.0.line (name_of text v.0) (name_of text v.1.0)) (token names ⨾ free_name
      ⨾ one the.Semicolon)

  abbrev pub object : Of Definition
  object = rule (outline names [] []) object_body

module _ (text : List ℕ) (limit : ℕ) (n : ℕ) where
  -- "(" ")" "{" { stmt } return "}" | [ "[" WHOLE "]" [ "[" WHOLE "]" ] ] { "," declarator } ";": what
  -- stands after "int" NAME, where the part is a method or a member
  unfoldable pub after_int_body : Of AfterInt
  after_int_body = act does (int_rest text limit n) ∣ int_member text limit

  abbrev pub after_int : Of AfterInt
  after_int = rule (outline (the.OpenParen ∷ the.OpenBracket ∷ the.Comma ∷ the.Semicolon ∷ []) [] (the.Else ∷ []))
      after_int_body

  -- `trick` "(" ")" "{" { stmt } return "}", after "int"
  abbrev pub trick_method : Of Part
  trick_method = act (λ v. int_part_of text limit v.0 (does v.1.1)) (one the.LowerTrick
      ⨾ hint BadName (one the.OpenParen) ⨾ int_inside text limit n)

  -- NAME and what stands after it, after "int". A method may be named `trick` and a member may
  -- not: that name is refused where no "(" follows.
  unfoldable pub int_part_body : Of Part
  int_part_body =
      refuse NotInProfile (the.Times ∷ the.BitAnd ∷ [])
      ∣ trick_method
      ∣ act (λ v. int_part_of text limit v.0 v.1) (token free_names ⨾ after_int)

  abbrev pub int_part : Of Part
  int_part = rule (outline declarator_first [] (the.Else ∷ [])) int_part_body

  -- "void" NAME "(" ")" block
  abbrev pub void_method : Of Part
  void_method = act (λ v. tree.HasMethod (method_of text limit v.1.0 v.1.1)) (one the.Void ⨾ token names
      ⨾ void_rest text limit n)

  -- part = "public" ":" | member | method | constructor, where the first tokens of a member, a method
  -- and a constructor are read once: "void" is a method, "int" NAME a method or a member, another
  -- keyword a member, and a NAME a constructor or a member
  unfoldable pub part_body : Of Part
  part_body =
      act (λ v. tree.Public) (one the.Public ⨾ one the.Colon)
      ∣ void_method
      ∣ act (λ v. v.1) (one the.Int ⨾ int_part)
      ∣ basic_part text limit
      ∣ named_part text limit

  abbrev pub part : Of Part
  part = rule (outline part_first [] (the.Else ∷ [])) part_body

  -- class = "class" NAME ":" "public" "Trick" "::" "SimObject" "{" { part } "}" ";"
  unfoldable pub class_body : Of Definition
  class_body = act (λ v. tree.ClassOf (name_of text v.0) v.1.0) (class_head ⨾ repetition limit part ⨾ closing)

  abbrev pub class : Of Definition
  class = rule (outline (the.Class ∷ []) [] (the.Else ∷ [])) class_body

  -- include | enum | struct | class | object
  unfoldable pub definition_body : Of Definition
  definition_body = include ∣ enum text limit ∣ struct text limit ∣ class ∣ object text limit

  abbrev pub definition : Of Definition
  definition = rule (outline definition_first [] (the.Else ∷ [])) definition_body

  -- file = { include | enum | struct | class | object }
  unfoldable pub file_body : Of SDefine
  file_body = repetition limit definition

  abbrev pub file : Of SDefine
  file = rule (record {
    nullable = true;
    inhabited = true;
    first = definition_first;
    more = definition_first;
    barred = the.Else ∷ [];
  }) file_body
