-- Worked texts with their trees, written as they are and cut at blanks and line ends: each production of a
-- file, each type, each class of jobs, each form of times, and each default.
use Rattle.std.specs.List.{list_any, slice_index_or}
use Rattle.std.specs.Prelude.{◌≡◌, ℕ, ◌+◌, ℤ, pos, ◌-ℤ◌, List, [], ◌∷◌, ◌++◌, length, codes, Option, Some, None, Ok, Err, nat_eq, Bool, true, ◌&&◌, ◌||◌, not, if◌then◌else◌}
use Rattle.trick_body_symbols.specs.Lexemes.{lexemes_of, symbol_as}
use Rattle.trick_body_symbols.specs.Symbols.{number_of, symbol_of}
use Rattle.trick_grammar.specs.Gives.{class_of}
use Rattle.trick_grammar.specs.Text.{read_all}
use Rattle.trick_lang.specs.SyntaxTree as tree
use Rattle.trick_lang.specs.SyntaxTree.{Declarator, EnumItem, JobLine, Members, Name, Part, SDefine, Statements, TypeName}
use Rattle.trick_lang.specs.declared.class.Class.{Class}
use Rattle.trick_lang.specs.declared.class.Class.TheVariants as class
use Rattle.trick_lang.specs.declared.scalar.Scalar.TheVariants as scalar
use Rattle.trick_sdef_classes.specs.Files.{file}
use Rattle.trick_sdef_jobs.specs.Jobs.{Times}
use Rattle.trick_base.specs.Time.{tic_limit}
use Rattle.trick_text.specs.Tokens.{spelling}
use Rattle.trick_text.specs.declared.token.Token.{Token}
use Rattle.trick_text.specs.declared.token.TokenKind.{TokenKind}
use Rattle.trick_text.specs.declared.token.TokenKind.TheVariants as kind
use Rattle.trick_text.specs.declared.token.TokenKind.TheVariants.{Whole, Decimal, Text, Mark}

-- ---- tokens

-- a token of a kind, from a place up to another, on a line
abbrev pub at : TokenKind → ℕ → ℕ → ℕ → Token
at kind start end line = record { kind = kind; start = start; end = end; line = line }

abbrev pub is_gap : ℕ → Bool
is_gap b = nat_eq b 32 || nat_eq b 10

-- whether the bytes of a token are of its kind, and no gap
abbrev pub is_whole : List ℕ → Token → Bool
is_whole text t =
    not (list_any is_gap (spelling text t))
    && nat_eq (number_of (symbol_of (spelling text t))) (number_of (symbol_as t.kind (spelling text t)))

-- whether these are the tokens of a text that single blanks and line ends cut, from a place on a line on
abbrev pub are_cut : List ℕ → ℕ → ℕ → List Token → Bool
are_cut text from line [] = nat_eq from (length text + 1)
are_cut text from line (t ∷ ts) =
    nat_eq t.start from
    && (nat_eq t.line line
    && (is_whole text t
    && are_cut text (t.end + 1) (if nat_eq (slice_index_or text t.end 32) 10 then line + 1 else line) ts))

-- ---- trees, in short

abbrev pub item : ℕ → Name → Option ℤ → EnumItem
item line name value = record { line = line; name = name; value = value }

abbrev pub declarator : Name → List ℕ → Declarator
declarator name lengths = record { name = name; lengths = lengths }

abbrev pub members : TypeName → List Declarator → Members
members written declarators = record { written = written; declarators = declarators }

abbrev pub method : Name → Statements → Part
method name body = tree.HasMethod (record { name = name; body = body })

-- a class, a thread, a phase, the line of the method's name, and the name
abbrev pub job : Class → ℕ → ℕ → ℕ → Name → JobLine
job class thread phase line method =
    record {
      class = class;
      thread = thread;
      phase = phase;
      start = 0;
      cycle = 0;
      stop = 0;
      line = line;
      method = method;
    }

-- a cycle, a start and a stop, in tics
abbrev pub times : ℕ → ℕ → ℕ → Times
times cycle start stop = record { class = class.Scheduled; start = start; cycle = cycle; stop = stop }

abbrev pub scheduled_job : ℕ → ℕ → Times → ℕ → Name → JobLine
scheduled_job thread phase when line method =
    record (job class.Scheduled thread phase line method) { start = when.start; cycle = when.cycle; stop = when.stop }

-- ---- what is read

-- the tree of these tokens of a text, with 16 items in a list at most, 4 levels deep
abbrev pub tree_in : List ℕ → List Token → Option SDefine
tree_in text tokens =
    elim (read_all number_of class_of (file text 16 4) (lexemes_of text tokens))
    [ Ok definitions ↦ Some definitions | Err refused ↦ None ]

-- these are the tokens of the text, and this is its tree
abbrev pub IsFile : List ℕ → List Token → SDefine → Type 0
IsFile text tokens definitions = (are_cut text 0 1 tokens ≡ true) × (tree_in text tokens ≡ Some definitions)

-- the text of a class C with these bytes in its braces
abbrev pub in_class : List ℕ → List ℕ
in_class inside = codes "class C : public Trick :: SimObject { " ++ (inside ++ codes " } ;")

-- ---- the texts

-- an include line
abbrev pub IncludeLine : Type 0
IncludeLine = IsFile (codes "# include \"sim_objects/default_trick_sys.sm\"")
    (at Mark 0 1 1 ∷ at kind.Name 2 9 1 ∷ at Text 10 44 1 ∷ [])
    (tree.Include ∷ [])

-- items without a value, with one, and with a negative one
abbrev pub Items : Type 0
Items = IsFile (codes "enum E { A , B = 5 , D = - 2 } ;")
    (at kind.Name 0 4 1 ∷ at kind.Name 5 6 1 ∷ at Mark 7 8 1 ∷ at kind.Name 9 10 1 ∷ at Mark 11 12 1
    ∷ at kind.Name 13 14 1 ∷
    at Mark 15 16 1 ∷ at Whole 17 18 1 ∷ at Mark 19 20 1 ∷ at kind.Name 21 22 1 ∷ at Mark 23 24 1 ∷
    at Mark 25 26 1 ∷ at Whole 27 28 1 ∷ at Mark 29 30 1 ∷ at Mark 31 32 1 ∷ [])
    (tree.Enum (codes "E") (item 1 (codes "A") None ∷ item 1 (codes "B") (Some (pos 5)) ∷
    item 1 (codes "D") (Some (pos 0 -ℤ pos 2)) ∷ []) ∷ [])

-- a comma after the last item
abbrev pub LastComma : Type 0
LastComma = IsFile (codes "enum E {\nA = 0x10 ,\n} ;")
    (at kind.Name 0 4 1 ∷ at kind.Name 5 6 1 ∷ at Mark 7 8 1 ∷ at kind.Name 9 10 2 ∷ at Mark 11 12 2
    ∷ at Whole 13 17 2 ∷
    at Mark 18 19 2 ∷ at Mark 20 21 3 ∷ at Mark 22 23 3 ∷ [])
    (tree.Enum (codes "E") (item 2 (codes "A") (Some (pos 16)) ∷ []) ∷ [])

-- each type of a member
abbrev pub Types : Type 0
Types = IsFile
    (codes "struct S { bool a ; char b ; unsigned char c ; short d ; "
    ++ codes "unsigned short e ; int f ; unsigned int g ; long h ; } ;")
    (at kind.Name 0 6 1 ∷ at kind.Name 7 8 1 ∷ at Mark 9 10 1 ∷ at kind.Name 11 15 1 ∷ at kind.Name 16 17 1
    ∷ at Mark 18 19 1 ∷
    at kind.Name 20 24 1 ∷ at kind.Name 25 26 1 ∷ at Mark 27 28 1 ∷ at kind.Name 29 37 1 ∷ at kind.Name 38 42 1
    ∷ at kind.Name 43 44 1 ∷
    at Mark 45 46 1 ∷ at kind.Name 47 52 1 ∷ at kind.Name 53 54 1 ∷ at Mark 55 56 1 ∷ at kind.Name 57 65 1
    ∷ at kind.Name 66 71 1 ∷
    at kind.Name 72 73 1 ∷ at Mark 74 75 1 ∷ at kind.Name 76 79 1 ∷ at kind.Name 80 81 1 ∷ at Mark 82 83 1
    ∷ at kind.Name 84 92 1 ∷
    at kind.Name 93 96 1 ∷ at kind.Name 97 98 1 ∷ at Mark 99 100 1 ∷ at kind.Name 101 105 1 ∷ at kind.Name 106 107 1 ∷
    at Mark 108 109 1 ∷ at Mark 110 111 1 ∷ at Mark 112 113 1 ∷ [])
    (tree.Struct (codes "S") (members (tree.Basic scalar.Bool) (declarator (codes "a") [] ∷ []) ∷
    members (tree.Basic scalar.Char) (declarator (codes "b") [] ∷ []) ∷
    members (tree.Basic scalar.UChar) (declarator (codes "c") [] ∷ []) ∷
    members (tree.Basic scalar.Short) (declarator (codes "d") [] ∷ []) ∷
    members (tree.Basic scalar.UShort) (declarator (codes "e") [] ∷ []) ∷
    members (tree.Basic scalar.Int) (declarator (codes "f") [] ∷ []) ∷
    members (tree.Basic scalar.UInt) (declarator (codes "g") [] ∷ []) ∷
    members (tree.Basic scalar.Long) (declarator (codes "h") [] ∷ []) ∷ []) ∷ [])

-- several members of one type, with lengths
abbrev pub Declarators : Type 0
Declarators = IsFile (codes "struct S { unsigned a , b [ 2 ] ;\nT c [ 3 ] [ 4 ] ; } ;")
    (at kind.Name 0 6 1 ∷ at kind.Name 7 8 1 ∷ at Mark 9 10 1 ∷ at kind.Name 11 19 1 ∷ at kind.Name 20 21 1
    ∷ at Mark 22 23 1 ∷
    at kind.Name 24 25 1 ∷ at Mark 26 27 1 ∷ at Whole 28 29 1 ∷ at Mark 30 31 1 ∷ at Mark 32 33 1 ∷
    at kind.Name 34 35 2 ∷ at kind.Name 36 37 2 ∷ at Mark 38 39 2 ∷ at Whole 40 41 2 ∷ at Mark 42 43 2 ∷
    at Mark 44 45 2 ∷ at Whole 46 47 2 ∷ at Mark 48 49 2 ∷ at Mark 50 51 2 ∷ at Mark 52 53 2 ∷
    at Mark 54 55 2 ∷ [])
    (tree.Struct (codes "S") (members (tree.Basic scalar.UInt) (declarator (codes "a") [] ∷
    declarator (codes "b") (2 ∷ []) ∷ []) ∷ members (tree.Custom 2 (codes "T")) (declarator (codes "c") (3 ∷ 4 ∷
    []) ∷ []) ∷ []) ∷ [])

-- members of a class
abbrev pub ClassMembers : Type 0
ClassMembers = IsFile (codes
    "class C : public Trick :: SimObject { public : int n ; unsigned m ;\nT s [ 2 ] , t ; } ;")
    (at kind.Name 0 5 1 ∷ at kind.Name 6 7 1 ∷ at Mark 8 9 1 ∷ at kind.Name 10 16 1 ∷ at kind.Name 17 22 1
    ∷ at Mark 23 25 1 ∷
    at kind.Name 26 35 1 ∷ at Mark 36 37 1 ∷ at kind.Name 38 44 1 ∷ at Mark 45 46 1 ∷ at kind.Name 47 50 1
    ∷ at kind.Name 51 52 1 ∷
    at Mark 53 54 1 ∷ at kind.Name 55 63 1 ∷ at kind.Name 64 65 1 ∷ at Mark 66 67 1 ∷ at kind.Name 68 69 2
    ∷ at kind.Name 70 71 2 ∷
    at Mark 72 73 2 ∷ at Whole 74 75 2 ∷ at Mark 76 77 2 ∷ at Mark 78 79 2 ∷ at kind.Name 80 81 2 ∷
    at Mark 82 83 2 ∷ at Mark 84 85 2 ∷ at Mark 86 87 2 ∷ [])
    (tree.ClassOf (codes "C") (tree.Public ∷
    tree.HasMembers (members (tree.Basic scalar.Int) (declarator (codes "n") [] ∷ [])) ∷
    tree.HasMembers (members (tree.Basic scalar.UInt) (declarator (codes "m") [] ∷ [])) ∷
    tree.HasMembers (members (tree.Custom 2 (codes "T")) (declarator (codes "s") (2 ∷ []) ∷
    declarator (codes "t") [] ∷ [])) ∷ []) ∷ [])

-- each form of a method
abbrev pub Methods : Type 0
Methods = IsFile
    (in_class (codes "void f ( ) { ; } int g ( ) { return 0 ; } int trick ( ) { ; return ( 0 ) ; }"))
    (at kind.Name 0 5 1 ∷ at kind.Name 6 7 1 ∷ at Mark 8 9 1 ∷ at kind.Name 10 16 1 ∷ at kind.Name 17 22 1
    ∷ at Mark 23 25 1 ∷
    at kind.Name 26 35 1 ∷ at Mark 36 37 1 ∷ at kind.Name 38 42 1 ∷ at kind.Name 43 44 1 ∷ at Mark 45 46 1
    ∷ at Mark 47 48 1 ∷
    at Mark 49 50 1 ∷ at Mark 51 52 1 ∷ at Mark 53 54 1 ∷ at kind.Name 55 58 1 ∷ at kind.Name 59 60 1
    ∷ at Mark 61 62 1 ∷
    at Mark 63 64 1 ∷ at Mark 65 66 1 ∷ at kind.Name 67 73 1 ∷ at Whole 74 75 1 ∷ at Mark 76 77 1 ∷
    at Mark 78 79 1 ∷ at kind.Name 80 83 1 ∷ at kind.Name 84 89 1 ∷ at Mark 90 91 1 ∷ at Mark 92 93 1
    ∷ at Mark 94 95 1 ∷
    at Mark 96 97 1 ∷ at kind.Name 98 104 1 ∷ at Mark 105 106 1 ∷ at Whole 107 108 1 ∷ at Mark 109 110 1 ∷
    at Mark 111 112 1 ∷ at Mark 113 114 1 ∷ at Mark 115 116 1 ∷ at Mark 117 118 1 ∷ [])
    (tree.ClassOf (codes "C") (method (codes "f") (tree.Then tree.Empty tree.NoStatement) ∷
    method (codes "g") tree.NoStatement ∷ method (codes "trick") (tree.Then tree.Empty tree.NoStatement) ∷ []) ∷
    [])

-- jobs of four classes, each on its line
abbrev pub JobClasses : Type 0
JobClasses = IsFile
    (in_class (codes "C ( ) {\n( \"default_data\" ) a ( ) ;\n( \"initialization\" ) b ( ) ;"
    ++ codes "\n( \"top_of_frame\" ) c ( ) ;\n( \"end_of_frame\" ) d ( ) ; }"))
    (at kind.Name 0 5 1 ∷ at kind.Name 6 7 1 ∷ at Mark 8 9 1 ∷ at kind.Name 10 16 1 ∷ at kind.Name 17 22 1
    ∷ at Mark 23 25 1 ∷
    at kind.Name 26 35 1 ∷ at Mark 36 37 1 ∷ at kind.Name 38 39 1 ∷ at Mark 40 41 1 ∷ at Mark 42 43 1
    ∷ at Mark 44 45 1 ∷
    at Mark 46 47 2 ∷ at Text 48 62 2 ∷ at Mark 63 64 2 ∷ at kind.Name 65 66 2 ∷ at Mark 67 68 2 ∷ at Mark 69 70 2 ∷
    at Mark 71 72 2 ∷ at Mark 73 74 3 ∷ at Text 75 91 3 ∷ at Mark 92 93 3 ∷ at kind.Name 94 95 3 ∷ at Mark 96 97 3 ∷
    at Mark 98 99 3 ∷ at Mark 100 101 3 ∷ at Mark 102 103 4 ∷ at Text 104 118 4 ∷ at Mark 119 120 4 ∷
    at kind.Name 121 122 4 ∷ at Mark 123 124 4 ∷ at Mark 125 126 4 ∷ at Mark 127 128 4 ∷ at Mark 129 130 5 ∷
    at Text 131 145 5 ∷ at Mark 146 147 5 ∷ at kind.Name 148 149 5 ∷ at Mark 150 151 5 ∷ at Mark 152 153 5 ∷
    at Mark 154 155 5 ∷ at Mark 156 157 5 ∷ at Mark 158 159 5 ∷ at Mark 160 161 5 ∷ [])
    (tree.ClassOf (codes "C") (tree.Constructor 1 (codes "C") (job class.DefaultData 0 60000 2 (codes "a") ∷
    job class.Initialization 0 60000 3 (codes "b") ∷ job class.TopOfFrame 0 60000 4 (codes "c") ∷
    job class.EndOfFrame 0 60000 5 (codes "d") ∷ []) ∷ []) ∷ [])

-- jobs of the other five classes without times
abbrev pub MoreJobClasses : Type 0
MoreJobClasses = IsFile
    (codes "class C : public Trick :: SimObject {\nC ( ) { ( \"freeze\" ) a ( ) ; ( \"unfreeze\" ) b ( ) ; "
    ++ codes "( \"checkpoint\" ) c ( ) ; ( \"restart\" ) d ( ) ; ( \"shutdown\" ) e ( ) ; } } ;")
    (at kind.Name 0 5 1 ∷ at kind.Name 6 7 1 ∷ at Mark 8 9 1 ∷ at kind.Name 10 16 1 ∷ at kind.Name 17 22 1
    ∷ at Mark 23 25 1 ∷
    at kind.Name 26 35 1 ∷ at Mark 36 37 1 ∷ at kind.Name 38 39 2 ∷ at Mark 40 41 2 ∷ at Mark 42 43 2
    ∷ at Mark 44 45 2 ∷
    at Mark 46 47 2 ∷ at Text 48 56 2 ∷ at Mark 57 58 2 ∷ at kind.Name 59 60 2 ∷ at Mark 61 62 2 ∷ at Mark 63 64 2 ∷
    at Mark 65 66 2 ∷ at Mark 67 68 2 ∷ at Text 69 79 2 ∷ at Mark 80 81 2 ∷ at kind.Name 82 83 2 ∷ at Mark 84 85 2 ∷
    at Mark 86 87 2 ∷ at Mark 88 89 2 ∷ at Mark 90 91 2 ∷ at Text 92 104 2 ∷ at Mark 105 106 2 ∷
    at kind.Name 107 108 2 ∷ at Mark 109 110 2 ∷ at Mark 111 112 2 ∷ at Mark 113 114 2 ∷ at Mark 115 116 2 ∷
    at Text 117 126 2 ∷ at Mark 127 128 2 ∷ at kind.Name 129 130 2 ∷ at Mark 131 132 2 ∷ at Mark 133 134 2 ∷
    at Mark 135 136 2 ∷ at Mark 137 138 2 ∷ at Text 139 149 2 ∷ at Mark 150 151 2 ∷ at kind.Name 152 153 2 ∷
    at Mark 154 155 2 ∷ at Mark 156 157 2 ∷ at Mark 158 159 2 ∷ at Mark 160 161 2 ∷ at Mark 162 163 2 ∷
    at Mark 164 165 2 ∷ [])
    (tree.ClassOf (codes "C") (tree.Constructor 2 (codes "C") (job class.Freeze 0 60000 2 (codes "a") ∷
    job class.Unfreeze 0 60000 2 (codes "b") ∷ job class.Checkpoint 0 60000 2 (codes "c") ∷
    job class.Restart 0 60000 2 (codes "d") ∷ job class.Shutdown 0 60000 2 (codes "e") ∷ []) ∷ []) ∷ [])

-- a cycle, a cycle and a start, and all three times
abbrev pub TimesOfJobs : Type 0
TimesOfJobs = IsFile
    (in_class (codes "C ( ) { ( 2 , \"scheduled\" ) a ( ) ; ( 0.5 , 3 , \"scheduled\" ) b ( ) ; "
    ++ codes "( 0.000001 , 0 , 0.0 , \"scheduled\" ) c ( ) ; }"))
    (at kind.Name 0 5 1 ∷ at kind.Name 6 7 1 ∷ at Mark 8 9 1 ∷ at kind.Name 10 16 1 ∷ at kind.Name 17 22 1
    ∷ at Mark 23 25 1 ∷
    at kind.Name 26 35 1 ∷ at Mark 36 37 1 ∷ at kind.Name 38 39 1 ∷ at Mark 40 41 1 ∷ at Mark 42 43 1
    ∷ at Mark 44 45 1 ∷
    at Mark 46 47 1 ∷ at Whole 48 49 1 ∷ at Mark 50 51 1 ∷ at Text 52 63 1 ∷ at Mark 64 65 1 ∷
    at kind.Name 66 67 1 ∷ at Mark 68 69 1 ∷ at Mark 70 71 1 ∷ at Mark 72 73 1 ∷ at Mark 74 75 1 ∷
    at Decimal 76 79 1 ∷ at Mark 80 81 1 ∷ at Whole 82 83 1 ∷ at Mark 84 85 1 ∷ at Text 86 97 1 ∷
    at Mark 98 99 1 ∷ at kind.Name 100 101 1 ∷ at Mark 102 103 1 ∷ at Mark 104 105 1 ∷ at Mark 106 107 1 ∷
    at Mark 108 109 1 ∷ at Decimal 110 118 1 ∷ at Mark 119 120 1 ∷ at Whole 121 122 1 ∷ at Mark 123 124 1 ∷
    at Decimal 125 128 1 ∷ at Mark 129 130 1 ∷ at Text 131 142 1 ∷ at Mark 143 144 1 ∷ at kind.Name 145 146 1 ∷
    at Mark 147 148 1 ∷ at Mark 149 150 1 ∷ at Mark 151 152 1 ∷ at Mark 153 154 1 ∷ at Mark 155 156 1 ∷
    at Mark 157 158 1 ∷ [])
    (tree.ClassOf (codes "C") (tree.Constructor 1 (codes "C") (scheduled_job 0 60000
    (times 2000000 0 tic_limit) 1 (codes "a") ∷
    scheduled_job 0 60000 (times 500000 3000000 tic_limit) 1 (codes "b") ∷
    scheduled_job 0 60000 (times 1 0 0) 1 (codes "c") ∷ []) ∷ []) ∷ [])

-- a thread, a phase, and both
abbrev pub ThreadsAndPhases : Type 0
ThreadsAndPhases = IsFile
    (in_class (codes "C ( ) { C1 ( \"freeze\" ) a ( ) ; P7 ( \"freeze\" ) b ( ) ; "
    ++ codes "C15 P65534 ( 1.5 , \"scheduled\" ) c ( ) ; }"))
    (at kind.Name 0 5 1 ∷ at kind.Name 6 7 1 ∷ at Mark 8 9 1 ∷ at kind.Name 10 16 1 ∷ at kind.Name 17 22 1
    ∷ at Mark 23 25 1 ∷
    at kind.Name 26 35 1 ∷ at Mark 36 37 1 ∷ at kind.Name 38 39 1 ∷ at Mark 40 41 1 ∷ at Mark 42 43 1
    ∷ at Mark 44 45 1 ∷
    at kind.Name 46 48 1 ∷ at Mark 49 50 1 ∷ at Text 51 59 1 ∷ at Mark 60 61 1 ∷ at kind.Name 62 63 1
    ∷ at Mark 64 65 1 ∷
    at Mark 66 67 1 ∷ at Mark 68 69 1 ∷ at kind.Name 70 72 1 ∷ at Mark 73 74 1 ∷ at Text 75 83 1 ∷ at Mark 84 85 1 ∷
    at kind.Name 86 87 1 ∷ at Mark 88 89 1 ∷ at Mark 90 91 1 ∷ at Mark 92 93 1 ∷ at kind.Name 94 97 1 ∷
    at kind.Name 98 104 1 ∷ at Mark 105 106 1 ∷ at Decimal 107 110 1 ∷ at Mark 111 112 1 ∷ at Text 113 124 1 ∷
    at Mark 125 126 1 ∷ at kind.Name 127 128 1 ∷ at Mark 129 130 1 ∷ at Mark 131 132 1 ∷ at Mark 133 134 1 ∷
    at Mark 135 136 1 ∷ at Mark 137 138 1 ∷ at Mark 139 140 1 ∷ [])
    (tree.ClassOf (codes "C") (tree.Constructor 1 (codes "C") (job class.Freeze 1 60000 1 (codes "a") ∷
    job class.Freeze 0 7 1 (codes "b") ∷ scheduled_job 15 65534 (times 1500000 0 tic_limit) 1 (codes "c") ∷
    []) ∷ []) ∷ [])

-- objects
abbrev pub Objects : Type 0
Objects = IsFile (codes "C c ;\nD d ;")
    (at kind.Name 0 1 1 ∷ at kind.Name 2 3 1 ∷ at Mark 4 5 1 ∷ at kind.Name 6 7 2 ∷ at kind.Name 8 9 2
    ∷ at Mark 10 11 2 ∷ [])
    (tree.Object 1 (codes "C") (codes "c") ∷ tree.Object 2 (codes "D") (codes "d") ∷ [])

-- Each of these texts has these tokens and this tree.
pub record FilesAreRead : Type 0 where
  pub include_line : IncludeLine
  pub items : Items
  pub last_comma : LastComma
  pub types : Types
  pub declarators : Declarators
  pub class_members : ClassMembers
  pub methods : Methods
  pub job_classes : JobClasses
  pub more_job_classes : MoreJobClasses
  pub times_of_jobs : TimesOfJobs
  pub threads_and_phases : ThreadsAndPhases
  pub objects : Objects
