-- Statements, branches and blocks that grow at their ends, and locals that are forgotten again.
use Rattle.std.proofs.Common.{◌≡◌, ℕ, ◌++◌, List, [], ◌∷◌, length, take, Bool, true, false, if◌then◌else◌, is_some, refl, ap, sym, ◌∙◌}
use Rattle.std.proofs.lemmas.List.{append-nil, append_assoc}
use Rattle.trick_check_blocks.specs.Bodies.{Body, with_body, with_bodies}
use Rattle.trick_check_blocks.specs.Codes.{after, after_all}
use Rattle.trick_check_blocks.specs.Held.{bodies_of}
use Rattle.trick_check_blocks.specs.declared.start.Local.{Local}
use Rattle.trick_check_blocks.specs.declared.scope.ClassScope.{ClassScope}
use Rattle.trick_lang.specs.SyntaxTree.{Name, Statement, Empty, Block, Declare, Assign, If, For, Call, Statements, NoStatement, Then}
use Rattle.trick_lang.specs.Tree as Tree
use Rattle.trick_lang.specs.Tree.{Code, Branches, NoElse}
use Rattle.trick_lang.specs.TreeOf.{term_of, code_of, code_list, branches_of}
use Rattle.trick_lang.specs.declared.tree.Block as tree
use Rattle.trick_lang.specs.declared.tree.Branch.{Branch}
use Rattle.trick_lang.specs.declared.tree.Stmt.{Stmt}
use Rattle.trick_check_names.specs.Names.{Names, meaning_of, with_name}

abbrev pub branches_after : List Branch → Branches → Branches
branches_after [] rest = rest
branches_after (b ∷ bs) rest = Tree.Test b.line (term_of b.test) b.block (branches_after bs rest)

pub branches_grown : (bs : List Branch) (b : Branch) (rest : Branches) → branches_after (bs ++ b ∷ []) rest ≡ branches_after bs (Tree.Test b.line (term_of b.test) b.block rest)
branches_grown [] b rest = refl
branches_grown (x ∷ bs) b rest = ap (Tree.Test x.line (term_of x.test) x.block) (branches_grown bs b rest)

pub branches_done : (bs : List Branch) (last : Branches) → branches_after bs last ≡ branches_of bs last
branches_done [] last = refl
branches_done (b ∷ bs) last = ap (Tree.Test b.line (term_of b.test) b.block) (branches_done bs last)

pub codes_grown : (xs : List Stmt) (x : Stmt) (rest : List Code) → code_list (xs ++ x ∷ []) ++ rest ≡ code_list xs ++ (code_of x ∷ rest)
codes_grown [] x rest = refl
codes_grown (y ∷ xs) x rest = ap (λ cs. code_of y ∷ cs) (codes_grown xs x rest)

-- ---- blocks

pub bodies_grown : (bs : List tree.Block) (b : tree.Block) → bodies_of (bs ++ b ∷ []) ≡ bodies_of bs ++ record { class = b.class; codes = code_list b.statements; deep = b.deep } ∷ []
bodies_grown [] b = refl
bodies_grown (x ∷ bs) b = ap (λ q. record { class = x.class; codes = code_list x.statements; deep = x.deep } ∷ q) (bodies_grown bs b)

-- the blocks of a list, and then those of another
pub bodies_both : (class : ℕ) (xs ys : List (List Code)) (bodies : List Body) → with_bodies class (xs ++ ys) bodies ≡ with_bodies class ys (with_bodies class xs bodies)
bodies_both class [] ys bodies = refl
bodies_both class (x ∷ xs) ys bodies = bodies_both class xs ys (with_body class x bodies)

-- what was to be made of a part and the rest is what is to be made of the rest
pub next_bodies : (class : ℕ) (part rest : List (List Code)) (made grown all : List Body) → with_bodies class (part ++ rest) made ≡ all → grown ≡ with_bodies class part made → with_bodies class rest grown ≡ all
next_bodies class part rest made grown all told h = ap (with_bodies class rest) h ∙ (sym (bodies_both class part rest made) ∙ told)

-- ---- locals

-- the list begins with these
abbrev pub Begins : Names Local → Names Local → Type 0
Begins locals all = (more : Names Local) × (all ≡ locals ++ more)

by_test : (b : Bool) (locals more : Names Local) → Begins locals (if b then locals else locals ++ more)
by_test true locals more = ([], sym (append-nil locals))
by_test false locals more = (more, refl)

pub known_begins : (name : Name) (x : Local) (locals : Names Local) → Begins locals (with_name name x locals)
known_begins name x locals = by_test (is_some (meaning_of name locals)) locals ((name, x) ∷ [])

pub after_begins : (s : Statement) (w : ClassScope) (locals : Names Local) → Begins locals (after s w locals)
after_begins Empty w locals = ([], sym (append-nil locals))
after_begins (Block all) w locals = ([], sym (append-nil locals))
after_begins (Declare line written name value) w locals = known_begins name _ locals
after_begins (Assign line p change) w locals = ([], sym (append-nil locals))
after_begins (If branches) w locals = ([], sym (append-nil locals))
after_begins (For name from bound body) w locals = ([], sym (append-nil locals))
after_begins (Call line name) w locals = ([], sym (append-nil locals))

begins_then : (a b c : Names Local) → Begins a b → Begins b c → Begins a c
begins_then a b c p q = (p.0 ++ q.0, q.1 ∙ (ap (λ xs. xs ++ q.0) p.1 ∙ append_assoc a p.0 q.0))

pub all_begins : (all : Statements) (w : ClassScope) (locals : Names Local) → Begins locals (after_all all w locals)
all_begins NoStatement w locals = ([], sym (append-nil locals))
all_begins (Then s rest) w locals = begins_then _ _ _ (after_begins s w locals) (all_begins rest w (after s w locals))

take_front : (xs ys : Names Local) → take (length xs) (xs ++ ys) ≡ xs
take_front [] ys = refl
take_front (x ∷ xs) ys = ap (λ zs. x ∷ zs) (take_front xs ys)

-- what is forgotten again
pub left_again : (locals all : Names Local) → Begins locals all → take (length locals) all ≡ locals
left_again locals all p = ap (take (length locals)) p.1 ∙ take_front locals p.0
