-- The steps of the walk's loops over trees.
use Rattle.std.proofs.Common.{◌≡◌, ℕ, ◌+◌, ◌<◌, ◌≤◌, List, [], ◌∷◌, ◌++◌, length, get_or, drop, take, Bool, true, false, if◌then◌else◌, is_some, refl, ap, sym, ◌∙◌, arith}
use Rattle.std.proofs.lemmas.List.{append-nil, append_assoc}
use Rattle.trick_base.proofs.ListLemmas.{next_item}
use Rattle.trick_lang.specs.Syntax.{branches_of_list, choices_of_list, expression_of, links_of_list, parts_of_list, statement_of, statements_of_list}
use Rattle.trick_lang.specs.SyntaxTree
use Rattle.trick_lang.specs.SyntaxTree.{Expression, Branches, Parts, Statement, Statements, NoStatement, Then, Declare, NoPart, Name}
use Rattle.trick_lang.specs.declared.syntax.expression.Choice.{Choice}
use Rattle.trick_lang.specs.declared.syntax.expression.Link.{Link}
use Rattle.trick_lang.specs.declared.syntax.expression.Part.{Part, Member, Index}
use Rattle.trick_lang.specs.declared.syntax.statement.Branch.{Branch}
use Rattle.trick_lang.specs.declared.syntax.statement.Stmt.{Stmt}
use Rattle.trick_check_names.proofs.Weights.{part_weight}
use Rattle.trick_check_names.specs.declared.scope.FileScope.{FileScope}
use Rattle.trick_check_names.specs.BodyMistakes.{after, after_all, expression_mistakes, line_of, part_mistakes, strays}
use Rattle.trick_check_names.specs.Names.{Names, meaning_of, with_name}
use Rattle.trick_check_names.specs.Places.{to_member, to_element, literal_of, followed}
use Rattle.trick_check_names.specs.declared.tables.Local.{Local}
use Rattle.trick_check_names.specs.declared.follow.State.{State}

pub links_next : (xs : List Link) (i : ℕ) (item : Link) → i < length xs → item ≡ get_or xs i item → links_of_list (drop i xs) ≡ SyntaxTree.Link item.operator (expression_of item.operand) (links_of_list (drop (i + 1) xs))
links_next xs i item h is = ap links_of_list (next_item xs i item h is)

pub choices_next : (xs : List Choice) (i : ℕ) (item : Choice) (last : Expression) → i < length xs → item ≡ get_or xs i item → choices_of_list (drop i xs) last ≡ SyntaxTree.Choice (expression_of item.test) (expression_of item.value) (choices_of_list (drop (i + 1) xs) last)
choices_next xs i item last h is = ap (λ cs. choices_of_list cs last) (next_item xs i item h is)

pub statements_next : (xs : List Stmt) (i : ℕ) (item : Stmt) → i < length xs → item ≡ get_or xs i item → statements_of_list (drop i xs) ≡ Then (statement_of item) (statements_of_list (drop (i + 1) xs))
statements_next xs i item h is = ap statements_of_list (next_item xs i item h is)

pub branches_next : (xs : List Branch) (i : ℕ) (item : Branch) (last : Branches) → i < length xs → item ≡ get_or xs i item → branches_of_list (drop i xs) last ≡ SyntaxTree.Test item.line (expression_of item.test) (statement_of item.body) (branches_of_list (drop (i + 1) xs) last)
branches_next xs i item last h is = ap (λ bs. branches_of_list bs last) (next_item xs i item h is)

-- ---- parts of a path

-- one part, and the rest from where it leads
pub part_splits : (item : Part) (rest : List Part) (w : FileScope) (locals : Names Local) (s : State) → part_mistakes (parts_of_list (item ∷ rest)) w locals s ≡ part_mistakes (parts_of_list (item ∷ [])) w locals s ++ part_mistakes (parts_of_list rest) w locals (followed (parts_of_list (item ∷ [])) w s)
part_splits (Member line name) rest w locals s =
    ap (λ ms. ms ++ part_mistakes (parts_of_list rest) w locals (to_member name w s)) (sym (append-nil (strays line s (to_member name w s))))
part_splits (Index e) rest w locals s =
    let x = expression_of e in
    let next = to_element (literal_of x) s in
    let ms = expression_mistakes x w locals in
    let st = strays (line_of x) s next in
    let more = part_mistakes (parts_of_list rest) w locals next in
    sym (append_assoc ms st more) ∙ ap (λ ks. (ms ++ ks) ++ more) (sym (append-nil st))

pub part_weighs : (item : Part) (rest : List Part) → part_weight (parts_of_list (item ∷ rest)) + 1 ≡ part_weight (parts_of_list (item ∷ [])) + part_weight (parts_of_list rest)
part_weighs (Member line name) rest = omega arith
part_weighs (Index e) rest = omega arith

pub some_part : (parts : Parts) → 1 ≤ part_weight parts
some_part NoPart = omega arith
some_part (SyntaxTree.Member line name rest) = omega arith
some_part (SyntaxTree.Index e rest) = omega arith

-- ---- locals

-- the list begins with these
abbrev pub Begins : Names Local → Names Local → Type 0
Begins locals all = (more : Names Local) × (all ≡ locals ++ more)

by_test : (b : Bool) (locals more : Names Local) → Begins locals (if b then locals else locals ++ more)
by_test true locals more = ([], sym (append-nil locals))
by_test false locals more = (more, refl)

pub declared_begins : (name : Name) (x : Local) (locals : Names Local) → Begins locals (with_name name x locals)
declared_begins name x locals = by_test (is_some (meaning_of name locals)) locals ((name, x) ∷ [])

pub after_begins : (s : Statement) (locals : Names Local) → Begins locals (after s locals)
after_begins (Declare line written name value) locals = declared_begins name _ locals
after_begins s locals = ([], sym (append-nil locals))

pub begins_then : (a b c : Names Local) → Begins a b → Begins b c → Begins a c
begins_then a b c p q = (p.0 ++ q.0, q.1 ∙ (ap (λ xs. xs ++ q.0) p.1 ∙ append_assoc a p.0 q.0))

pub all_begins : (all : Statements) (locals : Names Local) → Begins locals (after_all all locals)
all_begins NoStatement locals = ([], sym (append-nil locals))
all_begins (Then s rest) locals = begins_then _ _ _ (after_begins s locals) (all_begins rest (after s locals))

take_front : (xs ys : Names Local) → take (length xs) (xs ++ ys) ≡ xs
take_front [] ys = refl
take_front (x ∷ xs) ys = ap (λ zs. x ∷ zs) (take_front xs ys)

-- what is forgotten again
pub left_again : (locals all : Names Local) → Begins locals all → take (length locals) all ≡ locals
left_again locals all p = ap (take (length locals)) p.1 ∙ take_front locals p.0
