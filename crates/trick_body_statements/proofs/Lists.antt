-- Trees of lists: what the readers collect is what the grammar makes.
use Rattle.std.proofs.Common.{◌≡◌, ℕ, zero, suc, ◌-◌, nat_eq, ◌<◌, true, false, List, [], ◌∷◌, ◌++◌, length, map, Some, None, Ok, Err, Box, Global, refl, sym, ap, ◌∙◌}
use Rattle.std.proofs.lemmas.List.{append-nil}
use Rattle.std.specs.declared.vec.Vec.{Vec}
use Rattle.trick_body_symbols.specs.Expressions as grammar
use Rattle.trick_body_symbols.specs.Statements as statements
use Rattle.trick_body_symbols.specs.Symbols.{number_of, Token}
use Rattle.trick_body_statements.specs.Trees.{step_of, link_of, branch_of}
use Rattle.trick_grammar.proofs.Loops.{many_end, many_next}
use Rattle.trick_grammar.proofs.Short.{token_leaves}
use Rattle.trick_grammar.specs.Gives.{class_of}
use Rattle.trick_grammar.specs.Grammar.{act, any_number, first_of}
use Rattle.trick_grammar.specs.Reading.{Reading, ◌>>=◌, read}
use Rattle.trick_grammar.specs.StartsWith.{next_in}
use Rattle.trick_lang.specs.Syntax.{expression_of, parts_of_list, links_of_list, choices_of_list, statement_of, statements_of_list, branches_of_list}
use Rattle.trick_lang.specs.SyntaxTree
use Rattle.trick_lang.specs.SyntaxTree.{Expression, Choices, Statement}
use Rattle.trick_lang.specs.declared.operator.Operator.{Operator}
use Rattle.trick_lang.proofs.SyntaxLists.{chain_is, choose_is, block_is, if_is}
use Rattle.trick_lang.specs.declared.syntax.expression.Choice.{Choice}
use Rattle.trick_lang.specs.declared.syntax.expression.Expr.{Expr, Chain, Choose}
use Rattle.trick_lang.specs.declared.syntax.expression.Link.{Link}
use Rattle.trick_lang.specs.declared.syntax.expression.Part.{Part, Member, Index}
use Rattle.trick_lang.specs.declared.syntax.statement.Branch.{Branch}
use Rattle.trick_lang.specs.declared.syntax.statement.Stmt.{Stmt, Block, If}

pub parts_are : (ps : List Part) → parts_of_list ps ≡ grammar.parts_of (map step_of ps)
parts_are [] = refl
parts_are (Member line name ∷ ps) = ap (SyntaxTree.Member line name) (parts_are ps)
parts_are (Index e ∷ ps) = ap (SyntaxTree.Index (expression_of e)) (parts_are ps)

pub some_items : (n : ℕ) → nat_eq n 0 ≡ false → n ≡ 0 → ⊥
some_items zero h e = absurd cc
some_items (suc n) h e = absurd cc

-- ---- chains of operators

pub links_are : (ls : List Link) → links_of_list ls ≡ grammar.links_of (map link_of ls)
links_are [] = refl
links_are (l ∷ ls) = ap (SyntaxTree.Link l.operator (expression_of l.operand)) (links_are ls)

-- a link takes tokens
pub link_shrinks : (l : ℕ) (b : grammar.Of Expression) (us : List Token) (x : Operator × Expression) (rest : List Token) → read number_of class_of [] (grammar.link l b) us ≡ Ok (x, rest) → length rest < length us
link_shrinks l b us x rest = token_leaves number_of class_of [] (grammar.marks_of l) b (λ v. (grammar.operator_of v.0.class, v.1)) us x rest

-- what a link begins with
pub link_begins : (l : ℕ) (b : grammar.Of Expression) (ts : List Token) → next_in number_of class_of (grammar.marks_of l) ts ≡ next_in number_of class_of (first_of (grammar.link l b)) ts
link_begins l b ts = ap (λ cs. next_in number_of class_of cs ts) (sym (append-nil (grammar.marks_of l)))

chain_list : (e : Expression) (ls : List Link) → (ls ≡ [] → ⊥) → SyntaxTree.Chain e (links_of_list ls) ≡ grammar.chain_of e (map link_of ls)
chain_list e [] some = absurd (some refl)
chain_list e (l ∷ ls) some = ap (SyntaxTree.Chain e) (links_are (l ∷ ls))

pub chain_made : (b : Box Expr Global) (v : Vec Link Global) (first : Expr) → b.value ≡ first → (v.items ≡ [] → ⊥) → expression_of (Chain b v) ≡ grammar.chain_of (expression_of first) (map link_of v.items)
chain_made b v first is some = chain_is b v ∙ ap (λ e. SyntaxTree.Chain (expression_of e) (links_of_list v.items)) is ∙ chain_list (expression_of first) v.items some

-- ---- chains of `?:`

-- the tests that were read, with their values, before other choices
abbrev pub before : List Choice → Choices → Choices
before [] k = k
before (c ∷ cs) k = SyntaxTree.Choice (expression_of c.test) (expression_of c.value) (before cs k)

-- what they make with the part after them, and what is read next
abbrev pub chosen : List Choice → Expression → List (Expression × Expression) → Expression
chosen [] e vs = grammar.choose_of e vs
chosen (c ∷ cs) e vs = SyntaxTree.Choose (before (c ∷ cs) (grammar.choices_of e vs))

before_next : (cs : List Choice) (c : Choice) (k : Choices) → before (cs ++ c ∷ []) k ≡ before cs (SyntaxTree.Choice (expression_of c.test) (expression_of c.value) k)
before_next [] c k = refl
before_next (d ∷ cs) c k = ap (SyntaxTree.Choice (expression_of d.test) (expression_of d.value)) (before_next cs c k)

pub chosen_next : (cs : List Choice) (c : Choice) (e : Expression) (vs : List (Expression × Expression)) → chosen cs (expression_of c.test) ((expression_of c.value, e) ∷ vs) ≡ chosen (cs ++ c ∷ []) e vs
chosen_next [] c e vs = refl
chosen_next (d ∷ cs) c e vs = sym (ap SyntaxTree.Choose (before_next (d ∷ cs) c (grammar.choices_of e vs)))

before_last : (cs : List Choice) (e : Expression) → choices_of_list cs e ≡ before cs (SyntaxTree.Last e)
before_last [] e = refl
before_last (c ∷ cs) e = ap (SyntaxTree.Choice (expression_of c.test) (expression_of c.value)) (before_last cs e)

chosen_list : (cs : List Choice) (e : Expression) → (cs ≡ [] → ⊥) → SyntaxTree.Choose (choices_of_list cs e) ≡ chosen cs e []
chosen_list [] e some = absurd (some refl)
chosen_list (c ∷ cs) e some = ap SyntaxTree.Choose (before_last (c ∷ cs) e)

pub choose_made : (v : Vec Choice Global) (b : Box Expr Global) (last : Expr) → b.value ≡ last → (v.items ≡ [] → ⊥) → expression_of (Choose v b) ≡ chosen v.items (expression_of last) []
choose_made v b last is some = choose_is v b ∙ ap (λ e. SyntaxTree.Choose (choices_of_list v.items (expression_of e))) is ∙ chosen_list v.items (expression_of last) some

-- ---- a loop that folds what it reads

unchanged : {Y : Type 0} (q : Reading Token (List Y)) → (q >>= λ xs. Ok (xs.0, xs.1)) ≡ q
unchanged (Ok p) = refl
unchanged (Err z) = refl

module _ {Y B : Type 0} (a : grammar.Of Y) (shrinks : (us : List Token) (x : Y) (rest : List Token) → read number_of class_of [] a us ≡ Ok (x, rest) → length rest < length us) where
  -- what is made of the items that are left to be read
  abbrev pub folded : (List Y → B) → List Token → Reading Token B
  folded k rest = read number_of class_of [] (act k (any_number a)) rest

  shifted : (k more : List Y → B) (y : Y) → ((ys : List Y) → k (y ∷ ys) ≡ more ys) → (q : Reading Token (List Y)) → ((q >>= λ xs. Ok (y ∷ xs.0, xs.1)) >>= λ v. Ok (k v.0, v.1)) ≡ (q >>= λ v. Ok (more v.0, v.1))
  shifted k more y same (Ok p) = ap (λ (b : B). Ok (b, p.1)) (same p.0)
  shifted k more y same (Err z) = refl

  pub folded_next : (k more : List Y → B) (y : Y) (rest after : List Token) (total : Reading Token B) → ((ys : List Y) → k (y ∷ ys) ≡ more ys) → next_in number_of class_of (first_of a) rest ≡ true → read number_of class_of [] a rest ≡ Ok (y, after) → folded k rest ≡ total → folded more after ≡ total
  folded_next k more y rest after total same on p so_far =
      let one_on = many_next number_of (λ (x : Y). x) [] a shrinks [] (y ∷ []) y rest after _ on p refl refl in
      sym (shifted k more y same (read number_of class_of [] (any_number a) after))
      ∙ ap (λ (q : Reading Token (List Y)). q >>= λ v. Ok (k v.0, v.1)) (one_on ∙ unchanged (read number_of class_of [] (any_number a) rest)) ∙ so_far

  pub folded_end : (k : List Y → B) (rest : List Token) (total : Reading Token B) → next_in number_of class_of (first_of a) rest ≡ false → folded k rest ≡ total → total ≡ Ok (k [], rest)
  folded_end k rest total off so_far =
      let none = many_end number_of (λ (x : Y). x) [] a shrinks [] rest _ off refl in
      sym so_far ∙ ap (λ (q : Reading Token (List Y)). q >>= λ v. Ok (k v.0, v.1)) (sym (unchanged (read number_of class_of [] (any_number a) rest)) ∙ none)

-- ---- blocks and `else if` chains

pub trees_are : (ss : List Stmt) → statements_of_list ss ≡ statements.statements_of (map statement_of ss)
trees_are [] = refl
trees_are (s ∷ ss) = ap (SyntaxTree.Then (statement_of s)) (trees_are ss)

pub block_made : (v : Vec Stmt Global) → statement_of (Block v) ≡ SyntaxTree.Block (statements.statements_of (map statement_of v.items))
block_made v = block_is v ∙ ap SyntaxTree.Block (trees_are v.items)

branches_none : (bs : List Branch) → branches_of_list bs SyntaxTree.NoElse ≡ statements.branches_of (map branch_of bs) None
branches_none [] = refl
branches_none (b ∷ bs) = ap (SyntaxTree.Test b.line (expression_of b.test) (statement_of b.body)) (branches_none bs)

branches_some : (bs : List Branch) (s : Statement) → branches_of_list bs (SyntaxTree.Else s) ≡ statements.branches_of (map branch_of bs) (Some s)
branches_some [] s = refl
branches_some (b ∷ bs) s = ap (SyntaxTree.Test b.line (expression_of b.test) (statement_of b.body)) (branches_some bs s)

pub if_none : (v : Vec Branch Global) → statement_of (If v None) ≡ SyntaxTree.If (statements.branches_of (map branch_of v.items) None)
if_none v = if_is v None ∙ ap SyntaxTree.If (branches_none v.items)

pub if_some : (v : Vec Branch Global) (b : Box Stmt Global) (s : Stmt) → b.value ≡ s → statement_of (If v (Some b)) ≡ SyntaxTree.If (statements.branches_of (map branch_of v.items) (Some (statement_of s)))
if_some v b s is = if_is v (Some b) ∙ ap SyntaxTree.If (branches_some v.items (statement_of b.value)) ∙ ap (λ t. SyntaxTree.If (statements.branches_of (map branch_of v.items) (Some (statement_of t)))) is
