-- The tree of the text that a value holds, over the lists of its parts.
use Rattle.std.proofs.Common.{◌≡◌, ℕ, List, Option, Some, None, Box, Global, refl, ap, subst}
use Rattle.std.specs.declared.vec.Vec.{Vec}
use Rattle.trick_lang.specs.Syntax.{expression_of, links_of, choices_of, parts_of, path_of, links_of_list, choices_of_list, parts_of_list, statement_of, statements_of, branches_of, statements_of_list, branches_of_list, else_of_option}
use Rattle.trick_lang.specs.SyntaxTree
use Rattle.trick_lang.specs.SyntaxTree.{Expression, Branches, NoElse, Else}
use Rattle.trick_lang.specs.declared.syntax.expression.Choice.{Choice}
use Rattle.trick_lang.specs.declared.syntax.expression.Expr.{Expr, Named, Named', Chain, Chain', Choose, Choose', Row_of-Link, end_of-Link, more_of-Link, items-the_row-Link, items_hidden-the_row-Link-1, Row_of-Choice, end_of-Choice, more_of-Choice, items-the_row-Choice, items_hidden-the_row-Choice-2, Row_of-Part, end_of-Part, more_of-Part, items-the_row-Part, items_hidden-the_row-Part-0}
use Rattle.trick_lang.specs.declared.syntax.expression.Link.{Link}
use Rattle.trick_lang.specs.declared.syntax.expression.Part.{Part, Member, Index}
use Rattle.trick_lang.specs.declared.syntax.expression.Path.{Path}
use Rattle.trick_lang.specs.declared.syntax.statement.Branch.{Branch}
use Rattle.trick_lang.specs.declared.syntax.statement.Stmt.{Stmt, Block, Block', If, If', Row_of-Stmt, end_of-Stmt, more_of-Stmt, items-the_row-Stmt, items_hidden-the_row-Stmt-0, Row_of-Branch, end_of-Branch, more_of-Branch, items-the_row-Branch, items_hidden-the_row-Branch-1, None', Some'}

-- ---- expressions

row_links : {m : _} (r : Row_of-Link m) → links_of r ≡ links_of_list (items-the_row-Link m r)
row_links end_of-Link = refl
row_links (more_of-Link o e rest) = ap (SyntaxTree.Link o (expression_of e)) (row_links rest)

chain_elim : (b : Box Expr Global) (P : Expr → List Link → Type 0) → ((shape : _) (all : Row_of-Link _) → P (Chain' (record { ptr = b.ptr; alloc = b.alloc; value = tt }) b.value shape all) (items-the_row-Link _ all)) → (v : Vec Link Global) → P (Chain b v) v.items
chain_elim b P f v = subst (P (Chain b v)) (items_hidden-the_row-Link-1 v) (f _ _)

pub chain_is : (b : Box Expr Global) (v : Vec Link Global) → expression_of (Chain b v) ≡ SyntaxTree.Chain (expression_of b.value) (links_of_list v.items)
chain_is b = chain_elim b (λ e ls. expression_of e ≡ SyntaxTree.Chain (expression_of b.value) (links_of_list ls)) (λ shape all. ap (SyntaxTree.Chain (expression_of b.value)) (row_links all))

row_choices : {m : _} (r : Row_of-Choice m) (last : Expression) → choices_of r last ≡ choices_of_list (items-the_row-Choice m r) last
row_choices end_of-Choice last = refl
row_choices (more_of-Choice test e rest) last = ap (SyntaxTree.Choice (expression_of test) (expression_of e)) (row_choices rest last)

choose_elim : (b : Box Expr Global) (P : Expr → List Choice → Type 0) → ((shape : _) (all : Row_of-Choice _) → P (Choose' shape all (record { ptr = b.ptr; alloc = b.alloc; value = tt }) b.value) (items-the_row-Choice _ all)) → (v : Vec Choice Global) → P (Choose v b) v.items
choose_elim b P f v = subst (P (Choose v b)) (items_hidden-the_row-Choice-2 v) (f _ _)

pub choose_is : (v : Vec Choice Global) (b : Box Expr Global) → expression_of (Choose v b) ≡ SyntaxTree.Choose (choices_of_list v.items (expression_of b.value))
choose_is v b = choose_elim b (λ e cs. expression_of e ≡ SyntaxTree.Choose (choices_of_list cs (expression_of b.value))) (λ shape all. ap SyntaxTree.Choose (row_choices all (expression_of b.value))) v

row_parts : {m : _} (r : Row_of-Part m) → parts_of r ≡ parts_of_list (items-the_row-Part m r)
row_parts end_of-Part = refl
row_parts (more_of-Part (Member line name) rest) = ap (SyntaxTree.Member line name) (row_parts rest)
row_parts (more_of-Part (Index e) rest) = ap (SyntaxTree.Index (expression_of e)) (row_parts rest)

named_elim : (line : ℕ) (name : List ℕ) (P : Expr → List Part → Type 0) → ((shape : _) (all : Row_of-Part _) → P (Named' line name shape all) (items-the_row-Part _ all)) → (v : Vec Part Global) → P (Named (record { line = line; name = name; parts = v })) v.items
named_elim line name P f v = subst (P (Named (record { line = line; name = name; parts = v }))) (items_hidden-the_row-Part-0 v) (f _ _)

pub named_is : (p : Path) → expression_of (Named p) ≡ SyntaxTree.Named (path_of p)
named_is p = named_elim p.line p.name (λ e ps. expression_of e ≡ SyntaxTree.Named (SyntaxTree.path p.line p.name (parts_of_list ps))) (λ shape all. ap (λ ps. SyntaxTree.Named (SyntaxTree.path p.line p.name ps)) (row_parts all)) p.parts

-- ---- statements

row_statements : {m : _} (r : Row_of-Stmt m) → statements_of r ≡ statements_of_list (items-the_row-Stmt m r)
row_statements end_of-Stmt = refl
row_statements (more_of-Stmt b rest) = ap (SyntaxTree.Then (statement_of b)) (row_statements rest)

block_elim : (P : Stmt → List Stmt → Type 0) → ((shape : _) (all : Row_of-Stmt _) → P (Block' shape all) (items-the_row-Stmt _ all)) → (v : Vec Stmt Global) → P (Block v) v.items
block_elim P f v = subst (P (Block v)) (items_hidden-the_row-Stmt-0 v) (f _ _)

pub block_is : (v : Vec Stmt Global) → statement_of (Block v) ≡ SyntaxTree.Block (statements_of_list v.items)
block_is = block_elim (λ b bs. statement_of b ≡ SyntaxTree.Block (statements_of_list bs)) (λ shape all. ap SyntaxTree.Block (row_statements all))

row_branches : {m : _} (r : Row_of-Branch m) (last : Branches) → branches_of r last ≡ branches_of_list (items-the_row-Branch m r) last
row_branches end_of-Branch last = refl
row_branches (more_of-Branch line test b rest) last = ap (SyntaxTree.Test line (expression_of test) (statement_of b)) (row_branches rest last)

none_elim : (P : Stmt → List Branch → Type 0) → ((shape : _) (all : Row_of-Branch _) → P (If' shape all None') (items-the_row-Branch _ all)) → (v : Vec Branch Global) → P (If v None) v.items
none_elim P f v = subst (P (If v None)) (items_hidden-the_row-Branch-1 v) (f _ _)

some_elim : (b : Box Stmt Global) (P : Stmt → List Branch → Type 0) → ((shape : _) (all : Row_of-Branch _) → P (If' shape all (Some' (record { ptr = b.ptr; alloc = b.alloc; value = tt }) b.value)) (items-the_row-Branch _ all)) → (v : Vec Branch Global) → P (If v (Some b)) v.items
some_elim b P f v = subst (P (If v (Some b))) (items_hidden-the_row-Branch-1 v) (f _ _)

pub if_is : (v : Vec Branch Global) (o : Option (Box Stmt Global)) → statement_of (If v o) ≡ SyntaxTree.If (branches_of_list v.items (else_of_option o))
if_is v None = none_elim (λ b bs. statement_of b ≡ SyntaxTree.If (branches_of_list bs NoElse)) (λ shape all. ap SyntaxTree.If (row_branches all NoElse)) v
if_is v (Some b) = some_elim b (λ s bs. statement_of s ≡ SyntaxTree.If (branches_of_list bs (Else (statement_of b.value)))) (λ shape all. ap SyntaxTree.If (row_branches all (Else (statement_of b.value)))) v
