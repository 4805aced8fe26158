-- The trees of chains are what the grammar makes.
use Rattle.std.proofs.Common.{rules, ◌≡◌, ℕ, zero, suc, nat_eq, ◌<◌, false, List, [], ◌∷◌, length, map, Ok, Box, Global, refl, sym, ap, ◌∙◌}
use Rattle.std.proofs.lemmas.List.{append-nil}
use Rattle.std.specs.declared.vec.Vec.{Vec}
use Rattle.trick_grammar.proofs.Short.{token_leaves}
use Rattle.trick_grammar.specs.Gives.{class_of}
use Rattle.trick_grammar.specs.Grammar.{first_of}
use Rattle.trick_grammar.specs.Reading.{read}
use Rattle.trick_grammar.specs.StartsWith.{next_in}
use Rattle.trick_grammar_example.specs.Statements.{Of, chain_of, link_at, marks_of}
use Rattle.trick_grammar_example.specs.Trees.{Expression, chain, linked, expressions_of, expression_of}
use Rattle.trick_grammar_example.specs.Words.{number_of, Token}
use Rattle.trick_grammar_example.specs.declared.tree.Expr.{Expr, the_lemmas}
use Rattle.trick_grammar_example.specs.declared.tree.Expr.TheViews.{Chain}

-- a link takes tokens
pub link_shrinks : (l : ℕ) (b : Of Expression) (us : List Token) (x : Expression) (rest : List Token) → read number_of class_of [] (link_at l b) us ≡ Ok (x, rest) → length rest < length us
link_shrinks l b us x rest = token_leaves number_of class_of [] (marks_of l) b (λ v. linked v.0.class v.1) us x rest

-- what a link begins with
pub link_begins : (l : ℕ) (b : Of Expression) (ts : List Token) → next_in number_of class_of (marks_of l) ts ≡ next_in number_of class_of (first_of (link_at l b)) ts
link_begins l b ts = ap (λ cs. next_in number_of class_of cs ts) (sym (append-nil (marks_of l)))

pub some_items : (n : ℕ) → nat_eq n 0 ≡ false → n ≡ 0 → ⊥
some_items zero h e = absurd cc
some_items (suc n) h e = absurd cc

chain_is : (b : Box Expr Global) (v : Vec Expr Global) → expression_of (Chain b v) ≡ chain (expression_of b.value) (expressions_of (map expression_of v.items))
chain_is b v = search (rules, the_lemmas)

chain_list : (e : Expression) (es : List Expr) → (es ≡ [] → ⊥) → chain e (expressions_of (map expression_of es)) ≡ chain_of e (map expression_of es)
chain_list e [] some = absurd (some refl)
chain_list e (x ∷ es) some = refl

pub chain_made : (b : Box Expr Global) (v : Vec Expr Global) (first : Expr) → b.value ≡ first → (v.items ≡ [] → ⊥) → expression_of (Chain b v) ≡ chain_of (expression_of first) (map expression_of v.items)
chain_made b v first is some = chain_is b v ∙ ap (λ e. chain (expression_of e) (expressions_of (map expression_of v.items))) is ∙ chain_list (expression_of first) v.items some
