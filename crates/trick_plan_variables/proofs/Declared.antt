-- What a text declares: a variable whose name the language spells, and its elements, whose names are plain.
use Rattle.std.proofs.Common.{◌≡◌, ℕ, zero, suc, true, Bool, List, [], ◌∷◌, ◌++◌, length, Some, Result, Ok, Err, refl, subst}
use Rattle.std.proofs.lemmas.Bool.{and_from, and_parts}
use Rattle.std.specs.Fmt.{decimal}
use Rattle.std.specs.List.{list_all}
use Rattle.trick_body_symbols.proofs.Tokens.{IsSeenIn, each_is_seen, name_is}
use Rattle.trick_body_symbols.proofs.Words.{word_is_spelled}
use Rattle.trick_body_symbols.proofs.Yields.{Yields, yields}
use Rattle.trick_body_symbols.specs.Expressions.{name_of, names}
use Rattle.trick_body_symbols.specs.Lexemes.{lexemes_of}
use Rattle.trick_body_symbols.specs.Statements.{basic_body}
use Rattle.trick_body_symbols.specs.Symbols.{Token, number_of, spelled}
use Rattle.trick_plan_variables.proofs.Apart.{all_of_both}
use Rattle.trick_plan_variables.specs.Cells.{cells_named, cells_of, element, elements, full_names, row_elements}
use Rattle.trick_plan_variables.specs.Grammar.{declaration, declaration_of, read_or_none}
use Rattle.trick_plan_variables.specs.declared.declaration.Declaration.{Declaration}
use Rattle.trick_grammar.proofs.Exact.{exact}
use Rattle.trick_grammar.specs.Gives.{class_of}
use Rattle.trick_grammar.specs.Grammar.{is_predictive}
use Rattle.trick_grammar.specs.Reading.{Refused}
use Rattle.trick_grammar.specs.StartsWith.{Each}
use Rattle.trick_grammar.specs.Text.{IsExact, read_all}
use Rattle.trick_lang.proofs.Plain.{decimal_plain, joined_plain}
use Rattle.trick_lang.specs.Names.{are_plain_cells, is_plain, is_spelled}
use Rattle.trick_lang.specs.SyntaxTree.{Name}
use Rattle.trick_lang.specs.declared.scalar.Scalar.{Scalar}
use Rattle.trick_text.specs.Tokens.{AreAllTokens}
use Rattle.trick_text.specs.declared.token.Style.TheVariants.{Command}
use Rattle.trick_text.specs.declared.token.Token as cut

-- ---- its name

pub predictive : (text : List ℕ) → is_predictive number_of (declaration text) ≡ true
unfolding basic_body
predictive text = refl

read_is : (text : List ℕ) (ts : List cut.Token) (d : Declaration) (read : Result Declaration (Refused Token))
    → IsExact number_of class_of spelled (declaration text) (lexemes_of text ts) read → Some d ≡ read_or_none read
    → Each (IsSeenIn Command text) (lexemes_of text ts) → Yields number_of class_of (IsSeenIn Command text) (declaration text) d
read_is text ts d (Ok x) exact is seen =
    let same : x ≡ d = cc is in
    subst (λ (y : Declaration). Yields number_of class_of (IsSeenIn Command text) (declaration text) y) same
    (yields number_of class_of (IsSeenIn Command text) [] (declaration text) (lexemes_of text ts) x [] seen exact.0).0
read_is text ts d (Err refused) exact is seen = cc is

yield_spelled : (text : List ℕ) (d : Declaration) → Yields number_of class_of (IsSeenIn Command text) (declaration text) d → is_spelled d.name ≡ true
unfolding Yields
yield_spelled text d (y, right, is) =
    subst (λ (x : Declaration). is_spelled x.name ≡ true) is (word_is_spelled (name_of text y.1.0) (name_is Command names refl text y.1.0 right.1.0.0 right.1.0.1).word)

pub declared_spelled : (text : List ℕ) (ts : List cut.Token) (d : Declaration) → AreAllTokens Command text ts
    → Some d ≡ declaration_of text ts → is_spelled d.name ≡ true
declared_spelled text ts d all is =
    let seen = each_is_seen Command text 0 ts (length text) all.1 in
    yield_spelled text d
    (read_is text ts d (read_all number_of class_of (declaration text) (lexemes_of text ts))
    (exact number_of class_of spelled (λ symbol. refl) (declaration text) (predictive text) refl (lexemes_of text ts)) is seen)

-- ---- its cells

abbrev all_names : List Name → Bool
all_names names = list_all is_plain names

element_plain : (name : Name) (i : ℕ) → is_plain name ≡ true → is_plain (element name i) ≡ true
element_plain name i h =
    joined_plain name (91 ∷ (decimal i ++ 93 ∷ [])) h (joined_plain (decimal i) (93 ∷ []) (decimal_plain i) refl)

elements_plain : (name : Name) (n : ℕ) → is_plain name ≡ true → all_names (elements name n) ≡ true
elements_plain name zero h = refl
elements_plain name (suc n) h =
    all_of_both is_plain (elements name n) (element name n ∷ []) (elements_plain name n h) (and_from _ _ (element_plain name n h) refl)

rows_plain : (name : Name) (n columns : ℕ) → is_plain name ≡ true → all_names (row_elements name n columns) ≡ true
rows_plain name zero columns h = refl
rows_plain name (suc n) columns h =
    all_of_both is_plain (row_elements name n columns) (elements (element name n) columns) (rows_plain name n columns h)
    (elements_plain (element name n) columns (element_plain name n h))

full_plain : (name : Name) (lengths : List ℕ) → is_plain name ≡ true → all_names (full_names name lengths) ≡ true
full_plain name [] h = and_from _ _ h refl
full_plain name (n ∷ []) h = elements_plain name n h
full_plain name (n ∷ m ∷ more) h = rows_plain name n m h

named_plain : (scalar : Scalar) (names : List Name) → all_names names ≡ true → are_plain_cells (cells_named scalar names) ≡ true
named_plain scalar [] h = refl
named_plain scalar (name ∷ names) h =
    let both = and_parts (is_plain name) _ h in and_from _ _ both.0 (named_plain scalar names both.1)

pub cells_of_plain : (d : Declaration) → is_plain d.name ≡ true → are_plain_cells (cells_of d) ≡ true
cells_of_plain d h = named_plain d.scalar (full_names d.name d.lengths) (full_plain d.name d.lengths h)
