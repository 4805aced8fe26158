-- What is known of the tokens of a text as the grammar sees them, by their symbols.
use Rattle.std.proofs.Common.{◌≡◌, ℕ, ◌-◌, Bool, true, false, not, ◌&&◌, List, [], ◌∷◌, drop, Result, Ok, Err, refl, sym, ◌∙◌, subst, arith, if◌then◌else◌}
use Rattle.std.proofs.lemmas.Bool.{and_parts}
use Rattle.std.proofs.lemmas.Slice.Eq.{bytes_eq-Decides}
use Rattle.std.specs.List.{list_all, list_any}
use Rattle.std.specs.Str.{bytes_eq}
use Rattle.trick_body_symbols.specs.Expressions.{names, name_of}
use Rattle.trick_body_symbols.specs.Lexemes.{lexeme_of, lexemes_of, symbol_as}
use Rattle.trick_body_symbols.specs.Symbols.{Token, number_of, looked_up, numbered, plain_name, text_symbols, mark_symbols, name_symbol, whole_symbol, decimal_of, decimal_symbol}
use Rattle.trick_body_symbols.specs.declared.symbol.Symbol.{Symbol}
use Rattle.trick_body_symbols.specs.declared.symbol.Symbol.TheVariants as the
use Rattle.trick_grammar.proofs.Tests.{subset_one_of}
use Rattle.trick_grammar.specs.Classes.{is_one_of, is_subset}
use Rattle.trick_grammar.specs.StartsWith.{Each}
use Rattle.trick_body_symbols.proofs.Words.{IsWord, name_is_word}
use Rattle.trick_text.specs.Pieces.{front}
use Rattle.trick_text.specs.Seconds.{seconds_of}
use Rattle.trick_text.specs.Tokens.{AreTokens, IsToken, spelling}
use Rattle.trick_text.specs.declared.piece.Piece.TheVariants as pieces
use Rattle.trick_text.specs.declared.fault.TimeFault.{TimeFault}
use Rattle.trick_text.specs.declared.token.Style.TheVariants as style
use Rattle.trick_text.specs.declared.token.Style.{Style}
use Rattle.trick_text.specs.declared.token.Token as cut
use Rattle.trick_text.specs.declared.token.TokenKind.{TokenKind}
use Rattle.trick_text.specs.declared.token.TokenKind.TheVariants.{Name, Whole, Decimal, Text, Mark}

-- a token of the text in a style, as the grammar sees it
abbrev pub IsSeenIn : Style → List ℕ → Token → Type 0
IsSeenIn in_style text u = (t : cut.Token) × IsToken in_style text t × (lexeme_of text t ≡ u)

-- a token of a simulation definition
abbrev pub IsSeen : List ℕ → Token → Type 0
IsSeen text u = IsSeenIn style.SDefine text u

pub each_is_seen : (in_style : Style) (text : List ℕ) (i : ℕ) (ts : List cut.Token) (j : ℕ) → AreTokens in_style text i ts j
    → Each (IsSeenIn in_style text) (lexemes_of text ts)
each_is_seen in_style text i [] j p = tt
each_is_seen in_style text i (t ∷ ts) j p = ((t, p.1, refl), each_is_seen in_style text t.end ts j p.2)

-- ---- which symbols tokens of a kind have

pub all_row : (p : Symbol → Bool) (bytes : List ℕ) (rows : List (List ℕ × Symbol)) (other : Symbol)
    → list_all (λ row. p row.1) rows ≡ true → p other ≡ true → p (looked_up bytes rows other) ≡ true
all_row p bytes [] other all last = last
all_row p bytes (row ∷ rows) other all last =
    by (bytes_eq bytes row.0) (p row.1) refl all (λ rest. all_row p bytes rows other rest last)
  where
    by : (b c : Bool) → p row.1 ≡ c → (c && list_all (λ row. p row.1) rows) ≡ true
        → (list_all (λ row. p row.1) rows ≡ true → p (looked_up bytes rows other) ≡ true)
        → p (if b then row.1 else looked_up bytes rows other) ≡ true
    by true true here both more = here
    by false true here both more = more both
    by b false here both more = absurd cc

pub if_both : (p : Symbol → Bool) (b : Bool) (x y : Symbol) → p x ≡ true → p y ≡ true → p (if b then x else y) ≡ true
if_both p true x y px py = px
if_both p false x y px py = py

-- the symbols of a name with a number
abbrev number_names : List Symbol
number_names = the.Thread ∷ the.OtherThread ∷ the.Phase ∷ the.OtherPhase ∷ the.Name ∷ []

pub numbered_passes : (p : Symbol → Bool) (limit : ℕ) (within beyond : Symbol) (digits : List ℕ)
    → p within ≡ true → p beyond ≡ true → p the.Name ≡ true → p (numbered limit within beyond digits) ≡ true
numbered_passes p limit within beyond digits pi po pn = if_both p _ _ _ (if_both p _ _ _ pi po) pn

pub plain_passes : (p : Symbol → Bool) (bytes : List ℕ) → list_all p number_names ≡ true → p (plain_name bytes) ≡ true
plain_passes p bytes all = by bytes (and_parts _ _ all)
  where
    by : (bytes : List ℕ)
        → (p the.Thread ≡ true) × (list_all p (the.OtherThread ∷ the.Phase ∷ the.OtherPhase ∷ the.Name ∷ []) ≡ true)
        → p (plain_name bytes) ≡ true
    by bytes h = rest bytes h.0 (and_parts _ _ h.1)
      where
        rest : (bytes : List ℕ) → p the.Thread ≡ true
            → (p the.OtherThread ≡ true) × (list_all p (the.Phase ∷ the.OtherPhase ∷ the.Name ∷ []) ≡ true)
            → p (plain_name bytes) ≡ true
        rest [] thread g =
            let f = and_parts _ _ g.1 in
            let e = and_parts _ _ f.1 in (and_parts _ _ e.1).0
        rest (b ∷ bs) thread g =
            let f = and_parts _ _ g.1 in
            let e = and_parts _ _ f.1 in
            let name = (and_parts _ _ e.1).0 in
            if_both p _ _ _ (numbered_passes p 15 the.Thread the.OtherThread bs thread g.0 name)
            (if_both p _ _ _ (numbered_passes p 65534 the.Phase the.OtherPhase bs f.0 e.0 name) name)

pub whole_passes : (p : Symbol → Bool) (bytes : List ℕ) → p the.Zero ≡ true → p the.One ≡ true → p the.LongZero ≡ true
    → p the.Small ≡ true → p the.Large ≡ true → p the.Huge ≡ true → p (whole_symbol bytes) ≡ true
whole_passes p bytes zero one long small large huge =
    if_both p _ _ _ zero (if_both p _ _ _ one (if_both p _ _ _ long (if_both p _ _ _ small (if_both p _ _ _ large huge))))

pub decimal_passes : (p : Symbol → Bool) (bytes : List ℕ) → p the.BadDecimal ≡ true → p the.DecimalZero ≡ true
    → p the.Decimal ≡ true → p (decimal_symbol bytes) ≡ true
decimal_passes p bytes bad zero other = by (seconds_of 0 bytes)
  where
    by : (r : Result ℕ TimeFault) → p (decimal_of r) ≡ true
    by (Err fault) = bad
    by (Ok tics) = if_both p _ _ _ zero other

pub clash : {A : Type 0} (b : Bool) → not b ≡ true → b ≡ true → A
clash true p q = absurd cc
clash false p q = absurd cc

-- a token of another symbol than these is none of them
abbrev pub is_none_of : List Symbol → Symbol → Bool
is_none_of cs symbol = not (is_one_of number_of symbol cs)

-- ---- names

kind_of_names : (kind : TokenKind) (bytes : List ℕ) → is_one_of number_of (symbol_as kind bytes) names ≡ true
    → kind ≡ Name
kind_of_names Name bytes h = refl
kind_of_names Whole bytes h = clash _ (whole_passes (is_none_of names) bytes refl refl refl refl refl refl) h
kind_of_names Decimal bytes h = clash _ (decimal_passes (is_none_of names) bytes refl refl refl) h
kind_of_names Text bytes h = clash _ (all_row (is_none_of names) bytes text_symbols the.Text refl refl) h
kind_of_names Mark bytes h = clash _ (all_row (is_none_of names) bytes mark_symbols the.OtherMark refl refl) h

-- bytes whose symbol is one of these are none of the words that have other symbols
pub no_word : (cs : List Symbol) (words : List (List ℕ)) → list_all (λ word. is_none_of cs (name_symbol word)) words ≡ true
    → (bytes : List ℕ) → is_one_of number_of (name_symbol bytes) cs ≡ true
    → list_any (λ word. bytes_eq bytes word) words ≡ false
no_word cs [] all bytes h = refl
no_word cs (word ∷ words) all bytes h =
    let both = and_parts _ _ all in
    by (bytes_eq bytes word) refl both.0 (no_word cs words both.1 bytes h)
  where
    by : (b : Bool) → bytes_eq bytes word ≡ b → is_none_of cs (name_symbol word) ≡ true
        → list_any (λ word. bytes_eq bytes word) words ≡ false
        → list_any (λ word. bytes_eq bytes word) (word ∷ words) ≡ false
    by true e none rest =
        let same : bytes ≡ word = (bytes_eq-Decides bytes word).0 e in
        clash _ none (subst (λ bs. is_one_of number_of (name_symbol bs) cs ≡ true) same h)
    by false e none rest = rw e rest

-- what a token that the grammar sees as one of these names has
pub record IsNamed (cs : List Symbol) (name : List ℕ) : Type 0 where
  pub word : IsWord name
  pub symbol : is_one_of number_of (name_symbol name) cs ≡ true

name_token : (in_style : Style) (cs : List Symbol) (text : List ℕ) (t : cut.Token) (kind : TokenKind) → kind ≡ t.kind → kind ≡ Name
    → IsToken in_style text t → is_one_of number_of (symbol_as t.kind (spelling text t)) cs ≡ true
    → IsNamed cs (spelling text t)
name_token in_style cs text t kind is name right h =
    let named : t.kind ≡ Name = sym is ∙ name in
    let long = right.longest in
    let front_is : front in_style (drop t.start text) ≡ pieces.Token Name (t.end - t.start) =
    subst (λ k. front in_style (drop t.start text) ≡ pieces.Token k (t.end - t.start)) named long in
    let forward = right.forward in
    record {
      word = name_is_word in_style (drop t.start text) (t.end - t.start) (omega (arith, forward)) front_is;
      symbol = subst (λ k. is_one_of number_of (symbol_as k (spelling text t)) cs ≡ true) named h;
    }

pub name_is : (in_style : Style) (cs : List Symbol) → is_subset number_of cs names ≡ true → (text : List ℕ) (u : Token)
    → is_one_of number_of u.class cs ≡ true → IsSeenIn in_style text u → IsNamed cs (name_of text u)
name_is in_style cs within text u h (t, right, is) =
    subst (λ v. is_one_of number_of v.class cs ≡ true → IsNamed cs (name_of text v)) is
    (λ g. name_token in_style cs text t t.kind refl
    (kind_of_names t.kind (spelling text t) (subset_one_of number_of cs names (symbol_as t.kind (spelling text t)) within g))
    right g) h
