-- What is known of the numbers, times and phases of a text, by the symbols of their tokens.
use Rattle.std.proofs.Common.{◌≡◌, ℕ, ◌-◌, ◌≤◌, Bool, true, false, not, ◌&&◌, ◌||◌, List, [], ◌∷◌, ◌++◌, Some, None, drop, Result, Ok, Err, refl, sym, ap, ◌∙◌, subst, arith, if◌then◌else◌, nat_le}
use Rattle.std.proofs.lemmas.Bool.{eqb-true, le-leb, leb-true}
use Rattle.std.proofs.lemmas.Bool.Decides.{nat_tests}
use Rattle.std.proofs.lemmas.Slice.Eq.{bytes_eq-Decides}
use Rattle.std.specs.Prelude.{codes, ◌==◌}
use Rattle.std.specs.Str.{bytes_eq}
use Rattle.std.specs.Str.Parse.{digits_value}
use Rattle.trick_body_symbols.specs.Expressions.{wholes}
use Rattle.trick_body_symbols.specs.Lexemes.{lexeme_of, symbol_as}
use Rattle.trick_body_symbols.specs.Symbols.{Token, number_of, named_symbols, plain_name, text_symbols, mark_symbols, name_symbol, bound_limit, seconds_limit, whole_symbol, decimal_of, decimal_symbol}
use Rattle.trick_body_symbols.specs.declared.symbol.Symbol.{Symbol}
use Rattle.trick_body_symbols.specs.declared.symbol.Symbol.TheVariants as the
use Rattle.trick_grammar.specs.Classes.{is_one_of}
use Rattle.trick_sdef_jobs.specs.Jobs.{tics_of, zero_times, positive_times}
use Rattle.trick_body_symbols.proofs.Tokens.{IsSeen, all_row, if_both, is_none_of, clash, plain_passes, whole_passes, decimal_passes}
use Rattle.trick_body_symbols.proofs.Words.{tics_are_few}
use Rattle.trick_text.proofs.Fronts.{whole_is_small}
use Rattle.trick_text.specs.Numbers.{is_plain_number, plain_number, whole_limit, whole_value}
use Rattle.trick_text.specs.Pieces.{front}
use Rattle.trick_base.specs.Time.{tic_limit}
use Rattle.trick_text.specs.Seconds.{seconds_of}
use Rattle.trick_text.specs.Tokens.{IsToken, spelling}
use Rattle.trick_text.specs.Values as values
use Rattle.trick_text.specs.Values.{number_or_0, tics_or_0}
use Rattle.trick_text.specs.declared.fault.TimeFault.{TimeFault}
use Rattle.trick_text.specs.declared.piece.Piece.TheVariants as pieces
use Rattle.trick_text.specs.declared.token.Style.TheVariants as style
use Rattle.trick_text.specs.declared.token.Token as cut
use Rattle.trick_text.specs.declared.token.TokenKind.{TokenKind}
use Rattle.trick_text.specs.declared.token.TokenKind.TheVariants.{Name, Whole, Decimal, Text, Mark}

-- ---- whole numbers

-- a whole number, by its bytes
pub record IsCounted (u : Token) : Type 0 where
  pub bytes : List ℕ
  pub symbol : whole_symbol bytes ≡ u.class
  pub number : whole_value bytes ≡ u.number
  pub few : whole_value bytes ≤ whole_limit

kind_of_wholes : (kind : TokenKind) (bytes : List ℕ) → is_one_of number_of (symbol_as kind bytes) wholes ≡ true
    → kind ≡ Whole
kind_of_wholes Name bytes h =
    clash _ (all_row (is_none_of wholes) bytes named_symbols (plain_name bytes) refl
    (plain_passes (is_none_of wholes) bytes refl)) h
kind_of_wholes Whole bytes h = refl
kind_of_wholes Decimal bytes h = clash _ (decimal_passes (is_none_of wholes) bytes refl refl refl) h
kind_of_wholes Text bytes h = clash _ (all_row (is_none_of wholes) bytes text_symbols the.Text refl refl) h
kind_of_wholes Mark bytes h = clash _ (all_row (is_none_of wholes) bytes mark_symbols the.OtherMark refl refl) h

whole_token : (text : List ℕ) (t : cut.Token) → t.kind ≡ Whole → IsToken style.SDefine text t
    → IsCounted (lexeme_of text t)
whole_token text t whole right =
    let bytes = spelling text t in
    let long = right.longest in
    let front_is : front style.SDefine (drop t.start text) ≡ pieces.Token Whole (t.end - t.start) =
    subst (λ k. front style.SDefine (drop t.start text) ≡ pieces.Token k (t.end - t.start)) whole long in
    record {
      bytes = bytes;
      symbol = subst (λ k. whole_symbol bytes ≡ symbol_as k bytes) (sym whole) refl;
      number = subst (λ k. whole_value bytes ≡ values.number_of k bytes) (sym whole) refl;
      few = whole_is_small style.SDefine (drop t.start text) (t.end - t.start) front_is;
    }

pub whole_is : (text : List ℕ) (u : Token) → is_one_of number_of u.class wholes ≡ true → IsSeen text u → IsCounted u
whole_is text u h (t, right, is) =
    subst (λ v. is_one_of number_of v.class wholes ≡ true → IsCounted v) is
    (λ g. whole_token text t (kind_of_wholes t.kind (spelling text t) g) right) h

pub few_of_whole : (u : Token) → IsCounted u → u.number ≤ whole_limit
few_of_whole u is = let few = is.few in let same = is.number in omega (arith, few, same)

same_bytes : (bytes word : List ℕ) → bytes_eq bytes word ≡ true → bytes ≡ word
same_bytes bytes word e = (bytes_eq-Decides bytes word).0 e

value_of : (bytes word : List ℕ) (n : ℕ) → bytes_eq bytes word ≡ true → whole_value word ≡ n → whole_value bytes ≡ n
value_of bytes word n e is = ap whole_value (same_bytes bytes word e) ∙ is

-- the symbol of a whole number by its tests
abbrev by_tests : Bool → Bool → Bool → Bool → Bool → Symbol
by_tests is_zero is_one is_naught is_small is_large =
    if is_zero then the.Zero
    else if is_one then the.One
    else if is_naught then the.LongZero
    else if is_small then the.Small
    else if is_large then the.Large
    else the.Huge

-- the symbols of lengths of arrays
abbrev pub lengths : List Symbol
lengths = the.One ∷ the.Small ∷ the.Large ∷ the.Huge ∷ []

positive_value : (bytes : List ℕ) → is_one_of number_of (whole_symbol bytes) lengths ≡ true → 1 ≤ whole_value bytes
positive_value bytes h =
    let n = whole_value bytes in
    by (bytes_eq bytes (codes "0")) (bytes_eq bytes (codes "1")) refl (n == 0) refl (nat_le n bound_limit)
    (nat_le n seconds_limit) h
  where
    by : (b c : Bool) → bytes_eq bytes (codes "1") ≡ c → (d : Bool) → (whole_value bytes == 0) ≡ d → (e f : Bool)
        → is_one_of number_of (by_tests b c d e f) lengths ≡ true → 1 ≤ whole_value bytes
    by true c one d zero e f g = absurd cc
    by false true one d zero e f g = let is = value_of bytes (codes "1") 1 one refl in omega (arith, is)
    by false false one true zero e f g = absurd cc
    by false false one false zero e f g = grind (arith, nat_tests)

pub length_is : (u : Token) → IsCounted u → is_one_of number_of u.class lengths ≡ true
    → (1 ≤ u.number) × (u.number ≤ whole_limit)
length_is u is h =
    let some = positive_value is.bytes (subst (λ s. is_one_of number_of s lengths ≡ true) (sym is.symbol) h) in
    let same = is.number in
    let few = is.few in
    (omega (arith, some, same), omega (arith, few, same))

-- ---- times

abbrev pub times : List Symbol
times = zero_times ++ positive_times

-- the tics of a symbol and a number
abbrev tics_at : Symbol → ℕ → ℕ
tics_at symbol n = tics_of (record { class = symbol; start = 0; end = 0; number = n; line = 0 })

-- the tics are within the limit, and some where the time is not 0
pub record IsTime (symbol : Symbol) (tics : ℕ) : Type 0 where
  pub few : tics ≤ tic_limit
  pub some : is_one_of number_of symbol positive_times ≡ true → 1 ≤ tics

top : tic_limit ≡ 1000000000000000
top = refl

whole_time : (bytes : List ℕ) → is_one_of number_of (whole_symbol bytes) times ≡ true
    → IsTime (whole_symbol bytes) (tics_at (whole_symbol bytes) (whole_value bytes))
whole_time bytes h =
    let n = whole_value bytes in
    by (bytes_eq bytes (codes "0")) refl (bytes_eq bytes (codes "1")) refl (n == 0) refl (nat_le n bound_limit) refl
    (nat_le n seconds_limit) refl h
  where
    by : (b : Bool) → bytes_eq bytes (codes "0") ≡ b → (c : Bool) → bytes_eq bytes (codes "1") ≡ c
        → (d : Bool) → (whole_value bytes == 0) ≡ d → (e : Bool) → nat_le (whole_value bytes) bound_limit ≡ e
        → (f : Bool) → nat_le (whole_value bytes) seconds_limit ≡ f
        → is_one_of number_of (by_tests b c d e f) times ≡ true
        → IsTime (by_tests b c d e f) (tics_at (by_tests b c d e f) (whole_value bytes))
    by true zero c one d naught e small f large g =
        let is = value_of bytes (codes "0") 0 zero refl in
        record { few = omega (arith, is, top); some = λ p. absurd cc }
    by false zero true one d naught e small f large g =
        let is = value_of bytes (codes "1") 1 one refl in
        record { few = omega (arith, is, top); some = λ p. omega (arith, is) }
    by false zero false one true naught e small f large g =
        let is : whole_value bytes ≡ 0 = eqb-true _ _ naught in
        record { few = omega (arith, is, top); some = λ p. absurd cc }
    by false zero false one false naught true small f large g =
        let some : 1 ≤ whole_value bytes = grind (arith, nat_tests) in
        let few = leb-true _ _ small in
        record { few = omega (arith, few, top); some = λ p. omega (arith, some) }
    by false zero false one false naught false small true large g =
        let some : 1 ≤ whole_value bytes = grind (arith, nat_tests) in
        let few = leb-true _ _ large in
        record { few = omega (arith, few, top); some = λ p. omega (arith, some) }
    by false zero false one false naught false small false large g = absurd cc

decimal_time : (bytes : List ℕ) → is_one_of number_of (decimal_symbol bytes) times ≡ true
    → IsTime (decimal_symbol bytes) (tics_at (decimal_symbol bytes) (tics_or_0 (seconds_of 0 bytes)))
decimal_time bytes h = by (seconds_of 0 bytes) refl h
  where
    zero_or_not : (tics : ℕ) → tics ≤ tic_limit → (b : Bool) → (tics == 0) ≡ b
        → IsTime (if b then the.DecimalZero else the.Decimal) (tics_at (if b then the.DecimalZero else the.Decimal) tics)
    zero_or_not tics few true e = record { few = omega arith; some = λ p. absurd cc }
    zero_or_not tics few false e = record { few = few; some = λ p. grind (arith, nat_tests) }

    by : (r : Result ℕ TimeFault) → seconds_of 0 bytes ≡ r → is_one_of number_of (decimal_of r) times ≡ true
        → IsTime (decimal_of r) (tics_at (decimal_of r) (tics_or_0 r))
    by (Err fault) e g = absurd cc
    by (Ok tics) e g = zero_or_not tics (tics_are_few 0 bytes tics e) (tics == 0) refl

time_token : (kind : TokenKind) (bytes : List ℕ) → is_one_of number_of (symbol_as kind bytes) times ≡ true
    → IsTime (symbol_as kind bytes) (tics_at (symbol_as kind bytes) (values.number_of kind bytes))
time_token Name bytes h =
    clash _ (all_row (is_none_of times) bytes named_symbols (plain_name bytes) refl
    (plain_passes (is_none_of times) bytes refl)) h
time_token Whole bytes h = whole_time bytes h
time_token Decimal bytes h = decimal_time bytes h
time_token Text bytes h = clash _ (all_row (is_none_of times) bytes text_symbols the.Text refl refl) h
time_token Mark bytes h = clash _ (all_row (is_none_of times) bytes mark_symbols the.OtherMark refl refl) h

pub time_is : (text : List ℕ) (u : Token) → is_one_of number_of u.class times ≡ true → IsSeen text u
    → IsTime u.class (tics_of u)
time_is text u h (t, right, is) =
    subst (λ v. is_one_of number_of v.class times ≡ true → IsTime v.class (tics_of v)) is
    (λ g. time_token t.kind (spelling text t) g) h

-- ---- phases

abbrev phases : List Symbol
phases = the.Phase ∷ []

-- no phase, or a number from 1
abbrev is_counted_phase : ℕ → Symbol → Bool
is_counted_phase n symbol = not (is_one_of number_of symbol phases) || nat_le 1 n

plain_phase : (bytes : List ℕ)
    → is_counted_phase (number_or_0 (plain_number (drop 1 bytes))) (plain_name bytes) ≡ true
plain_phase [] = refl
plain_phase (b ∷ bs) =
    if_both (is_counted_phase (number_or_0 (plain_number bs))) (b == 67) _ _
    (if_both (is_counted_phase (number_or_0 (plain_number bs))) (is_plain_number bs) _ _
    (if_both (is_counted_phase (number_or_0 (plain_number bs)))
    (nat_le 1 (digits_value 10 bs) && nat_le (digits_value 10 bs) 15) _ _ refl refl) refl)
    (if_both (is_counted_phase (number_or_0 (plain_number bs))) (b == 80) _ _
    (by (is_plain_number bs) (nat_le 1 (digits_value 10 bs)) refl (nat_le (digits_value 10 bs) 65534) refl) refl)
  where
    by : (p least : Bool) → nat_le 1 (digits_value 10 bs) ≡ least → (most : Bool)
        → nat_le (digits_value 10 bs) 65534 ≡ most
        → is_counted_phase (number_or_0 (if p && nat_le (digits_value 10 bs) whole_limit then Some (digits_value 10 bs) else None))
        (if p then (if least && most then the.Phase else the.OtherPhase) else the.Name) ≡ true
    by false least l most m = refl
    by true false l most m = refl
    by true true l false m = refl
    by true true l true m =
        let few = leb-true (digits_value 10 bs) 65534 m in
        let small : nat_le (digits_value 10 bs) whole_limit ≡ true =
        le-leb (digits_value 10 bs) whole_limit (omega (arith, few)) in
        rw (small, l) refl

counted : (n : ℕ) (s : Symbol) → is_one_of number_of s phases ≡ true → is_counted_phase n s ≡ true → 1 ≤ n
counted n s here passes = leb-true _ _ (subst (λ b. (not b || nat_le 1 n) ≡ true) here passes)

phase_token : (kind : TokenKind) (bytes : List ℕ) → is_one_of number_of (symbol_as kind bytes) phases ≡ true
    → 1 ≤ values.number_of kind bytes
phase_token Name bytes h =
    counted (number_or_0 (plain_number (drop 1 bytes))) (name_symbol bytes) h
    (all_row (is_counted_phase (number_or_0 (plain_number (drop 1 bytes)))) bytes named_symbols (plain_name bytes) refl
    (plain_phase bytes))
phase_token Whole bytes h = clash _ (whole_passes (is_none_of phases) bytes refl refl refl refl refl refl) h
phase_token Decimal bytes h = clash _ (decimal_passes (is_none_of phases) bytes refl refl refl) h
phase_token Text bytes h = clash _ (all_row (is_none_of phases) bytes text_symbols the.Text refl refl) h
phase_token Mark bytes h = clash _ (all_row (is_none_of phases) bytes mark_symbols the.OtherMark refl refl) h

pub phase_is : (text : List ℕ) (u : Token) → is_one_of number_of u.class phases ≡ true → IsSeen text u → 1 ≤ u.number
phase_is text u h (t, right, is) =
    subst (λ v. is_one_of number_of v.class phases ≡ true → 1 ≤ v.number) is
    (λ g. phase_token t.kind (spelling text t) g) h
