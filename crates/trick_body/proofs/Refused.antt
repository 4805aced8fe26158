-- The answers of the whole readers, from what reading gives.
use Rattle.std.proofs.Common.{◌≡◌, ◌≢◌, ◌⊎◌, ℕ, ◌+◌, ◌-◌, ◌≤◌, ◌<◌, List, [], ◌∷◌, ◌++◌, All, length, take, Option, Some, None, Ok, Err, refl, sym, ap, ◌∙◌, subst, arith}
use Rattle.trick_body.specs.Answers.{IsBody, IsRead, IsToldBy, condition, fault_of, method}
use Rattle.trick_body_symbols.specs.Limits.{list_limit, nesting_limit, method_levels}
use Rattle.trick_body_symbols.specs.Symbols.{number_of, spelled, Token}
use Rattle.trick_body_symbols.specs.Told.{told, told_line}
use Rattle.trick_body_statements.proofs.ExpressionTests.{expression_test}
use Rattle.trick_body_statements.proofs.MethodTests.{method_test}
use Rattle.trick_grammar.proofs.Cut.{first}
use Rattle.trick_grammar.proofs.Exact.{exact, exact_front}
use Rattle.trick_grammar.proofs.Fronts.{front_is}
use Rattle.trick_grammar.proofs.Short.{leaves}
use Rattle.trick_grammar.specs.Cut.{at_token, IsFirst}
use Rattle.trick_grammar.specs.Gives.{class_of}
use Rattle.trick_grammar.specs.Larger.{Leaves}
use Rattle.trick_grammar.specs.Reading.{Refused, read}
use Rattle.trick_grammar.specs.Text.{IsExact, IsExactFront, read_all}
use Rattle.trick_grammar.specs.declared.refusal.Refusal.{Refusal}
use Rattle.trick_grammar.specs.declared.refusal.Refusal.TheVariants.{Expected}
use Rattle.trick_lang.specs.Syntax.{expression_of, method_of}
use Rattle.trick_lang.specs.declared.syntax.definition.Method.{Method}
use Rattle.trick_lang.specs.declared.syntax.expression.Expr.{Expr}
use Rattle.trick_text.proofs.Unique.{all_are}
use Rattle.trick_text.specs.Tokens.{IsCut, ReadsAsToken, last_line}
use Rattle.trick_text.specs.declared.token.Style.{Style}
use Rattle.trick_text.specs.declared.token.Token as cut
use Rattle.trick_text.specs.declared.fault.FirstFault.{FirstFault}
use Rattle.trick_body.specs.declared.fault.BodyFault.{BodyFault}
use Rattle.trick_body.specs.declared.fault.BodyFault.TheVariants as faults

-- the fault by which a refusal is told, from the code's front
abbrev pub told_fault : List ℕ → List Token → Refused Token → BodyFault
told_fault text ts z = fault_of (told z.kind z.rest) (told_line (last_line text) z.kind (take (length ts - length z.rest) ts) z.rest)

told_is : (text : List ℕ) (ts : List Token) (z : Refused Token) (front : List Token) → ts ≡ front ++ z.rest → IsToldBy text ts z (told_fault text ts z)
told_is text ts z front is = (front, is, ap (λ (us : List Token). fault_of (told z.kind z.rest) (told_line (last_line text) z.kind us z.rest)) (front_is ts front z.rest is))

-- ---- bodies

abbrev Refusing : List ℕ → List Token → BodyFault → Type 0
Refusing text ts fault = (z : Refused Token) × IsExactFront number_of class_of spelled (method text) ts (Err z) × (read number_of class_of [] (method text) ts ≡ Err z) × IsToldBy text ts z fault

of_reason : (text : List ℕ) (ts : List Token) (from : ℕ) (k : Refusal) (line : ℕ) → Refusing text ts (fault_of k line) → IsBody text ts from (Err (fault_of k line))
of_reason text ts from Expected line r = r
of_reason text ts from k line r = r

exact_method : (text : List ℕ) (ts : List Token) → IsExactFront number_of class_of spelled (method text) ts (read number_of class_of [] (method text) ts)
exact_method text ts = exact_front number_of class_of spelled (λ symbol. refl) (method text) (method_test text list_limit method_levels) refl refl ts

pub body_read : (text : List ℕ) (ts : List Token) (from to : ℕ) (m : Method) (rest : List Token) → read number_of class_of [] (method text) ts ≡ Ok (method_of m, rest) → to ≡ from + (length ts - length rest) → IsBody text ts from (Ok (m, to))
body_read text ts from to m rest e is =
    let short : length rest ≤ length ts = subst (Leaves (length ts)) e (leaves number_of class_of [] (method text) ts) in
    (rest, subst (IsExactFront number_of class_of spelled (method text) ts) e (exact_method text ts), omega (arith, is, short))

pub body_refused : (text : List ℕ) (ts : List Token) (from : ℕ) (z : Refused Token) (fault : BodyFault) → read number_of class_of [] (method text) ts ≡ Err z → fault ≡ told_fault text ts z → IsBody text ts from (Err fault)
body_refused text ts from z fault e is =
    let exactly = subst (IsExactFront number_of class_of spelled (method text) ts) e (exact_method text ts) in
    subst (λ (f : BodyFault). IsBody text ts from (Err f)) (sym is) (of_reason text ts from (told z.kind z.rest) _ (z, exactly, e, told_is text ts z exactly.0.front exactly.0.parts))

-- ---- conditions

abbrev NotRead : List ℕ → List Token → Option FirstFault → BodyFault → Type 0
NotRead text ts f fault = (z : Refused Token) × IsExact number_of class_of spelled (condition text) ts (Err z) × (read_all number_of class_of (condition text) ts ≡ Err z) × ((f ≡ None) ⊎ (z.rest ≢ [])) × IsToldBy text ts z fault

for_reason : (text : List ℕ) (ts : List Token) (f : Option FirstFault) (k : Refusal) (line : ℕ) → NotRead text ts f (fault_of k line) → IsRead text ts f (Err (fault_of k line))
for_reason text ts f Expected line r = r
for_reason text ts f k line r = r

exact_condition : (text : List ℕ) (ts : List Token) → IsExact number_of class_of spelled (condition text) ts (read_all number_of class_of (condition text) ts)
exact_condition text ts = exact number_of class_of spelled (λ symbol. refl) (condition text) (expression_test text list_limit nesting_limit) refl ts

first_in : (text : List ℕ) (ts : List Token) → IsFirst number_of class_of spelled (condition text) ts (at_token (read_all number_of class_of (condition text) ts))
first_in text ts = first number_of class_of spelled (condition text) (λ symbol. refl) (expression_test text list_limit nesting_limit) refl ts

pub condition_read : (text : List ℕ) (ts : List Token) (e : Expr) → read_all number_of class_of (condition text) ts ≡ Ok (expression_of e) → IsRead text ts None (Ok e)
condition_read text ts e is = (refl, subst (IsExact number_of class_of spelled (condition text) ts) is (exact_condition text ts))

pub fault_behind : (text : List ℕ) (ts : List Token) (e : Expr) (fault : FirstFault) → read_all number_of class_of (condition text) ts ≡ Ok (expression_of e) → IsRead text ts (Some fault) (Err (faults.Text fault.fault))
fault_behind text ts e fault is = (fault, refl, refl, subst (λ q. IsFirst number_of class_of spelled (condition text) ts (at_token q)) is (first_in text ts))

pub fault_at_end : (text : List ℕ) (ts : List Token) (k : Refusal) (rest : List Token) (fault : FirstFault) → rest ≡ [] → read_all number_of class_of (condition text) ts ≡ Err (record { kind = k; rest = rest }) → IsRead text ts (Some fault) (Err (faults.Text fault.fault))
fault_at_end text ts k rest fault none is0 = let is = is0 ∙ ap (λ (us : List Token). Err (record { kind = k; rest = us })) none in (fault, refl, refl, subst (λ q. IsFirst number_of class_of spelled (condition text) ts (at_token q)) is (first_in text ts))

pub condition_refused : (text : List ℕ) (ts : List Token) (f : Option FirstFault) (z : Refused Token) (fault : BodyFault) → read_all number_of class_of (condition text) ts ≡ Err z → ((f ≡ None) ⊎ (z.rest ≢ [])) → fault ≡ told_fault text ts z → IsRead text ts f (Err fault)
condition_refused text ts f z fault e at is =
    let exactly = subst (IsExact number_of class_of spelled (condition text) ts) e (exact_condition text ts) in
    subst (λ (x : BodyFault). IsRead text ts f (Err x)) (sym is) (for_reason text ts f (told z.kind z.rest) _ (z, exactly, e, at, told_is text ts z exactly.front exactly.parts))

-- ---- tokens before a fault

pub all_read : (style : Style) (text : List ℕ) (ts : List cut.Token) (f : Option FirstFault) → IsCut style text ts f → All (ReadsAsToken text) ts
all_read style text ts None is = all_are style text 0 (length text) ts is.1
all_read style text ts (Some fault) is = all_are style text 0 fault.start ts is.1

pub nil_of : {A : Type 0} (xs : List A) → length xs < 1 → xs ≡ []
nil_of [] lt = refl
nil_of (x ∷ xs) lt = absurd (omega (arith, lt))

pub not_nil : {A : Type 0} (xs : List A) → 1 ≤ length xs → xs ≢ []
not_nil [] le e = absurd (omega (arith, le))
not_nil (x ∷ xs) le e = cc
