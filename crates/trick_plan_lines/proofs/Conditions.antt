-- What a text is as a condition, by what the reader of conditions answers.
use Rattle.std.proofs.Common.{◌≡◌, ◌≢◌, ℕ, List, Option, Some, None, Result, Ok, Err, refl, sym, ap, arith, inl, inr}
use Rattle.trick_body.specs.Answers.{IsCondition, IsRead, condition, fault_of_text}
use Rattle.trick_body_symbols.specs.Expressions.{Of}
use Rattle.trick_body_symbols.specs.Lexemes.{lexemes_of}
use Rattle.trick_body.specs.Promises.{ConditionsAreExact}
use Rattle.trick_body_symbols.specs.Symbols.{Token, number_of, spelled}
use Rattle.trick_body_symbols.specs.Limits.{list_limit, nesting_limit}
use Rattle.trick_body.specs.declared.fault.BodyFault.{BodyFault}
use Rattle.trick_body.specs.declared.fault.BodyFault.TheVariants as faults
use Rattle.trick_plan_variables.specs.Grammar.{read_or_none}
use Rattle.trick_grammar.specs.Gives.{class_of}
use Rattle.trick_grammar.specs.Reading.{Refused}
use Rattle.trick_grammar.specs.Text.{IsExact, IsText, read_all}
use Rattle.trick_lang.specs.Syntax.{expression_of}
use Rattle.trick_lang.specs.declared.syntax.expression.Expr.{Expr}
use Rattle.trick_plan_lines.specs.Texts.{IsConditionOf}
use Rattle.trick_text.specs.Tokens.{AreAllTokens, IsCut, IsUncut}
use Rattle.trick_text.specs.declared.fault.FirstFault.{FirstFault}
use Rattle.trick_text.specs.declared.fault.TextFault.{TextFault}
use Rattle.trick_text.specs.declared.fault.TextFault.TheVariants as texts
use Rattle.trick_text.specs.declared.token.Style.{Style}
use Rattle.trick_text.specs.declared.token.Style.TheVariants.{Command}
use Rattle.trick_text.specs.declared.token.Token as cut

-- a text has one cut
abbrev pub OneCut : Type 0
OneCut =
    (style : Style) (text : List ℕ) (ts us : List cut.Token) (f g : Option FirstFault)
    → IsCut style text ts f → IsCut style text us g → (ts ≡ us) × (f ≡ g)

-- what reading gives of a text is its value
pub the_text : {A : Type 0} (g : Of A) (ts : List Token) (x : A) (r : Result A (Refused Token))
    → IsExact number_of class_of spelled g ts r → IsText number_of class_of g ts x → r ≡ Ok x
the_text g ts x (Ok y) exact text = ap (λ z. Ok z) (sym (exact.1 x text))
the_text g ts x (Err z) exact text = absurd (exact.outside x text)

module _ (exact : ConditionsAreExact) (one : OneCut) (text : List ℕ) where
  -- a text with a fault is not all tokens
  cut_off : (ts : List cut.Token) (first : FirstFault) → IsCut Command text ts (Some first)
      → (us : List cut.Token) → AreAllTokens Command text us → ⊥
  cut_off ts first is us all = cc ((one Command text us ts None (Some first) all is).1)

  no_condition : (ts : List cut.Token) (first : FirstFault) → IsCut Command text ts (Some first)
      → IsConditionOf text None
  no_condition ts first is = inr (cut_off ts first is, refl)

  too_long : (limit : ℕ) → IsUncut text (texts.LongText limit) → IsConditionOf text None
  too_long limit long = inr ((λ us all. absurd (omega (arith, long.0, all.0))), refl)

  read_as : (ts : List cut.Token) (f : Option FirstFault) (e : Expr) → IsCut Command text ts f
      → IsRead text (lexemes_of text ts) f (Ok e) → IsConditionOf text (Some (expression_of e))
  read_as ts None e is read =
      inl (
        ts,
        is,
        sym (ap read_or_none (the_text (condition text) (lexemes_of text ts) (expression_of e)
            (read_all number_of class_of (condition text) (lexemes_of text ts))
            (exact text list_limit nesting_limit (lexemes_of text ts)) read.1.0)),
      )
  read_as ts (Some first) e is read = absurd (cc (read.0))

  -- a condition that is read is that of the text
  pub reads : (e : Expr) → IsCondition text (Ok e) → IsConditionOf text (Some (expression_of e))
  reads e (inl h) = read_as h.0 h.1 e h.2 h.3
  reads e (inr h) = absurd (cc (h.2))

  refused_as : (ts : List cut.Token) (f : Option FirstFault) → IsCut Command text ts f
      → (z : Refused Token) → read_all number_of class_of (condition text) (lexemes_of text ts) ≡ Err z
      → IsConditionOf text None
  refused_as ts None is z read = inl (ts, is, sym (ap read_or_none read))
  refused_as ts (Some first) is z read = no_condition ts first is

  fault_as : (ts : List cut.Token) (f : Option FirstFault) (first : FirstFault) → IsCut Command text ts f
      → f ≡ Some first → IsConditionOf text None
  fault_as ts None first is e = absurd (cc e)
  fault_as ts (Some other) first is e = no_condition ts other is

  unread : (ts : List cut.Token) (f : Option FirstFault) (fault : BodyFault) → IsCut Command text ts f
      → fault ≢ faults.OutOfMemory → IsRead text (lexemes_of text ts) f (Err fault) → IsConditionOf text None
  unread ts f (faults.Text fault) is not read = fault_as ts f read.0 is read.1
  unread ts f faults.OutOfMemory is not read = absurd (not refl)
  unread ts f fault is not read = refused_as ts f is read.0 read.2

  abbrev failed : BodyFault → Result Expr BodyFault
  failed fault = Err fault

  uncut : (fault : BodyFault) (of : TextFault) → fault ≢ faults.OutOfMemory → IsUncut text of
      → failed fault ≡ failed (fault_of_text of) → IsConditionOf text None
  uncut fault (texts.LongText limit) not is e = too_long limit is
  uncut fault (texts.BadByte at) not is e = absurd is
  uncut fault (texts.OpenComment at) not is e = absurd is
  uncut fault (texts.LongNumber at) not is e = absurd is
  uncut fault texts.OutOfMemory not is e = absurd (not (cc e))

  -- a text that is refused is no condition
  pub reads_none : (fault : BodyFault) → fault ≢ faults.OutOfMemory → IsCondition text (Err fault)
      → IsConditionOf text None
  reads_none fault not (inl h) = unread h.0 h.1 fault h.2 not h.3
  reads_none fault not (inr h) = uncut fault h.0 not h.1 h.2
