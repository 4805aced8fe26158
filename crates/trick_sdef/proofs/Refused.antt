-- The answers of the reader, from what reading gives.
use Rattle.std.proofs.Common.{◌≡◌, ◌≢◌, ◌⊎◌, ℕ, ◌-◌, List, [], ◌∷◌, ◌<◌, ◌≤◌, All, length, take, map, slice_get, Option, Some, None, Result, Ok, Err, refl, sym, ap, ◌∙◌, subst, arith}
use Rattle.trick_body_symbols.specs.Lexemes.{lexemes_of}
use Rattle.trick_body_symbols.specs.Limits.{list_limit, method_levels}
use Rattle.trick_body_symbols.specs.Symbols.{number_of, spelled, Token}
use Rattle.trick_body_symbols.specs.Told.{told, told_line}
use Rattle.trick_grammar.proofs.Cut.{first}
use Rattle.trick_grammar.proofs.Exact.{exact}
use Rattle.trick_grammar.proofs.Fronts.{front_is}
use Rattle.trick_grammar.specs.Cut.{at_token, IsFirst}
use Rattle.trick_grammar.specs.Gives.{class_of}
use Rattle.trick_grammar.specs.Reading.{Refused}
use Rattle.trick_grammar.specs.Text.{read_all}
use Rattle.trick_grammar.specs.declared.refusal.Refusal.{Refusal}
use Rattle.trick_grammar.specs.declared.refusal.Refusal.TheVariants.{BadTime}
use Rattle.trick_lang.specs.SDefineOf.{sdefine_of}
use Rattle.trick_lang.specs.Syntax.{definition_of, definitions_of}
use Rattle.trick_lang.specs.declared.syntax.definition.Definition.{Definition}
use Rattle.trick_lang.specs.declared.syntax.definition.SDefine.{SDefine}
use Rattle.trick_sdef.specs.Answers.{IsRead, IsToldBy, bad_time, fault_of, number_told, time_told, told_behind}
use Rattle.trick_sdef.specs.declared.fault.SdefFault.{SdefFault}
use Rattle.trick_sdef.specs.declared.fault.SdefFault.TheVariants as faults
use Rattle.trick_sdef_classes.proofs.Files.{file_test}
use Rattle.trick_sdef_classes.proofs.Lists.{definitions_are}
use Rattle.trick_sdef_classes.specs.Profile.{IsAnswer, file}
use Rattle.trick_text.proofs.Unique.{all_are}
use Rattle.trick_text.specs.Tokens.{IsCut, ReadsAsToken, last_line, spelling}
use Rattle.trick_text.specs.declared.token.Style.{Style}
use Rattle.trick_text.specs.declared.fault.FirstFault.{FirstFault}
use Rattle.trick_text.specs.declared.fault.TimeFault.{TimeFault}
use Rattle.trick_text.specs.declared.token.Token as cut
use Rattle.trick_text.specs.declared.token.TokenKind.{TokenKind}
use Rattle.trick_text.specs.declared.token.TokenKind.TheVariants.{Whole, Decimal}

module _ (text : List ℕ) (ts : List cut.Token) where
  abbrev lexed : List Token
  lexed = lexemes_of text ts

  pub exact_file : IsAnswer text ts (read_all number_of class_of (file text) lexed)
  exact_file = exact number_of class_of spelled (λ symbol. refl) (file text) (file_test text list_limit method_levels) refl lexed

  first_in : IsFirst number_of class_of spelled (file text) lexed (at_token (read_all number_of class_of (file text) lexed))
  first_in = first number_of class_of spelled (file text) (λ symbol. refl) (file_test text list_limit method_levels) refl lexed

  pub file_read : (ds : List Definition) (s : SDefine) → s.definitions ≡ ds → read_all number_of class_of (file text) lexed ≡ Ok (map definition_of ds) → IsRead text ts None (Ok s)
  file_read ds s same is =
      let tree : map definition_of ds ≡ sdefine_of s = ap (map definition_of) (sym same) ∙ sym (definitions_are s.definitions) in
      (refl, subst (IsAnswer text ts) (is ∙ ap (λ t. Ok t) tree) exact_file)

  -- what is read of all tokens is the answer of the text
  pub tree_read : (ds : List Definition) → read_all number_of class_of (file text) lexed ≡ Ok (map definition_of ds) → IsAnswer text ts (Ok (definitions_of ds))
  tree_read ds is = subst (IsAnswer text ts) (is ∙ ap (λ t. Ok t) (sym (definitions_are ds))) exact_file

  pub fault_behind : (ds : List Definition) (fault : FirstFault) → read_all number_of class_of (file text) lexed ≡ Ok (map definition_of ds) → IsRead text ts (Some fault) (Err (faults.Text fault.fault))
  fault_behind ds fault is = (fault, refl, refl, subst (λ q. IsFirst number_of class_of spelled (file text) lexed (at_token q)) is first_in)

  pub fault_at_end : (k : Refusal) (rest : List Token) (fault : FirstFault) → rest ≡ [] → read_all number_of class_of (file text) lexed ≡ Err (record { kind = k; rest = rest }) → IsRead text ts (Some fault) (Err (faults.Text fault.fault))
  fault_at_end k rest fault none is0 =
      let is = is0 ∙ ap (λ (us : List Token). Err (record { kind = k; rest = us })) none in
      (fault, refl, refl, subst (λ q. IsFirst number_of class_of spelled (file text) lexed (at_token q)) is first_in)

  module _ (f : Option FirstFault) where
    abbrev NotRead : SdefFault → Type 0
    NotRead fault = (z : Refused Token) × IsAnswer text ts (Err z) × (read_all number_of class_of (file text) lexed ≡ Err z) × ((f ≡ None) ⊎ (z.rest ≢ [])) × IsToldBy text ts z fault

    time_reason : (line : ℕ) (q : Result ℕ TimeFault) → NotRead (time_told line q) → IsRead text ts f (Err (time_told line q))
    time_reason line (Ok n) r = r
    time_reason line (Err fault) r = r

    number_reason : (kind : TokenKind) (line : ℕ) (q : List ℕ) → NotRead (number_told kind line q) → IsRead text ts f (Err (number_told kind line q))
    number_reason Whole line q r = time_reason line _ r
    number_reason Decimal line q r = time_reason line _ r
    number_reason kind line q r = r

    bad_reason : (t : Option cut.Token) → NotRead (bad_time text t) → IsRead text ts f (Err (bad_time text t))
    bad_reason None r = r
    bad_reason (Some t) r = number_reason t.kind t.line (spelling text t) r

    for_reason : (k : Refusal) (line : ℕ) (t : Option cut.Token) → NotRead (fault_of k line (bad_time text t)) → IsRead text ts f (Err (fault_of k line (bad_time text t)))
    for_reason BadTime line t r = bad_reason t r
    for_reason k line t r = r

    pub file_refused : (z : Refused Token) (fault : SdefFault) → read_all number_of class_of (file text) lexed ≡ Err z → ((f ≡ None) ⊎ (z.rest ≢ [])) → fault ≡ told_behind text ts (take (length lexed - length z.rest) lexed) z → IsRead text ts f (Err fault)
    file_refused z fault e at is =
        let exactly = subst (IsAnswer text ts) e exact_file in
        let front = exactly.front in
        let same : take (length lexed - length z.rest) lexed ≡ front = front_is lexed front z.rest exactly.parts in
        let told_so : IsToldBy text ts z (told_behind text ts (take (length lexed - length z.rest) lexed) z) = (front, exactly.parts, ap (λ us. told_behind text ts us z) same) in
        subst (λ (x : SdefFault). IsRead text ts f (Err x)) (sym is) (for_reason (told z.kind z.rest) (told_line (last_line text) z.kind (take (length lexed - length z.rest) lexed) z.rest) (slice_get ts (length (take (length lexed - length z.rest) lexed))) (z, exactly, e, at, told_so))

-- ---- tokens before a fault

pub all_read : (style : Style) (text : List ℕ) (ts : List cut.Token) (f : Option FirstFault) → IsCut style text ts f → All (ReadsAsToken text) ts
all_read style text ts None is = all_are style text 0 (length text) ts is.1
all_read style text ts (Some fault) is = all_are style text 0 fault.start ts is.1

pub nil_of : {A : Type 0} (xs : List A) → length xs < 1 → xs ≡ []
nil_of [] lt = refl
nil_of (x ∷ xs) lt = absurd (omega (arith, lt))

pub not_nil : {A : Type 0} (xs : List A) → 1 ≤ length xs → xs ≢ []
not_nil [] le e = absurd (omega (arith, le))
not_nil (x ∷ xs) le e = cc
