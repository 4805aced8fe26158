-- An S_define has one tree, or one refusal.
use Rattle.std.proofs.Common.{◌≡◌, ◌≢◌, ◌⊎◌, ◌∙◌, ◌∷◌, ◌++◌, ℕ, List, [], Option, Some, None, Result, Ok, Err, inl, inr}
use Rattle.std.proofs.Common.{append_assoc, refl, subst, sym}
use Rattle.std.proofs.lemmas.List.{append_cancel_right}
use Rattle.trick_body_symbols.specs.Lexemes.{lexemes_of}
use Rattle.trick_body_symbols.specs.Symbols.{number_of, spelled, Token}
use Rattle.trick_grammar.specs.Cut.{IsFirst}
use Rattle.trick_grammar.specs.Gives.{class_of}
use Rattle.trick_grammar.specs.Reading.{Refused}
use Rattle.trick_grammar.specs.Text.{IsRefusedAt, IsText, read_all}
use Rattle.trick_lang.specs.SDefineOf.{sdefine_of}
use Rattle.trick_lang.specs.SyntaxTree as tree
use Rattle.trick_lang.specs.declared.syntax.definition.SDefine.{SDefine}
use Rattle.trick_top_texts.proofs.Uncut.{cut_and_uncut, uncut_once}
use Rattle.trick_top_texts.specs.Readings.{HasOneTree}
use Rattle.trick_sdef.specs.Answers.{IsRead, IsSDefine, IsToldBy, fault_of_text, told_behind}
use Rattle.trick_sdef_classes.specs.Profile.{IsAnswer, file}
use Rattle.trick_sdef.specs.declared.fault.SdefFault.{SdefFault}
use Rattle.trick_sdef.specs.declared.fault.SdefFault.TheVariants as faults
use Rattle.trick_text.proofs.Unique.{one_cut}
use Rattle.trick_text.specs.Tokens.{IsCut, IsUncut}
use Rattle.trick_text.specs.declared.fault.FirstFault.{FirstFault}
use Rattle.trick_text.specs.declared.fault.TextFault.{TextFault}
use Rattle.trick_text.specs.declared.fault.TextFault.TheVariants as texts
use Rattle.trick_text.specs.declared.token.Style.TheVariants as style
use Rattle.trick_text.specs.declared.token.Token as cut

-- ---- what is read of the tokens before the first fault

module _ (text : List ℕ) (ts : List cut.Token) (f : Option FirstFault) where
  -- a refusal of a token, or of the end
  AtToken : SdefFault → Type 0
  AtToken fault = (z : Refused Token) × IsAnswer text ts (Err z)
      × (read_all number_of class_of (file text) (lexemes_of text ts) ≡ Err z) × ((f ≡ None) ⊎ (z.rest ≢ []))
      × IsToldBy text ts z fault

  -- a refusal by the first fault of the text
  AtFault : SdefFault → Type 0
  AtFault fault = (first : FirstFault) × (f ≡ Some first) × (fault ≡ faults.Text first.fault)
      × IsFirst number_of class_of spelled (file text) (lexemes_of text ts) None

  kind_of : (fault : SdefFault) → (fault ≡ faults.OutOfMemory → ⊥) → IsRead text ts f (Err fault)
      → AtToken fault ⊎ AtFault fault
  unfolding AtToken AtFault
  kind_of (faults.Text fault) known is =
      let e = is.2 in inr (is.0, is.1, cc e, is.3)
  kind_of faults.OutOfMemory known is = absurd (known refl)
  kind_of fault known is = inl is

  no_fault : (first : FirstFault) → f ≡ None → f ≡ Some first → ⊥
  no_fault first none some = cc (none, some)

  -- the tokens are no file, and one
  not_both : (z : Refused Token) (x : tree.SDefine) → IsAnswer text ts (Err z) → IsAnswer text ts (Ok x) → ⊥
  not_both z x refused read = refused.outside x read.0

  ok_once : (s t : SDefine) → IsRead text ts f (Ok s) → IsRead text ts f (Ok t) → sdefine_of s ≡ sdefine_of t
  ok_once s t a b = b.1.1 (sdefine_of s) a.1.0

  not_read : (s : SDefine) (fault : SdefFault) → (fault ≡ faults.OutOfMemory → ⊥) → IsRead text ts f (Ok s)
      → AtToken fault ⊎ AtFault fault → ⊥
  unfolding AtToken AtFault
  not_read s fault known read (inl at) = not_both at.0 (sdefine_of s) at.1 read.1
  not_read s fault known read (inr at) = no_fault at.0 read.0 at.1

  -- some file goes on with all tokens, and none with one of them
  gone : (z : Refused Token) → IsRefusedAt number_of class_of spelled (file text) (lexemes_of text ts) z.rest
      → IsFirst number_of class_of spelled (file text) (lexemes_of text ts) None → (t : Token) (more : List Token)
      → z.rest ≡ t ∷ more → ⊥
  gone z refused first t more rest =
      let front = refused.front in
      let parts : lexemes_of text ts ≡ (front ++ t ∷ []) ++ more =
      refused.parts ∙ subst (λ r. front ++ z.rest ≡ front ++ r) rest refl ∙ simp append_assoc in
      let whole : IsText number_of class_of (file text) ((front ++ t ∷ []) ++ (more ++ first.0)) first.1 =
      subst (λ all. IsText number_of class_of (file text) all first.1)
      (subst (λ all. all ++ first.0 ≡ (front ++ t ∷ []) ++ (more ++ first.0)) (sym parts) (simp append_assoc))
      first.3 in
      refused.stops t more rest (more ++ first.0, first.1, whole)

  behind_all : (z : Refused Token) → IsRefusedAt number_of class_of spelled (file text) (lexemes_of text ts) z.rest
      → IsFirst number_of class_of spelled (file text) (lexemes_of text ts) None → (rest : List Token)
      → z.rest ≡ rest → (rest ≡ [] → ⊥) → ⊥
  behind_all z refused first [] is some = some refl
  behind_all z refused first (t ∷ more) is some = gone z refused first t more is

  -- a token is not refused where the fault after all of them is told
  token_or_fault : (one other : SdefFault) → AtToken one → AtFault other → ⊥
  unfolding AtToken AtFault
  token_or_fault one other (z, answer, all, inl none, told) at = no_fault at.0 none at.1
  token_or_fault one other (z, answer, all, inr some, told) at =
      behind_all z answer at.3 z.rest refl some

  same_front : (z : Refused Token) (front back : List Token) → lexemes_of text ts ≡ front ++ z.rest
      → lexemes_of text ts ≡ back ++ z.rest → front ≡ back
  same_front z front back a b = append_cancel_right front back z.rest (sym a ∙ b)

  told_once : (z : Refused Token) (one other : SdefFault) → IsToldBy text ts z one → IsToldBy text ts z other
      → one ≡ other
  told_once z one other a b =
      a.2 ∙ subst (λ front. told_behind text ts a.0 z ≡ told_behind text ts front z) (same_front z a.0 b.0 a.1 b.1) refl
      ∙ sym b.2

  same_refused : (z y : Refused Token) (reading : Result tree.SDefine (Refused Token)) → reading ≡ Err z
      → reading ≡ Err y → z ≡ y
  same_refused z y reading a b = cc (a, b)

  same_first : (one other : FirstFault) → f ≡ Some one → f ≡ Some other → one ≡ other
  same_first one other a b = cc (a, b)

  refused_once : (one other : SdefFault) → AtToken one ⊎ AtFault one → AtToken other ⊎ AtFault other → one ≡ other
  unfolding AtToken AtFault
  refused_once one other (inl (z, answer, all, place, told)) (inl (y, other_answer, other_all, other_place, other_told)) =
      let same : z ≡ y = same_refused z y _ all other_all in
      told_once y one other (subst (λ w. IsToldBy text ts w one) same told) other_told
  refused_once one other (inl a) (inr b) = absurd (token_or_fault one other a b)
  refused_once one other (inr a) (inl b) = absurd (token_or_fault other one b a)
  refused_once one other (inr a) (inr b) =
      let same : a.0 ≡ b.0 = same_first a.0 b.0 a.1 b.1 in let x = a.2 in let y = b.2 in cc (same, x, y)

-- ---- a text

no_tree : (s : SDefine) (fault : SdefFault) (answer : Result SDefine SdefFault) → answer ≡ Ok s → answer ≡ Err fault → ⊥
no_tree s fault answer a b = cc (a, b)

by_fault : (fault other : SdefFault) (answer : Result SDefine SdefFault) → answer ≡ Err fault → answer ≡ Err other
    → fault ≡ other
by_fault fault other answer a b = cc (a, b)

of_memory : (fault : TextFault) → fault ≡ texts.OutOfMemory → fault_of_text fault ≡ faults.OutOfMemory
of_memory fault is = subst (λ f. fault_of_text f ≡ faults.OutOfMemory) (sym is) refl

known_text : (fault : TextFault) (told : SdefFault) → told ≡ fault_of_text fault → (told ≡ faults.OutOfMemory → ⊥)
    → fault ≡ texts.OutOfMemory → ⊥
known_text fault told same known is = let e = of_memory fault is in known (cc (same, e))

or_memory : (fault : SdefFault) → (fault ≡ faults.OutOfMemory) ⊎ (fault ≡ faults.OutOfMemory → ⊥)
or_memory faults.OutOfMemory = inl refl
or_memory fault = inr (λ e. cc e)

module _ (text : List ℕ) where
  other_cut : (answer : Result SDefine SdefFault) (ts us : List cut.Token) (f g : Option FirstFault)
      → IsCut style.SDefine text ts f → IsCut style.SDefine text us g → IsRead text us g answer
      → IsRead text ts f answer
  other_cut answer ts us f g p q has =
      let same = one_cut style.SDefine text ts us f g p q in
      subst (λ h. IsRead text ts h answer) (sym same.1) (subst (λ vs. IsRead text vs g answer) (sym same.0) has)

  whole : (ts : List cut.Token) (f : Option FirstFault) → IsCut style.SDefine text ts f → (fault : TextFault)
      → IsUncut text fault → (told : SdefFault) → told ≡ fault_of_text fault → told ≡ faults.OutOfMemory
  whole ts f cut fault uncut told same =
      let e = of_memory fault (cut_and_uncut style.SDefine text ts f fault cut uncut) in cc (same, e)

  one : (s t : SDefine) → IsSDefine text (Ok s) → IsSDefine text (Ok t) → sdefine_of s ≡ sdefine_of t
  one s t (inl a) (inl b) = ok_once text a.0 a.1 s t a.3 (other_cut (Ok t) a.0 b.0 a.1 b.1 a.2 b.2 b.3)
  one s t (inr a) b = absurd (no_tree s _ (Ok s) refl a.2)
  one s t (inl a) (inr b) = absurd (no_tree t _ (Ok t) refl b.2)

  read_known : (s : SDefine) (fault : SdefFault) → (fault ≡ faults.OutOfMemory → ⊥) → IsSDefine text (Ok s)
      → IsSDefine text (Err fault) → ⊥
  read_known s fault known (inl a) (inl b) = not_read text a.0 a.1 s fault known a.3
      (kind_of text a.0 a.1 fault known (other_cut (Err fault) a.0 b.0 a.1 b.1 a.2 b.2 b.3))
  read_known s fault known (inl a) (inr b) =
      known (whole a.0 a.1 a.2 b.0 b.1 fault (by_fault fault _ (Err fault) refl b.2))
  read_known s fault known (inr a) b = no_tree s _ (Ok s) refl a.2

  read_by : (s : SDefine) (fault : SdefFault) → (fault ≡ faults.OutOfMemory) ⊎ (fault ≡ faults.OutOfMemory → ⊥)
      → IsSDefine text (Ok s) → IsSDefine text (Err fault) → fault ≡ faults.OutOfMemory
  read_by s fault (inl memory) a b = memory
  read_by s fault (inr known) a b = absurd (read_known s fault known a b)

  once : (fault other : SdefFault) → (fault ≡ faults.OutOfMemory → ⊥) → (other ≡ faults.OutOfMemory → ⊥)
      → IsSDefine text (Err fault) → IsSDefine text (Err other) → fault ≡ other
  once fault other x y (inl a) (inl b) = refused_once text a.0 a.1 fault other
      (kind_of text a.0 a.1 fault x a.3)
      (kind_of text a.0 a.1 other y (other_cut (Err other) a.0 b.0 a.1 b.1 a.2 b.2 b.3))
  once fault other x y (inl a) (inr b) =
      absurd (y (whole a.0 a.1 a.2 b.0 b.1 other (by_fault other _ (Err other) refl b.2)))
  once fault other x y (inr a) (inl b) =
      absurd (x (whole b.0 b.1 b.2 a.0 a.1 fault (by_fault fault _ (Err fault) refl a.2)))
  once fault other x y (inr a) (inr b) =
      let p : fault ≡ fault_of_text a.0 = by_fault fault _ (Err fault) refl a.2 in
      let q : other ≡ fault_of_text b.0 = by_fault other _ (Err other) refl b.2 in
      let same = uncut_once text a.0 b.0 (known_text a.0 fault p x) (known_text b.0 other q y) a.1 b.1 in
      cc (p, q, same)

  pub one_tree : HasOneTree text
  one_tree = record { tree = one; read = λ s fault. read_by s fault (or_memory fault); refused = once }
