-- Lines answer one thing.
use Rattle.std.proofs.Common.{◌≡◌, ◌∙◌, ℕ, List, [], ◌∷◌, Option, Result, Ok, Err, refl, sym, ap, subst, inl, inr}
use Rattle.trick_plan_variables.specs.Laws.{DeclaresOne}
use Rattle.trick_plan_variables.specs.declared.declaration.Declaration.{Declaration}
use Rattle.trick_plan_draft.specs.Jobs.{Jobs}
use Rattle.trick_plan_draft.specs.Lines.{declare_line, set_condition_line}
use Rattle.trick_plan_draft.specs.declared.draft.Draft.{Draft}
use Rattle.trick_plan_draft.specs.declared.fault.LineFault.{LineFault}
use Rattle.trick_input.specs.declared.call.Call.{Call}
use Rattle.trick_input.specs.declared.call.Form.{Form}
use Rattle.trick_input.specs.declared.call.Form.TheVariants as form
use Rattle.trick_input.specs.declared.call.TextForm.TheVariants as text_form
use Rattle.trick_lang.specs.SyntaxTree.{Expression}
use Rattle.trick_plan_lines.specs.Drafted.{Drafted, Then, answered, told, unless_time}
use Rattle.trick_plan_lines.specs.Said.{said}
use Rattle.trick_plan_lines.specs.Texts.{AreTexts, IsConditionOf, Texts, condition_of}
use Rattle.trick_plan_lines.specs.Times.{time_fault}
use Rattle.trick_plan_lines.specs.declared.fault.JoinFault.{JoinFault}
use Rattle.trick_plan_settings.specs.declared.settings.Settings.{Settings}
use Rattle.trick_text.specs.Tokens.{AreAllTokens}
use Rattle.trick_text.specs.declared.token.Style.{Style}
use Rattle.trick_text.specs.declared.token.Style.TheVariants.{Command}
use Rattle.trick_text.specs.declared.token.Token.{Token}

abbrev pub OneList : Type 0
OneList = (style : Style) (text : List ℕ) (ts us : List Token) → AreAllTokens style text ts → AreAllTokens style text us → ts ≡ us

-- a text is one condition, or none
one_condition : OneList → (text : List ℕ) (a b : Option Expression) → IsConditionOf text a → IsConditionOf text b → a ≡ b
one_condition one text a b (inl h) (inl k) =
    h.2 ∙ (ap (condition_of text) (one Command text h.0 k.0 h.1 k.1) ∙ sym k.2)
one_condition one text a b (inl h) (inr k) = absurd (k.0 h.0 h.1)
one_condition one text a b (inr h) (inl k) = absurd (h.0 k.0 k.1)
one_condition one text a b (inr h) (inr k) = h.1 ∙ sym k.1

module _ (declares : DeclaresOne) (one : OneList) (jobs : Jobs) (settings : Settings) where
  -- a line says one thing
  says_one : (f : Form) (t u : Texts) (d : Draft) → AreTexts f t → AreTexts f u
      → said jobs settings t f d ≡ said jobs settings u f d
  says_one (form.Declare text) t u d a b =
      ap (λ (o : Option Declaration). declare_line o d) (declares text t.declaration u.declaration a b)
  says_one (form.Text (text_form.SetCondition variable text)) t u d a b =
      ap (λ (o : Option Expression). set_condition_line variable o d) (one_condition one text t.condition u.condition a b)
  says_one other t u d a b = refl

  answers_one : (call : Call) (t u : Texts) (d : Draft) → AreTexts call.form t → AreTexts call.form u
      → answered jobs settings t call d ≡ answered jobs settings u call d
  answers_one call t u d a b =
      ap (λ (says : Result Draft LineFault). unless_time (time_fault call) (told call.line says))
      (says_one call.form t u d a b)

  -- where the other lines answer one thing, so do these
  decided : (calls : List Call) (a b : Result Draft JoinFault)
      → ((d : Draft) → Drafted jobs settings calls d a → Drafted jobs settings calls d b → a ≡ b)
      → (r : Result Draft JoinFault) → Then (λ e. Drafted jobs settings calls e a) r a
      → Then (λ e. Drafted jobs settings calls e b) r b → a ≡ b
  decided calls a b others (Ok d) x y = others d x y
  decided calls a b others (Err f) x y = x ∙ sym y

  pub answer_one : (calls : List Call) (d : Draft) (a b : Result Draft JoinFault) → Drafted jobs settings calls d a
      → Drafted jobs settings calls d b → a ≡ b
  answer_one [] d a b h k = h ∙ sym k
  answer_one (call ∷ calls) d a b h k =
      decided calls a b (λ e. answer_one calls e a b) (answered jobs settings h.0 call d) h.2
      (subst (λ (r : Result Draft JoinFault). Then (λ e. Drafted jobs settings calls e b) r b)
      (sym (answers_one call h.0 k.0 d h.1 k.1)) k.2)
