-- Lines in turn.
use Rattle.std.proofs.Common.{◌≡◌, ◌∙◌, ℕ, List, ◌∷◌, Option, Some, None, Result, Ok, Err, refl, sym, ap, subst}
use Rattle.trick_plan_draft.specs.Jobs.{Jobs}
use Rattle.trick_plan_draft.specs.declared.draft.Draft.{Draft}
use Rattle.trick_input.specs.declared.call.Call.{Call}
use Rattle.trick_input.specs.declared.call.Form.{Form}
use Rattle.trick_input.specs.declared.call.Form.TheVariants as form
use Rattle.trick_input.specs.declared.call.TextForm.TheVariants as text_form
use Rattle.trick_plan_lines.specs.Drafted.{Answers, DoesLine, Drafted, Then, answered, told, unless_time}
use Rattle.trick_plan_lines.specs.Said.{said}
use Rattle.trick_plan_lines.specs.Texts.{AreTexts, Texts}
use Rattle.trick_plan_lines.specs.Times.{fault_of_time, time_fault, time_in}
use Rattle.trick_plan_lines.specs.declared.fault.JoinFault.{JoinFault}
use Rattle.trick_plan_lines.specs.declared.fault.JoinFault.TheVariants as fault
use Rattle.trick_plan_settings.specs.declared.settings.Settings.{Settings}
use Rattle.trick_text.specs.declared.fault.TimeFault.{TimeFault}

-- a line without a declaration and a condition
no_texts : Texts
no_texts = record { declaration = None; condition = None }

-- a line with a time has neither
timed : (line : ℕ) (f : Form) (late : TimeFault) → fault_of_time line (time_in f) ≡ Some late → AreTexts f no_texts
timed line (form.Declare text) late is = absurd (cc is)
timed line (form.Text (text_form.SetCondition variable text)) late is = absurd (cc is)
timed line other late is = tt

module _ (jobs : Jobs) (settings : Settings) where
  -- ---- one line

  -- a time that is none
  pub late : (call : Call) (refused : TimeFault) (d e : Draft) → time_fault call ≡ Some refused
      → DoesLine (Err (fault.Time refused)) jobs settings call d e
  late call refused d e is = (
    no_texts,
    timed call.line call.form refused is,
    ap (λ (o : Option TimeFault). unless_time o (told call.line (said jobs settings no_texts call.form d))) is,
  )

-- What is left of the lines from a draft on decides for all lines from the first draft.
module _ (jobs : Jobs) (settings : Settings) (all : List Call) (start : Draft) where
  abbrev pub Left : List Call → Draft → Type 0
  Left calls d =
      (answer : Result Draft JoinFault) → Drafted jobs settings calls d answer → Drafted jobs settings all start answer

  -- a line that is refused decides
  stops_at : (calls : List Call) (f : JoinFault) (r : Result Draft JoinFault) → r ≡ Err f
      → Then (λ e. Drafted jobs settings calls e (Err f)) r (Err f)
  stops_at calls f r is =
      subst (λ (r : Result Draft JoinFault). Then (λ e. Drafted jobs settings calls e (Err f)) r (Err f)) (sym is) refl

  -- after a line that is taken the others go on
  goes_on : (calls : List Call) (e : Draft) (answer : Result Draft JoinFault) (r : Result Draft JoinFault) → r ≡ Ok e
      → Drafted jobs settings calls e answer → Then (λ x. Drafted jobs settings calls x answer) r answer
  goes_on calls e answer r is others =
      subst (λ (r : Result Draft JoinFault). Then (λ x. Drafted jobs settings calls x answer) r answer) (sym is) others

  -- the same jobs answer the same
  same : (others : Jobs) (texts : Texts) (call : Call) (d : Draft) → others ≡ jobs
      → answered jobs settings texts call d ≡ answered others settings texts call d
  same others texts call d is = ap (λ (j : Jobs). answered j settings texts call d) (sym is)

  -- A want of memory may come at any time.
  pub ends : (f : JoinFault) (others : Jobs) (call : Call) (calls : List Call) (d e : Draft) → others ≡ jobs
      → Left (call ∷ calls) d → DoesLine (Err f) others settings call d e
      → Answers (Drafted jobs settings all start) (Err f)
  ends fault.OutOfMemory others call calls d e is left does = tt
  ends f others call calls d e is left does =
      left (Err f) (does.0, does.1, stops_at calls f _ (same others does.0 call d is ∙ does.2))

  pub left_behind : (done : Unit {0}) (others : Jobs) (call : Call) (calls : List Call) (d e : Draft) → others ≡ jobs
      → Left (call ∷ calls) d → DoesLine (Ok done) others settings call d e → Left calls e
  left_behind done others call calls d e is left does answer rest =
      left answer (does.0, does.1, goes_on calls e answer _ (same others does.0 call d is ∙ does.2) rest)

  -- what is left where a line is next
  pub left_with : (call : Call) (calls rest : List Call) (d : Draft) → rest ≡ call ∷ calls → Left rest d
      → Left (call ∷ calls) d
  left_with call calls rest d is left = subst (λ (rest : List Call). Left rest d) is left

  pub left_at_first : (d : Draft) → d ≡ start → Left all d
  left_at_first d is = subst (λ (d : Draft). Left all d) (sym is) (λ answer h. h)
