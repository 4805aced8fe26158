-- A program and the lines of an input have one answer.
use Rattle.std.proofs.Common.{◌≡◌, ◌∙◌, List, Result, Ok, Err, refl, ap}
use Rattle.trick_plan_draft.specs.Kept.{IsMirrored, Mirrors}
use Rattle.trick_plan_draft.specs.declared.draft.Draft.{Draft}
use Rattle.trick_input.specs.declared.call.Call.{Call}
use Rattle.trick_lang.specs.declared.program.Program.{Program}
use Rattle.trick_plan_draft.specs.Drafts.{begun}
use Rattle.trick_plan_draft.specs.Jobs.{jobs_of}
use Rattle.trick_plan_lines.specs.Laws.{AnswersOne}
use Rattle.trick_plan_lines.specs.declared.fault.JoinFault.{JoinFault}
use Rattle.trick_plan_lines.specs.declared.fault.JoinFault.TheVariants as fault
use Rattle.trick_model.specs.declared.plan.Plan.{Plan}
use Rattle.trick_model.specs.PlanOf.{plan_of}
use Rattle.trick_plan.proofs.Meaning.{meaning}
use Rattle.trick_plan.specs.Laws.{HaveOneAnswer}
use Rattle.trick_plan.specs.Meaning.{plan_said}
use Rattle.trick_plan.specs.Plan.{AreAnswered, IsPlan}
use Rattle.trick_plan_settings.specs.Settings.{settings_in}

-- A refusal other than a want of memory is one of the lines.
said : (p : Program) (calls : List Call) (refused : JoinFault) → IsPlan p calls (Err refused)
    → (refused ≡ fault.OutOfMemory → ⊥)
    → AreAnswered p calls (Err refused)
said p calls fault.OutOfMemory is other = absurd (other refl)
said p calls (fault.Time time) is other = is
said p calls (fault.UnknownName line) is other = is
said p calls (fault.UnknownJob line) is other = is
said p calls (fault.OutOfRange line) is other = is
said p calls (fault.TwiceNamed line) is other = is
said p calls (fault.BadAction line) is other = is
said p calls (fault.TooMany line limit) is other = is

module _ (one : AnswersOne) (p : Program) (calls : List Call) where
  same : (a b : Result Draft JoinFault) → AreAnswered p calls a → AreAnswered p calls b → a ≡ b
  same a b x y = one (jobs_of p) (settings_in p.jobs calls) calls (begun p) a b x y

  not_both : (d : Draft) (refused : JoinFault) → AreAnswered p calls (Ok d) → AreAnswered p calls (Err refused) → ⊥
  not_both d refused x y = let no = same (Ok d) (Err refused) x y in cc no

  made : (plan : Plan) (refused : JoinFault) → IsPlan p calls (Ok plan) → IsPlan p calls (Err refused)
      → refused ≡ fault.OutOfMemory
  made plan fault.OutOfMemory has is = refl
  made plan (fault.Time time) has is = absurd (not_both has.0 (fault.Time time) has.1 is)
  made plan (fault.UnknownName line) has is = absurd (not_both has.0 (fault.UnknownName line) has.1 is)
  made plan (fault.UnknownJob line) has is = absurd (not_both has.0 (fault.UnknownJob line) has.1 is)
  made plan (fault.OutOfRange line) has is = absurd (not_both has.0 (fault.OutOfRange line) has.1 is)
  made plan (fault.TwiceNamed line) has is = absurd (not_both has.0 (fault.TwiceNamed line) has.1 is)
  made plan (fault.BadAction line) has is = absurd (not_both has.0 (fault.BadAction line) has.1 is)
  made plan (fault.TooMany line limit) has is = absurd (not_both has.0 (fault.TooMany line limit) has.1 is)

  pub answers_are_one : HaveOneAnswer p calls
  answers_are_one = record {
    made = made;
    refused = λ first second x y some other.
        let e = same (Err first) (Err second) (said p calls first x some) (said p calls second y other) in cc e;
  }

  -- a plan means what the draft says that the lines answer
  pub plan_is_said : ((q : Program) (d : Draft) → Mirrors q d → IsMirrored q d) → (plan : Plan) (d : Draft)
      → AreAnswered p calls (Ok d)
      → IsPlan p calls (Ok plan)
      → plan_of plan ≡ plan_said p (settings_in p.jobs calls) d
  plan_is_said mirrored plan d drafted has =
      let same_draft : has.0 ≡ d = let e = same (Ok has.0) (Ok d) has.1 drafted in cc e in
      meaning mirrored p calls plan has.0 has.2
      ∙ ap (λ (draft : Draft). plan_said p (settings_in p.jobs calls) draft) same_draft
