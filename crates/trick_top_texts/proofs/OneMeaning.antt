-- Two texts say one thing.
use Rattle.std.proofs.Common.{◌≡◌, ◌∙◌, ℕ, List, Result, Ok, Err, ap, refl, subst, sym}
use Rattle.trick_check.specs.declared.fault.CheckFault.{CheckFault}
use Rattle.trick_check.specs.declared.fault.CheckFault.TheVariants as check
use Rattle.trick_check.specs.Named.{AreSame, IsNamed}
use Rattle.trick_check.specs.Refused.{IsRefused}
use Rattle.trick_plan_draft.specs.declared.draft.Draft.{Draft}
use Rattle.trick_input.specs.declared.call.Call.{Call}
use Rattle.trick_input.specs.declared.fault.InputFault.{InputFault}
use Rattle.trick_lang.specs.SDefineOf.{sdefine_of}
use Rattle.trick_lang.specs.SyntaxTree.{SDefine}
use Rattle.trick_lang.specs.declared.program.Program.{Program}
use Rattle.trick_plan_lines.specs.Laws.{AnswersOne}
use Rattle.trick_plan_draft.specs.Drafts.{begun}
use Rattle.trick_plan_draft.specs.Jobs.{jobs_of}
use Rattle.trick_plan_lines.specs.declared.fault.JoinFault.{JoinFault}
use Rattle.trick_plan_lines.specs.declared.fault.JoinFault.TheVariants as join
use Rattle.trick_model.specs.Acceptance.{IsAccepted}
use Rattle.trick_model.specs.Plan as model
use Rattle.trick_model.specs.PlanOf.{plan_of}
use Rattle.trick_model.specs.declared.plan.Plan.{Plan}
use Rattle.trick_plan.specs.Plan.{AreAnswered, IsPlan}
use Rattle.trick_top_texts.specs.Texts.{AreUnjoined, HasLines, HasProgram, HavePlan, IsInputUnread, IsPlanRefused}
use Rattle.trick_top_texts.specs.Texts.{IsReady, IsTextRefused, IsUnnamed, IsUnread}
use Rattle.trick_top_texts.specs.Texts.{at_input, at_join, at_names, at_s_define}
use Rattle.trick_top_refusals.specs.Check.{check_line}
use Rattle.trick_top_refusals.specs.Input.{input_line}
use Rattle.trick_top_refusals.specs.Join.{join_line}
use Rattle.trick_top_refusals.specs.SDefine.{s_define_line}
use Rattle.trick_top_texts.proofs.OneReading.{one_reading}
use Rattle.trick_top_texts.proofs.OneTree.{one_tree}
use Rattle.trick_top_texts.proofs.SameParts.{answered_same, said_same}
use Rattle.trick_top_texts.proofs.Unrefused as plans
use Rattle.trick_top_texts.specs.Meaning.{HaveOneMeaning}
use Rattle.trick_plan.specs.Meaning.{plan_said}
use Rattle.trick_plan.specs.Laws.{PlansAreSaid}
use Rattle.trick_sdef.specs.declared.fault.SdefFault.{SdefFault}
use Rattle.trick_plan_settings.specs.Settings.{settings_in}

-- a refusal of a join other than a want of memory is one of the lines
said : (p : Program) (calls : List Call) (fault : JoinFault) → IsPlan p calls (Err fault)
    → (fault ≡ join.OutOfMemory → ⊥) → AreAnswered p calls (Err fault)
said p calls join.OutOfMemory is other = absurd (other refl)
said p calls fault is other = is

ok_or_err : (d : Draft) (fault : JoinFault) (a b : Result Draft JoinFault) → a ≡ Ok d → b ≡ Err fault → a ≡ b → ⊥
ok_or_err d fault a b x y z = cc (x, y, z)

same_draft : (d e : Draft) (a b : Result Draft JoinFault) → a ≡ Ok d → b ≡ Ok e → a ≡ b → d ≡ e
same_draft d e a b x y z = cc (x, y, z)

same_fault : (f g : JoinFault) (a b : Result Draft JoinFault) → a ≡ Err f → b ≡ Err g → a ≡ b → f ≡ g
same_fault f g a b x y z = cc (x, y, z)

-- a file has one program or one refusal
abbrev OneProgram : Type 0
OneProgram = (ds : SDefine) (p q : Program) → IsNamed ds p → IsNamed ds q → AreSame p q

abbrev OneRefusal : Type 0
OneRefusal =
    (ds : SDefine) (a b : CheckFault) → (a ≡ check.OutOfMemory → ⊥) → (b ≡ check.OutOfMemory → ⊥) → IsRefused ds a
    → IsRefused ds b → a ≡ b

abbrev NotBoth : Type 0
NotBoth = (ds : SDefine) (p : Program) (fault : CheckFault) → IsNamed ds p → IsRefused ds fault
    → fault ≡ check.OutOfMemory

module _ (one_program : OneProgram) (one_refusal : OneRefusal) (not_both : NotBoth) (answers_one : AnswersOne)
    (plans_said : PlansAreSaid) (s_define input : List ℕ) where
  -- ---- the S_define

  same_program : (p q : Program) → HasProgram s_define p → HasProgram s_define q → AreSame p q
  same_program p q has other =
      let same = (one_tree s_define).tree has.tree other.tree has.read other.read in
      one_program (sdefine_of other.tree) p q (subst (λ ds. IsNamed ds p) same has.named) other.named

  unread_or_read : (line : List ℕ) (p : Program) → IsUnread s_define line → HasProgram s_define p → ⊥
  unread_or_read line p unread has = unread.known ((one_tree s_define).read has.tree unread.fault has.read unread.refused)

  unread_or_unnamed : (line other : List ℕ) → IsUnread s_define line → IsUnnamed s_define other → ⊥
  unread_or_unnamed line other unread unnamed =
      unread.known ((one_tree s_define).read unnamed.tree unread.fault unnamed.read unread.refused)

  unnamed_or_named : (line : List ℕ) (p : Program) → IsUnnamed s_define line → HasProgram s_define p → ⊥
  unnamed_or_named line p unnamed has =
      let same = (one_tree s_define).tree unnamed.tree has.tree unnamed.read has.read in
      unnamed.known (not_both (sdefine_of has.tree) p unnamed.fault has.named
      (subst (λ ds. IsRefused ds unnamed.fault) same unnamed.refused))

  unread_once : (line other : List ℕ) → IsUnread s_define line → IsUnread s_define other → line ≡ other
  unread_once line other a b =
      let same = (one_tree s_define).refused a.fault b.fault a.known b.known a.refused b.refused in
      a.printed ∙ ap (λ (fault : SdefFault). s_define_line fault) same ∙ sym b.printed

  unnamed_once : (line other : List ℕ) → IsUnnamed s_define line → IsUnnamed s_define other → line ≡ other
  unnamed_once line other a b =
      let tree = (one_tree s_define).tree a.tree b.tree a.read b.read in
      let same = one_refusal (sdefine_of b.tree) a.fault b.fault a.known b.known
      (subst (λ ds. IsRefused ds a.fault) tree a.refused) b.refused in
      a.printed ∙ ap (λ (fault : CheckFault). check_line fault) same ∙ sym b.printed

  -- ---- the input

  unread_or_lines : (line : List ℕ) (calls : List Call) → IsInputUnread input line → HasLines input calls → ⊥
  unread_or_lines line calls unread has = unread.known ((one_reading input).read has.all unread.fault has.read unread.refused)

  input_once : (line other : List ℕ) → IsInputUnread input line → IsInputUnread input other → line ≡ other
  input_once line other a b =
      let same = (one_reading input).refused a.fault b.fault a.known b.known a.refused b.refused in
      a.printed ∙ ap (λ (fault : InputFault). input_line fault) same ∙ sym b.printed

  same_calls : (calls other : List Call) → HasLines input calls → HasLines input other → calls ≡ other
  same_calls calls other a b = sym a.same ∙ (one_reading input).lines a.all b.all a.read b.read ∙ b.same

  -- ---- both

  -- what is answered by one program and one list of lines is answered by the others
  answered_by : (p q : Program) (calls others : List Call) → HasProgram s_define p → HasProgram s_define q
      → HasLines input calls → HasLines input others
      → (answer : Result Draft JoinFault) → AreAnswered p calls answer → AreAnswered q others answer
  answered_by p q calls others has_p has_q lines other_lines answer answered =
      subst (λ cs. AreAnswered q cs answer) (same_calls calls others lines other_lines)
      (answered_same p q (same_program p q has_p has_q) calls answer answered)

  one_answer : (q : Program) (calls : List Call) (a b : Result Draft JoinFault) → AreAnswered q calls a
      → AreAnswered q calls b → a ≡ b
  one_answer q calls a b x y = answers_one (jobs_of q) (settings_in q.jobs calls) calls (begun q) a b x y

  planned_or_unjoined : (plan : Plan) (line : List ℕ) (q : Program) (others : List Call)
      → HavePlan s_define input plan → HasProgram s_define q → HasLines input others → AreUnjoined q others line → ⊥
  planned_or_unjoined plan line q others have has_q other_lines unjoined =
      let d = have.joined.0 in
      ok_or_err d unjoined.fault (Ok d) (Err unjoined.fault) refl refl
      (one_answer q others (Ok d) (Err unjoined.fault)
      (answered_by have.program q have.calls others have.has_program has_q have.has_lines other_lines (Ok d)
      have.joined.1)
      (said q others unjoined.fault unjoined.refused unjoined.known))

  unjoined_once : (line other : List ℕ) (p q : Program) (calls others : List Call)
      → HasProgram s_define p → HasProgram s_define q → HasLines input calls → HasLines input others
      → AreUnjoined p calls line → AreUnjoined q others other → line ≡ other
  unjoined_once line other p q calls others has_p has_q lines other_lines a b =
      let same = same_fault a.fault b.fault (Err a.fault) (Err b.fault) refl refl
      (one_answer q others (Err a.fault) (Err b.fault)
      (answered_by p q calls others has_p has_q lines other_lines (Err a.fault)
      (said p calls a.fault a.refused a.known))
      (said q others b.fault b.refused b.known)) in
      a.printed ∙ ap (λ (fault : JoinFault). join_line fault) same ∙ sym b.printed

  planned : (plan : Plan) (line : List ℕ) → HavePlan s_define input plan → IsTextRefused s_define input line → ⊥
  planned plan line have (at_s_define unread) = unread_or_read line have.program unread have.has_program
  planned plan line have (at_names unnamed) = unnamed_or_named line have.program unnamed have.has_program
  planned plan line have (at_input program has unread) = unread_or_lines line have.calls unread have.has_lines
  planned plan line have (at_join program calls has lines unjoined) =
      planned_or_unjoined plan line program calls have has lines unjoined

  refused : (line other : List ℕ) → IsTextRefused s_define input line → IsTextRefused s_define input other → line ≡ other
  refused line other (at_s_define a) (at_s_define b) = unread_once line other a b
  refused line other (at_s_define a) (at_names b) = absurd (unread_or_unnamed line other a b)
  refused line other (at_s_define a) (at_input q has_q b) = absurd (unread_or_read line q a has_q)
  refused line other (at_s_define a) (at_join q others has_q other_lines b) = absurd (unread_or_read line q a has_q)
  refused line other (at_names a) (at_s_define b) = absurd (unread_or_unnamed other line b a)
  refused line other (at_names a) (at_names b) = unnamed_once line other a b
  refused line other (at_names a) (at_input q has_q b) = absurd (unnamed_or_named line q a has_q)
  refused line other (at_names a) (at_join q others has_q other_lines b) = absurd (unnamed_or_named line q a has_q)
  refused line other (at_input p has_p a) (at_s_define b) = absurd (unread_or_read other p b has_p)
  refused line other (at_input p has_p a) (at_names b) = absurd (unnamed_or_named other p b has_p)
  refused line other (at_input p has_p a) (at_input q has_q b) = input_once line other a b
  refused line other (at_input p has_p a) (at_join q others has_q other_lines b) =
      absurd (unread_or_lines line others a other_lines)
  refused line other (at_join p calls has_p lines a) (at_s_define b) = absurd (unread_or_read other p b has_p)
  refused line other (at_join p calls has_p lines a) (at_names b) = absurd (unnamed_or_named other p b has_p)
  refused line other (at_join p calls has_p lines a) (at_input q has_q b) = absurd (unread_or_lines other calls b lines)
  refused line other (at_join p calls has_p lines a) (at_join q others has_q other_lines b) =
      unjoined_once line other p q calls others has_p has_q lines other_lines a b

  same_plan : (one other : Plan) → HavePlan s_define input one → HavePlan s_define input other
      → plan_of one ≡ plan_of other
  same_plan one other a b =
      let p = a.program in
      let q = b.program in
      let d = a.joined.0 in
      let programs = same_program p q a.has_program b.has_program in
      let calls = same_calls a.calls b.calls a.has_lines b.has_lines in
      let there = answered_by p q a.calls b.calls a.has_program b.has_program a.has_lines b.has_lines (Ok d) a.joined.1 in
      let drafts = same_draft d b.joined.0 (Ok d) (Ok b.joined.0) refl refl
      (one_answer q b.calls (Ok d) (Ok b.joined.0) there b.joined.1) in
      plans_said p a.calls one d a.joined.1 a.joined
      ∙ said_same p q programs (settings_in p.jobs a.calls) d
      ∙ ap (λ jobs. plan_said q (settings_in jobs a.calls) d) programs.jobs
      ∙ ap (λ cs. plan_said q (settings_in q.jobs cs) d) calls
      ∙ ap (λ draft. plan_said q (settings_in q.jobs b.calls) draft) drafts
      ∙ sym (plans_said q b.calls other b.joined.0 b.joined.1 b.joined)

  accepted : (plan : Plan) (line : List ℕ) → IsReady s_define input plan → IsPlanRefused s_define input line → ⊥
  accepted plan line ready told =
      let same = same_plan plan told.plan ready.planned told.planned in
      plans.not_both (plan_of told.plan) told.unaccepted.fault
      (subst (λ (p : model.Plan). IsAccepted p) same ready.accepted)
      told.unaccepted.known told.unaccepted.first

  pub one_meaning : HaveOneMeaning s_define input
  one_meaning = record { planned = planned; one_plan = same_plan; refused = refused; accepted = accepted }
