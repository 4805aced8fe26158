-- How texts go whose run does not begin.
use Rattle.std.proofs.Common.{◌≡◌, ◌≢◌, ◌∙◌, ℕ, List, Some, inl, inr, ap, refl, subst, sym}
use Rattle.std.specs.Prelude.{◌⊎◌}
use Rattle.trick_codes.specs.Loads.{Refuses}
use Rattle.trick_codes.specs.declared.load_fault.LoadFault.TheVariants as load_fault
use Rattle.trick_codes.specs.declared.load_fault.LoadFault.{LoadFault}
use Rattle.trick_chkpt_lines.specs.CheckpointLines.{checkpoint}
use Rattle.trick_model.specs.State.{State}
use Rattle.trick_model.specs.declared.plan.Plan.{Plan}
use Rattle.trick_top_texts.specs.Answers.{IsUnready}
use Rattle.trick_top_texts.specs.Texts.{IsReady}
use Rattle.trick_top_texts.specs.declared.unready.Unready.TheVariants as unready
use Rattle.trick_top_texts.specs.declared.unready.Unready.{Unready}
use Rattle.trick_top_refusals.specs.Checkpoint.{checkpoint_line}
use Rattle.trick_chkpt_state.specs.Loaded.{IsCheckpointOf}
use Rattle.trick_serve.specs.Serving.{Moment, Outside, moment}
use Rattle.trick_top_alone.specs.Outcome.{HasFound, HasNotFound}
use Rattle.trick_top_alone.specs.Sources.{AreNamed, Sources, texts_of}
use Rattle.trick_top_alone.specs.Verdict.{OutOfMemory, TextRefused, Verdict, unloaded_verdict, unready_verdict}
use Rattle.trick_top_alone.specs.Words.{names_of}
use Rattle.trick_top_words.specs.declared.command.Texts.{Texts}
use Rattle.trick_top.specs.Firsts.{HasNoFirst}
use Rattle.trick_top.specs.Rows.{DoesNotBegin, ServesCommand, ServesTexts, found, no_memory, not_begun, plan_refused, text_refused, unloaded, unread}

-- ---- a text that is no checkpoint

module _ (plan : Plan) (text : List ℕ) where
  refused : (why : LoadFault) → why ≢ load_fault.OutOfMemory → Refuses (checkpoint plan) text why
      → ((t : State) → IsCheckpointOf plan text t → why ≡ load_fault.OutOfMemory) → HasNoFirst plan (Some text) (TextRefused (checkpoint_line why))
  refused why known refuses same =
      inl (record { text = text; why = why; goes_on = refl; unloaded = record { refused = refuses; known = known; none = λ t is. known (same t is) }; told = refl })

  told : (why : LoadFault) → Refuses (checkpoint plan) text why → ((t : State) → IsCheckpointOf plan text t → why ≡ load_fault.OutOfMemory)
      → HasNoFirst plan (Some text) (unloaded_verdict why)
  told load_fault.OutOfMemory refuses same = inr refl
  told (load_fault.BadLine line) refuses same = refused (load_fault.BadLine line) (λ e. cc) refuses same
  told (load_fault.WrongPlan line) refuses same = refused (load_fault.WrongPlan line) (λ e. cc) refuses same
  told (load_fault.OutOfRange line) refuses same = refused (load_fault.OutOfRange line) (λ e. cc) refuses same
  told (load_fault.Truncated at) refuses same = refused (load_fault.Truncated at) (λ e. cc) refuses same
  told (load_fault.Trailing at) refuses same = refused (load_fault.Trailing at) (λ e. cc) refuses same

  pub no_checkpoint : (why : LoadFault) (verdict : Verdict) → (verdict ≡ unloaded_verdict why) ⊎ (verdict ≡ OutOfMemory) → Refuses (checkpoint plan) text why
      → ((t : State) → IsCheckpointOf plan text t → why ≡ load_fault.OutOfMemory) → HasNoFirst plan (Some text) verdict
  no_checkpoint why verdict (inl is) refuses same = subst (HasNoFirst plan (Some text)) (sym is) (told why refuses same)
  no_checkpoint why verdict (inr is) refuses same = inr is

-- ---- how the texts go

pub no_first : (given : Sources) (plan : Plan) (verdict : Verdict) → IsReady given.s_define given.input plan → HasNoFirst plan given.from verdict → DoesNotBegin given verdict
no_first given plan verdict ready (inl none) = subst (DoesNotBegin given) (sym none.told) (unloaded ready none.goes_on none.unloaded)
no_first given plan verdict ready (inr is) = subst (DoesNotBegin given) (sym is) no_memory

pub not_ready : (given : Sources) (refused : Unready) → IsUnready given.s_define given.input refused → DoesNotBegin given (unready_verdict refused)
not_ready given (unready.TextRefused line) is = text_refused is
not_ready given (unready.PlanRefused line) is = plan_refused is
not_ready given unready.OutOfMemory is = no_memory

-- ---- the rows, by what the calls say

module _ {F D I O S : Type 0} {o : Outside F D I O S} {failures : D → ℕ} where
  -- the shelf was not called, and door and spawner are handed back
  pub not_started : (given : Sources) (shelf : F) (door after : D) (spawner then : S) (verdict told : Verdict) → after ≡ door → then ≡ spawner → told ≡ verdict
      → DoesNotBegin given verdict → ServesTexts o failures given (moment shelf door spawner) (moment shelf after then) told
  not_started given shelf door after spawner then verdict told same also is why =
      subst (λ (v : Verdict). ServesTexts o failures given (moment shelf door spawner) (moment shelf after then) v) (sym is)
      (not_begun why (ap (λ (d : D). moment shelf d then) same ∙ ap (λ (s : S). moment shelf door s) also))

  -- a file was not read
  pub not_read : (about : Texts) (old new : F) (door after : D) (spawner then : S) (verdict told : Verdict) → after ≡ door → then ≡ spawner → told ≡ verdict
      → HasNotFound o.shelf old new (names_of about) verdict → ServesCommand o failures about (moment old door spawner) (moment new after then) told
  not_read about old new door after spawner then verdict told same also is was =
      subst (λ (v : Verdict). ServesCommand o failures about (moment old door spawner) (moment new after then) v) (sym is) (unread was same also)

  -- the texts that are lent are those that were read
  pub served_same : (given lent : Sources) (old new : Moment F D S) (verdict : Verdict) → lent ≡ given → ServesTexts o failures lent old new verdict → ServesTexts o failures given old new verdict
  served_same given lent old new verdict same goes = subst (λ (g : Sources). ServesTexts o failures g old new verdict) same goes

  -- all files were found, and their texts went so
  pub went_on : (about : Texts) (old mid : F) (door : D) (spawner : S) (given : Sources) (new : Moment F D S) (verdict : Verdict)
      → HasFound o.shelf old mid (names_of about) (texts_of given) → AreNamed about given
      → ServesTexts o failures given (moment mid door spawner) new verdict → ServesCommand o failures about (moment old door spawner) new verdict
  went_on about old mid door spawner given new verdict was named goes = found was named goes
