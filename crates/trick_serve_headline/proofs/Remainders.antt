-- A run that goes on from a turn of another run.
use Rattle.std.proofs.Common.{◌≡◌, ◌∙◌, ℕ, List, [], ◌∷◌, ◌++◌, Bool, true, false, not, ◌&&◌, refl, sym}
use Rattle.std.proofs.lemmas.List.Elements.{All-weaker}
use Rattle.std.specs.Prelude.{codes, map}
use Rattle.trick_base.specs.Content.{same_name}
use Rattle.trick_serve_headline.specs.Continued.{KeepsRows, RunsWriteRemainders}
use Rattle.trick_model_sessions.specs.Lines.{AllApplySame, RunsWriteSame, SameLinesWriteTheSame, line_texts, threads_in}
use Rattle.trick_model.specs.Files.{journal_name}
use Rattle.trick_model.specs.Journal.{Noted, live_before, with_joins}
use Rattle.trick_model.specs.Plan.{Plan}
use Rattle.trick_model.specs.PlanOf.{plan_of}
use Rattle.trick_model.specs.Records.{log_name}
use Rattle.trick_model.specs.Run.{has_session_entry}
use Rattle.trick_model.specs.State.{State}
use Rattle.trick_model.specs.Turn.{is_frozen}
use Rattle.trick_model.specs.declared.entry.Entry.{Entry}
use Rattle.trick_model.specs.declared.entry.Entry.TheVariants.{Join}
use Rattle.trick_model.specs.declared.group.Group.{Group}
use Rattle.trick_model_remainder.specs.Remainder.{IsLogRest, RemaindersAreWritten, late_lists, lists_after, state_at}

-- ---- joins apply nothing

lines_of_joins : (live : List ℕ) (entries : List Entry) → line_texts (map (λ session. Join session) live ++ entries) ≡ line_texts entries
lines_of_joins [] entries = refl
lines_of_joins (session ∷ live) entries = lines_of_joins live entries

threads_of_joins : (live : List ℕ) (entries : List Entry) → threads_in (map (λ session. Join session) live ++ entries) ≡ threads_in entries
threads_of_joins [] entries = refl
threads_of_joins (session ∷ live) entries = threads_of_joins live entries

with_joins_same : (live : List ℕ) (one other : List (List Entry)) → AllApplySame one other → AllApplySame one (with_joins live other)
with_joins_same live [] [] same = tt
with_joins_same live [] (entries ∷ other) same = absurd same
with_joins_same live (entries ∷ one) [] same = absurd same
with_joins_same live (entries ∷ one) (others ∷ other) (first, rest) = (
  record {
    lines = first.lines ∙ sym (lines_of_joins live others);
    publications = first.publications ∙ sym (threads_of_joins live others);
  },
  rest,
)

lists_same : (p : Plan) (s : State) (entries : List Noted) (end turn : ℕ) (lists : List (List Entry)) → AllApplySame lists (late_lists entries end turn)
    → AllApplySame lists (lists_after p s entries end turn)
lists_same p s entries end turn lists same =
    by (is_frozen (state_at p s entries turn).mode && not (has_session_entry (late_lists entries end turn)))
  where
    by : (b : Bool) → AllApplySame lists
        (elim b [ true ↦ late_lists entries end turn | false ↦ with_joins (live_before turn entries []) (late_lists entries end turn) ])
    by true = same
    by false = with_joins_same (live_before turn entries []) lists (late_lists entries end turn) same

-- ---- the files

log_is_other : (group : Group) → same_name (log_name group) journal_name ≡ false
log_is_other group = refl

keeps_rows : (p : Plan) (s : State) (entries : List Noted) (end turn : ℕ) (lists : List (List Entry))
    → RunsWriteSame p (state_at p s entries turn) lists (lists_after p s entries end turn) → (group : Group)
    → IsLogRest p s entries end turn group → KeepsRows p s entries end turn lists group
keeps_rows p s entries end turn lists alike group rest = record {
  whole = rest.whole;
  continued = λ before. alike.files (log_name group) before (log_is_other group) ∙ rest.resumed before;
}

pub remainders : RemaindersAreWritten → SameLinesWriteTheSame → RunsWriteRemainders
remainders rests same plan s entries end turn lists later within fits applies =
    let p = plan_of plan in
    let rest = rests plan s entries end turn later within fits in
    let alike = same p (state_at p s entries turn) lists (lists_after p s entries end turn)
    (lists_same p s entries end turn lists applies) in
    record {
      ends = alike.ends ∙ rest.ends;
      logs =
          All-weaker (IsLogRest p s entries end turn) (KeepsRows p s entries end turn lists)
          (λ group of. keeps_rows p s entries end turn lists alike group of) p.groups rest.logs;
      last = λ before then. rest.last before then ∙ sym (alike.files (codes "final.chk") then refl);
      faults = λ before then. rest.faults before then ∙ sym (alike.files (codes "faults.txt") then refl);
      checkpoints = λ name before then other made. rest.checkpoints name before then other made ∙ sym (alike.files name then other);
    }
