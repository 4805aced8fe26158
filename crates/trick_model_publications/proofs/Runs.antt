-- Runs under lists of entries that differ in publications alone.
use Rattle.std.proofs.Common.{◌≡◌, ◌∙◌, ℕ, suc, List, [], ◌∷◌, ◌++◌, length, Bool, true, false, not, ◌&&◌, ◌||◌, ap, nat_le, refl, sym}
use Rattle.std.specs.List.{list_any, slice_index_or}
use Rattle.std.specs.Prelude.{IsTrue, Option}
use Rattle.trick_base.proofs.ContentLemmas.{content-append}
use Rattle.trick_base.proofs.Truths.{first_holds, second_holds}
use Rattle.trick_base.specs.Content.{content}
use Rattle.trick_lang.specs.declared.class.Class.TheVariants as class
use Rattle.trick_model.specs.Files.{end_writes, file, start_writes, turn_writes, turns_writes}
use Rattle.trick_model.specs.Journal.{is_of_session}
use Rattle.trick_model.specs.Plan.{Plan}
use Rattle.trick_model.specs.Records.{log_name}
use Rattle.trick_model.specs.Run.{Fits, after_turns, final, goes_on, has_session_entry, is_over, is_shut, opened, shut}
use Rattle.trick_model.specs.State.{State, World}
use Rattle.trick_model.specs.Turn.{is_frozen, turn}
use Rattle.trick_model.specs.declared.entry.Entry.{Entry}
use Rattle.trick_model.specs.declared.entry.Entry.TheVariants.{Join, Said, Leave, Publish}
use Rattle.trick_model.specs.declared.group.Group.{Group}
use Rattle.trick_model.specs.declared.mode.Mode.TheVariants as mode
use Rattle.trick_model_publications.proofs.Memories.{none_some, one_less, some_none}
use Rattle.trick_model_publications.proofs.States.{AreAlike, Keeps, alike_refl, both, choose, lift, mode_keeps, with_work, worked}
use Rattle.trick_model_publications.proofs.Steady.{IsSteady}
use Rattle.trick_model_publications.proofs.Turns.{AreWorldsAlike, IsLogName, turn_alike}
use Rattle.trick_model_publications.specs.Publications.{AgreeOutside, DifferInPublications, EndAlike, IsOneLog, lines_of, without_work}

-- ---- lines that are left

any_line : (entries : List Entry) → list_any is_of_session entries ≡ list_any is_of_session (lines_of entries)
any_line [] = refl
any_line (Join number ∷ entries) = refl
any_line (Said number line ∷ entries) = refl
any_line (Leave number cause ∷ entries) = refl
any_line (Publish thread ∷ entries) = any_line entries

lines_same : (one other : List Entry) → lines_of one ≡ lines_of other → list_any is_of_session one ≡ list_any is_of_session other
lines_same one other e = any_line one ∙ ap (λ (lines : List Entry). list_any is_of_session lines) e ∙ sym (any_line other)

pub left_same : (one other : List (List Entry)) → DifferInPublications one other → has_session_entry one ≡ has_session_entry other
left_same [] [] differ = refl
left_same [] (entries ∷ other) differ =
    let first = lines_same [] entries (differ 0) in
    let rest = left_same [] other (λ k. differ (suc k)) in
    λ i. first i || rest i
left_same (entries ∷ one) [] differ =
    let first = lines_same entries [] (differ 0) in
    let rest = left_same one [] (λ k. differ (suc k)) in
    λ i. first i || rest i
left_same (entries ∷ one) (others ∷ other) differ =
    let first = lines_same entries others (differ 0) in
    let rest = left_same one other (λ k. differ (suc k)) in
    λ i. first i || rest i

-- a run is over on both sides or on neither
over_same : (p : Plan) (s t : State) (one other : List (List Entry)) → AreAlike p s t → DifferInPublications one other → is_over s one ≡ is_over t other
over_same p s t one other h differ =
    lift p (λ (u : State). is_over s one ≡ is_over u other) s t h
    (λ v suits. ap (λ (b : Bool). is_shut s.mode || (nat_le s.limit s.tic || (is_frozen s.mode && not b))) (left_same one other differ))

-- ---- turn after turn

-- Two runs under as many lists end with alike worlds, go on alike, and write the same to logs.
record AreRunsAlike (p : Plan) (w u : World) (one other : List (List Entry)) : Type 0 where
  world : AreWorldsAlike p (after_turns p w one) (after_turns p u other)
  goes : goes_on p w one ≡ goes_on p u other
  logs : (name : List ℕ) → IsLogName name → (before : Option (List ℕ)) → content name (turns_writes p w one) before ≡ content name (turns_writes p u other) before

runs_alike : (p : Plan) → IsSteady p → (w u : World) (one other : List (List Entry)) → length one ≡ length other → DifferInPublications one other
    → AreWorldsAlike p w u → AreRunsAlike p w u one other
runs_alike p steady w u [] [] many differ h = record { world = h; goes = refl; logs = λ name log before. refl }
runs_alike p steady w u [] (entries ∷ other) many differ h = absurd (none_some (length other) many)
runs_alike p steady w u (entries ∷ one) [] many differ h = absurd (some_none (length one) many)
runs_alike p steady w u (entries ∷ one) (others ∷ other) many differ h =
    let first = turn_alike p steady w u entries others (differ 0) h in
    let rest = runs_alike p steady (turn p w entries).world (turn p u others).world one other (one_less (length one) (length other) many)
    (λ k. differ (suc k)) first.world in
    let over = over_same p w.state u.state (entries ∷ one) (others ∷ other) h.state differ in
    record {
      world = rest.world;
      goes = λ i. not (over i) && rest.goes i;
      logs = λ name log before.
          content-append name (turn_writes w.state.turn (turn p w entries)) (turns_writes p (turn p w entries).world one) before
          ∙ rest.logs name log (content name (turn_writes w.state.turn (turn p w entries)) before)
          ∙ ap (content name (turns_writes p (turn p u others).world other)) (first.logs name log w.state.turn u.state.turn before)
          ∙ sym (content-append name (turn_writes u.state.turn (turn p u others)) (turns_writes p (turn p u others).world other) before);
    }

-- ---- whole runs have as many turns

not_both : (b : Bool) → IsTrue b → IsTrue (not b) → ⊥
not_both true holds fails = cc fails
not_both false holds fails = cc holds

as_many : (p : Plan) → IsSteady p → (w u : World) (one other : List (List Entry)) → DifferInPublications one other → AreWorldsAlike p w u
    → IsTrue (goes_on p w one) → IsTrue (is_over (after_turns p w one).state [])
    → IsTrue (goes_on p u other) → IsTrue (is_over (after_turns p u other).state []) → length one ≡ length other
as_many p steady w u [] [] differ h goes over also done = refl
as_many p steady w u [] (others ∷ other) differ h goes over also done =
    absurd (not_both (is_over u.state (others ∷ other)) (sym (over_same p w.state u.state [] (others ∷ other) h.state differ) ∙ over)
    (first_holds (not (is_over u.state (others ∷ other))) (goes_on p (turn p u others).world other) also))
as_many p steady w u (entries ∷ one) [] differ h goes over also done =
    absurd (not_both (is_over w.state (entries ∷ one)) (over_same p w.state u.state (entries ∷ one) [] h.state differ ∙ done)
    (first_holds (not (is_over w.state (entries ∷ one))) (goes_on p (turn p w entries).world one) goes))
as_many p steady w u (entries ∷ one) (others ∷ other) differ h goes over also done =
    let first = turn_alike p steady w u entries others (differ 0) h in
    ap suc (as_many p steady (turn p w entries).world (turn p u others).world one other (λ k. differ (suc k)) first.world
    (second_holds (not (is_over w.state (entries ∷ one))) (goes_on p (turn p w entries).world one) goes) over
    (second_holds (not (is_over u.state (others ∷ other))) (goes_on p (turn p u others).world other) also) done)

-- ---- the ends

shut_keeps : (p : Plan) → IsSteady p → Keeps p (shut p)
shut_keeps p steady s v h =
    choose p (is_shut s.mode) s (worked s v) _ _ (λ _. with_work p s v h) (mode_keeps p steady class.Shutdown mode.Shutdown s v h)

opened_alike : (p : Plan) (s : State) → AreWorldsAlike p (opened s) (opened s)
opened_alike p s = record { state = alike_refl p s; sessions = refl }

log_is : (group : Group) → IsLogName (log_name group)
log_is group = record { no_journal = refl; no_checkpoint = λ turn. refl }

-- the last files are no logs
end_leaves : (p : Plan) (s : State) (group : Group) (before : Option (List ℕ)) → content (log_name group) (end_writes p s) before ≡ before
end_leaves p s group before = refl

log_of : (p : Plan) (s : State) (lists : List (List Entry)) (group : Group) (before : Option (List ℕ))
    → file (log_name group) p s lists before
    ≡ content (log_name group) (turns_writes p (opened s) lists) (content (log_name group) (start_writes p s.turn) before)
log_of p s lists group before =
    let name = log_name group in
    content-append name (start_writes p s.turn ++ turns_writes p (opened s) lists) (end_writes p (final p s lists)) before
    ∙ end_leaves p (final p s lists) group (content name (start_writes p s.turn ++ turns_writes p (opened s) lists) before)
    ∙ content-append name (start_writes p s.turn) (turns_writes p (opened s) lists) before

log_same : (p : Plan) (s : State) (one other : List (List Entry))
    → ((name : List ℕ) → IsLogName name → (before : Option (List ℕ))
    → content name (turns_writes p (opened s) one) before ≡ content name (turns_writes p (opened s) other) before)
    → (group : Group) → IsOneLog p s one other group
log_same p s one other logs group before =
    log_of p s one group before ∙ logs (log_name group) (log_is group) (content (log_name group) (start_writes p s.turn) before)
    ∙ sym (log_of p s other group before)

ends_alike : (p : Plan) → IsSteady p → (s : State) (one other : List (List Entry)) → length one ≡ length other → DifferInPublications one other
    → EndAlike p s one other
ends_alike p steady s one other many differ =
    let runs = runs_alike p steady (opened s) (opened s) one other many differ (opened_alike p s) in
    let ended = both p (shut p) (shut_keeps p steady) _ _ runs.world.state in
    record {
      turns = many;
      logs = λ k d there before. log_same p s one other runs.logs (slice_index_or p.groups k d) before;
      memory = lift p (λ (u : State). AgreeOutside p (final p s one).memory u.memory) (final p s one) (final p s other) ended (λ v suits. suits.memory_alike);
      rest = lift p (λ (u : State). without_work (final p s one) ≡ without_work u) (final p s one) (final p s other) ended (λ v suits. refl);
    }

pub whole_runs : (p : Plan) → IsSteady p → (s : State) (one other : List (List Entry)) → DifferInPublications one other → Fits p s one → Fits p s other
    → EndAlike p s one other
whole_runs p steady s one other differ fits also =
    ends_alike p steady s one other
    (as_many p steady (opened s) (opened s) one other differ (opened_alike p s) fits.goes fits.over also.goes also.over) differ

pub fit_kept : (p : Plan) → IsSteady p → (s : State) (one other : List (List Entry)) → DifferInPublications one other → length one ≡ length other
    → Fits p s one → Fits p s other
fit_kept p steady s one other differ many fits =
    let runs = runs_alike p steady (opened s) (opened s) one other many differ (opened_alike p s) in
    record {
      goes = sym runs.goes ∙ fits.goes;
      over = sym (over_same p (after_turns p (opened s) one).state (after_turns p (opened s) other).state [] [] runs.world.state (λ k. refl)) ∙ fits.over;
    }
