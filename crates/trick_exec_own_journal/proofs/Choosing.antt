-- Publications that were chosen are of rising threads.
use Rattle.std.proofs.Common.{◌≡◌, ℕ, ◌<◌, ◌≤◌, List, [], ◌∷◌, ◌++◌, Bool, true, false, ◌&&◌, ap, arith, subst, sym}
use Rattle.std.proofs.lemmas.Bool.{and_parts}
use Rattle.trick_exec_own_journal.proofs.Coming.{KeepRules, between_higher, between_more, lines_after, lines_come, others_in, others_rise, publish_between}
use Rattle.trick_exec_own_journal.proofs.Threads.{all_but_last, stand_between}
use Rattle.trick_exec_own_journal.specs.Rules.{AreRight, chosen, decided}
use Rattle.trick_model.specs.Plan.{Plan, threads_beside}
use Rattle.trick_model.specs.Run.{after_turns, opened}
use Rattle.trick_model.specs.State.{State, World}
use Rattle.trick_model.specs.Turn.{runs}
use Rattle.trick_model.specs.declared.entry.Entry.{Entry}
use Rattle.trick_model.specs.declared.entry.Entry.TheVariants.{Publish}
use Rattle.trick_model.specs.declared.thread.Thread.{Thread}
use Rattle.trick_post_work.specs.Polls.{Poll}
use Rattle.trick_exec_meaning.specs.Answers.{given}
use Rattle.trick_exec_meaning.specs.Rounds.{AreChosen, Chooses, IsChosen, heard_state, idle, no_turn, none, not_yet, one_more, publications, ready, unasked}
use Rattle.trick_exec_sources.specs.Turns.{Sessions, after_entries, in_next, is_succession, may_all_come, no_sessions}
use Rattle.std.specs.Prelude.{map}

-- ---- one turn

below : (a b : ℕ) {c : ℕ} → a < b → b ≤ c → a ≤ c
below a b less most = omega (arith, less, most)

chosen_rise : (s : State) (waits : List ℕ) (threads : List Thread) (entries : List Entry) (polls : List Poll) (high : ℕ)
    → Chooses s waits threads entries polls → stand_between 0 threads high ≡ true → publish_between 0 entries high ≡ true
chosen_rise s waits threads entries polls high none stand = stand
chosen_rise s waits threads entries polls high (idle before thread es earlier round so) stand =
    let parts = all_but_last 0 before thread high stand in
    between_higher 0 es parts.mid high (below parts.mid thread.number parts.less parts.most)
    (chosen_rise s waits before es earlier parts.mid so parts.before)
chosen_rise s waits threads entries polls high (ready before thread es earlier round short so) stand =
    let parts = all_but_last 0 before thread high stand in
    between_higher 0 (es ++ Publish thread.number ∷ []) thread.number high parts.most
    (between_more 0 es parts.mid thread.number parts.less (chosen_rise s waits before es earlier parts.mid so parts.before))
chosen_rise s waits threads entries polls high (not_yet before thread es earlier round short so) stand =
    let parts = all_but_last 0 before thread high stand in
    between_higher 0 es parts.mid high (below parts.mid thread.number parts.less parts.most)
    (chosen_rise s waits before es earlier parts.mid so parts.before)
chosen_rise s waits threads entries polls high (unasked before thread es earlier round long so) stand =
    let parts = all_but_last 0 before thread high stand in
    between_higher 0 (es ++ Publish thread.number ∷ []) thread.number high parts.most
    (between_more 0 es parts.mid thread.number parts.less (chosen_rise s waits before es earlier parts.mid so parts.before))

is_chosen_rise : (p : Plan) (s : State) (waits : List ℕ) (published : List Entry) (polls : List Poll) → stand_between 0 (threads_beside p) 15 ≡ true
    → IsChosen p s waits published polls → publish_between 0 published 15 ≡ true
is_chosen_rise p s waits published polls stand is = by (runs s) is
  where
    by : (b : Bool) → (let chosen : Type 0 = elim b [ true ↦ Chooses s waits (threads_beside p) published polls | false ↦ (published ≡ []) × (polls ≡ []) ] in chosen)
        → publish_between 0 published 15 ≡ true
    by true chooses = chosen_rise s waits (threads_beside p) published polls 15 chooses stand
    by false nothing = ap (λ (es : List Entry). publish_between 0 es 15) nothing.0

-- ---- all turns

-- The publications of each list are of rising threads.
abbrev pub AllRise : List (List Entry) → Type 0
AllRise [] = Unit {0}
AllRise (entries ∷ lists) = (publish_between 0 (others_in entries) 15 ≡ true) × AllRise lists

rise_more : (lists : List (List Entry)) (entries : List Entry) → AllRise lists → publish_between 0 (others_in entries) 15 ≡ true
    → AllRise (lists ++ entries ∷ [])
rise_more [] entries all one = (one, tt)
rise_more (first ∷ lists) entries all one = (all.0, rise_more lists entries all.1 one)

all_chosen_rise : (p : Plan) (w : World) (lists : List (List Entry)) (polls : List Poll) (waits : List ℕ)
    → stand_between 0 (threads_beside p) 15 ≡ true → AreChosen p w lists polls waits → AllRise lists
all_chosen_rise p w lists polls waits stand no_turn = tt
all_chosen_rise p w lists polls waits stand (one_more before earlier more waited entries so is) =
    rise_more before entries (all_chosen_rise p w before earlier waited stand so)
    (is_chosen_rise p (heard_state p (after_turns p w before) entries) waited (publications entries) more stand is)

-- ---- what was given keeps the rules

all_given_rise : (lists : List (List Entry)) (s : Sessions) → KeepRules (map (given true) lists) s → AllRise lists
all_given_rise [] s keep = tt
all_given_rise (entries ∷ lists) s keep =
    (others_rise entries (in_next s) keep.0, all_given_rise lists (after_entries entries (in_next s)) keep.1)

lines_keep : (lists : List (List Entry)) (s : Sessions) → KeepRules (map (given true) lists) s → KeepRules (map (given false) lists) s
lines_keep [] s keep = tt
lines_keep (entries ∷ lists) s keep = (
  lines_come entries (in_next s) keep.0,
  subst (λ (t : Sessions). KeepRules (map (given false) lists) t) (sym (lines_after entries (in_next s)))
      (lines_keep lists (after_entries entries (in_next s)) keep.1),
)

-- a succession keeps the rules, list after list
pub keep_of : (lists : List (List Entry)) (s : Sessions) → is_succession lists s ≡ true → KeepRules lists s
keep_of [] s all = tt
keep_of (entries ∷ lists) s all =
    let parts = and_parts (may_all_come entries (in_next s)) (is_succession lists (after_entries entries (in_next s))) all in
    (parts.0, keep_of lists (after_entries entries (in_next s)) parts.1)

-- lines that keep the rules, and publications of rising threads
pub right_parts : (p : Plan) (s : State) (lists : List (List Entry)) → stand_between 0 (threads_beside p) 15 ≡ true → AreRight p s lists
    → KeepRules (map (given false) lists) no_sessions × AllRise lists
right_parts p s lists stand (chosen polls waits rules so) =
    (keep_of (map (given false) lists) no_sessions rules, all_chosen_rise p (opened s) lists polls waits stand so)
right_parts p s lists stand (decided rules) =
    let keep = keep_of (map (given true) lists) no_sessions rules in
    (lines_keep lists no_sessions keep, all_given_rise lists no_sessions keep)
