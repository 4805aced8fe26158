-- Sessions that are there join in front of the entries of the first turn.
use Rattle.std.proofs.Common.{◌≡◌, ◌∙◌, ℕ, List, [], ◌∷◌, ◌++◌, Bool, true, false, not, ◌&&◌, cond, Some, unwrap_or, ap, append-nil, append_assoc, refl, sym}
use Rattle.std.specs.List.{list_any}
use Rattle.std.specs.Prelude.{◌||◌, IsTrue, Option, filter, map, nat_le}
use Rattle.trick_base.proofs.ContentLemmas.{content-append}
use Rattle.trick_base.specs.Content.{content, same_name}
use Rattle.trick_base.specs.Files.{Write}
use Rattle.trick_model.specs.Files.{journal_name, note, turn_writes, turns_writes}
use Rattle.trick_model.specs.Journal.{entry_line, entry_lines, is_of_session, with_joins}
use Rattle.trick_model.specs.Laws.{JoinsAreNoted, SessionsDoNotMatter}
use Rattle.trick_model.specs.Plan.{Plan}
use Rattle.trick_model.specs.Run.{after_turns, goes_on, has_session_entry, is_over, is_shut, opened}
use Rattle.trick_model.specs.State.{State, World}
use Rattle.trick_model.specs.Turn.{is_frozen, turn}
use Rattle.trick_model.specs.declared.entry.Entry.{Entry}
use Rattle.trick_model.specs.declared.entry.Entry.TheVariants.{Join}
use Rattle.trick_model_remainder.proofs.Contents.{added_append}
use Rattle.trick_model_remainder.specs.Remainder.{added}

-- the joins of sessions
abbrev pub joins_of : List ℕ → List Entry
joins_of live = map (λ session. Join session) live

-- ---- worlds of one state

-- what a turn writes, from its parts
abbrev written : ℕ → List Entry → List Write → List Write
written number kept writes =
    note number (filter is_of_session kept) ++ note number (filter (λ entry. not (is_of_session entry)) kept) ++ writes

-- worlds of one state write the same under the same entries, end with one state, and go on alike
pub record AreAlike (p : Plan) (w v : World) (lists : List (List Entry)) : Type 0 where
  pub writes : turns_writes p w lists ≡ turns_writes p v lists
  pub state : (after_turns p w lists).state ≡ (after_turns p v lists).state
  pub goes : goes_on p w lists ≡ goes_on p v lists

pub alike : SessionsDoNotMatter → (p : Plan) (w v : World) (lists : List (List Entry)) → w.state ≡ v.state → AreAlike p w v lists
alike law p w v [] e = record { writes = refl; state = e; goes = refl }
alike law p w v (entries ∷ lists) e =
    let same = law p w v entries e in
    let rest = alike law p (turn p w entries).world (turn p v entries).world lists same.state in
    record {
      writes = λ i. let s = e i in written s.turn (same.noted i) (same.writes i) ++ rest.writes i;
      state = rest.state;
      goes = λ i. not (is_over (e i) (entries ∷ lists)) && rest.goes i;
    }

-- ---- the run goes on

any_joins : (live : List ℕ) (entries : List Entry) (b : Bool) → (list_any is_of_session entries || b) ≡ true
    → (list_any is_of_session (joins_of live ++ entries) || b) ≡ true
any_joins [] entries b h = h
any_joins (session ∷ live) entries b h = refl

not_over : (shut over frozen some more : Bool) → (some ≡ true → more ≡ true)
    → not (shut || (over || (frozen && not some))) ≡ true → not (shut || (over || (frozen && not more))) ≡ true
not_over true over frozen some more later h = cc h
not_over false true frozen some more later h = cc h
not_over false false false some more later h = refl
not_over false false true true more later h = ap (λ (b : Bool). not (false || (false || (true && not b)))) (later refl)
not_over false false true false more later h = cc h

split : (a b : Bool) → a && b ≡ true → (a ≡ true) × (b ≡ true)
split true b h = (refl, h)
split false b h = cc h

both : (a b : Bool) → a ≡ true → b ≡ true → a && b ≡ true
both true b one other = other
both false b one other = cc one

-- A run from a state under these lists, and under the same with joins in front of the first one.
pub record AreJoined (p : Plan) (s : State) (live : List ℕ) (lists : List (List Entry)) : Type 0 where
  pub goes : IsTrue (goes_on p (opened s) lists) → IsTrue (goes_on p (opened s) (with_joins live lists))
  pub state : (after_turns p (opened s) (with_joins live lists)).state ≡ (after_turns p (opened s) lists).state

pub are_joined : SessionsDoNotMatter → JoinsAreNoted → (p : Plan) (s : State) (live : List ℕ) (lists : List (List Entry)) → AreJoined p s live lists
are_joined law joins p s live [] = record { goes = λ h. h; state = refl }
are_joined law joins p s live (entries ∷ lists) =
    let more = joins_of live ++ entries in
    let same = alike law p (turn p (opened s) more).world (turn p (opened s) entries).world lists (joins.state p (opened s) live entries) in
    record {
      goes = λ h.
          let facts = split (not (is_over s (entries ∷ lists))) (goes_on p (turn p (opened s) entries).world lists) h in
          both (not (is_over s (more ∷ lists))) (goes_on p (turn p (opened s) more).world lists)
          (not_over (is_shut s.mode) (nat_le s.limit s.tic) (is_frozen s.mode) (has_session_entry (entries ∷ lists)) (has_session_entry (more ∷ lists))
          (any_joins live entries (has_session_entry lists)) facts.0)
          (same.goes ∙ facts.1);
      state = same.state;
    }

-- ---- what is written

kept_joins : (live : List ℕ) (entries : List Entry) → filter is_of_session (joins_of live ++ entries) ≡ joins_of live ++ filter is_of_session entries
kept_joins [] entries = refl
kept_joins (session ∷ live) entries = ap (λ (more : List Entry). Join session ∷ more) (kept_joins live entries)

left_out : (live : List ℕ) (entries : List Entry)
    → filter (λ entry. not (is_of_session entry)) (joins_of live ++ entries) ≡ filter (λ entry. not (is_of_session entry)) entries
left_out [] entries = refl
left_out (session ∷ live) entries = left_out live entries

-- a file of another name than the journal's does not change by notes
note_leaves : (name : List ℕ) (number : ℕ) (entries : List Entry) (before : Option (List ℕ)) → same_name name journal_name ≡ false
    → content name (note number entries) before ≡ before
note_leaves name number [] before other = refl
note_leaves name number (entry ∷ entries) before other =
    ap (λ (b : Bool). cond b (Some (unwrap_or before [] ++ entry_lines number (entry ∷ entries))) before) other

abbrev pubs : List Entry → List Entry
pubs kept = filter (λ entry. not (is_of_session entry)) kept

written_leaves : (name : List ℕ) (number : ℕ) (kept : List Entry) (writes : List Write) (before : Option (List ℕ)) → same_name name journal_name ≡ false
    → content name (written number kept writes) before ≡ content name writes before
written_leaves name number kept writes before other =
    content-append name (note number (filter is_of_session kept) ++ note number (pubs kept)) writes before
    ∙ ap (content name writes)
    (content-append name (note number (filter is_of_session kept)) (note number (pubs kept)) before
    ∙ note_leaves name number (pubs kept) (content name (note number (filter is_of_session kept)) before) other
    ∙ note_leaves name number (filter is_of_session kept) before other)

pub joins_leave : SessionsDoNotMatter → JoinsAreNoted → (p : Plan) (s : State) (live : List ℕ) (lists : List (List Entry)) (name : List ℕ) (before : Option (List ℕ))
    → same_name name journal_name ≡ false
    → content name (turns_writes p (opened s) (with_joins live lists)) before ≡ content name (turns_writes p (opened s) lists) before
joins_leave law joins p s live [] name before other = refl
joins_leave law joins p s live (entries ∷ lists) name before other =
    let more = joins_of live ++ entries in
    let one = turn p (opened s) more in
    let two = turn p (opened s) entries in
    let same = alike law p one.world two.world lists (joins.state p (opened s) live entries) in
    content-append name (turn_writes s.turn one) (turns_writes p one.world lists) before
    ∙ (λ i. content name (same.writes i) (content name (turn_writes s.turn one) before))
    ∙ ap (content name (turns_writes p two.world lists))
    (written_leaves name s.turn one.noted one.writes before other
    ∙ (λ i. content name (joins.writes p (opened s) live entries i) before)
    ∙ sym (written_leaves name s.turn two.noted two.writes before other))
    ∙ sym (content-append name (turn_writes s.turn two) (turns_writes p two.world lists) before)

-- ---- what the journal gets

added_note : (number : ℕ) (entries : List Entry) → added journal_name (note number entries) ≡ entry_lines number entries
added_note number [] = refl
added_note number (entry ∷ entries) = append-nil (entry_lines number (entry ∷ entries))

lines_append : (number : ℕ) (early late : List Entry) → entry_lines number (early ++ late) ≡ entry_lines number early ++ entry_lines number late
lines_append number [] late = refl
lines_append number (entry ∷ early) late =
    ap (λ more. entry_line number entry ++ more) (lines_append number early late)
    ∙ sym (append_assoc (entry_line number entry) (entry_lines number early) (entry_lines number late))

added_written : (number : ℕ) (kept : List Entry) (writes : List Write)
    → added journal_name (written number kept writes)
    ≡ entry_lines number (filter is_of_session kept) ++ (entry_lines number (pubs kept) ++ added journal_name writes)
added_written number kept writes =
    added_append journal_name (note number (filter is_of_session kept) ++ note number (pubs kept)) writes
    ∙ ap (λ x. x ++ added journal_name writes)
    (added_append journal_name (note number (filter is_of_session kept)) (note number (pubs kept))
    ∙ (λ i. added_note number (filter is_of_session kept) i ++ added_note number (pubs kept) i))
    ∙ append_assoc (entry_lines number (filter is_of_session kept)) (entry_lines number (pubs kept)) (added journal_name writes)

-- the lines of joins come first
joined_written : (number : ℕ) (live : List ℕ) (kept : List Entry) (writes : List Write)
    → added journal_name (written number (joins_of live ++ kept) writes)
    ≡ entry_lines number (joins_of live) ++ added journal_name (written number kept writes)
joined_written number live kept writes =
    added_written number (joins_of live ++ kept) writes
    ∙ (λ i. entry_lines number (kept_joins live kept i) ++ (entry_lines number (left_out live kept i) ++ added journal_name writes))
    ∙ ap (λ x. x ++ (entry_lines number (pubs kept) ++ added journal_name writes)) (lines_append number (joins_of live) (filter is_of_session kept))
    ∙ append_assoc (entry_lines number (joins_of live)) (entry_lines number (filter is_of_session kept))
    (entry_lines number (pubs kept) ++ added journal_name writes)
    ∙ ap (λ x. entry_lines number (joins_of live) ++ x) (sym (added_written number kept writes))

-- the lines of the sessions that are there, if a turn is done
abbrev pub lines_for : ℕ → List ℕ → List (List Entry) → List ℕ
lines_for number live lists = elim lists [ [] ↦ [] | list ∷ more ↦ entry_lines number (joins_of live) ]

pub joins_are_lines : SessionsDoNotMatter → JoinsAreNoted → (p : Plan) (s : State) (live : List ℕ) (lists : List (List Entry))
    → added journal_name (turns_writes p (opened s) (with_joins live lists))
    ≡ lines_for s.turn live lists ++ added journal_name (turns_writes p (opened s) lists)
joins_are_lines law joins p s live [] = refl
joins_are_lines law joins p s live (entries ∷ lists) =
    let more = joins_of live ++ entries in
    let one = turn p (opened s) more in
    let two = turn p (opened s) entries in
    let same = alike law p one.world two.world lists (joins.state p (opened s) live entries) in
    let lines = entry_lines s.turn (joins_of live) in
    added_append journal_name (turn_writes s.turn one) (turns_writes p one.world lists)
    ∙ (λ i. added journal_name (written s.turn (joins.noted p (opened s) live entries i) (joins.writes p (opened s) live entries i))
    ++ added journal_name (same.writes i))
    ∙ ap (λ x. x ++ added journal_name (turns_writes p two.world lists)) (joined_written s.turn live two.noted two.writes)
    ∙ append_assoc lines (added journal_name (turn_writes s.turn two)) (added journal_name (turns_writes p two.world lists))
    ∙ ap (λ x. lines ++ x) (sym (added_append journal_name (turn_writes s.turn two) (turns_writes p two.world lists)))
