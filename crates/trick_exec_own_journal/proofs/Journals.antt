-- The journal of the text that a run writes, and its run.
use Rattle.std.proofs.Common.{◌≡◌, ◌∙◌, ℕ, ◌+◌, ◌-◌, ◌≤◌, List, [], ◌∷◌, ◌++◌, Bool, true, false, not, ◌&&◌, ap, arith, length, refl, subst, sym}
use Rattle.std.specs.Prelude.{Option}
use Rattle.trick_base.specs.Content.{content}
use Rattle.trick_base.specs.Files.{Write}
use Rattle.trick_exec_own_journal.proofs.Coming.{KeepRules}
use Rattle.trick_exec_own_journal.proofs.Choosing.{right_parts}
use Rattle.trick_exec_own_journal.proofs.Entries.{all_of_turns, all_publish, joined, lists_same, nobody_before, ranged, rising, within}
use Rattle.trick_exec_own_journal.proofs.Noting.{noted_keep, noted_many, noted_publish}
use Rattle.trick_exec_own_journal.proofs.Texts.{journal_held}
use Rattle.trick_exec_own_journal.proofs.Threads.{threads_stand}
use Rattle.trick_exec_own_journal.proofs.Turns.{final_turn}
use Rattle.trick_exec_own_journal.specs.Rules.{noted_from}
use Rattle.trick_exec_own_journal.specs.Written.{WrittenJournals}
use Rattle.trick_model.specs.Files.{end_writes, file, start_writes, turns_writes}
use Rattle.trick_model.specs.Journal.{Noted, lists_from, live_before, with_joins}
use Rattle.trick_model.specs.Plan.{Plan}
use Rattle.trick_model.specs.PlanOf.{plan_of}
use Rattle.trick_model.specs.Run.{Fits, final, has_session_entry, lists_of, opened, shut}
use Rattle.trick_model.specs.State.{State, World}
use Rattle.trick_model.specs.Time.{last_turn}
use Rattle.trick_model.specs.Turn.{is_frozen}
use Rattle.trick_model.specs.declared.entry.Entry.{Entry}
use Rattle.trick_model.specs.declared.journal.Journal.{Journal}
use Rattle.trick_model.specs.declared.mode.Mode.{Mode}
use Rattle.trick_exec_laws.proofs.Same.{fits_same, worlds_same, writes_same}
use Rattle.trick_exec_laws.specs.Left.{journal_lists}
use Rattle.trick_exec_sources.specs.Turns.{no_sessions}

-- ---- the lists that it gives

joins_of_nobody : (lists : List (List Entry)) → with_joins [] lists ≡ lists
joins_of_nobody [] = refl
joins_of_nobody (entries ∷ lists) = refl

-- where nobody was there before, the lists are those of the turns
lists_alone : (entries : List Noted) (end start : ℕ) (begun : Mode) → live_before start entries [] ≡ []
    → lists_of entries end start begun ≡ lists_from start (end - start) entries
lists_alone entries end start begun nobody =
    by (is_frozen begun && not (has_session_entry (lists_from start (end - start) entries)))
  where
    left : List (List Entry)
    left = lists_from start (end - start) entries

    by : (b : Bool) → (let lists : List (List Entry) = elim b [
      | true ↦ lists_from start (end - start) entries
      | false ↦ with_joins (live_before start entries []) (lists_from start (end - start) entries)
    ] in lists ≡ lists_from start (end - start) entries)
    by true = refl
    by false =
        ap (λ (live : List ℕ). with_joins live (lists_from start (end - start) entries)) nobody
        ∙ joins_of_nobody (lists_from start (end - start) entries)

so_many : (start count end : ℕ) → end ≡ start + count → end - start ≡ count
so_many start count end is = omega (arith, is)

pub given_back : (start : ℕ) (lists : List (List Entry)) (end : ℕ) (begun : Mode) → end ≡ start + length lists
    → lists_of (noted_from start lists) end start begun ≡ lists
given_back start lists end begun is =
    lists_alone (noted_from start lists) end start begun
    (nobody_before start (noted_from start lists) [] (all_of_turns start start lists (itself start)))
    ∙ ap (λ (count : ℕ). lists_from start count (noted_from start lists)) (so_many start (length lists) end is)
    ∙ lists_same start lists
  where
    itself : (n : ℕ) → n ≤ n
    itself n = omega arith

-- ---- a run under what turns noted

pub last_same : (p : Plan) (s : State) (lists : List (List Entry)) → final p s (journal_lists p (opened s) lists) ≡ final p s lists
last_same p s lists = ap (λ (w : World). shut p w.state) (worlds_same p (opened s) lists)

pub files_same : (p : Plan) (s : State) (lists : List (List Entry)) (name : List ℕ) (before : Option (List ℕ))
    → file name p s (journal_lists p (opened s) lists) before ≡ file name p s lists before
files_same p s lists name before =
    ap (λ (writes : List Write). content name (start_writes p s.turn ++ writes ++ end_writes p (final p s (journal_lists p (opened s) lists))) before)
    (writes_same p (opened s) lists)
    ∙ ap (λ (last : State). content name (start_writes p s.turn ++ turns_writes p (opened s) lists ++ end_writes p last) before) (last_same p s lists)

-- ---- the journal

-- entries of turns that keep the rules are those of a journal
journal_of : (start : ℕ) (lists : List (List Entry)) (end : ℕ) → KeepRules lists no_sessions → end ≡ start + length lists → end ≤ last_turn → Journal
journal_of start lists end keep is most = record {
  from = start;
  entries = noted_from start lists;
  end = end;
  in_range = ranged start lists no_sessions (subst (λ (n : ℕ). n ≤ last_turn) is most) keep;
  rising = rising start lists no_sessions keep;
  within = within start start end lists (itself start) (same (start + length lists) end is);
  joined = joined start lists no_sessions keep;
  forward = first_below start (length lists) end is;
  end_right = most;
}
  where
    itself : (n : ℕ) → n ≤ n
    itself n = omega arith

    same : (a b : ℕ) → b ≡ a → a ≤ b
    same a b e = omega (arith, e)

    first_below : (start count end : ℕ) → end ≡ start + count → start ≤ end
    first_below start count end is = omega (arith, is)

pub written : WrittenJournals
unfolding journal_of
written plan s lists accepted fits most right =
    let p = plan_of plan in
    let noted = journal_lists p (opened s) lists in
    let parts = right_parts p s lists (threads_stand plan accepted) right in
    let keep : KeepRules noted no_sessions = noted_keep p (opened s) lists no_sessions parts.0 parts.1 in
    let end = (final p s lists).turn in
    let last : end ≡ s.turn + length lists = final_turn p s lists most in
    let is : end ≡ s.turn + length noted = last ∙ ap (λ (n : ℕ). s.turn + n) (sym (noted_many p (opened s) lists)) in
    let back : lists_of (noted_from s.turn noted) end s.turn s.mode ≡ noted = given_back s.turn noted end s.mode is in
    record {
      held = λ before. journal_held p s lists before most;
      journal = journal_of s.turn noted end keep is (subst (λ (n : ℕ). n ≤ last_turn) (sym last) most);
      is = record { text = refl; not_later = itself s.turn; published = all_publish p s.turn noted (noted_publish p (opened s) lists plan.threads_rise) };
      entries = refl;
      end = refl;
      fits = record {
        not_below = first_below s.turn (length lists) end last;
        fits = subst (λ (ls : List (List Entry)). Fits p s ls) (sym back) (fits_same p s lists fits);
      };
      gives = back;
      same = λ name before.
          ap (λ (ls : List (List Entry)). file name p s ls before) back ∙ files_same p s lists name before;
    }
  where
    itself : (n : ℕ) → n ≤ n
    itself n = omega arith

    first_below : (start count end : ℕ) → end ≡ start + count → start ≤ end
    first_below start count end is = omega (arith, is)
