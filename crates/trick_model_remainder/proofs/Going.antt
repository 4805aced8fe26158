-- A run under a journal, turn after turn.
use Rattle.std.proofs.Common.{◌≡◌, ℕ, zero, suc, ◌+◌, ◌-◌, ◌<◌, ◌≤◌, List, [], ◌∷◌, Bool, true, false, not, ◌&&◌, ◌∙◌, ap, arith, cond, length, nat_lt, refl, sym}
use Rattle.std.proofs.lemmas.Bool.{and_from, not_from_false}
use Rattle.std.proofs.lemmas.Bool.Decides.{nat_tests}
use Rattle.std.specs.List.{list_any}
use Rattle.std.specs.Prelude.{◌||◌, IsTrue, nat_le}
use Rattle.trick_base.proofs.Numbers.{zero_at_most}
use Rattle.trick_base.specs.Time.{tic_limit}
use Rattle.trick_model_remainder.proofs.Rising.{turn_rises, turn_stays}
use Rattle.trick_model_remainder.specs.Lasting.{EveryJournalLasts, LastingFits, StatesHaveOwnJournals}
use Rattle.trick_model.specs.Beside.{is_in_flight}
use Rattle.trick_model.specs.Journal.{is_of_session}
use Rattle.trick_model.specs.Laws.{KeepsValidity, PlansAreSound}
use Rattle.trick_model.specs.Plan.{Plan, threads_beside}
use Rattle.trick_model.specs.PlanOf.{plan_of}
use Rattle.trick_model.specs.Run.{AreSerial, Lasts, after_turns, all_published, goes_on, has_session_entry, is_over, is_shut, on, opened, over, serial_entries}
use Rattle.trick_model.specs.State.{State, World}
use Rattle.trick_model.specs.Turn.{counted, is_frozen, runs, turn}
use Rattle.trick_model.specs.ValidState.{IsSound, IsStateOf}
use Rattle.trick_model.specs.declared.entry.Entry.{Entry}
use Rattle.trick_model.specs.declared.entry.Entry.TheVariants.{Publish}
use Rattle.trick_model.specs.declared.plan.Plan.{Plan as PlanValue}
use Rattle.trick_model.specs.declared.thread.Thread.{Thread}

-- ---- when a run is over

-- with fewer lines left it is over all the more
over_still : (shut out frozen one : Bool) → (shut || (out || (frozen && not one))) ≡ true → (shut || (out || (frozen && true))) ≡ true
over_still true out frozen one e = refl
over_still false true frozen one e = refl
over_still false false true one e = refl
over_still false false false one e = cc e

-- it goes on where a line is left in Freeze if one was
on_still : (shut out frozen one two : Bool) → not (shut || (out || (frozen && not one))) ≡ true → (frozen ≡ true → one ≡ true → two ≡ true)
    → not (shut || (out || (frozen && not two))) ≡ true
on_still true out frozen one two e has = cc e
on_still false true frozen one two e has = cc e
on_still false false true false two e has = cc e
on_still false false true true two e has = ap not (ap not (has refl refl))
on_still false false false one two e has = refl

-- what goes on is not shut, and below its limit
is_on : (shut out frozen one : Bool) → not (shut || (out || (frozen && not one))) ≡ true → (shut ≡ false) × (out ≡ false)
is_on true out frozen one e = cc e
is_on false true frozen one e = cc e
is_on false false frozen one e = (refl, refl)

-- where no line is left, it is not in Freeze
not_frozen : (shut out frozen : Bool) → not (shut || (out || (frozen && true))) ≡ true → frozen ≡ false
not_frozen true out frozen e = cc e
not_frozen false true frozen e = cc e
not_frozen false false true e = cc e
not_frozen false false false e = refl

-- in Freeze with a line left it is not over
never_over : (shut out frozen one : Bool) → shut ≡ false → out ≡ false → one ≡ true → (shut || (out || (frozen && not one))) ≡ true → ⊥
never_over true out frozen one a b c e = cc a
never_over false true frozen one a b c e = cc b
never_over false false frozen false a b c e = cc c
never_over false false true true a b c e = cc e
never_over false false false true a b c e = cc e

-- ---- the lists of a run under a journal

-- where a line is left in Freeze, a turn of the run has one
keeps_line : (p : Plan) (w end : World) (left lists : List (List Entry)) → Lasts p w left lists end → is_shut w.state.mode ≡ false
    → nat_le w.state.limit w.state.tic ≡ false → is_frozen w.state.mode ≡ true → has_session_entry left ≡ true → has_session_entry lists ≡ true
keeps_line p w end left [] (over is) unshut below frozen line =
    absurd (never_over (is_shut w.state.mode) (nat_le w.state.limit w.state.tic) (is_frozen w.state.mode) (has_session_entry left) unshut below line is)
keeps_line p w end [] lists (on {lists = more} is later) unshut below frozen line = cc line
keeps_line p w end (entries ∷ left) lists (on {lists = more} is later) unshut below frozen line =
    by (list_any is_of_session entries) refl (λ same rest.
    keeps_line p (turn p w entries).world end left more later (ap (λ (s : State). is_shut s.mode) same ∙ unshut)
    (ap (λ (s : State). nat_le s.limit s.tic) same ∙ below) (ap (λ (s : State). is_frozen s.mode) same ∙ frozen) rest)
  where
    still : runs w.state ≡ false
    still = ap (λ (b : Bool). cond b false (nat_lt w.state.tic w.state.limit)) frozen

    by : (b : Bool) → list_any is_of_session entries ≡ b
        → ((turn p w entries).world.state ≡ counted w.state → has_session_entry left ≡ true → has_session_entry more ≡ true)
        → has_session_entry (entries ∷ more) ≡ true
    by true e rest = ap (λ (b : Bool). b || has_session_entry more) e
    by false e rest =
        ap (λ (b : Bool). b || has_session_entry more) e
        ∙ rest (turn_stays p w entries e still) (sym (ap (λ (b : Bool). b || has_session_entry left) e) ∙ line)

-- What the turns of a whole run are, from a world on.
record GoesToEnd (p : Plan) (w : World) (lists : List (List Entry)) (end : World) : Type 0 where
  goes : IsTrue (goes_on p w lists)
  over : IsTrue (is_over (after_turns p w lists).state [])
  comes : end ≡ after_turns p w lists

one_more : (p : Plan) (w end : World) (entries : List Entry) (lists : List (List Entry)) → IsTrue (not (is_over w.state (entries ∷ lists)))
    → GoesToEnd p (turn p w entries).world lists end → GoesToEnd p w (entries ∷ lists) end
one_more p w end entries lists goes later = record {
  goes = and_from (not (is_over w.state (entries ∷ lists))) (goes_on p (turn p w entries).world lists) goes later.goes;
  over = later.over;
  comes = later.comes;
}

goes_to_end : (p : Plan) (w end : World) (left lists : List (List Entry)) → Lasts p w left lists end → GoesToEnd p w lists end
goes_to_end p w end left [] (over is) = record {
  goes = refl;
  over = over_still (is_shut w.state.mode) (nat_le w.state.limit w.state.tic) (is_frozen w.state.mode) (has_session_entry left) is;
  comes = refl;
}
goes_to_end p w end [] lists (on {lists = more} is later) =
    let frozen = not_frozen (is_shut w.state.mode) (nat_le w.state.limit w.state.tic) (is_frozen w.state.mode) is in
    one_more p w end [] more
    (on_still (is_shut w.state.mode) (nat_le w.state.limit w.state.tic) (is_frozen w.state.mode) false (has_session_entry ([] ∷ more)) is
    (λ is_so none. cc none))
    (goes_to_end p (turn p w []).world end [] more later)
goes_to_end p w end (entries ∷ left) lists (on {lists = more} is later) =
    let shut = is_shut w.state.mode in
    let out = nat_le w.state.limit w.state.tic in
    let frozen = is_frozen w.state.mode in
    let unshut = is_on shut out frozen (has_session_entry (entries ∷ left)) is in
    one_more p w end entries more
    (on_still shut out frozen (has_session_entry (entries ∷ left)) (has_session_entry (entries ∷ more)) is
    (λ still line. keeps_line p w end (entries ∷ left) (entries ∷ more) (on is later) unshut.0 unshut.1 still line))
    (goes_to_end p (turn p w entries).world end left more later)

pub lasting_fits : LastingFits
lasting_fits p s left lists end lasts =
    let whole = goes_to_end p (opened s) end left lists lasts in
    record { fits = record { goes = whole.goes; over = whole.over }; comes = whole.comes }

-- ---- no list is left

-- below its limit and not in Freeze a world runs
below_by : (tic limit : ℕ) → nat_le limit tic ≡ false → nat_lt tic limit ≡ true
below_by tic limit e = grind (arith, nat_tests)

runs_by : (frozen below : Bool) → frozen ≡ false → below ≡ true → cond frozen false below ≡ true
runs_by true below e f = cc e
runs_by false below e f = f

none_left : (tic limit count : ℕ) → nat_lt tic limit ≡ true → limit ≤ tic_limit + 1 → tic_limit + 1 ≤ tic + zero → ⊥
none_left tic limit count below most all = let less : tic < limit = grind (arith, nat_tests) in omega (arith, less, most, all)

fewer_left : (tic next count : ℕ) → tic < next → tic_limit + 1 ≤ tic + suc count → tic_limit + 1 ≤ next + count
fewer_left tic next count less all = omega (arith, less, all)

more_turns : (n count : ℕ) → n ≤ count → suc n ≤ suc count
more_turns n count most = omega (arith, most)

-- The facts of a plan that its runs rest on.
record IsTimed (p : Plan) : Type 0 where
  sound : IsSound p
  frame : 1 ≤ p.frame
  keeps : KeepsValidity

-- where a run goes on without a line left, the tic rises in its next turn
rises : (p : Plan) (w : World) (entries : List Entry) → IsTimed p → list_any is_of_session entries ≡ false → IsTrue (not (is_over w.state []))
    → w.state.tic < (turn p w entries).world.state.tic
rises p w entries timed none goes =
    let shut = is_shut w.state.mode in
    let out = nat_le w.state.limit w.state.tic in
    let frozen = is_frozen w.state.mode in
    let below = below_by w.state.tic w.state.limit (is_on shut out frozen false goes).1 in
    turn_rises p w entries timed.frame none (runs_by frozen (nat_lt w.state.tic w.state.limit) (not_frozen shut out frozen goes) below) below

-- so there is no such turn where no tic is left
no_turn : (p : Plan) (w : World) → IsStateOf p w.state → tic_limit + 1 ≤ w.state.tic + zero → IsTrue (not (is_over w.state [])) → ⊥
no_turn p w good all goes =
    let below = below_by w.state.tic w.state.limit (is_on (is_shut w.state.mode) (nat_le w.state.limit w.state.tic) (is_frozen w.state.mode) false goes).1 in
    none_left w.state.tic w.state.limit zero below good.limit all

-- ---- a run under each journal

-- A run from a world under lists, with at most so many turns.
record RunsFrom (p : Plan) (w : World) (left : List (List Entry)) (count : ℕ) : Type 0 where
  lists : List (List Entry)
  end : World
  lasts : Lasts p w left lists end
  most : length lists ≤ count

over_now : (p : Plan) (w : World) (left : List (List Entry)) (count : ℕ) → IsTrue (is_over w.state left) → RunsFrom p w left count
over_now p w left count is = record { lists = []; end = w; lasts = over is; most = zero_at_most count }

module _ (p : Plan) (timed : IsTimed p) where
  valid_next : (w : World) (entries : List Entry) → IsStateOf p w.state → IsStateOf p (turn p w entries).world.state
  valid_next w entries good = timed.keeps p timed.sound w entries good

  run_after : (count : ℕ) (w : World) → IsStateOf p w.state → tic_limit + 1 ≤ w.state.tic + count → RunsFrom p w [] count
  run_after zero w good all = by (is_over w.state []) refl
    where
      by : (b : Bool) → is_over w.state [] ≡ b → RunsFrom p w [] zero
      by true e = over_now p w [] zero e
      by false e = absurd (no_turn p w good all (not_from_false (is_over w.state []) e))
  run_after (suc count) w good all =
      by (is_over w.state []) refl
      (λ less. run_after count (turn p w []).world (valid_next w [] good) (fewer_left w.state.tic (turn p w []).world.state.tic count less all))
    where
      by : (b : Bool) → is_over w.state [] ≡ b → (w.state.tic < (turn p w []).world.state.tic → RunsFrom p (turn p w []).world [] count)
          → RunsFrom p w [] (suc count)
      by true e rest = over_now p w [] (suc count) e
      by false e rest =
          let goes = not_from_false (is_over w.state []) e in
          let later = rest (rises p w [] timed refl goes) in
          record {
            lists = [] ∷ later.lists;
            end = later.end;
            lasts = on goes later.lasts;
            most = more_turns (length later.lists) count later.most;
          }

  run_under : (left : List (List Entry)) (w : World) → IsStateOf p w.state → RunsFrom p w left (length left + (tic_limit + 1))
  run_under [] w good =
      let run = run_after (tic_limit + 1) w good (all_tics w.state.tic (tic_limit + 1)) in
      record { lists = run.lists; end = run.end; lasts = run.lasts; most = none_more (length run.lists) (tic_limit + 1) run.most }
    where
      all_tics : (tic count : ℕ) → count ≤ tic + count
      all_tics tic count = omega arith

      none_more : (n count : ℕ) → n ≤ count → n ≤ 0 + count
      none_more n count most = omega (arith, most)
  run_under (entries ∷ left) w good = by (is_over w.state (entries ∷ left)) refl (run_under left (turn p w entries).world (valid_next w entries good))
    where
      one_list : (n many count : ℕ) → n ≤ many + count → suc n ≤ suc many + count
      one_list n many count most = omega (arith, most)

      by : (b : Bool) → is_over w.state (entries ∷ left) ≡ b → RunsFrom p (turn p w entries).world left (length left + (tic_limit + 1))
          → RunsFrom p w (entries ∷ left) (length (entries ∷ left) + (tic_limit + 1))
      by true e later = over_now p w (entries ∷ left) (length (entries ∷ left) + (tic_limit + 1)) e
      by false e later = record {
        lists = entries ∷ later.lists;
        end = later.end;
        lasts = on (not_from_false (is_over w.state (entries ∷ left)) e) later.lasts;
        most = one_list (length later.lists) (length left) (tic_limit + 1) later.most;
      }

timed_of : KeepsValidity → PlansAreSound → (plan : PlanValue) → IsTimed (plan_of plan)
timed_of keeps sound plan = record { sound = sound plan; frame = plan.frame_right.some; keeps = keeps }

pub every_journal_lasts : KeepsValidity → PlansAreSound → EveryJournalLasts
every_journal_lasts keeps sound plan s left good =
    let run = run_under (plan_of plan) (timed_of keeps sound plan) left (opened s) good in
    record { lists = run.lists; end = run.end; lasts = run.lasts; most = run.most }

-- ---- runs without clients

all_publish : (p : Plan) (threads : List Thread) (s : State) → list_any is_of_session (all_published p threads s) ≡ false
all_publish p [] s = refl
all_publish p (thread ∷ threads) s = by (is_in_flight p s thread.number) (all_publish p threads s)
  where
    by : (b : Bool) → list_any is_of_session (all_published p threads s) ≡ false
        → (let entries : List Entry = elim b [
          | true ↦ Publish thread.number ∷ all_published p threads s
          | false ↦ all_published p threads s
        ] in list_any is_of_session entries ≡ false)
    by true rest = rest
    by false rest = rest

serial_quiet : (p : Plan) (s : State) → list_any is_of_session (serial_entries p s) ≡ false
serial_quiet p s = by (runs s)
  where
    by : (b : Bool) → (let entries : List Entry = elim b [ true ↦ all_published p (threads_beside p) s | false ↦ [] ] in list_any is_of_session entries ≡ false)
    by true = all_publish p (threads_beside p) s
    by false = refl

-- A run without clients from a world, with at most so many turns.
record RunsAlone (p : Plan) (w : World) (count : ℕ) : Type 0 where
  lists : List (List Entry)
  whole : GoesToEnd p w lists (after_turns p w lists)
  published : AreSerial p w lists
  most : length lists ≤ count

alone_over : (p : Plan) (w : World) (count : ℕ) → IsTrue (is_over w.state []) → RunsAlone p w count
alone_over p w count is = record {
  lists = [];
  whole = record { goes = refl; over = is; comes = refl };
  published = tt;
  most = zero_at_most count;
}

module _ (p : Plan) (timed : IsTimed p) where
  runs_alone : (count : ℕ) (w : World) → IsStateOf p w.state → tic_limit + 1 ≤ w.state.tic + count → RunsAlone p w count
  runs_alone zero w good all = by (is_over w.state []) refl
    where
      by : (b : Bool) → is_over w.state [] ≡ b → RunsAlone p w zero
      by true e = alone_over p w zero e
      by false e = absurd (no_turn p w good all (not_from_false (is_over w.state []) e))
  runs_alone (suc count) w good all =
      by (is_over w.state []) refl
      (λ less.
      let next = (turn p w (serial_entries p w.state)).world in
      runs_alone count next (valid_next p timed w (serial_entries p w.state) good) (fewer_left w.state.tic next.state.tic count less all))
    where
      by : (b : Bool) → is_over w.state [] ≡ b
          → (w.state.tic < (turn p w (serial_entries p w.state)).world.state.tic → RunsAlone p (turn p w (serial_entries p w.state)).world count)
          → RunsAlone p w (suc count)
      by true e rest = alone_over p w (suc count) e
      by false e rest =
          let entries = serial_entries p w.state in
          let goes = not_from_false (is_over w.state []) e in
          let frozen = not_frozen (is_shut w.state.mode) (nat_le w.state.limit w.state.tic) (is_frozen w.state.mode) goes in
          let later = rest (rises p w entries timed (serial_quiet p w.state) goes) in
          record {
            lists = entries ∷ later.lists;
            whole = one_more p w (after_turns p w (entries ∷ later.lists)) entries later.lists
                (on_still (is_shut w.state.mode) (nat_le w.state.limit w.state.tic) (is_frozen w.state.mode) false (has_session_entry (entries ∷ later.lists)) goes
                (λ still none. cc none))
                later.whole;
            published = (refl, later.published);
            most = more_turns (length later.lists) count later.most;
          }

pub states_have_own_journals : KeepsValidity → PlansAreSound → StatesHaveOwnJournals
states_have_own_journals keeps sound plan s good =
    let run = runs_alone (plan_of plan) (timed_of keeps sound plan) (tic_limit + 1 - s.tic) (opened s) good (all_left s.tic (tic_limit + 1)) in
    record {
      lists = run.lists;
      own = record { fits = record { goes = run.whole.goes; over = run.whole.over }; published = run.published };
      most = run.most;
    }
  where
    all_left : (tic count : ℕ) → count ≤ tic + (count - tic)
    all_left tic count = omega arith
