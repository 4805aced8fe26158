-- The count of turns.
use Rattle.std.proofs.Common.{◌≡◌, ◌∙◌, ℕ, zero, suc, ◌+◌, ◌-◌, ◌<◌, ◌≤◌, List, [], ◌∷◌, Bool, true, false, ap, arith, length, refl, subst, sym}
use Rattle.std.specs.Prelude.{min}
use Rattle.trick_lang.specs.declared.class.Class.TheVariants as class
use Rattle.trick_model.specs.Journal.{Noted, lists_from, live_before, with_joins}
use Rattle.trick_model.specs.Plan.{Plan}
use Rattle.trick_model.specs.Run.{after_turns, final, is_shut, opened, shut}
use Rattle.trick_model.specs.Running.{run_class}
use Rattle.trick_model.specs.State.{State, World}
use Rattle.trick_model.specs.Time.{last_turn}
use Rattle.trick_model.specs.Turn.{turn}
use Rattle.trick_model.specs.declared.entry.Entry.{Entry}
use Rattle.trick_model.specs.declared.mode.Mode.TheVariants as mode
use Rattle.trick_model_remainder.specs.Remainder.{early_lists, state_at}
use Rattle.trick_exec_meaning.proofs.Counts.{turn_counts}

one_turn : (turn count : ℕ) → turn + suc count ≤ last_turn → min (turn + 1) last_turn ≡ turn + 1
one_turn turn count most = omega (arith, most)

left : (turn count : ℕ) → turn + suc count ≤ last_turn → (turn + 1) + count ≤ last_turn
left turn count most = omega (arith, most)

all_turns : (turn count : ℕ) → (turn + 1) + count ≡ turn + suc count
all_turns turn count = omega arith

pub next_turn : (p : Plan) (w : World) (entries : List Entry) (lists : List (List Entry)) → w.state.turn + length (entries ∷ lists) ≤ last_turn
    → (turn p w entries).world.state.turn ≡ w.state.turn + 1
next_turn p w entries lists most = turn_counts p w entries ∙ one_turn w.state.turn (length lists) most

pub turns_left : (p : Plan) (w : World) (entries : List Entry) (lists : List (List Entry)) → w.state.turn + length (entries ∷ lists) ≤ last_turn
    → (turn p w entries).world.state.turn + length lists ≤ last_turn
turns_left p w entries lists most =
    subst (λ (n : ℕ). n + length lists ≤ last_turn) (sym (next_turn p w entries lists most)) (left w.state.turn (length lists) most)

pub turns_count : (p : Plan) (w : World) (lists : List (List Entry)) → w.state.turn + length lists ≤ last_turn
    → (after_turns p w lists).state.turn ≡ w.state.turn + length lists
turns_count p w [] most = same w.state.turn
  where
    same : (n : ℕ) → n ≡ n + 0
    same n = omega arith
turns_count p w (entries ∷ lists) most =
    turns_count p (turn p w entries).world lists (turns_left p w entries lists most)
    ∙ ap (λ (n : ℕ). n + length lists) (next_turn p w entries lists most) ∙ all_turns w.state.turn (length lists)

shut_turn : (p : Plan) (s : State) → (shut p s).turn ≡ s.turn
shut_turn p s = by (is_shut s.mode)
  where
    by : (b : Bool) → (let t : State = elim b [ true ↦ s | false ↦ run_class p class.Shutdown (record s { mode = mode.Shutdown }) ] in t.turn ≡ s.turn)
    by true = refl
    by false = refl

pub final_turn : (p : Plan) (s : State) (lists : List (List Entry)) → s.turn + length lists ≤ last_turn
    → (final p s lists).turn ≡ s.turn + length lists
final_turn p s lists most = shut_turn p (after_turns p (opened s) lists).state ∙ turns_count p (opened s) lists most

-- ---- turns whose count may come to its end

one_min : (turn count : ℕ) → min (min (turn + 1) last_turn + count) last_turn ≡ min (turn + suc count) last_turn
one_min turn count = omega arith

still_most : (turn : ℕ) → min (turn + 1) last_turn ≤ last_turn
still_most turn = omega arith

turns_min : (p : Plan) (w : World) (lists : List (List Entry)) → w.state.turn ≤ last_turn
    → (after_turns p w lists).state.turn ≡ min (w.state.turn + length lists) last_turn
turns_min p w [] most = same w.state.turn most
  where
    same : (n : ℕ) → n ≤ last_turn → n ≡ min (n + 0) last_turn
    same n most = omega (arith, most)
turns_min p w (entries ∷ lists) most =
    let counts = turn_counts p w entries in
    turns_min p (turn p w entries).world lists (subst (λ (n : ℕ). n ≤ last_turn) (sym counts) (still_most w.state.turn))
    ∙ ap (λ (n : ℕ). min (n + length lists) last_turn) counts ∙ one_min w.state.turn (length lists)

-- where it has not, all turns were counted
pub turns_below : (p : Plan) (s : State) (lists : List (List Entry)) → s.turn ≤ last_turn → (final p s lists).turn < last_turn
    → s.turn + length lists ≤ last_turn
turns_below p s lists most less =
    below (s.turn + length lists) (final p s lists).turn
    (shut_turn p (after_turns p (opened s) lists).state ∙ turns_min p (opened s) lists most) less
  where
    below : (n m : ℕ) → m ≡ min n last_turn → m < last_turn → n ≤ last_turn
    below n m is less = omega (arith, is, less)

-- ---- the state before a turn

lists_many : (turn count : ℕ) (entries : List Noted) → length (lists_from turn count entries) ≡ count
lists_many turn zero entries = refl
lists_many turn (suc count) entries = ap suc (lists_many (turn + 1) count entries)

joins_many : (live : List ℕ) (lists : List (List Entry)) → length (with_joins live lists) ≡ length lists
joins_many live [] = refl
joins_many live (entries ∷ lists) = refl

pub turn_of_state : (p : Plan) (s : State) (entries : List Noted) (turn : ℕ) → s.turn ≤ turn → turn ≤ last_turn
    → (state_at p s entries turn).turn ≡ turn
turn_of_state p s entries turn first most =
    let many : length (early_lists entries s.turn turn) ≡ turn - s.turn =
    joins_many (live_before s.turn entries []) (lists_from s.turn (turn - s.turn) entries) ∙ lists_many s.turn (turn - s.turn) entries in
    turns_count p (opened s) (early_lists entries s.turn turn)
    (subst (λ (n : ℕ). n ≤ last_turn) (sym (up_to s.turn turn (length (early_lists entries s.turn turn)) first many)) most)
    ∙ up_to s.turn turn (length (early_lists entries s.turn turn)) first many
  where
    up_to : (a b n : ℕ) → a ≤ b → n ≡ b - a → a + n ≡ b
    up_to a b n less is = omega (arith, less, is)
