-- Runs that follow a journal: it fits, or it does not, and which number is told then.
use Rattle.std.proofs.Common.{◌≡◌, ◌∙◌, ℕ, zero, suc, ◌<◌, ◌≤◌, List, [], ◌∷◌, Bool, true, false, not, ap, arith, inl, inr, length, refl, subst, sym, take}
use Rattle.std.proofs.lemmas.List.{take_all}
use Rattle.std.proofs.lemmas.Bool.Decides.{nat_tests}
use Rattle.std.specs.Prelude.{◌≢◌, ◌⊎◌, ◌&&◌, ◌+◌, ◌-◌, max, min, IsTrue, nat_lt}
use Rattle.trick_base.proofs.Truths.{first_holds, second_holds}
use Rattle.trick_model.specs.Journal.{Noted, lists_from, live_before, with_joins}
use Rattle.trick_model.specs.Plan.{Plan}
use Rattle.trick_model.specs.Run.{Fits, JournalFits, after_turns, ended_at, goes_on, has_session_entry, is_over, lists_of, opened}
use Rattle.trick_model.specs.State.{State, World}
use Rattle.trick_model.specs.Time.{last_turn}
use Rattle.trick_model.specs.Turn.{counted, is_frozen, turn}
use Rattle.trick_model.specs.declared.entry.Entry.{Entry}
use Rattle.trick_model.specs.declared.mode.Mode.{Mode}
use Rattle.trick_exec_meaning.proofs.Counts.{turn_counts}
use Rattle.trick_exec_meaning.specs.Follows.{EndsElsewhere, Follows}
use Rattle.trick_exec_meaning.specs.Goes.{left_of}
use Rattle.trick_exec_meaning.specs.Laws.{Misfit, told_by}
use Rattle.trick_exec_sources.specs.Turns.{Told, behind}

-- ---- the lists of a journal

joins_length : (live : List ℕ) (lists : List (List Entry)) → length (with_joins live lists) ≡ length lists
joins_length live [] = refl
joins_length live (entries ∷ lists) = refl

from_length : (turn count : ℕ) (es : List Noted) → length (lists_from turn count es) ≡ count
from_length turn zero es = refl
from_length turn (suc count) es = ap suc (from_length (turn + 1) count es)

-- a journal has a list for each turn from a start up to its end
pub lists_length : (es : List Noted) (end start : ℕ) (begun : Mode) → length (lists_of es end start begun) ≡ end - start
lists_length es end start begun =
    go (is_frozen begun && not (has_session_entry (lists_from start (end - start) es))) ∙ from_length start (end - start) es
  where
    go : (b : Bool) → length {A = List Entry} (elim b [
      | true ↦ lists_from start (end - start) es
      | false ↦ with_joins (live_before start es []) (lists_from start (end - start) es)
    ]) ≡ length (lists_from start (end - start) es)
    go true = refl
    go false = joins_length (live_before start es []) (lists_from start (end - start) es)

-- ---- turns that follow it

-- a turn below the end is counted
next_turn : (p : Plan) (w : World) (entries : List Entry) (end : ℕ) → end ≤ last_turn → w.state.turn < end
    → (turn p w entries).world.state.turn ≡ suc w.state.turn
next_turn p w entries end right below =
    let small : min (w.state.turn + 1) last_turn ≡ suc w.state.turn = omega arith in turn_counts p w entries ∙ small

-- so many turns later, and not after the end
record Later (from now count end : ℕ) : Type 0 where
  counted : now ≡ from + count
  within : (count ≡ 0) ⊎ (now ≤ end)

follows_counts : (p : Plan) (w : World) (told : Told) (lists : List (List Entry)) → told.end ≤ last_turn → Follows p w told lists
    → Later w.state.turn (after_turns p w lists).state.turn (length lists) told.end
follows_counts p w told [] right follows = record { counted = omega arith; within = inl refl }
follows_counts p w told (entries ∷ lists) right follows =
    let next = (turn p w entries).world in
    let one = next_turn p w entries told.end right follows.1 in
    let more = follows_counts p next (behind told) lists right follows.3 in
    let end = (after_turns p next lists).state.turn in
    record {
      counted = by_counts w.state.turn next.state.turn end (length lists) one more.counted;
      within = inr (by_end w.state.turn next.state.turn end (length lists) told.end one follows.1 more.counted more.within);
    }
  where
    by_counts : (turn next end count : ℕ) → next ≡ suc turn → end ≡ next + count → end ≡ turn + suc count
    by_counts turn next end count one more = omega (arith, one, more)

    by_end : (turn next end count last : ℕ) → next ≡ suc turn → turn < last → end ≡ next + count → (count ≡ 0) ⊎ (end ≤ last) → end ≤ last
    by_end turn next end count last one below more (inl none) = omega (arith, one, below, more, none)
    by_end turn next end count last one below more (inr less) = less

-- they were given the first lists of the journal
follows_first : (p : Plan) (w : World) (told : Told) (lists : List (List Entry)) → Follows p w told lists → length lists ≤ length told.lists
    → lists ≡ take (length lists) told.lists
follows_first p w told lists follows short = go p w told.lists told.end lists follows short
  where
    go : (p : Plan) (w : World) (all : List (List Entry)) (end : ℕ) (lists : List (List Entry)) → Follows p w (record { lists = all; end = end }) lists
        → length lists ≤ length all → lists ≡ take (length lists) all
    go p w all end [] follows short = refl
    go p w [] end (entries ∷ lists) follows short = absurd (omega (arith, short))
    go p w (list ∷ all) end (entries ∷ lists) follows short =
        let more = go p (turn p w entries).world all end lists follows.3 (omega (arith, short)) in
        λ i. follows.0 i ∷ more i

left_nothing : (lists all : List (List Entry)) → length all ≤ length lists → left_of lists all ≡ []
left_nothing [] [] short = refl
left_nothing [] (list ∷ all) short = absurd (omega (arith, short))
left_nothing (entries ∷ lists) [] short = left_nothing lists [] (omega arith)
left_nothing (entries ∷ lists) (list ∷ all) short = left_nothing lists all (omega (arith, short))

-- where a run ends is where it ends from a later turn on
ends_later : (p : Plan) (w : World) (all : List (List Entry)) (end : ℕ) (lists : List (List Entry)) → Follows p w (record { lists = all; end = end }) lists
    → length lists ≤ length all → ended_at p w all ≡ ended_at p (after_turns p w lists) (left_of lists all)
ends_later p w all end [] follows short = refl
ends_later p w [] end (entries ∷ lists) follows short = absurd (omega (arith, short))
ends_later p w (list ∷ all) end (entries ∷ lists) follows short =
    let more = ends_later p (turn p w entries).world all end lists follows.3 (omega (arith, short)) in
    goes_by (is_over w.state (list ∷ all)) follows.2 w.state.turn (ended_at p (turn p w list).world all)
    ∙ ap (λ (e : List Entry). ended_at p (turn p w e).world all) (sym follows.0) ∙ more
  where
    goes_by : (b : Bool) → not b ≡ true → (turn later : ℕ) → (let n : ℕ = elim b [ true ↦ turn | false ↦ later ] in n ≡ later)
    goes_by true e turn later = cc e
    goes_by false e turn later = refl

-- where the run is over, there it ends
over_ends : (p : Plan) (w : World) (left : List (List Entry)) → is_over w.state left ≡ true → ended_at p w left ≡ w.state.turn
over_ends p w [] done = ap (λ (b : Bool). let n : ℕ = elim b [ true ↦ w.state.turn | false ↦ w.state.turn + 1 ] in n) done
over_ends p w (entries ∷ left) done =
    ap (λ (b : Bool). let n : ℕ = elim b [ true ↦ w.state.turn | false ↦ ended_at p (turn p w entries).world left ] in n) done

-- where the journal's turns are done and the run is not over, it would end one turn later
yet_ends : (p : Plan) (w : World) (left : List (List Entry)) → left ≡ [] → not (is_over w.state left) ≡ true → ended_at p w left ≡ w.state.turn + 1
yet_ends p w left none yet =
    ap (ended_at p w) none ∙ goes (is_over w.state []) (ap (λ (l : List (List Entry)). not (is_over w.state l)) (sym none) ∙ yet)
  where
    goes : (b : Bool) → not b ≡ true → (let n : ℕ = elim b [ true ↦ w.state.turn | false ↦ w.state.turn + 1 ] in n ≡ w.state.turn + 1)
    goes true e = cc e
    goes false e = refl

-- a run that has a turn left is not over
goes_there : (p : Plan) (w : World) (all : List (List Entry)) (end : ℕ) (lists : List (List Entry)) → IsTrue (goes_on p w all)
    → Follows p w (record { lists = all; end = end }) lists → length lists < length all
    → is_over (after_turns p w lists).state (left_of lists all) ≡ true → ⊥
goes_there p w [] end lists goes follows short done = absurd (omega (arith, short))
goes_there p w (list ∷ all) end [] goes follows short done =
    never (is_over w.state (list ∷ all)) (first_holds (not (is_over w.state (list ∷ all))) _ goes) done
  where
    never : (b : Bool) → not b ≡ true → b ≡ true → ⊥
    never true e d = cc e
    never false e d = cc d
goes_there p w (list ∷ all) end (entries ∷ lists) goes follows short done =
    let rest : goes_on p (turn p w list).world all ≡ true = second_holds (not (is_over w.state (list ∷ all))) _ goes in
    goes_there p (turn p w entries).world all end lists
    (subst (λ (e : List Entry). IsTrue (goes_on p (turn p w e).world all)) (sym follows.0) rest) follows.3 (omega (arith, short)) done

-- ---- whether it fits

module _ (p : Plan) (s : State) (es : List Noted) (end : ℕ) (lists : List (List Entry)) (right : end ≤ last_turn)
    (follows : Follows p (opened s) (told_by es end s) lists) where
  counts : Later s.turn (after_turns p (opened s) lists).state.turn (length lists) end
  counts = follows_counts p (opened s) (told_by es end s) lists right follows

  -- a journal has no less lists than were given
  enough : length lists ≤ length (lists_of es end s.turn s.mode)
  enough = by counts.counted counts.within (lists_length es end s.turn s.mode)
    where
      by : {now all : ℕ} → now ≡ s.turn + length lists → (length lists ≡ 0) ⊎ (now ≤ end) → all ≡ end - s.turn → length lists ≤ all
      by counted (inl none) is = omega (arith, none)
      by counted (inr less) is = omega (arith, counted, less, is)

  -- all lists were given, where the turns came to the end
  all_given : (after_turns p (opened s) lists).state.turn ≡ end → lists ≡ lists_of es end s.turn s.mode
  all_given at_end =
      let some : length (lists_of es end s.turn s.mode) ≤ length lists = omega (arith, counts.counted, at_end, lists_length es end s.turn s.mode) in
      follows_first p (opened s) (told_by es end s) lists follows enough ∙ take_all (length lists) (lists_of es end s.turn s.mode) some

  pub journal_fits : Fits p s lists → (after_turns p (opened s) lists).state.turn ≡ end
      → JournalFits p s es end × (lists ≡ lists_of es end s.turn s.mode)
  journal_fits fits at_end =
      let all = all_given at_end in (
        record { not_below = omega (arith, counts.counted, at_end); fits = subst (Fits p s) all fits },
        all,
      )

  pub journal_misfits : (number : ℕ) → EndsElsewhere (told_by es end s) (after_turns p (opened s) lists).state (left_of lists (lists_of es end s.turn s.mode)) number
      → Misfit p s es end lists number
  journal_misfits number (inl (done, other, is)) =
      let w = opened s in
      let v = after_turns p w lists in
      let all = lists_of es end s.turn s.mode in
      let left = left_of lists all in
      record {
        misfit = λ fit.
            let short : length lists < length all = by_other counts.counted counts.within other fit.not_below (lists_length es end s.turn s.mode) in
            goes_there p w all end lists fit.fits.goes follows short done;
        number = is ∙ by_start (nat_lt end s.turn) refl;
        first = follows_first p w (told_by es end s) lists follows enough ∙ ap (λ n. take n all) (sym (by_number is counts.counted));
      }
    where
      by_other : {now all : ℕ} → now ≡ s.turn + length lists → (length lists ≡ 0) ⊎ (now ≤ end) → now ≢ end → s.turn ≤ end → all ≡ end - s.turn → length lists < all
      by_other counted (inl none) other up is = omega (arith, counted, none, other, up, is)
      by_other counted (inr less) other up is = omega (arith, counted, less, other, up, is)

      by_number : {now : ℕ} → number ≡ now → now ≡ s.turn + length lists → number - s.turn ≡ length lists
      by_number one two = omega (arith, one, two)

      by_start : (b : Bool) → nat_lt end s.turn ≡ b
          → (let n : ℕ = elim b [ true ↦ s.turn | false ↦ ended_at p (opened s) (lists_of es end s.turn s.mode) ] in (after_turns p (opened s) lists).state.turn ≡ n)
      by_start true e = let low : end < s.turn = grind (arith, nat_tests) in omega (arith, low, enough, lists_length es end s.turn s.mode, counts.counted)
      by_start false e =
          sym (ends_later p (opened s) (lists_of es end s.turn s.mode) end lists follows enough
          ∙ over_ends p (after_turns p (opened s) lists) (left_of lists (lists_of es end s.turn s.mode)) done)
  journal_misfits number (inr (yet, up, is)) =
      let w = opened s in
      let v = after_turns p w lists in
      let all = lists_of es end s.turn s.mode in
      record {
        misfit = λ fit.
            let at_end = came_to counts.counted counts.within up fit.not_below in
            over_yet (is_over v.state []) (ap (λ (l : List (List Entry)). not (is_over v.state l)) (sym (none_left at_end)) ∙ yet)
            (ap (λ (l : List (List Entry)). is_over (after_turns p w l).state []) (all_given at_end) ∙ fit.fits.over);
        number = is ∙ by_start (nat_lt end s.turn) refl;
        first = by_first (nat_lt end s.turn) refl;
      }
    where
      came_to : {now : ℕ} → now ≡ s.turn + length lists → (length lists ≡ 0) ⊎ (now ≤ end) → end ≤ now → s.turn ≤ end → now ≡ end
      came_to counted (inl none) up low = omega (arith, counted, none, up, low)
      came_to counted (inr less) up low = omega (arith, less, up)

      over_yet : (b : Bool) → not b ≡ true → b ≡ true → ⊥
      over_yet true e d = cc e
      over_yet false e d = cc d

      none_left : (after_turns p (opened s) lists).state.turn ≡ end → left_of lists (lists_of es end s.turn s.mode) ≡ []
      none_left at_end =
          let some : length (lists_of es end s.turn s.mode) ≤ length lists = omega (arith, counts.counted, at_end, lists_length es end s.turn s.mode) in
          left_nothing lists (lists_of es end s.turn s.mode) some

      behind_end : nat_lt end s.turn ≡ true → (after_turns p (opened s) lists).state.turn ≡ s.turn
      behind_end e = let low : end < s.turn = grind (arith, nat_tests) in omega (arith, low, enough, lists_length es end s.turn s.mode, counts.counted)

      up_to_end : nat_lt end s.turn ≡ false → (after_turns p (opened s) lists).state.turn ≡ end
      up_to_end e = let low : s.turn ≤ end = grind (arith, nat_tests) in came_to counts.counted counts.within up low

      by_start : (b : Bool) → nat_lt end s.turn ≡ b
          → (let n : ℕ = elim b [ true ↦ s.turn | false ↦ ended_at p (opened s) (lists_of es end s.turn s.mode) ] in
          max (end + 1) (after_turns p (opened s) lists).state.turn ≡ n)
      by_start true e = let low : end < s.turn = grind (arith, nat_tests) in omega (arith, low, behind_end e)
      by_start false e =
          let at_end = up_to_end e in
          let one : max (end + 1) (after_turns p (opened s) lists).state.turn ≡ (after_turns p (opened s) lists).state.turn + 1 = omega (arith, at_end) in
          one
          ∙ sym (ends_later p (opened s) (lists_of es end s.turn s.mode) end lists follows enough
          ∙ yet_ends p (after_turns p (opened s) lists) (left_of lists (lists_of es end s.turn s.mode)) (none_left at_end) yet)

      by_first : (b : Bool) → nat_lt end s.turn ≡ b → lists ≡ take (number - s.turn) (lists_of es end s.turn s.mode)
      by_first true e =
          let low : end < s.turn = grind (arith, nat_tests) in
          let count : number - s.turn ≡ length lists = omega (arith, is, behind_end e, low, counts.counted) in
          follows_first p (opened s) (told_by es end s) lists follows enough ∙ ap (λ n. take n (lists_of es end s.turn s.mode)) (sym count)
      by_first false e =
          let at_end = up_to_end e in
          let some : length (lists_of es end s.turn s.mode) ≤ number - s.turn = omega (arith, is, at_end, lists_length es end s.turn s.mode) in
          all_given at_end ∙ sym (take_all (number - s.turn) (lists_of es end s.turn s.mode) some)
