-- The lists of a journal, cut in two at a turn.
use Rattle.std.proofs.Common.{◌≡◌, ◌∙◌, ℕ, zero, suc, ◌+◌, ◌-◌, ◌<◌, ◌≤◌, List, [], ◌∷◌, ◌++◌, Bool, true, false, not, ap, arith, refl, sym}
use Rattle.std.specs.Prelude.{◌&&◌, ◌||◌, nat_le, IsTrue}
use Rattle.trick_base.proofs.Truths.{first_holds}
use Rattle.trick_model.specs.Journal.{Noted, entries_at, lists_from, live_before, with_joins}
use Rattle.trick_model.specs.Plan.{Plan}
use Rattle.trick_model.specs.Run.{goes_on, has_session_entry, is_over, is_shut}
use Rattle.trick_model.specs.State.{World}
use Rattle.trick_model.specs.Turn.{is_frozen}
use Rattle.trick_model.specs.declared.entry.Entry.{Entry}
use Rattle.trick_model_remainder.specs.Remainder.{early_lists, late_lists}

next_turn : (turn a : ℕ) → turn + suc a ≡ (turn + 1) + a
next_turn turn a = omega arith

none_more : (b : ℕ) → 0 + b ≡ b
none_more b = omega arith

one_more : (a b : ℕ) → suc a + b ≡ suc (a + b)
one_more a b = omega arith

no_turn : (turn : ℕ) → turn + 0 ≡ turn
no_turn turn = omega arith

lists_join : (turn a b : ℕ) (entries : List Noted)
    → lists_from turn (a + b) entries ≡ lists_from turn a entries ++ lists_from (turn + a) b entries
lists_join turn zero b entries =
    ap (λ n. lists_from turn n entries) (none_more b) ∙ ap (λ t. lists_from t b entries) (sym (no_turn turn))
lists_join turn (suc a) b entries =
    ap (λ n. lists_from turn n entries) (one_more a b)
    ∙ ap (λ (more : List (List Entry)). entries_at turn entries ∷ more)
    (lists_join (turn + 1) a b entries
    ∙ ap (λ t. lists_from (turn + 1) a entries ++ lists_from t b entries) (sym (next_turn turn a)))

joins_append : (live : List ℕ) (a turn : ℕ) (entries : List Noted) (more : List (List Entry)) → 0 < a
    → with_joins live (lists_from turn a entries ++ more) ≡ with_joins live (lists_from turn a entries) ++ more
joins_append live zero turn entries more some = absurd (none some)
  where
    none : 0 < 0 → ⊥
    none some = omega (arith, some)
joins_append live (suc a) turn entries more some = refl

parts : (start turn end : ℕ) → start < turn → turn ≤ end → end - start ≡ (turn - start) + (end - turn)
parts start turn end one other = omega arith

there : (start turn : ℕ) → start < turn → start + (turn - start) ≡ turn
there start turn one = omega arith

some_turns : (start turn : ℕ) → start < turn → 0 < turn - start
some_turns start turn one = omega arith

-- where a run goes on, those that are there join
pub cut : (entries : List Noted) (start turn end : ℕ) → start < turn → turn ≤ end
    → with_joins (live_before start entries []) (lists_from start (end - start) entries)
    ≡ early_lists entries start turn ++ late_lists entries end turn
cut entries start turn end one other =
    let live = live_before start entries [] in
    ap (λ count. with_joins live (lists_from start count entries)) (parts start turn end one other)
    ∙ ap (with_joins live) (lists_join start (turn - start) (end - turn) entries)
    ∙ ap (λ t. with_joins live (lists_from start (turn - start) entries ++ lists_from t (end - turn) entries)) (there start turn one)
    ∙ joins_append live (turn - start) start entries (lists_from turn (end - turn) entries) (some_turns start turn one)

-- ---- the joins, where a run goes on

-- A run that is not over at once is given the joins in front, and one with no turn left has no lists.
pub joins_come : (p : Plan) (w : World) (live : List ℕ) (lists : List (List Entry)) → IsTrue (goes_on p w lists)
    → (elim (is_frozen w.state.mode && not (has_session_entry lists)) [ true ↦ lists | false ↦ with_joins live lists ]) ≡ with_joins live lists
joins_come p w live [] goes = none (is_frozen w.state.mode && true) []
  where
    none : (b : Bool) (lists : List (List Entry)) → (elim b [ true ↦ lists | false ↦ lists ]) ≡ lists
    none true lists = refl
    none false lists = refl
joins_come p w live (entries ∷ lists) goes =
    not_over (is_shut w.state.mode) (nat_le w.state.limit w.state.tic) (is_frozen w.state.mode && not (has_session_entry (entries ∷ lists)))
    (first_holds (not (is_over w.state (entries ∷ lists))) _ goes)
  where
    not_over : (a b c : Bool) → not (a || (b || c)) ≡ true
        → (elim c [ true ↦ entries ∷ lists | false ↦ with_joins live (entries ∷ lists) ]) ≡ with_joins live (entries ∷ lists)
    not_over a b false h = refl
    not_over true b true h = cc h
    not_over false true true h = cc h
    not_over false false true h = cc h

-- the same where it goes on under the lists that it is given
pub joins_came : (p : Plan) (w : World) (live : List ℕ) (lists : List (List Entry))
    → IsTrue (goes_on p w (elim (is_frozen w.state.mode && not (has_session_entry lists)) [ true ↦ lists | false ↦ with_joins live lists ]))
    → (elim (is_frozen w.state.mode && not (has_session_entry lists)) [ true ↦ lists | false ↦ with_joins live lists ]) ≡ with_joins live lists
joins_came p w live lists = go (is_frozen w.state.mode && not (has_session_entry lists)) refl
  where
    go : (c : Bool) → (is_frozen w.state.mode && not (has_session_entry lists)) ≡ c
        → IsTrue (goes_on p w (elim c [ true ↦ lists | false ↦ with_joins live lists ]))
        → (elim c [ true ↦ lists | false ↦ with_joins live lists ]) ≡ with_joins live lists
    go true is goes =
        sym (ap (λ (c : Bool). let given : List (List Entry) = elim c [ true ↦ lists | false ↦ with_joins live lists ] in given) is)
        ∙ joins_come p w live lists goes
    go false is goes = refl
