-- No session joins in a run without clients.
use Rattle.std.proofs.Common.{◌≡◌, ℕ, Bool, true, false, List, [], ◌∷◌, refl, ◌∙◌, ◌+◌, ap}
use Rattle.std.proofs.lemmas.List.Sums.{sum_by-cons}
use Rattle.std.specs.Prelude.{cond, count_by}
use Rattle.trick_model.specs.Beside.{is_in_flight}
use Rattle.trick_model.specs.Plan.{Plan, threads_beside}
use Rattle.trick_model.specs.Run.{AreSerial, all_published, serial_entries}
use Rattle.trick_model.specs.State.{State, World}
use Rattle.trick_model.specs.Turn.{runs, turn}
use Rattle.trick_model.specs.declared.entry.Entry.TheVariants.{Publish}
use Rattle.trick_model.specs.declared.entry.Entry.{Entry}
use Rattle.trick_model.specs.declared.thread.Thread.{Thread}
use Rattle.trick_exec_sources.specs.Joins.{is_join, joins_of}

-- publications are no joins
published : (p : Plan) (threads : List Thread) (s : State) → count_by is_join (all_published p threads s) ≡ 0
published p [] s = refl
published p (thread ∷ threads) s = go (is_in_flight p s thread.number) (published p threads s)
  where
    go : (b : Bool) → count_by is_join (all_published p threads s) ≡ 0
        → count_by is_join (elim b [ true ↦ Publish thread.number ∷ all_published p threads s | false ↦ all_published p threads s ]) ≡ 0
    go true h = sum_by-cons (λ entry. cond (is_join entry) 1 0) (Publish thread.number) (all_published p threads s) ∙ ap (λ (n : ℕ). 0 + n) h
    go false h = h

in_turn : (p : Plan) (s : State) → count_by is_join (serial_entries p s) ≡ 0
in_turn p s = go (runs s)
  where
    go : (b : Bool) → count_by is_join (elim b [ true ↦ all_published p (threads_beside p) s | false ↦ [] ]) ≡ 0
    go true = published p (threads_beside p) s
    go false = refl

none_more : (entries : List Entry) (lists : List (List Entry)) → count_by is_join entries ≡ 0 → joins_of lists ≡ 0 → joins_of (entries ∷ lists) ≡ 0
none_more entries lists here later =
    sum_by-cons (λ (list : List Entry). count_by is_join list) entries lists ∙ ap (λ (n : ℕ). n + joins_of lists) here ∙ ap (λ (n : ℕ). 0 + n) later

pub none_join : (p : Plan) (w : World) (lists : List (List Entry)) → AreSerial p w lists → joins_of lists ≡ 0
none_join p w [] is = refl
none_join p w (entries ∷ lists) (here, later) =
    none_more entries lists (ap (λ (list : List Entry). count_by is_join list) here ∙ in_turn p w.state) (none_join p (turn p w entries).world lists later)
