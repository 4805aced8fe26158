-- As many sessions join in the journal that is written as in the lists that are given.
use Rattle.std.proofs.Common.{◌≡◌, ◌∙◌, ◌+◌, ℕ, List, [], ◌∷◌, Bool, true, false, cond, ap, arith, refl, sym}
use Rattle.std.proofs.lemmas.List.Sums.{sum_by-cons}
use Rattle.std.specs.Prelude.{◌||◌, count_by, filter}
use Rattle.trick_model.specs.Journal.{is_of_session}
use Rattle.trick_model.specs.Plan.{Plan}
use Rattle.trick_model.specs.State.{State, World}
use Rattle.trick_model.specs.Turn.{begun, heard, noted, publishes, turn}
use Rattle.trick_model.specs.declared.entry.Entry.{Entry}
use Rattle.trick_model.specs.declared.entry.Entry.TheVariants.{Join, Said, Leave, Publish}
use Rattle.trick_exec_alone.specs.Laws.{noted_lists}
use Rattle.trick_exec_sources.specs.Joins.{is_join, joins_of}

count_more : (entry : Entry) (entries : List Entry) → count_by is_join (entry ∷ entries) ≡ cond (is_join entry) 1 0 + count_by is_join entries
count_more entry entries = sum_by-cons (λ (e : Entry). cond (is_join e) 1 0) entry entries

-- an entry that is left out is no join
left_out : (entry : Entry) (entries kept : List Entry) (b : Bool) → (is_join entry ≡ true → b ≡ true)
    → count_by is_join kept ≡ count_by is_join entries
    → count_by is_join (cond b (entry ∷ kept) kept) ≡ count_by is_join (entry ∷ entries)
left_out entry entries kept true joins more =
    count_more entry kept ∙ ap (λ n. cond (is_join entry) 1 0 + n) more ∙ sym (count_more entry entries)
left_out entry entries kept false joins more = more ∙ by (is_join entry) joins (count_more entry entries)
  where
    by : (b : Bool) → (b ≡ true → false ≡ true) → count_by is_join (entry ∷ entries) ≡ cond b 1 0 + count_by is_join entries
        → count_by is_join entries ≡ count_by is_join (entry ∷ entries)
    by true joins all = cc (joins refl)
    by false joins all = omega (arith, all)

joins_kept : (p : Plan) (s : State) (entry : Entry) → is_join entry ≡ true → (is_of_session entry || publishes p s entry) ≡ true
joins_kept p s (Join session) joins = refl
joins_kept p s (Said session line) joins = refl
joins_kept p s (Leave session cause) joins = refl
joins_kept p s (Publish thread) joins = cc joins

joins_noted : (p : Plan) (s : State) (entries : List Entry) → count_by is_join (noted p s entries) ≡ count_by is_join entries
joins_noted p s [] = refl
joins_noted p s (entry ∷ entries) =
    left_out entry entries (noted p s entries) (is_of_session entry || publishes p s entry) (joins_kept p s entry) (joins_noted p s entries)

lists_more : (entries : List Entry) (lists : List (List Entry)) → joins_of (entries ∷ lists) ≡ count_by is_join entries + joins_of lists
lists_more entries lists = sum_by-cons (λ (l : List Entry). count_by is_join l) entries lists

pub joins_written : (p : Plan) (w : World) (lists : List (List Entry)) → joins_of (noted_lists p w lists) ≡ joins_of lists
joins_written p w [] = refl
joins_written p w (entries ∷ lists) =
    let next = (turn p w entries).world in
    let begin = (heard p entries (begun w)).asking.state in
    let here = joins_noted p begin entries in
    let later = joins_written p next lists in
    let one = lists_more (noted p begin entries) (noted_lists p next lists) in
    let other = lists_more entries lists in
    one ∙ ap (λ n. n + joins_of (noted_lists p next lists)) here ∙ ap (λ n. count_by is_join entries + n) later ∙ sym other
