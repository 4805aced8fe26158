-- As many sessions join in a served run as have seats.
use Rattle.std.proofs.Common.{◌≡◌, ◌∙◌, ℕ, zero, suc, ◌+◌, List, [], ◌∷◌, ap, arith, length, refl, sym}
use Rattle.std.proofs.lemmas.List.Sums.{sum_by-cons}
use Rattle.std.proofs.lemmas.List.{length-append}
use Rattle.std.specs.Prelude.{cond, count_by}
use Rattle.trick_model_sessions.specs.Silence.{newcomers}
use Rattle.trick_model.specs.declared.entry.Entry.{Entry}
use Rattle.trick_model.specs.declared.entry.Entry.TheVariants.{Join, Said, Leave, Publish}
use Rattle.trick_serve_facts.proofs.Joins.{joins_join}
use Rattle.trick_serve_facts.specs.Joins.{numbers_from}
use Rattle.trick_serve_facts.specs.Serves.{all_entries}
use Rattle.trick_exec_sources.specs.Joins.{is_join, joins_of}

count_more : (entry : Entry) (entries : List Entry) → count_by is_join (entry ∷ entries) ≡ cond (is_join entry) 1 0 + count_by is_join entries
count_more entry entries = sum_by-cons (λ (e : Entry). cond (is_join e) 1 0) entry entries

one_more : (m n : ℕ) → m ≡ n → 1 + m ≡ suc n
one_more m n is = omega (arith, is)

no_more : (m n : ℕ) → m ≡ n → 0 + m ≡ n
no_more m n is = omega (arith, is)

count_new : (entries : List Entry) → count_by is_join entries ≡ length (newcomers entries)
count_new [] = refl
count_new (Join session ∷ entries) =
    count_more (Join session) entries ∙ one_more (count_by is_join entries) (length (newcomers entries)) (count_new entries)
count_new (Said session line ∷ entries) =
    count_more (Said session line) entries ∙ no_more (count_by is_join entries) (length (newcomers entries)) (count_new entries)
count_new (Leave session why ∷ entries) =
    count_more (Leave session why) entries ∙ no_more (count_by is_join entries) (length (newcomers entries)) (count_new entries)
count_new (Publish thread ∷ entries) =
    count_more (Publish thread) entries ∙ no_more (count_by is_join entries) (length (newcomers entries)) (count_new entries)

joins_new : (lists : List (List Entry)) → joins_of lists ≡ length (newcomers (all_entries lists))
joins_new [] = refl
joins_new (entries ∷ lists) =
    sum_by-cons (λ (l : List Entry). count_by is_join l) entries lists
    ∙ (λ i. count_new entries i + joins_new lists i)
    ∙ sym (length-append (newcomers entries) (newcomers (all_entries lists)))
    ∙ ap (λ (l : List ℕ). length l) (sym (joins_join entries (all_entries lists)))

numbers_count : (first count : ℕ) → length (numbers_from first count) ≡ count
numbers_count first zero = refl
numbers_count first (suc count) = ap suc (numbers_count (first + 1) count)

pub joins_counted : (lists : List (List Entry)) (count : ℕ) → newcomers (all_entries lists) ≡ numbers_from 1 count → joins_of lists ≡ count
joins_counted lists count are = joins_new lists ∙ ap (λ (l : List ℕ). length l) are ∙ numbers_count 1 count
