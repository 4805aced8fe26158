-- Lists that may come one after another, and one more.
use Rattle.std.proofs.Common.{◌≡◌, ◌∙◌, List, [], ◌∷◌, ◌++◌, Bool, true, ap, refl, subst, sym}
use Rattle.std.proofs.lemmas.Bool.{and_from}
use Rattle.std.proofs.lemmas.List.{map-append}
use Rattle.std.specs.Prelude.{IsTrue, map}
use Rattle.trick_base.proofs.Truths.{first_holds, second_holds}
use Rattle.trick_model.specs.declared.entry.Entry.{Entry}
use Rattle.trick_exec_meaning.specs.Answers.{given}
use Rattle.trick_exec_sources.specs.Turns.{Sessions, after_entries, after_lists, in_next, is_succession, may_all_come}

after_one : (lists : List (List Entry)) (list : List Entry) (s : Sessions)
    → after_lists (lists ++ list ∷ []) s ≡ after_entries list (in_next (after_lists lists s))
after_one [] list s = refl
after_one (first ∷ lists) list s = after_one lists list (after_entries first (in_next s))

one_comes : (lists : List (List Entry)) (list : List Entry) (s : Sessions) → IsTrue (is_succession lists s)
    → IsTrue (may_all_come list (in_next (after_lists lists s))) → IsTrue (is_succession (lists ++ list ∷ []) s)
one_comes [] list s so may = and_from (may_all_come list (in_next s)) true may refl
one_comes (first ∷ lists) list s so may =
    let next = after_entries first (in_next s) in
    let now = may_all_come first (in_next s) in
    and_from now (is_succession (lists ++ list ∷ []) next) (first_holds now (is_succession lists next) so)
    (one_comes lists list next (second_holds now (is_succession lists next) so) may)

given_one : (decides : Bool) (lists : List (List Entry)) (entries : List Entry)
    → map (given decides) (lists ++ entries ∷ []) ≡ map (given decides) lists ++ given decides entries ∷ []
given_one decides lists entries = map-append (given decides) lists (entries ∷ [])

-- the lists that a source gave are a succession, and so they are with one list more
pub succession_more : (decides : Bool) (lists : List (List Entry)) (entries : List Entry) (s now : Sessions)
    → IsTrue (is_succession (map (given decides) lists) s) → now ≡ after_lists (map (given decides) lists) s
    → IsTrue (may_all_come (given decides entries) (in_next now))
    → IsTrue (is_succession (map (given decides) (lists ++ entries ∷ [])) s)
succession_more decides lists entries s now so is may =
    subst (λ (gave : List (List Entry)). IsTrue (is_succession gave s)) (sym (given_one decides lists entries))
    (one_comes (map (given decides) lists) (given decides entries) s so
    (subst (λ (known : Sessions). IsTrue (may_all_come (given decides entries) (in_next known))) is may))

-- the sessions then
pub sessions_more : (decides : Bool) (lists : List (List Entry)) (entries : List Entry) (s now : Sessions)
    → now ≡ after_lists (map (given decides) lists) s
    → after_entries (given decides entries) (in_next now) ≡ after_lists (map (given decides) (lists ++ entries ∷ [])) s
sessions_more decides lists entries s now is =
    ap (λ (known : Sessions). after_entries (given decides entries) (in_next known)) is
    ∙ sym (after_one (map (given decides) lists) (given decides entries) s)
    ∙ ap (λ (gave : List (List Entry)). after_lists gave s) (sym (given_one decides lists entries))
