-- Each call of an end keeps the rule of the queue.
use Rattle.std.proofs.Common.{◌≡◌, ◌≢◌, ℕ, zero, suc, true, false, true≢false, List, [], ◌∷◌, ◌++◌, length, set, sym, refl, ap, ◌∙◌, subst, ⊎_elim, append_assoc}
use mathlib.Core.Option.{some, some-ne-none}
use lib.ListN.{get_elem?}
use Rattle.crossbeam_queue.specs.Fifo.{Pushes, Pops, Forks, Merges, Learns}
use Rattle.crossbeam_queue.proofs.Lists.{at_set, at_snoc}
use Rattle.trick_wire.specs.declared.rule.Side.{Side}
use Rattle.trick_wire.specs.Rule.{side, after_put, after_take, Fits, IsRelayed, Knows}

module _ {T : Type 0} where
  -- ---- facts on each end

  abbrev Each : (ℕ → Side T → Type 0) → List (Side T) → Type 0
  Each Fact ends = (port : ℕ) (known : Side T) → get_elem? ends port ≡ some known → Fact port known

  -- what stands in a list with one end more, and not before, stands last
  is_last : (ends : List (Side T)) (more known : Side T) (port : ℕ) → get_elem? ends port ≢ some known → get_elem? (ends ++ more ∷ []) port ≡ some known → port ≡ length ends
  is_last [] more known zero apart at = refl
  is_last [] more known (suc port) apart at = absurd (some-ne-none known (sym at))
  is_last (first ∷ ends) more known zero apart at = absurd (apart at)
  is_last (first ∷ ends) more known (suc port) apart at = ap suc (is_last ends more known port apart at)

  -- one end has changed
  each_set : (Fact : ℕ → Side T → Type 0) (ends : List (Side T)) (port : ℕ) (new : Side T) → Fact port new
      → ((other : ℕ) (known : Side T) → other ≢ port → get_elem? ends other ≡ some known → Fact other known) → Each Fact (set ends port new)
  each_set Fact ends port new mine others other known at = ⊎_elim
      (λ (here : (other ≡ port) × (new ≡ known)). subst (λ (end : ℕ × Side T). Fact end.0 end.1) (λ i. (sym here.0 i, here.1 i)) mine)
      (λ (there : (other ≢ port) × (get_elem? ends other ≡ some known)). others other known there.0 there.1)
      (at_set ends port other new known at)

  -- ---- the first end, which puts and takes

  pub begins : IsRelayed {T = T} [] (side true true [] [] ∷ [])
  begins = let first : Side T = side true true [] [] in (
    0,
    0,
    [],
    [],
    refl,
    each_set (Fits 0 0 [] []) (first ∷ []) 0 first ((λ _. (refl, refl)), λ _. (refl, refl))
        (λ other known apart at. absurd (apart (is_last [] _ known other (λ none. some-ne-none known (sym none)) at))),
  )

  -- ---- one item is put, or taken

  pub keeps_put : (room port : ℕ) (known : Side T) (item : T) → known.puts ≡ true → Pushes IsRelayed room port known item (λ new. new ≡ after_put known item)
  keeps_put room port known item may items ends _ rule at =
      let new : Side T = after_put known item in let mine = rule.5 port known at in let put = rule.2 ++ item ∷ [] in (
        new,
        (
          rule.0,
          rule.1,
          put,
          rule.3,
          ap (λ xs. xs ++ item ∷ []) rule.4 ∙ append_assoc rule.3 items (item ∷ []),
          each_set (Fits rule.0 rule.1 put rule.3) ends port new ((λ _. ((mine.0 may).0, ap (λ xs. xs ++ item ∷ []) (mine.0 may).1)), mine.1)
              (λ other its apart there. ((λ puts. absurd (apart (((rule.5 other its there).0 puts).0 ∙ sym (mine.0 may).0))), (rule.5 other its there).1)),
        ),
        refl,
      )

  pub keeps_take : (port : ℕ) (known : Side T) → known.takes ≡ true → Pops IsRelayed port known (λ item new. new ≡ after_take known item)
  keeps_take port known may item items ends rule at =
      let new : Side T = after_take known item in let mine = rule.5 port known at in let taken = rule.3 ++ item ∷ [] in (
        new,
        (
          rule.0,
          rule.1,
          rule.2,
          taken,
          rule.4 ∙ sym (append_assoc rule.3 (item ∷ []) items),
          each_set (Fits rule.0 rule.1 rule.2 taken) ends port new (mine.0, λ _. ((mine.1 may).0, ap (λ xs. xs ++ item ∷ []) (mine.1 may).1))
              (λ other its apart there. ((rule.5 other its there).0, λ takes. absurd (apart (((rule.5 other its there).1 takes).0 ∙ sym (mine.1 may).0)))),
        ),
        refl,
      )

  -- ---- the first end becomes two, and both become one again

  pub keeps_split : (port : ℕ) (known : Side T) → known.puts ≡ true → known.takes ≡ true → Forks IsRelayed port known (side true false known.put []) (side false true [] known.taken)
  keeps_split port known puts takes items ends rule at =
      let putter : Side T = side true false known.put [] in let taker : Side T = side false true [] known.taken in let mine = rule.5 port known at in let now : List (Side T) = set ends port putter in
      let Old : ℕ → Side T → Type 0 = λ other its. (its.puts ≡ true → (other ≡ rule.0) × (its.put ≡ rule.2)) × (its.takes ≢ true) in
      let old : Each Old now = each_set Old ends port putter ((λ _. mine.0 puts), λ both. true≢false (sym both))
      (λ other its apart there. ((rule.5 other its there).0, λ both. apart (((rule.5 other its there).1 both).0 ∙ sym (mine.1 takes).0))) in (
        rule.0,
        length now,
        rule.2,
        rule.3,
        rule.4,
        λ other its there. ⊎_elim
            (λ (before : get_elem? now other ≡ some its). ((old other its before).0, λ both. absurd ((old other its before).1 both)))
            (λ (is : taker ≡ its). (
              (λ both. absurd (true≢false (sym (ap (λ (end : Side T). end.puts) is ∙ both)))),
              λ both. (is_last now taker its other (λ before. (old other its before).1 both) there, ap (λ (end : Side T). end.taken) (sym is) ∙ (mine.1 takes).1),
            ))
            (at_snoc now taker its other there),
      )

  pub keeps_join : (port : ℕ) (taker : Side T) (gone : ℕ) (putter : Side T) → taker.takes ≡ true → putter.puts ≡ true
      → Merges IsRelayed port taker gone putter (side true true putter.put taker.taken) (side false false [] [])
  keeps_join port taker gone putter takes puts items ends rule at apart there =
      let both : Side T = side true true putter.put taker.taken in let mine = rule.5 port taker at in let now : List (Side T) = set ends port both in
      let was : get_elem? ends gone ≡ some putter = ⊎_elim (λ here. absurd (apart here.0)) (λ same. same.1) (at_set ends port gone both putter there) in
      let theirs = (rule.5 gone putter was).0 puts in
      let Now : ℕ → Side T → Type 0 = λ other its. other ≢ gone → Fits port rule.1 rule.2 rule.3 other its in
      let each : Each Now now = each_set Now ends port both (λ _. ((λ _. (refl, theirs.1)), λ _. mine.1 takes))
      (λ other its _ at_other left. ((λ also. absurd (left (((rule.5 other its at_other).0 also).0 ∙ sym theirs.0))), (rule.5 other its at_other).1)) in (
        port,
        rule.1,
        rule.2,
        rule.3,
        rule.4,
        each_set (Fits port rule.1 rule.2 rule.3) now gone (side false false [] []) ((λ none. absurd (true≢false (sym none))), λ none. absurd (true≢false (sym none)))
            (λ other its left at_other. each other its at_other left),
      )

  -- ---- what an end knows

  pub tells : (port : ℕ) (known : Side T) → Learns IsRelayed port known (Knows known)
  tells port known items ends rule at = let mine = rule.5 port known at in (
    (λ puts. (rule.3, (mine.0 puts).1 ∙ rule.4)),
    λ puts takes. (mine.0 puts).1 ∙ rule.4 ∙ ap (λ xs. xs ++ items) (sym (mine.1 takes).1),
  )
