-- What actions ask for stays, line after line.
use Rattle.std.proofs.Common.{◌≡◌, ◌++◌, ◌⊎◌, ℕ, zero, suc, List, [], ◌∷◌, Result, Ok, Err, take, inl, inr, Some, ◌∙◌, refl, sym, ap, subst}
use Rattle.trick_plan_draft.specs.Drafts.{names_of}
use Rattle.trick_plan_draft.specs.Jobs.{Jobs}
use Rattle.trick_plan_draft.specs.Laws.{KeepsDeeds}
use Rattle.trick_plan_draft.specs.declared.draft.Draft.{Draft}
use Rattle.trick_input.specs.declared.call.Call.{Call}
use Rattle.trick_plan_lines.specs.Deeds.{DeedsStay}
use Rattle.trick_plan_lines.specs.Drafted.{DoesLine, Drafted, Then, answered}
use Rattle.trick_plan_lines.specs.Laws.{AnswersOne}
use Rattle.trick_plan_lines.specs.declared.fault.JoinFault.{JoinFault}
use Rattle.trick_model.specs.Names.{deed_of}
use Rattle.trick_plan_settings.specs.declared.settings.Settings.{Settings}

-- the first items of a list with one more are those of the list, or all
first_or_all : {A : Type 0} (count : ℕ) (xs : List A) (x : A)
    → (take count (xs ++ x ∷ []) ≡ take count xs) ⊎ (take count (xs ++ x ∷ []) ≡ xs ++ x ∷ [])
first_or_all zero [] x = inl refl
first_or_all (suc zero) [] x = inr refl
first_or_all (suc (suc count)) [] x = inr refl
first_or_all zero (y ∷ ys) x = inl refl
first_or_all {A} (suc count) (y ∷ ys) x = by (first_or_all count ys x)
  where
    by : (take count (ys ++ x ∷ []) ≡ take count ys) ⊎ (take count (ys ++ x ∷ []) ≡ ys ++ x ∷ [])
        → (y ∷ take count (ys ++ x ∷ []) ≡ y ∷ take count ys) ⊎ (y ∷ take count (ys ++ x ∷ []) ≡ y ∷ (ys ++ x ∷ []))
    by (inl few) = inl (ap (λ (zs : List A). y ∷ zs) few)
    by (inr all) = inr (ap (λ (zs : List A). y ∷ zs) all)

taken_of_none : {A : Type 0} (count : ℕ) → take {A = A} count [] ≡ []
taken_of_none zero = refl
taken_of_none (suc count) = refl

module _ (jobs : Jobs) (settings : Settings) where
  -- ---- one line more

  then_more : (calls more : List Call) (d e : Draft)
      → ((x : Draft) → Drafted jobs settings calls x (Ok d) → Drafted jobs settings more x (Ok e))
      → (r : Result Draft JoinFault) → Then (λ x. Drafted jobs settings calls x (Ok d)) r (Ok d)
      → Then (λ x. Drafted jobs settings more x (Ok e)) r (Ok e)
  then_more calls more d e go (Ok x) told = go x told
  then_more calls more d e go (Err f) told = absurd (cc told)

  goes_on : (r : Result Draft JoinFault) (e : Draft) → r ≡ Ok e → Then (λ x. Drafted jobs settings [] x (Ok e)) r (Ok e)
  goes_on r e is =
      subst (λ (s : Result Draft JoinFault). Then (λ x. Drafted jobs settings [] x (Ok e)) s (Ok e)) (sym is) refl

  pub one_more : (done : Unit {0}) (others : Jobs) (calls : List Call) (call : Call) (start d e : Draft) → others ≡ jobs
      → Drafted jobs settings calls start (Ok d) → DoesLine (Ok done) others settings call d e
      → Drafted jobs settings (calls ++ call ∷ []) start (Ok e)
  one_more done others [] call start d e is told does =
      let at : d ≡ start = cc told in (
        does.0,
        does.1,
        goes_on (answered jobs settings does.0 call start) e
            (subst (λ (j : Jobs). answered j settings does.0 call start ≡ Ok e) is
            (subst (λ (x : Draft). answered others settings does.0 call x ≡ Ok e) at does.2)),
      )
  one_more done others (first ∷ calls) call start d e is told does = (
    told.0,
    told.1,
    then_more calls (calls ++ call ∷ []) d e (λ x rest. one_more done others calls call x d e is rest does)
        (answered jobs settings told.0 first start) told.2,
  )

  -- ---- all lines

  same_deeds : (d e : Draft) → d ≡ e → KeepsDeeds jobs d e
  same_deeds d e is = λ action deed told. subst (λ (x : Draft). deed_of (names_of jobs x) action ≡ Some deed) is told

  pub stay_at_first : (start d : Draft) → d ≡ start → DeedsStay jobs settings [] start d
  stay_at_first start d is = λ count x told.
      let at : Drafted jobs settings [] start (Ok x) =
      subst (λ (calls : List Call). Drafted jobs settings calls start (Ok x)) (taken_of_none count) told in
      let same : x ≡ start = cc at in
      same_deeds x d (same ∙ sym is)

  pub stay_with : AnswersOne → (calls : List Call) (call : Call) (start d e : Draft)
      → Drafted jobs settings (calls ++ call ∷ []) start (Ok e) → KeepsDeeds jobs d e
      → DeedsStay jobs settings calls start d
      → (count : ℕ) (x : Draft) → Drafted jobs settings (take count (calls ++ call ∷ [])) start (Ok x) → KeepsDeeds jobs x e
  stay_with one calls call start d e all keeps stay count x told = by (first_or_all count calls call)
    where
      by : (take count (calls ++ call ∷ []) ≡ take count calls) ⊎ (take count (calls ++ call ∷ []) ≡ calls ++ call ∷ [])
          → KeepsDeeds jobs x e
      by (inl few) = λ action deed asked.
          keeps action deed
          (stay count x (subst (λ (cs : List Call). Drafted jobs settings cs start (Ok x)) few told) action deed asked)
      by (inr same) =
          let both : Ok x ≡ Ok e =
          one jobs settings (calls ++ call ∷ []) start (Ok x) (Ok e)
          (subst (λ (cs : List Call). Drafted jobs settings cs start (Ok x)) same told) all in
          let is : x ≡ e = cc both in
          same_deeds x e is
