-- A history with one more entry.
use Rattle.std.proofs.Common.{◌≡◌, ◌∙◌, true, false, Option, Some, List, [], ◌∷◌, ◌++◌, refl, sym, subst, append-nil}
use Rattle.std.proofs.lemmas.Option.{same_Some}
use Rattle.trick_hall_kept.specs.HallView.{HallView}
use Rattle.trick_hall_kept.specs.Histories.{Account, IsLegal, May, after, after_from, fresh, has_shut, step}
use Rattle.trick_hall_kept.specs.Standing.{IsHallAt, Stands, StandsAt}
use Rattle.trick_hall_kept.specs.declared.entry.Entry.{Entry}
use Rattle.trick_hall_kept.specs.declared.entry.Entry.TheVariants.{Open, Take, Commit, Close, Shut}
use Rattle.trick_model.specs.declared.plan.Plan.{Plan as PlanValue}

after_more : (h : Account) (log : List Entry) (e : Entry) → after_from h (log ++ e ∷ []) ≡ step (after_from h log) e
after_more h [] e = refl
after_more h (x ∷ xs) e = after_more (step h x) xs e

legal_more : (plan : PlanValue) (h : Account) (log : List Entry) (e : Entry) → IsLegal plan h log → May plan (after_from h log) e → IsLegal plan h (log ++ e ∷ [])
legal_more plan h [] e legal may = (may, tt)
legal_more plan h (x ∷ xs) e (first, legal) may = (first, legal_more plan (step h x) xs e legal may)

-- The entry may come, and the hall is in the state that it leaves.
pub record Follows (plan : PlanValue) (h : Account) (next : HallView) (e : Entry) : Type 0 where
  pub may : May plan h e
  pub state : IsHallAt plan (step h e) next

pub stands_more : (plan : PlanValue) (hall next : HallView) (log : List Entry) (e : Entry) → StandsAt plan hall log → Follows plan (after log) next e → StandsAt plan next (log ++ e ∷ [])
stands_more plan hall next log e stands follows = record {
  state = subst (λ (h : Account). IsHallAt plan h next) (sym (after_more fresh log e)) follows.state;
  legal = legal_more plan fresh log e stands.legal follows.may;
}

-- no entry more
pub stands_same : (plan : PlanValue) (hall next : HallView) (log : List Entry) → StandsAt plan hall log → next ≡ hall → StandsAt plan next (log ++ [])
stands_same plan hall next log stands is =
    subst (λ (h : HallView). StandsAt plan h (log ++ [])) (sym is) (subst (StandsAt plan hall) (sym (append-nil log)) stands)

-- one plan was picked
pub stands_picked : (picked : Option PlanValue) (plan : PlanValue) (hall : HallView) (log : List Entry) → picked ≡ Some plan → StandsAt plan hall log → Stands picked hall log
stands_picked picked plan hall log is stands other e = subst (λ (p : PlanValue). StandsAt p hall log) (same_Some plan other (sym is ∙ e)) stands

-- ---- shut

stays_shut : (h : Account) (log : List Entry) → h.shut ≡ true → (after_from h log).shut ≡ true
stays_shut h [] is = is
stays_shut h (Open seat memory on tic ∷ es) is = stays_shut (step h (Open seat memory on tic)) es is
stays_shut h (Take seat job ∷ es) is = stays_shut (step h (Take seat job)) es is
stays_shut h (Commit seat job ∷ es) is = stays_shut (step h (Commit seat job)) es is
stays_shut h (Close seat ∷ es) is = stays_shut (step h (Close seat)) es is
stays_shut h (Shut seat ∷ es) is = stays_shut (step h (Shut seat)) es refl

shut_from : (h : Account) (log : List Entry) → h.shut ≡ false → (after_from h log).shut ≡ has_shut log
shut_from h [] is = is
shut_from h (Open seat memory on tic ∷ es) is = shut_from (step h (Open seat memory on tic)) es is
shut_from h (Take seat job ∷ es) is = shut_from (step h (Take seat job)) es is
shut_from h (Commit seat job ∷ es) is = shut_from (step h (Commit seat job)) es is
shut_from h (Close seat ∷ es) is = shut_from (step h (Close seat)) es is
shut_from h (Shut seat ∷ es) is = stays_shut (step h (Shut seat)) es refl

-- a history leaves the hall shut exactly where it holds a Shut
pub shut_is : (log : List Entry) → (after log).shut ≡ has_shut log
shut_is log = shut_from fresh log refl
