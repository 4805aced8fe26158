-- One entry more, and what a pass knows by its own entries.
use Rattle.std.proofs.Common.{◌≡◌, ◌∙◌, ℕ, ◌==◌, Bool, true, false, cond, filter, Option, None, List, [], ◌∷◌, ◌++◌, refl, sym, ap, arith}
use Rattle.std.proofs.lemmas.Bool.{eqb-true}
use Rattle.std.proofs.lemmas.Bool.Decides.{nat_tests}
use Rattle.trick_post_places.specs.Histories.{Account, IsLegal, May, Ready, Idle, Standing, Waiting, Working, after, after_from, clerk_seat, desk_seat, fresh, has_shut, held_by, picked, put_back, seat_of, stage_of, started_after, started_from, started_in, step, with_standing}
use Rattle.trick_post_places.specs.declared.event.Event.{Event}
use Rattle.trick_post_places.specs.declared.event.Event.TheVariants.{Start, Pick, Back, Finish, Shut}
use Rattle.trick_post_places.specs.declared.stage.Stage.{Stage}
use Rattle.trick_post_places.specs.declared.stage.Stage.TheVariants as stage
use Rattle.trick_model.specs.declared.plan.Plan.{Plan as PlanValue}
use Rattle.trick_post_work.specs.Work.{Started}

-- ---- one entry more

pub after_more : (h : Account) (log : List Event) (e : Event) → after_from h (log ++ e ∷ []) ≡ step (after_from h log) e
after_more h [] e = refl
after_more h (x ∷ xs) e = after_more (step h x) xs e

pub legal_more : (plan : PlanValue) (h : Account) (log : List Event) (e : Event) → IsLegal plan h log → May plan (after_from h log) e
    → IsLegal plan h (log ++ e ∷ [])
legal_more plan h [] e legal may = (may, tt)
legal_more plan h (x ∷ xs) e (first, legal) may = (first, legal_more plan (step h x) xs e legal may)

-- a history that goes on
pub after_join : (h : Account) (log more : List Event) → after_from h (log ++ more) ≡ after_from (after_from h log) more
after_join h [] more = refl
after_join h (x ∷ xs) more = after_join (step h x) xs more

pub legal_rest : (plan : PlanValue) (h : Account) (log more : List Event) → IsLegal plan h (log ++ more) → IsLegal plan (after_from h log) more
legal_rest plan h [] more legal = legal
legal_rest plan h (x ∷ xs) more (may, legal) = legal_rest plan (step h x) xs more legal

-- ---- who works stays at work

idle_works : stage.Idle ≡ stage.Working → ⊥
idle_works e = cc

waiting_works : stage.Waiting ≡ stage.Working → ⊥
waiting_works e = cc

ready_works : stage.Ready ≡ stage.Working → ⊥
ready_works e = cc

-- an entry about a thread at another stage is about another thread
not_here : (h : Account) (n number : ℕ) (s : Started) (x : Stage) → h.standings n ≡ Working s → stage_of (h.standings number) ≡ x
    → (x ≡ stage.Working → ⊥) → (n == number) ≡ true → ⊥
not_here h n number s x is at_ not e =
    not (sym at_ ∙ ap (λ (k : ℕ). stage_of (h.standings k)) (sym (eqb-true n number e)) ∙ ap stage_of is)

elsewhere : (h : Account) (n number : ℕ) (now : Standing) (s : Started) → h.standings n ≡ Working s → ((n == number) ≡ true → ⊥)
    → (with_standing h number now).standings n ≡ Working s
elsewhere h n number now s is not = by_test (n == number) refl
  where
    by_test : (b : Bool) → (n == number) ≡ b → (with_standing h number now).standings n ≡ Working s
    by_test true e = absurd (not e)
    by_test false e = ap (λ (b : Bool). cond b now (h.standings n)) e ∙ is

not_its_seat : (seat n number : ℕ) → seat ≡ clerk_seat number → (seat == clerk_seat n) ≡ false → (n == number) ≡ true → ⊥
not_its_seat seat n number is other e = grind (arith, nat_tests)

stays_one : (plan : PlanValue) (h : Account) (n : ℕ) (s : Started) (e : Event) → May plan h e → h.standings n ≡ Working s
    → (seat_of e == clerk_seat n) ≡ false → (step h e).standings n ≡ Working s
stays_one plan h n s (Start seat number taken work) (desk, open_, idle, can) is other =
    elsewhere h n number (Waiting (record { taken = taken; work = work })) s is (not_here h n number s stage.Idle is idle idle_works)
stays_one plan h n s (Pick seat number) (clerk, waits) is other =
    elsewhere h n number (picked (h.standings number)) s is (not_here h n number s stage.Waiting is waits waiting_works)
stays_one plan h n s (Back seat number) (clerk, works) is other =
    elsewhere h n number (put_back (h.standings number)) s is (not_its_seat seat n number clerk other)
stays_one plan h n s (Finish seat number) (desk, ready) is other =
    elsewhere h n number Idle s is (not_here h n number s stage.Ready is ready ready_works)
stays_one plan h n s (Shut seat) desk is other = is

-- Only the thread's clerk may end its work: a legal history that goes on with no entry of that clerk leaves the thread
-- at the same work.
pub stays_working : (plan : PlanValue) (n : ℕ) (s : Started) (h : Account) (log : List Event) → IsLegal plan h log
    → filter (λ e. seat_of e == clerk_seat n) log ≡ [] → h.standings n ≡ Working s → (after_from h log).standings n ≡ Working s
stays_working plan n s h [] legal none is = is
stays_working plan n s h (e ∷ es) (may, legal) none is =
    by_test (λ gone now. stays_working plan n s (step h e) es legal gone now) (seat_of e == clerk_seat n) refl
  where
    others : List Event
    others = filter (λ x. seat_of x == clerk_seat n) es

    by_test : (others ≡ [] → (step h e).standings n ≡ Working s → (after_from (step h e) es).standings n ≡ Working s)
        → (b : Bool) → (seat_of e == clerk_seat n) ≡ b → (after_from (step h e) es).standings n ≡ Working s
    by_test rest true t = absurd (let two : e ∷ others ≡ [] = sym (ap (λ (b : Bool). cond b (e ∷ others) others) t) ∙ none in cc)
    by_test rest false t = rest (sym (ap (λ (b : Bool). cond b (e ∷ others) others) t) ∙ none) (stays_one plan h n s e may is t)

-- ---- what the desk's own entries say

abbrev pub desks : List Event → List Event
desks log = filter (λ e. seat_of e == desk_seat) log

held_put : (h : Account) (n number : ℕ) (now : Standing) → held_by now ≡ held_by (h.standings number)
    → held_by ((with_standing h number now).standings n) ≡ held_by (h.standings n)
held_put h n number now same_held = by_test (n == number) refl
  where
    by_test : (b : Bool) → (n == number) ≡ b → held_by (cond (n == number) now (h.standings n)) ≡ held_by (h.standings n)
    by_test true e =
        ap (λ (b : Bool). held_by (cond b now (h.standings n))) e ∙ same_held
        ∙ ap (λ (k : ℕ). held_by (h.standings k)) (sym (eqb-true n number e))
    by_test false e = ap (λ (b : Bool). held_by (cond b now (h.standings n))) e

picked_held : (x : Standing) → held_by (picked x) ≡ held_by x
picked_held Idle = refl
picked_held (Waiting s) = refl
picked_held (Working s) = refl
picked_held (Ready s) = refl

put_back_held : (x : Standing) → held_by (put_back x) ≡ held_by x
put_back_held Idle = refl
put_back_held (Waiting s) = refl
put_back_held (Working s) = refl
put_back_held (Ready s) = refl

held_cond : (b : Bool) (x y : Standing) → held_by (cond b x y) ≡ cond b (held_by x) (held_by y)
held_cond true x y = refl
held_cond false x y = refl

held_step : (h : Account) (e : Event) (n : ℕ) → held_by ((step h e).standings n) ≡ started_after n (held_by (h.standings n)) e
held_step h (Start seat number taken work) n = held_cond (n == number) (Waiting (record { taken = taken; work = work })) (h.standings n)
held_step h (Pick seat number) n = held_put h n number (picked (h.standings number)) (picked_held (h.standings number))
held_step h (Back seat number) n = held_put h n number (put_back (h.standings number)) (put_back_held (h.standings number))
held_step h (Finish seat number) n = held_cond (n == number) Idle (h.standings n)
held_step h (Shut seat) n = refl

not_the_desk : (seat : ℕ) → seat ≡ desk_seat → (seat == desk_seat) ≡ false → ⊥
not_the_desk seat is other = grind (arith, nat_tests)

-- a clerk's entry starts and finishes nothing
desk_only : (plan : PlanValue) (h : Account) (e : Event) (n : ℕ) (held : Option Started) → May plan h e → (seat_of e == desk_seat) ≡ false
    → started_after n held e ≡ held
desk_only plan h (Start seat number taken work) n held (desk, open_, idle, can) other = absurd (not_the_desk seat desk other)
desk_only plan h (Pick seat number) n held may other = refl
desk_only plan h (Back seat number) n held may other = refl
desk_only plan h (Finish seat number) n held (desk, ready) other = absurd (not_the_desk seat desk other)
desk_only plan h (Shut seat) n held desk other = refl

pub held_from : (plan : PlanValue) (n : ℕ) (h : Account) (log : List Event) → IsLegal plan h log
    → held_by ((after_from h log).standings n) ≡ started_from n (held_by (h.standings n)) (desks log)
held_from plan n h [] legal = refl
held_from plan n h (e ∷ es) (may, legal) =
    held_from plan n (step h e) es legal ∙ ap (λ (o : Option Started). started_from n o (desks es)) (held_step h e n)
    ∙ by_test (seat_of e == desk_seat) refl
  where
    held : Option Started
    held = held_by (h.standings n)

    by_test : (b : Bool) → (seat_of e == desk_seat) ≡ b
        → started_from n (started_after n held e) (desks es) ≡ started_from n held (desks (e ∷ es))
    by_test true t = sym (ap (λ (b : Bool). started_from n held (cond b (e ∷ desks es) (desks es))) t)
    by_test false t =
        ap (λ (o : Option Started). started_from n o (desks es)) (desk_only plan h e n held may t)
        ∙ sym (ap (λ (b : Bool). started_from n held (cond b (e ∷ desks es) (desks es))) t)

-- what the desk knows at its claim
pub held_own : (plan : PlanValue) (seat n : ℕ) (log own : List Event) → IsLegal plan fresh log → seat ≡ desk_seat
    → filter (λ e. seat_of e == seat) log ≡ own → held_by ((after log).standings n) ≡ started_in own n
held_own plan seat n log own legal one is =
    held_from plan n fresh log legal
    ∙ ap (started_from n None) (sym (ap (λ (m : ℕ). filter (λ e. seat_of e == m) log) one) ∙ is)

pub started_more : (n : ℕ) (held : Option Started) (log : List Event) (e : Event)
    → started_from n held (log ++ e ∷ []) ≡ started_after n (started_from n held log) e
started_more n held [] e = refl
started_more n held (x ∷ xs) e = started_more n (started_after n held x) xs e

-- ---- a shut

shut_stays : (h : Account) (log : List Event) → h.shut ≡ true → (after_from h log).shut ≡ true
shut_stays h [] is = is
shut_stays h (Start seat number taken work ∷ es) is = shut_stays (step h (Start seat number taken work)) es is
shut_stays h (Pick seat number ∷ es) is = shut_stays (step h (Pick seat number)) es is
shut_stays h (Back seat number ∷ es) is = shut_stays (step h (Back seat number)) es is
shut_stays h (Finish seat number ∷ es) is = shut_stays (step h (Finish seat number)) es is
shut_stays h (Shut seat ∷ es) is = shut_stays (step h (Shut seat)) es refl

shut_from : (h : Account) (log : List Event) → h.shut ≡ false → (after_from h log).shut ≡ has_shut log
shut_from h [] is = is
shut_from h (Start seat number taken work ∷ es) is = shut_from (step h (Start seat number taken work)) es is
shut_from h (Pick seat number ∷ es) is = shut_from (step h (Pick seat number)) es is
shut_from h (Back seat number ∷ es) is = shut_from (step h (Back seat number)) es is
shut_from h (Finish seat number ∷ es) is = shut_from (step h (Finish seat number)) es is
shut_from h (Shut seat ∷ es) is = shut_stays (step h (Shut seat)) es refl

-- A post is shut where its history has a shut.
pub shut_is : (log : List Event) → (after log).shut ≡ has_shut log
shut_is log = shut_from fresh log refl

shut_own_from : (plan : PlanValue) (h : Account) (log : List Event) → IsLegal plan h log → has_shut (desks log) ≡ false → has_shut log ≡ false
shut_own_from plan h [] legal none = refl
shut_own_from plan h (Start seat number taken work ∷ es) (may, legal) none =
    shut_own_from plan (step h (Start seat number taken work)) es legal (by_test (seat == desk_seat) none)
  where
    by_test : (b : Bool) → has_shut (cond b (Start seat number taken work ∷ desks es) (desks es)) ≡ false → has_shut (desks es) ≡ false
    by_test true e = e
    by_test false e = e
shut_own_from plan h (Pick seat number ∷ es) (may, legal) none =
    shut_own_from plan (step h (Pick seat number)) es legal (by_test (seat == desk_seat) none)
  where
    by_test : (b : Bool) → has_shut (cond b (Pick seat number ∷ desks es) (desks es)) ≡ false → has_shut (desks es) ≡ false
    by_test true e = e
    by_test false e = e
shut_own_from plan h (Back seat number ∷ es) (may, legal) none =
    shut_own_from plan (step h (Back seat number)) es legal (by_test (seat == desk_seat) none)
  where
    by_test : (b : Bool) → has_shut (cond b (Back seat number ∷ desks es) (desks es)) ≡ false → has_shut (desks es) ≡ false
    by_test true e = e
    by_test false e = e
shut_own_from plan h (Finish seat number ∷ es) (may, legal) none =
    shut_own_from plan (step h (Finish seat number)) es legal (by_test (seat == desk_seat) none)
  where
    by_test : (b : Bool) → has_shut (cond b (Finish seat number ∷ desks es) (desks es)) ≡ false → has_shut (desks es) ≡ false
    by_test true e = e
    by_test false e = e
shut_own_from plan h (Shut seat ∷ es) (desk, legal) none = by_test (seat == desk_seat) refl
  where
    by_test : (b : Bool) → (seat == desk_seat) ≡ b → has_shut (Shut seat ∷ es) ≡ false
    by_test true t = absurd (let e : true ≡ false = sym (ap (λ (b : Bool). has_shut (cond b (Shut seat ∷ desks es) (desks es))) t) ∙ none in cc)
    by_test false t = absurd (not_the_desk seat desk t)

-- a desk that has not shut its post knows it open
pub open_own : (plan : PlanValue) (seat : ℕ) (log own : List Event) → IsLegal plan fresh log → seat ≡ desk_seat
    → filter (λ e. seat_of e == seat) log ≡ own → has_shut own ≡ false → (after log).shut ≡ false
open_own plan seat log own legal one is off =
    shut_is log ∙ shut_own_from plan fresh log legal
    (ap has_shut (sym (ap (λ (m : ℕ). filter (λ e. seat_of e == m) log) one) ∙ is) ∙ off)

-- an entry that is no shut shuts nothing
pub shut_more : (log : List Event) (e : Event) → has_shut (e ∷ []) ≡ false → has_shut (log ++ e ∷ []) ≡ has_shut log
shut_more [] e none = none
shut_more (Start seat number taken work ∷ es) e none = shut_more es e none
shut_more (Pick seat number ∷ es) e none = shut_more es e none
shut_more (Back seat number ∷ es) e none = shut_more es e none
shut_more (Finish seat number ∷ es) e none = shut_more es e none
shut_more (Shut seat ∷ es) e none = refl

-- ---- a standing by its stage

pub idle_of : (x : Standing) → held_by x ≡ None → stage_of x ≡ stage.Idle
idle_of Idle none = refl
idle_of (Waiting s) none = absurd (cc)
idle_of (Working s) none = absurd (cc)
idle_of (Ready s) none = absurd (cc)

pub waiting_of : (x : Standing) → stage_of x ≡ stage.Waiting → (s : Started) × (x ≡ Waiting s)
waiting_of Idle is = absurd (cc)
waiting_of (Waiting s) is = (s, refl)
waiting_of (Working s) is = absurd (cc)
waiting_of (Ready s) is = absurd (cc)

pub ready_of : (x : Standing) → stage_of x ≡ stage.Ready → (s : Started) × (x ≡ Ready s)
ready_of Idle is = absurd (cc)
ready_of (Waiting s) is = absurd (cc)
ready_of (Working s) is = absurd (cc)
ready_of (Ready s) is = (s, refl)
