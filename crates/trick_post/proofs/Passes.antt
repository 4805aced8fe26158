-- What a turn adds to what a pass knows.
use Rattle.std.proofs.Common.{◌≡◌, ◌∙◌, ℕ, zero, suc, ◌<◌, ◌==◌, Bool, true, false, cond, List, [], ◌∷◌, ◌++◌, Option, Some, None, refl, sym, ap, subst, arith, append-nil}
use Rattle.std.proofs.lemmas.Bool.Decides.{nat_tests}
use Rattle.std.specs.List.{slice_index_or}
use Rattle.std.proofs.lemmas.List.{get_or-set_other, get_or-set_same, length-set}
use Rattle.std.specs.Option.{IfSome, option_map}
use Rattle.std.specs.Prelude.{IsSome, length, slice_set}
use mathlib.Core.List.{IsPrefix}
use Rattle.trick_post_places.proofs.Entries.{after_join, after_more, held_own, idle_of, legal_rest, open_own, ready_of, shut_is, shut_more, stays_working, waiting_of}
use Rattle.trick_post_places.proofs.PostLemmas.{has_place, shut_at, returned_holds, returned_own, some_place, stands_at, stands_more, stands_same, swapped_at}
use Rattle.trick_post_places.specs.Answers.{AsksAt, HasAddedTo, HasNothing, HasSeen, HasTakenBack, IsAtWork, PicksAt, posted_of, was_got}
use Rattle.trick_post_places.specs.Histories.{Account, Idle, IsLegal, Ready, Standing, Waiting, Working, after, clerk_seat, desk_seat, fresh, has_shut, held_by, picked, put_back, started_in, seat_of, stage_of, step, with_standing}
use Rattle.trick_post_places.specs.Places.{Holds, IsPostAt, IsSwapped, PostView, Stands, StandsAt, is_ready, pick_of}
use Rattle.trick_post_places.specs.declared.event.Event.{Event}
use Rattle.trick_post_places.specs.declared.event.Event.TheVariants.{Back, Finish, Pick, Shut, Start}
use Rattle.trick_post_places.specs.declared.picked.Picked.{Picked}
use Rattle.trick_post_places.specs.declared.picked.Picked.TheVariants as answer
use Rattle.trick_post_places.specs.declared.places.Place.{Place}
use Rattle.trick_post_places.specs.declared.stage.Stage.{Stage}
use Rattle.trick_post_places.specs.declared.stage.Stage.TheVariants as stage
use Rattle.trick_model.specs.declared.plan.Plan.{Plan as PlanValue}
use Rattle.trick_model.specs.PlanOf.{plan_of}
use Rattle.trick_model.specs.declared.taken.Taken.{Taken}
use Rattle.trick_post_work.specs.Work.{CanStart, Started}
use Rattle.trick_post_work.specs.declared.posts.Job1.{Job1}
use Rattle.trick_post_work.specs.declared.posts.Posted.{Posted}
use Rattle.trick_post_trays.specs.Outputs.{AreParcelsOf, IsOutcome, IsParcelOf}
use Rattle.trick_post_trays.specs.Trays.{held_in}
use Rattle.trick_post_trays.specs.declared.tray.Tray.{Tray}
use Rattle.trick_post_trays.specs.declared.outputs.Parcel.{Parcel}
use Rattle.trick_turn.specs.Passes.{Releases, Waits, number_of, own, seen}
use Rattle.trick_turn.specs.TurnRule.{entries_of}
use Rattle.trick_turn.specs.Views.{entries_told}
use Rattle.trick_turn.specs.declared.pass.Pass.{Pass}
use Rattle.trick_turn.specs.declared.view.View.{View}

module _ {B : Type 0} (st : B → List Event → Type 0) where
  pub added : (p t q : Pass B Event) (value : B) (e : Event) → Waits st seat_of p t value → Releases (Some e) t q → HasAddedTo (seen t) p q e
  added p t q value e waits released = record {
    history = waits.history;
    at_end = ap (λ (v : View Event). v.seen) released.view;
    once = ap (λ (v : View Event). v.own) released.view ∙ ap (λ (l : List Event). l ++ e ∷ []) waits.added;
  }

  -- a turn that told nothing has seen this
  pub seen_same : (p t q : Pass B Event) (value : B) → Waits st seat_of p t value → Releases None t q → seen q ≡ seen t
  seen_same p t q value waits released = ap (λ (v : View Event). v.seen) released.view ∙ append-nil (seen t)

  pub saw : (p t q : Pass B Event) (value : B) → Waits st seat_of p t value → Releases None t q → HasSeen p q
  saw p t q value waits released = record {
    history = subst (IsPrefix (seen p)) (sym (seen_same p t q value waits released)) waits.history;
    none = ap (λ (v : View Event). v.own) released.view ∙ append-nil (own t) ∙ waits.added;
  }

  pub same_number : (p t q : Pass B Event) (value : B) (e : Option Event) → Waits st seat_of p t value → Releases e t q → number_of q ≡ number_of p
  same_number p t q value e waits released = ap (λ (v : View Event). v.number) released.view ∙ waits.number

  entries_more : (seat : ℕ) (log : List Event) (e : Event) → (seat_of e == seat) ≡ true → entries_of seat_of seat (log ++ e ∷ []) ≡ entries_of seat_of seat log ++ e ∷ []
  entries_more seat [] e is = ap (λ (b : Bool). cond b (e ∷ []) []) is
  entries_more seat (x ∷ xs) e is =
      ap (λ (l : List Event). cond (seat_of x == seat) (x ∷ l) l) (entries_more seat xs e is) ∙ by_test (seat_of x == seat) (entries_of seat_of seat xs)
    where
      by_test : (b : Bool) (l : List Event) → cond b (x ∷ (l ++ e ∷ [])) (l ++ e ∷ []) ≡ cond b (x ∷ l) l ++ e ∷ []
      by_test true l = refl
      by_test false l = refl

  same_as : (n m : ℕ) → n ≡ m → (n == m) ≡ true
  same_as n m e = grind (arith, nat_tests)

  -- after its own entry a pass has all entries of its seat
  pub has_entries : (p t q : Pass B Event) (value : B) (e : Event) → Waits st seat_of p t value → Releases (Some e) t q → seat_of e ≡ number_of t
      → entries_of seat_of (number_of q) (seen q) ≡ own q
  has_entries p t q value e waits released is =
      ap (λ (m : ℕ). entries_of seat_of m (seen q)) (ap (λ (v : View Event). v.number) released.view)
      ∙ ap (λ (l : List Event). entries_of seat_of (number_of t) l) (ap (λ (v : View Event). v.seen) released.view)
      ∙ entries_more (number_of t) (seen t) e (same_as (seat_of e) (number_of t) is)
      ∙ ap (λ (l : List Event). l ++ e ∷ [])
      (ap (λ (m : ℕ). entries_of seat_of m (seen t)) waits.number ∙ waits.entries ∙ sym waits.added)
      ∙ sym (ap (λ (v : View Event). v.own) released.view)

-- ---- what the desk knows

some_of : {A : Type 0} (o : Option A) → IsSome o → (x : A) × (o ≡ Some x)
some_of (Some x) h = (x, refl)
some_of None h = absurd (cc)

-- what the desk started and did not finish stands in the account
pub own_held : (plan : PlanValue) (post : PostView) (log mine : List Event) (seat n : ℕ) → StandsAt plan post log → seat ≡ desk_seat
    → entries_of seat_of seat log ≡ mine → held_by ((after log).standings n) ≡ started_in mine n
own_held plan post log mine seat n s one is = held_own plan seat n log mine s.legal one is

pub started_small : (plan : PlanValue) (post : PostView) (log mine : List Event) (seat n : ℕ) → StandsAt plan post log → seat ≡ desk_seat
    → entries_of seat_of seat log ≡ mine → IsSome (started_in mine n) → n < 16
started_small plan post log mine seat n s one is started =
    has_place plan (after log) post n ((after log).standings n) s.state refl (λ idle.
    let x = some_of (started_in mine n) started in
    let e : None ≡ Some x.0 = sym (ap held_by idle) ∙ own_held plan post log mine seat n s one is ∙ x.1 in cc)

pub thread_there : (plan : PlanValue) (post : PostView) (log mine : List Event) (seat n : ℕ) → StandsAt plan post log → seat ≡ desk_seat
    → entries_of seat_of seat log ≡ mine → IsSome (started_in mine n) → n < length post.places
thread_there plan post log mine seat n s one is started =
    let small : n < 16 = started_small plan post log mine seat n s one is started in
    let many : length post.places ≡ 16 = s.state.many in
    omega (arith, small, many)

ready_stage : (x : Stage) → is_ready x ≡ true → x ≡ stage.Ready
ready_stage stage.Idle is = absurd (cc)
ready_stage stage.Waiting is = absurd (cc)
ready_stage stage.Working is = absurd (cc)
ready_stage stage.Ready is = refl

not_ready_stage : (x : Stage) → is_ready x ≡ false → x ≡ stage.Ready → ⊥
not_ready_stage x off is = let e : true ≡ false = sym (ap is_ready is) ∙ off in cc

-- whether a thread is ready, by the account
pub ready_at : (plan : PlanValue) (post : PostView) (log : List Event) (n : ℕ) (done : Bool) → n < 16 → StandsAt plan post log
    → ((d : Place) → done ≡ is_ready (slice_index_or post.places n d).stage) → done ≡ is_ready (stage_of ((after log).standings n))
ready_at plan post log n done less s is =
    let d = some_place post.places s.state.many in
    is d ∙ ap is_ready (s.state.places n d less).stage_is

-- ---- the desk takes back

pub finish_stands : (chosen : Option PlanValue) (plan : PlanValue) (post new : PostView) (log : List Event) (seat n : ℕ) (done : Bool)
    (given back : Parcel) → chosen ≡ Some plan → n < 16 → Stands chosen post log → seat ≡ desk_seat → IsParcelOf plan n given
    → ((d : Place) → done ≡ is_ready (slice_index_or post.places n d).stage)
    → (done ≡ true → IsSwapped post new n stage.Idle given back) → (done ≡ false → new ≡ post)
    → Stands chosen new (log ++ entries_told (cond done (Some (Finish seat n)) None))
finish_stands chosen plan post new log seat n done given back is less s seat_is fits account took other = by_test done refl
  where
    at_ : StandsAt plan post log
    at_ = s plan is

    by_test : (b : Bool) → done ≡ b → Stands chosen new (log ++ entries_told (cond done (Some (Finish seat n)) None))
    by_test true t =
        let e = ready_stage (stage_of ((after log).standings n)) (sym (ready_at plan post log n done less at_ account) ∙ t) in
        subst (λ (b : Bool). Stands chosen new (log ++ entries_told (cond b (Some (Finish seat n)) None))) (sym t)
        (stands_at chosen plan new (log ++ Finish seat n ∷ []) is (stands_more plan new log (Finish seat n) at_.legal (seat_is, e)
        (swapped_at plan (after log) post new n Idle given back less at_.state (took t) fits tt)))
    by_test false t =
        subst (λ (b : Bool). Stands chosen new (log ++ entries_told (cond b (Some (Finish seat n)) None))) (sym t)
        (stands_same chosen post new log s (other t))

-- the desk's parcels, of which one is another
pub parcels_set : (plan : PlanValue) (parcels : List Parcel) (n : ℕ) (parcel : Parcel) → AreParcelsOf plan parcels → IsParcelOf plan n parcel
    → AreParcelsOf plan (slice_set parcels n parcel)
parcels_set plan parcels n parcel are fits = record {
  many = length-set parcels n parcel ∙ are.many;
  each = λ k d less. by_test k d less (k == n) refl;
}
  where
    same_of : (k m : ℕ) → (k == m) ≡ true → k ≡ m
    same_of k m t = grind (arith, nat_tests)

    other_of : (k m : ℕ) → (k == m) ≡ false → k ≡ m → ⊥
    other_of k m t e = grind (arith, nat_tests)

    by_test : (k : ℕ) (d : Parcel) → k < 16 → (b : Bool) → (k == n) ≡ b → IsParcelOf plan k (slice_index_or (slice_set parcels n parcel) k d)
    by_test k d less true t =
        subst (λ (m : ℕ). IsParcelOf plan m (slice_index_or (slice_set parcels n parcel) m d)) (sym (same_of k n t))
        (subst (IsParcelOf plan n) (sym (get_or-set_same parcels n parcel d (let e : k ≡ n = same_of k n t in omega (arith, are.many)))) fits)
    by_test k d less false t =
        subst (IsParcelOf plan k) (sym (get_or-set_other parcels n k parcel d (other_of k n t))) (are.each k d less)

-- what came back fits
pub finish_fits : (plan : PlanValue) (post new : PostView) (log : List Event) (n : ℕ) (done : Bool) (given back : Parcel) → n < 16
    → StandsAt plan post log → IsParcelOf plan n given → (done ≡ true → IsSwapped post new n stage.Idle given back) → (done ≡ false → back ≡ given)
    → IsParcelOf plan n back
finish_fits plan post new log n done given back less s fits took other = by_test done refl
  where
    by_test : (b : Bool) → done ≡ b → IsParcelOf plan n back
    by_test true t = returned_own plan (after log) post new n stage.Idle given back less s.state (took t)
    by_test false t = subst (IsParcelOf plan n) (sym (other t)) fits

pub finish_holds : (plan : PlanValue) (post new : PostView) (log mine : List Event) (seat n : ℕ) (given back : Parcel) → n < 16
    → StandsAt plan post log → seat ≡ desk_seat → entries_of seat_of seat log ≡ mine → IsSwapped post new n stage.Idle given back
    → true ≡ is_ready (stage_of ((after log).standings n)) → (s : Started) × (started_in mine n ≡ Some s) × Holds plan n (Ready s) back
finish_holds plan post new log mine seat n given back less s one is took ready =
    let r = ready_of ((after log).standings n) (ready_stage (stage_of ((after log).standings n)) (sym ready)) in (
      r.0,
      sym (own_held plan post log mine seat n s one is) ∙ ap held_by r.1,
      returned_holds plan (after log) post new n stage.Idle given back (Ready r.0) less s.state took r.1,
    )

module _ {B : Type 0} (st : B → List Event → Type 0) where
  pub asks : (p t q : Pass B Event) (value : B) (n : ℕ) (done : Bool) (result : Posted) → Waits st seat_of p t value → Releases None t q
      → done ≡ is_ready (stage_of ((after (seen t)).standings n)) → result ≡ posted_of done → AsksAt n p q result
  asks p t q value n done result waits released ready is = subst (AsksAt n p q) (sym is) (by_test done ready)
    where
      same : stage_of ((after (seen q)).standings n) ≡ stage_of ((after (seen t)).standings n)
      same = ap (λ (l : List Event). stage_of ((after l).standings n)) (seen_same st p t q value waits released)

      by_test : (b : Bool) → b ≡ is_ready (stage_of ((after (seen t)).standings n)) → AsksAt n p q (posted_of b)
      by_test true e = (saw st p t q value waits released, same ∙ ready_stage (stage_of ((after (seen t)).standings n)) (sym e))
      by_test false e =
          (saw st p t q value waits released, λ r. not_ready_stage (stage_of ((after (seen t)).standings n)) (sym e) (sym same ∙ r))

  pub takes_back : (plan : PlanValue) (p t q : Pass B Event) (value : B) (n : ℕ) (parcels : List Parcel) (s : Started)
      → n < 16 → Waits st seat_of p t value → Releases (Some (Finish (number_of t) n)) t q → number_of p ≡ desk_seat → started_in (own p) n ≡ Some s
      → ((d : Parcel) → Holds plan n (Ready s) (slice_index_or parcels n d)) → HasTakenBack plan n p q parcels
  takes_back plan p t q value n parcels s less waits released one is holds = record {
    started = s;
    small = less;
    is_own = is;
    told = (seen t, subst (λ (m : ℕ). HasAddedTo (seen t) p q (Finish m n)) (waits.number ∙ one) (added st p t q value (Finish (number_of t) n) waits released));
    holds = holds;
  }

  pub has_nothing : (p t q : Pass B Event) (value : B) (n : ℕ) (were are : List Parcel) → Waits st seat_of p t value → Releases None t q
      → false ≡ is_ready (stage_of ((after (seen t)).standings n)) → are ≡ were → HasNothing n p q were are
  has_nothing p t q value n were are waits released off same = record {
    looked = saw st p t q value waits released;
    not_ready = λ e. not_ready_stage (stage_of ((after (seen t)).standings n)) (sym off)
        (sym (ap (λ (l : List Event). stage_of ((after l).standings n)) (seen_same st p t q value waits released)) ∙ e);
    parcels = same;
  }

-- ---- a pick

got_of : (shut : Bool) (x : Stage) → answer.Got ≡ pick_of shut x → (shut ≡ false) × (x ≡ stage.Waiting)
got_of true x is = absurd (cc)
got_of false stage.Idle is = absurd (cc)
got_of false stage.Waiting is = (refl, refl)
got_of false stage.Working is = absurd (cc)
got_of false stage.Ready is = absurd (cc)

nothing_of : (shut : Bool) (x : Stage) → answer.Nothing ≡ pick_of shut x → (shut ≡ false) × (x ≡ stage.Waiting → ⊥)
nothing_of true x is = absurd (cc)
nothing_of false stage.Idle is = (refl, λ e. absurd (cc))
nothing_of false stage.Waiting is = absurd (cc)
nothing_of false stage.Working is = (refl, λ e. absurd (cc))
nothing_of false stage.Ready is = (refl, λ e. absurd (cc))

shut_of : (shut : Bool) (x : Stage) → answer.Shut ≡ pick_of shut x → shut ≡ true
shut_of true x is = refl
shut_of false stage.Idle is = absurd (cc)
shut_of false stage.Waiting is = absurd (cc)
shut_of false stage.Working is = absurd (cc)
shut_of false stage.Ready is = absurd (cc)

not_got : (result : Picked) → was_got result ≡ false → result ≡ answer.Got → ⊥
not_got answer.Got off is = absurd (cc)
not_got answer.Nothing off is = absurd (cc)
not_got answer.Shut off is = absurd (cc)

is_got : (result : Picked) → was_got result ≡ true → result ≡ answer.Got
is_got answer.Got is = refl
is_got answer.Nothing is = absurd (cc)
is_got answer.Shut is = absurd (cc)

-- what the account says of a pick
pub pick_at : (plan : PlanValue) (post : PostView) (log : List Event) (n : ℕ) (result : Picked) → n < 16 → StandsAt plan post log
    → ((d : Place) → result ≡ pick_of post.shut (slice_index_or post.places n d).stage)
    → result ≡ pick_of (after log).shut (stage_of ((after log).standings n))
pick_at plan post log n result less s is =
    let d = some_place post.places s.state.many in
    is d ∙ ap (pick_of post.shut) (s.state.places n d less).stage_is
    ∙ ap (λ (b : Bool). pick_of b (stage_of ((after log).standings n))) s.state.shut_is

module _ {B : Type 0} (st : B → List Event → Type 0) where
  pub picks : (p t q : Pass B Event) (value : B) (n : ℕ) (result : Picked) (done : Bool) → Waits st seat_of p t value
      → Releases (cond done (Some (Pick (number_of t) n)) None) t q → done ≡ was_got result
      → result ≡ pick_of (after (seen t)).shut (stage_of ((after (seen t)).standings n)) → PicksAt n p q result
  picks p t q value n answer.Got done waits released is account =
      let told = subst (λ (b : Bool). Releases (cond b (Some (Pick (number_of t) n)) None) t q) is released in
      let e = got_of (after (seen t)).shut (stage_of ((after (seen t)).standings n)) account in
      let at_ = added st p t q value (Pick (number_of t) n) waits told in
      (seen t, subst (λ (m : ℕ). HasAddedTo (seen t) p q (Pick m n)) waits.number at_, sym (shut_is (seen t)) ∙ e.0, e.1)
  picks p t q value n answer.Nothing done waits released is account =
      let told = subst (λ (b : Bool). Releases (cond b (Some (Pick (number_of t) n)) None) t q) is released in
      let e = nothing_of (after (seen t)).shut (stage_of ((after (seen t)).standings n)) account in
      let same = seen_same st p t q value waits told in (
        saw st p t q value waits told,
        ap has_shut same ∙ sym (shut_is (seen t)) ∙ e.0,
        λ w. e.1 (sym (ap (λ (l : List Event). stage_of ((after l).standings n)) same) ∙ w),
      )
  picks p t q value n answer.Shut done waits released is account =
      let told = subst (λ (b : Bool). Releases (cond b (Some (Pick (number_of t) n)) None) t q) is released in
      let e = shut_of (after (seen t)).shut (stage_of ((after (seen t)).standings n)) account in
      let same = seen_same st p t q value waits told in
      (saw st p t q value waits told, ap has_shut same ∙ sym (shut_is (seen t)) ∙ e)

-- the post after a pick
pub pick_stands : (chosen : Option PlanValue) (plan : PlanValue) (post new : PostView) (log : List Event) (seat n : ℕ) (result : Picked) (done : Bool)
    (given back : Parcel) → chosen ≡ Some plan → n < 16 → Stands chosen post log → seat ≡ clerk_seat n → IsParcelOf plan n given
    → done ≡ was_got result → ((d : Place) → result ≡ pick_of post.shut (slice_index_or post.places n d).stage)
    → (result ≡ answer.Got → IsSwapped post new n stage.Working given back) → ((result ≡ answer.Got → ⊥) → new ≡ post)
    → Stands chosen new (log ++ entries_told (cond done (Some (Pick seat n)) None))
pick_stands chosen plan post new log seat n result done given back is less s seat_is own done_is account got other = by_test done refl
  where
    at_ : StandsAt plan post log
    at_ = s plan is

    by_test : (b : Bool) → done ≡ b → Stands chosen new (log ++ entries_told (cond done (Some (Pick seat n)) None))
    by_test true t =
        let r : result ≡ answer.Got = is_got result (sym done_is ∙ t) in
        let e = got_of (after log).shut (stage_of ((after log).standings n)) (sym r ∙ pick_at plan post log n result less at_ account) in
        let w = waiting_of ((after log).standings n) e.1 in
        subst (λ (b : Bool). Stands chosen new (log ++ entries_told (cond b (Some (Pick seat n)) None))) (sym t)
        (stands_at chosen plan new (log ++ Pick seat n ∷ []) is (stands_more plan new log (Pick seat n) at_.legal (seat_is, e.1)
        (subst (λ (x : Standing). IsPostAt plan (with_standing (after log) n x) new) (sym (ap picked w.1))
        (swapped_at plan (after log) post new n (Working w.0) given back less at_.state (got r) own tt))))
    by_test false t =
        subst (λ (b : Bool). Stands chosen new (log ++ entries_told (cond b (Some (Pick seat n)) None))) (sym t)
        (stands_same chosen post new log s (other (not_got result (sym done_is ∙ t))))

-- what the clerk has after it
pub at_work : {B : Type 0} (st : B → List Event → Type 0) (plan : PlanValue) (post new : PostView) (p t q : Pass B Event) (value : B) (n : ℕ)
    (given back : Parcel) → Waits st seat_of p t value → Releases (Some (Pick (number_of t) n)) t q → n < 16 → StandsAt plan post (seen t)
    → IsSwapped post new n stage.Working given back → stage_of ((after (seen t)).standings n) ≡ stage.Waiting → IsAtWork n q back
at_work st plan post new p t q value n given back waits released less s swapped is =
    let w = waiting_of ((after (seen t)).standings n) is in
    let e = Pick (number_of t) n in
    record {
      started = w.0;
      standing = ap (λ (l : List Event). (after l).standings n) (ap (λ (v : View Event). v.seen) released.view)
          ∙ ap (λ (h : Account). h.standings n) (after_more' (seen t) e)
          ∙ ap (λ (b : Bool). cond b (picked ((after (seen t)).standings n)) ((after (seen t)).standings n)) (same_as' n)
          ∙ ap picked w.1;
      holds = returned_holds plan (after (seen t)) post new n stage.Working given back (Waiting w.0) less s.state swapped w.1;
      entries = has_entries st p t q value e waits released refl;
    }
  where
    after_more' : (log : List Event) (e : Event) → after (log ++ e ∷ []) ≡ step (after log) e
    after_more' log e = after_more fresh log e

    same_as' : (n : ℕ) → (n == n) ≡ true
    same_as' n = grind (arith, nat_tests)

pub names_told : (done : Bool) (e : Event) (seat : ℕ) → seat_of e ≡ seat → IfSome (cond done (Some e) None) (λ x. seat_of x ≡ seat)
names_told true e seat is = is
names_told false e seat is = tt

-- the clerk's parcel is the thread's again
pub pick_own : (plan : PlanValue) (post new : PostView) (log : List Event) (n : ℕ) (result : Picked) (given back : Parcel) → n < 16
    → StandsAt plan post log → IsParcelOf plan n given → (result ≡ answer.Got → IsSwapped post new n stage.Working given back)
    → ((result ≡ answer.Got → ⊥) → back ≡ given) → IsParcelOf plan n back
pick_own plan post new log n result given back less s own got other = by_test (was_got result) refl
  where
    by_test : (b : Bool) → was_got result ≡ b → IsParcelOf plan n back
    by_test true t = returned_own plan (after log) post new n stage.Working given back less s.state (got (is_got result t))
    by_test false t = subst (IsParcelOf plan n) (sym (other (not_got result t))) own

-- a pick that got something told it
pub got_told : {B : Type 0} (t q : Pass B Event) (e : Event) (result : Picked) (done : Bool) → Releases (cond done (Some e) None) t q
    → done ≡ was_got result → result ≡ answer.Got → Releases (Some e) t q
got_told t q e result done released is got =
    subst (λ (b : Bool). Releases (cond b (Some e) None) t q) (is ∙ ap was_got got) released

pub got_waits : (plan : PlanValue) (post : PostView) (log : List Event) (n : ℕ) (result : Picked) → n < 16 → StandsAt plan post log
    → ((d : Place) → result ≡ pick_of post.shut (slice_index_or post.places n d).stage) → result ≡ answer.Got
    → stage_of ((after log).standings n) ≡ stage.Waiting
got_waits plan post log n result less s is got =
    (got_of (after log).shut (stage_of ((after log).standings n)) (sym got ∙ pick_at plan post log n result less s is)).1

-- ---- what stays

pub told_open : {B : Type 0} (p t q : Pass B Event) (e : Event) (done : Bool) → Releases (cond done (Some e) None) t q → own t ≡ own p
    → has_shut (e ∷ []) ≡ false → has_shut (own p) ≡ false → has_shut (own q) ≡ false
told_open p t q e done released same none open_ = by_test done released
  where
    by_test : (b : Bool) → Releases (cond b (Some e) None) t q → has_shut (own q) ≡ false
    by_test true r = ap (λ (v : View Event). has_shut v.own) r.view ∙ shut_more (own t) e none ∙ ap has_shut same ∙ open_
    by_test false r = ap (λ (v : View Event). has_shut v.own) r.view ∙ ap has_shut (append-nil (own t) ∙ same) ∙ open_

pub told_now : {B : Type 0} (t q : Pass B Event) (e : Event) (done b : Bool) → done ≡ b → Releases (cond done (Some e) None) t q
    → Releases (cond b (Some e) None) t q
told_now t q e done b is released = subst (λ (x : Bool). Releases (cond x (Some e) None) t q) is released

-- what is set is there
pub set_holds : (plan : PlanValue) (parcels : List Parcel) (n : ℕ) (parcel : Parcel) (x : Standing) → n < length parcels → Holds plan n x parcel
    → (d : Parcel) → Holds plan n x (slice_index_or (slice_set parcels n parcel) n d)
set_holds plan parcels n parcel x there holds d = subst (Holds plan n x) (sym (get_or-set_same parcels n parcel d there)) holds

-- what was there already changes nothing
pub set_same : (parcels : List Parcel) (n : ℕ) (parcel : Parcel) → n < length parcels → slice_index_or parcels n parcel ≡ parcel → slice_set parcels n parcel ≡ parcels
set_same [] n parcel there is = absurd (omega (arith, there))
set_same (x ∷ xs) zero parcel there is = ap (λ (y : Parcel). y ∷ xs) (sym is)
set_same (x ∷ xs) (suc n) parcel there is = ap (λ (ys : List Parcel). x ∷ ys) (set_same xs n parcel (omega (arith, there)) is)

-- a parcel that was given and came back changes nothing
pub parcels_kept : (parcels : List Parcel) (n : ℕ) (given back : Parcel) → n < length parcels → slice_index_or parcels n given ≡ given → back ≡ given
    → slice_set parcels n back ≡ parcels
parcels_kept parcels n given back there at_ same = ap (slice_set parcels n) same ∙ set_same parcels n given there at_

-- ---- the clerk puts back

none_more : (xs ys : List Event) → xs ++ ys ≡ xs → ys ≡ []
none_more [] ys e = e
none_more (x ∷ xs) ys e = none_more xs ys (let f : xs ++ ys ≡ xs = cc in f)

entries_join : (seat : ℕ) (log more : List Event) → entries_of seat_of seat (log ++ more) ≡ entries_of seat_of seat log ++ entries_of seat_of seat more
entries_join seat [] more = refl
entries_join seat (x ∷ xs) more =
    ap (λ (l : List Event). cond (seat_of x == seat) (x ∷ l) l) (entries_join seat xs more) ∙ by_test (seat_of x == seat) (entries_of seat_of seat xs) (entries_of seat_of seat more)
  where
    by_test : (b : Bool) (l m : List Event) → cond b (x ∷ (l ++ m)) (l ++ m) ≡ cond b (x ∷ l) l ++ m
    by_test true l m = refl
    by_test false l m = refl

-- between its pick and its back the clerk's thread stays at work
pub still_works : {B : Type 0} (st : B → List Event → Type 0) (plan : PlanValue) (post : PostView) (p t : Pass B Event) (value : B) (n : ℕ) (s : Started)
    → Waits st seat_of p t value → StandsAt plan post (seen t) → number_of p ≡ clerk_seat n → entries_of seat_of (number_of p) (seen p) ≡ own p
    → (after (seen p)).standings n ≡ Working s → (after (seen t)).standings n ≡ Working s
still_works st plan post p t value n s waits at_ seat_is mine is =
    let more = waits.history.0 in
    let e : seen p ++ more ≡ seen t = waits.history.1 in
    let legal = legal_rest plan fresh (seen p) more (subst (IsLegal plan fresh) (sym e) at_.legal) in
    let all = sym (entries_join (number_of p) (seen p) more) ∙ ap (entries_of seat_of (number_of p)) e ∙ waits.entries ∙ sym mine in
    let none = none_more (entries_of seat_of (number_of p) (seen p)) (entries_of seat_of (number_of p) more) all in
    let gone = ap (λ (m : ℕ). entries_of seat_of m more) (sym seat_is) ∙ none in
    ap (λ (l : List Event). (after l).standings n) (sym e) ∙ ap (λ (h : Account). h.standings n) (after_join fresh (seen p) more)
    ∙ stays_working plan n s (after (seen p)) more legal gone is

pub back_stands : (chosen : Option PlanValue) (plan : PlanValue) (post new : PostView) (log : List Event) (seat n : ℕ) (s : Started)
    (given back : Parcel) → chosen ≡ Some plan → n < 16 → Stands chosen post log → seat ≡ clerk_seat n → IsParcelOf plan n given
    → (after log).standings n ≡ Working s → Holds plan n (Ready s) given → IsSwapped post new n stage.Ready given back
    → Stands chosen new (log ++ Back seat n ∷ [])
back_stands chosen plan post new log seat n s given back is less stands seat_is fits works holds swapped =
    stands_at chosen plan new (log ++ Back seat n ∷ []) is (stands_more plan new log (Back seat n) (stands plan is).legal (seat_is, ap stage_of works)
    (subst (λ (x : Standing). IsPostAt plan (with_standing (after log) n x) new) (sym (ap put_back works))
    (swapped_at plan (after log) post new n (Ready s) given back less (stands plan is).state swapped fits holds)))

-- what was worked at and put back is ready
pub back_ready : (log all : List Event) (seat n : ℕ) (s : Started) → all ≡ log ++ Back seat n ∷ [] → (after log).standings n ≡ Working s
    → stage_of ((after all).standings n) ≡ stage.Ready
back_ready log all seat n s is works =
    ap (λ (l : List Event). stage_of ((after l).standings n)) is
    ∙ ap (λ (h : Account). stage_of (h.standings n)) (after_more fresh log (Back seat n))
    ∙ ap (λ (b : Bool). stage_of (cond b (put_back ((after log).standings n)) ((after log).standings n))) (itself n)
    ∙ ap (λ (x : Standing). stage_of (put_back x)) works
  where
    itself : (m : ℕ) → (m == m) ≡ true
    itself m = grind (arith, nat_tests)

-- a clerk that has what its thread works at has work in its tray
pub has_work_in : (tray : Tray) (s : Started) → held_in tray ≡ Some s → IsSome tray.work
has_work_in tray s is = by_work tray.work is
  where
    by_work : (w : Option Job1)
        → option_map (λ (x : Job1). record { taken = record { held = true; cells = tray.cells.items; on = record { on = tray.on.items } }; work = x }) w ≡ Some s → IsSome w
    by_work None e = absurd (cc)
    by_work (Some x) e = refl

-- what the work came to is what the place is to hold
pub outcome_held : (plan : PlanValue) (n : ℕ) (s : Started) (was given : Parcel) → held_in was.tray ≡ Some s → held_in given.tray ≡ held_in was.tray
    → was.tray.number ≡ n → IfSome (held_in was.tray) (λ s. IsOutcome plan was.tray.number s given.outputs) → Holds plan n (Ready s) given
outcome_held plan n s was given is same number outcome = (
  same ∙ is,
  subst (λ (m : ℕ). IsOutcome plan m s given.outputs) number
      (subst (λ (o : Option Started). IfSome o (λ s. IsOutcome plan was.tray.number s given.outputs)) is outcome),
)

-- the same entry, told otherwise
pub added_as : {B : Type 0} (st : B → List Event → Type 0) (p t q : Pass B Event) (value : B) (e f : Event) → Waits st seat_of p t value
    → Releases (Some e) t q → e ≡ f → HasAddedTo (seen t) p q f
added_as st p t q value e f waits released is = subst (HasAddedTo (seen t) p q) is (added st p t q value e waits released)

-- ---- the desk starts and shuts

pub start_stands : (chosen : Option PlanValue) (plan : PlanValue) (post new : PostView) (log mine : List Event) (seat n : ℕ) (taken : Taken) (work : Job1)
    (given back : Parcel) → chosen ≡ Some plan → n < 16 → Stands chosen post log → seat ≡ desk_seat → entries_of seat_of seat log ≡ mine
    → has_shut mine ≡ false → started_in mine n ≡ None → CanStart (plan_of plan) n taken work → IsParcelOf plan n given
    → held_in given.tray ≡ Some (record { taken = taken; work = work }) → IsSwapped post new n stage.Waiting given back
    → Stands chosen new (log ++ Start desk_seat n taken work ∷ [])
start_stands chosen plan post new log mine seat n taken work given back is less stands one own_is off free can fits holds swapped =
    let s : StandsAt plan post log = stands plan is in
    let idle = idle_of ((after log).standings n) (own_held plan post log mine seat n s one own_is ∙ free) in
    stands_at chosen plan new (log ++ Start desk_seat n taken work ∷ []) is
    (stands_more plan new log (Start desk_seat n taken work) s.legal (refl, open_own plan seat log mine s.legal one own_is off, idle, can)
    (swapped_at plan (after log) post new n (Waiting (record { taken = taken; work = work })) given back less s.state swapped fits holds))

pub shut_stands : (chosen : Option PlanValue) (plan : PlanValue) (post new : PostView) (log : List Event) (seat : ℕ) → chosen ≡ Some plan
    → Stands chosen post log → seat ≡ desk_seat → new ≡ record { places = post.places; shut = true } → Stands chosen new (log ++ Shut seat ∷ [])
shut_stands chosen plan post new log seat is stands one shuts =
    let s : StandsAt plan post log = stands plan is in
    stands_at chosen plan new (log ++ Shut seat ∷ []) is (stands_more plan new log (Shut seat) s.legal one
    (subst (IsPostAt plan (record { standings = (after log).standings; shut = true })) (sym shuts) (shut_at plan (after log) post seat s.state)))
