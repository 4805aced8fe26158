-- What a desk knows of what it started, and what it publishes.
use Rattle.std.proofs.Common.{◌≡◌, ◌∙◌, ℕ, ◌<◌, ◌≤◌, Bool, cond, List, [], ◌∷◌, ◌++◌, Some, None, length, sym, ap, subst, append-nil, append_assoc}
use Rattle.std.proofs.lemmas.Bool.{ne_eqb}
use Rattle.std.proofs.lemmas.List.{get_or-set_same, length-map}
use Rattle.std.specs.List.{slice_index_or}
use Rattle.std.specs.Option.{IfSome}
use Rattle.std.specs.Prelude.{IsSome, Option, slice_set, vec_capacity}
use Rattle.trick_base.proofs.Numbers.{equal_to_itself}
use mathlib.Core.List.{IsPrefix}
use Rattle.trick_post_places.proofs.Entries.{started_more}
use Rattle.trick_post_places.specs.Answers.{AsksAt, HasTakenBack}
use Rattle.trick_post_places.specs.Histories.{started_in}
use Rattle.trick_post_places.specs.declared.event.Event.{Event}
use Rattle.trick_post_places.specs.declared.event.Event.TheVariants.{Finish, Start}
use Rattle.trick_lang.specs.declared.cells.Cell.{Cell}
use Rattle.trick_model.specs.Access.{scope}
use Rattle.trick_model.specs.PlanOf.{plan_of}
use Rattle.trick_model.specs.declared.plan.Plan.{Plan as PlanValue}
use Rattle.trick_model.specs.declared.taken.Taken.{Taken}
use Rattle.trick_post_work.specs.Work.{Started}
use Rattle.trick_post_work.specs.declared.posts.Job1.{Job1}
use Rattle.trick_post_work.specs.declared.posts.Posted.{Posted}
use Rattle.trick_post_work.specs.declared.posts.Posted.TheVariants as posted
use Rattle.trick_post_trays.specs.Outputs.{IsOutcome, IsParcelOf}
use Rattle.trick_post_trays.specs.Trays.{IsTrayOf, held_in, numbered}
use Rattle.trick_post_trays.specs.declared.outputs.Parcel.{Parcel}
use Rattle.trick_post_trays.specs.declared.tray.Tray.{Tray}
use Rattle.trick_turn.specs.Passes.{own, seen}
use Rattle.trick_turn.specs.declared.pass.Pass.{Pass}

-- ---- what was started and not finished

pub starts : (old mine : List Event) (seat n : ℕ) (taken : Taken) (work : Job1) → mine ≡ old ++ Start seat n taken work ∷ []
    → started_in mine n ≡ Some (record { taken = taken; work = work })
starts old mine seat n taken work is =
    ap (λ (l : List Event). started_in l n) is ∙ started_more n None old (Start seat n taken work)
    ∙ ap (λ (b : Bool). cond b (Some (record { taken = taken; work = work })) (started_in old n)) (equal_to_itself n)

pub starts_other : (old mine : List Event) (seat n : ℕ) (taken : Taken) (work : Job1) (k : ℕ) → mine ≡ old ++ Start seat n taken work ∷ []
    → (k ≡ n → ⊥) → started_in mine k ≡ started_in old k
starts_other old mine seat n taken work k is ne =
    ap (λ (l : List Event). started_in l k) is ∙ started_more k None old (Start seat n taken work)
    ∙ ap (λ (b : Bool). cond b (Some (record { taken = taken; work = work })) (started_in old k)) (ne_eqb k n ne)

pub finishes : (old mine : List Event) (seat n : ℕ) → mine ≡ old ++ Finish seat n ∷ [] → started_in mine n ≡ None
finishes old mine seat n is =
    ap (λ (l : List Event). started_in l n) is ∙ started_more n None old (Finish seat n)
    ∙ ap (λ (b : Bool). cond b None (started_in old n)) (equal_to_itself n)

pub finishes_other : (old mine : List Event) (seat n k : ℕ) → mine ≡ old ++ Finish seat n ∷ [] → (k ≡ n → ⊥) → started_in mine k ≡ started_in old k
finishes_other old mine seat n k is ne =
    ap (λ (l : List Event). started_in l k) is ∙ started_more k None old (Finish seat n)
    ∙ ap (λ (b : Bool). cond b None (started_in old k)) (ne_eqb k n ne)

pub still_started : (old mine : List Event) (n : ℕ) → mine ≡ old → IsSome (started_in old n) → IsSome (started_in mine n)
still_started old mine n is some = subst (λ (l : List Event). IsSome (started_in l n)) (sym is) some

-- ---- what is in a parcel

-- a parcel with another tray of its thread
pub filled : (plan : PlanValue) (n : ℕ) (parcel : Parcel) (tray : Tray) → IsParcelOf plan n parcel → IsTrayOf plan tray → tray.number ≡ parcel.tray.number
    → IsParcelOf plan n (record { tray = tray; outputs = parcel.outputs })
filled plan n parcel tray fits own number = record {
  tray = own;
  number = number ∙ fits.number;
  room = subst (λ m. m ≤ vec_capacity parcel.outputs.cells) (sym long) fits.room;
}
  where
    cells_of : (t : Tray) → IsTrayOf plan t → length t.scope ≡ length (scope (plan_of plan) (numbered t.number))
    cells_of t is = sym (length-map t.scope (λ (c : Cell). c.0)) ∙ ap length is.scope_is

    long : length tray.scope ≡ length parcel.tray.scope
    long = cells_of tray own ∙ ap (λ (m : ℕ). length (scope (plan_of plan) (numbered m))) number ∙ sym (cells_of parcel.tray fits.tray)

pub filled_there : (parcels : List Parcel) (n : ℕ) (parcel : Parcel) (held : Option Started) → n < length parcels → held_in parcel.tray ≡ held
    → (d : Parcel) → held_in (slice_index_or (slice_set parcels n parcel) n d).tray ≡ held
filled_there parcels n parcel held there is d = ap (λ (p : Parcel). held_in p.tray) (get_or-set_same parcels n parcel d there) ∙ is

-- ---- what was taken back

prefix_join : (xs ys zs : List Event) → IsPrefix xs ys → IsPrefix ys zs → IsPrefix xs zs
prefix_join xs ys zs one two = (one.0 ++ two.0, sym (append_assoc xs one.0 two.0) ∙ ap (λ (l : List Event). l ++ two.0) one.1 ∙ two.1)

pub same_prefix : (xs : List Event) → IsPrefix xs xs
same_prefix xs = ([], append-nil xs)

module _ {B : Type 0} where
  pub looked_on : (p r q : Pass B Event) → IsPrefix (seen p) (seen r) → IsPrefix (seen r) (seen q) → IsPrefix (seen p) (seen q)
  looked_on p r q one two = prefix_join (seen p) (seen r) (seen q) one two

  -- what a later call took back
  pub taken_since : (plan : PlanValue) (n : ℕ) (p r q : Pass B Event) (parcels : List Parcel) → own r ≡ own p → IsPrefix (seen p) (seen r)
      → HasTakenBack plan n r q parcels → HasTakenBack plan n p q parcels
  taken_since plan n p r q parcels same history back =
      let told = back.told.1 in
      record {
        started = back.started;
        small = back.small;
        is_own = ap (λ (l : List Event). started_in l n) (sym same) ∙ back.is_own;
        told = (
          back.told.0,
          record {
            history = prefix_join (seen p) (seen r) back.told.0 history told.history;
            at_end = told.at_end;
            once = told.once ∙ ap (λ (l : List Event). l ++ Finish 1 n ∷ []) same;
          },
        );
        holds = back.holds;
      }

  -- the parcel holds what the desk started
  pub holds_own : (plan : PlanValue) (n : ℕ) (p q : Pass B Event) (parcels : List Parcel) → HasTakenBack plan n p q parcels
      → (d : Parcel) → held_in (slice_index_or parcels n d).tray ≡ started_in (own p) n
  holds_own plan n p q parcels back d = (back.holds d).0 ∙ sym back.is_own

  pub is_started : (plan : PlanValue) (n : ℕ) (p q : Pass B Event) (parcels : List Parcel) → HasTakenBack plan n p q parcels
      → (parcel : Parcel) → slice_index_or parcels n parcel ≡ parcel → held_in parcel.tray ≡ started_in (own p) n
  is_started plan n p q parcels back parcel at_ = ap (λ (x : Parcel). held_in x.tray) (sym at_) ∙ holds_own plan n p q parcels back parcel

  -- and what that comes to
  pub comes_to : (plan : PlanValue) (n : ℕ) (p q : Pass B Event) (parcels : List Parcel) → HasTakenBack plan n p q parcels
      → (parcel : Parcel) → slice_index_or parcels n parcel ≡ parcel → parcel.tray.number ≡ n
      → IfSome (held_in parcel.tray) (λ s. IsOutcome plan parcel.tray.number s parcel.outputs)
  comes_to plan n p q parcels back parcel at_ number =
      subst (λ (o : Option Started). IfSome o (λ s. IsOutcome plan parcel.tray.number s parcel.outputs)) (sym (is_started plan n p q parcels back parcel at_ ∙ back.is_own))
      (subst (λ (m : ℕ). IsOutcome plan m back.started parcel.outputs) (sym number)
      (subst (λ (x : Parcel). IsOutcome plan n back.started x.outputs) at_ (back.holds parcel).1))

  -- a call that asks adds nothing
  pub asks_none : (n : ℕ) (p q : Pass B Event) (answer : Posted) → AsksAt n p q answer → own q ≡ own p
  asks_none n p q posted.Ready asked = asked.0.none
  asks_none n p q posted.NotYet asked = asked.0.none
