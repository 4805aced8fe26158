-- Hands of one hall, which the chief takes in.
use Rattle.std.proofs.Common.{◌≡◌, ◌∙◌, List, [], ◌∷◌, ◌++◌, ap, append_assoc, append-nil, map, reverse, subst, sym}
use Rattle.std.proofs.Math.Logic.{∥∥₁_elim, ∥∥₁_map}
use Rattle.std.proofs.lemmas.List.Elements.{All-cons, All-head, All-nil, All-tail, All-weaker}
use Rattle.std.specs.Arc.{arc_value}
use Rattle.std.specs.Prelude.{All}
use base.Stored.{Coded-set}
use mathlib.Core.List.{IsPrefix}
use Rattle.atomic_table.specs.Seated.{TableId, table_id_coded}
use Rattle.trick_base.proofs.ListLemmas.{all_unmapped}
use Rattle.trick_crew_team.proofs.Lists.{all_left, all_right, all_unreversed, prefix_of_prefix}
use Rattle.trick_crew_team.specs.Hands.{AreOfHall, IsLeftBy, IsTakenIn}
use Rattle.trick_crew_team.specs.Members.{AreMembers, IsMember}
use Rattle.trick_crew_team.specs.Working.{HasWorked}
use Rattle.trick_crew_team.specs.declared.worker.Worker.{Worker}
use Rattle.trick_hall_kept.specs.HallView.{HallView}
use Rattle.trick_hall_kept.specs.declared.entry.Entry.{Entry}
use Rattle.trick_hall.specs.declared.hand.Hand.{Hand}
use Rattle.trick_model.specs.declared.planned.Planned.{Ghosts}
use Rattle.trick_outside.specs.declared.work.Begun.{Begun}
use Rattle.trick_outside.specs.declared.work.Begun.TheVariants.{Refused, Started}
use Rattle.trick_turn.specs.Passes.{IsPassOf, seen}
use Rattle.trick_turn.specs.declared.lock.TurnLock.{TurnLock}
use Rattle.trick_turn.specs.declared.pass.Pass.{Pass}

-- ---- members

module _ {W O : Type 0} (promises : W → O → Type 0) (Holds : W → Type 0) where
  member_holds : (w : W) (m : Begun W O) → IsMember promises (λ v. v ≡ w) m → Holds w → IsMember promises Holds m
  member_holds w (Started running) (v, is, runs) holds = (v, subst Holds (sym is) holds, runs)
  member_holds w (Refused v) is holds = subst Holds (sym is) holds

  pub members_hold : (works : List W) (members : List (Begun W O)) → AreMembers promises works members → All Holds works → All (IsMember promises Holds) members
  members_hold [] [] are all = All-nil (IsMember promises Holds)
  members_hold [] (m ∷ ms) are all = absurd are
  members_hold (w ∷ ws) [] are all = absurd are
  members_hold (w ∷ ws) (m ∷ ms) (is, are) all =
      All-cons (IsMember promises Holds) m ms (member_holds w m is (All-head Holds w ws all)) (members_hold ws ms are (All-tail Holds w ws all))

-- ---- halls

-- the number of the hall that a lock is of
abbrev pub hall_of : TurnLock HallView Entry → TableId
hall_of lock = lock.table.shared.table_id

-- a pass of a lock that has not changed is of the same hall
pub same_hall : (before now : TurnLock HallView Entry) (p q : Pass HallView Entry) → now ≡ before → IsPassOf before p → IsPassOf now q → q.seat.inner.table_id ≡ p.seat.inner.table_id
same_hall before now p q same of_before of_now = of_now ∙ ap hall_of same ∙ sym of_before

module _ {M P : Type 0} where
  -- all hands that a hall is made with are of it
  pub all_of_hall : (lock : TurnLock HallView Entry) (pass : Pass HallView Entry) (hands : List (Hand M P)) → IsPassOf lock pass → All (λ (h : Hand M P). arc_value h.lock ≡ lock) hands
      → All (λ (h : Hand M P). IsPassOf (arc_value h.lock) pass) hands
  all_of_hall lock pass hands of_lock all =
      All-weaker (λ (h : Hand M P). arc_value h.lock ≡ lock) (λ (h : Hand M P). IsPassOf (arc_value h.lock) pass) (λ h same. of_lock ∙ ap hall_of (sym same)) hands all

  -- so is the last of them, which is that of the caller's share
  pub last_of_hall : (pass : Pass HallView Entry) (hands left : List (Hand M P)) (last hand : Hand M P) → hands ≡ left ++ last ∷ [] → hand ≡ last → All (λ (h : Hand M P). IsPassOf (arc_value h.lock) pass) hands
      → IsPassOf (arc_value hand.lock) pass
  last_of_hall pass hands left last hand are same all =
      let Of = λ (h : Hand M P). IsPassOf (arc_value h.lock) pass in
      subst Of (sym same) (All-head Of last [] (all_right Of left (last ∷ []) (subst (All Of) are all)))

module _ {M P G R : Type 0} {planned : Ghosts P} where
  -- the workers have the last hands, and the others are left
  pub workers_of_hall : (pass : Pass HallView Entry) (hands left : List (Hand M P)) (workers : List (Worker M P G R planned)) → All (λ (h : Hand M P). IsPassOf (arc_value h.lock) pass) hands
      → left ++ reverse (map (λ (w : Worker M P G R planned). w.hand) workers) ≡ hands
      → All (λ (h : Hand M P). IsPassOf (arc_value h.lock) pass) left × All (λ (w : Worker M P G R planned). IsPassOf (arc_value w.hand.lock) pass) workers
  workers_of_hall pass hands left workers all are =
      let Of = λ (h : Hand M P). IsPassOf (arc_value h.lock) pass in
      let theirs = map (λ (w : Worker M P G R planned). w.hand) workers in
      let both : All Of (left ++ reverse theirs) = subst (All Of) (sym are) all in
      (all_left Of left (reverse theirs) both, all_unmapped Of (λ (w : Worker M P G R planned). w.hand) workers (all_unreversed Of theirs (all_right Of left (reverse theirs) both)))

  -- the members are of the hall once their workers are
  pub members_of_hall : (pass : Pass HallView Entry) (workers : List (Worker M P G R planned)) (members : List (Begun (Worker M P G R planned) (Hand M P)))
      → All (λ (w : Worker M P G R planned). IsPassOf (arc_value w.hand.lock) pass) workers → AreMembers HasWorked workers (reverse members) → AreOfHall pass members
  members_of_hall pass workers members all are =
      let Of = λ (w : Worker M P G R planned). IsPassOf (arc_value w.hand.lock) pass in
      all_unreversed (IsMember HasWorked Of) members (members_hold HasWorked Of workers (reverse members) are all)

  -- members of a hall stay so while the pass is of the same
  pub still_of_hall : (p q : Pass HallView Entry) (members : List (Begun (Worker M P G R planned) (Hand M P))) → q.seat.inner.table_id ≡ p.seat.inner.table_id → ∥ AreOfHall p members ∥₁ → ∥ AreOfHall q members ∥₁
  still_of_hall p q members same all =
      subst (λ (id : TableId). ∥ All (IsMember HasWorked (λ (w : Worker M P G R planned). id ≡ hall_of (arc_value w.hand.lock))) members ∥₁) (sym same) all

  -- ---- hands

  left_is_of : (lock : TurnLock HallView Entry) (pass : Pass HallView Entry) (member : Begun (Worker M P G R planned) (Hand M P)) (hand : Hand M P)
      → IsPassOf lock pass → IsLeftBy member hand → IsMember HasWorked (λ (w : Worker M P G R planned). IsPassOf (arc_value w.hand.lock) pass) member → IsPassOf lock hand.pass
  left_is_of lock pass (Started running) hand of_lock left (w, of_hall, runs) =
      hand.of_lock ∙ ap (λ l. hall_of (arc_value l)) (left w runs).0 ∙ sym of_hall ∙ of_lock
  left_is_of lock pass (Refused w) hand of_lock left of_hall = hand.of_lock ∙ ap (λ (h : Hand M P). hall_of (arc_value h.lock)) left ∙ sym of_hall ∙ of_lock

  -- the last member leaves a hand of the hall
  pub last_is_of : (lock : TurnLock HallView Entry) (pass : Pass HallView Entry) (before left : List (Begun (Worker M P G R planned) (Hand M P))) (member : Begun (Worker M P G R planned) (Hand M P))
      (hand : Hand M P) → before ≡ left ++ member ∷ [] → ∥ AreOfHall pass before ∥₁ → IsPassOf lock pass → IsLeftBy member hand → IsPassOf lock hand.pass
  last_is_of lock pass before left member hand are all of_lock is_left =
      let Of = IsMember HasWorked (λ (w : Worker M P G R planned). IsPassOf (arc_value w.hand.lock) pass) in
      ∥∥₁_elim all (Coded-set table_id_coded _ _) (λ (all : AreOfHall pass before).
      left_is_of lock pass member hand of_lock is_left (All-head Of member [] (all_right Of left (member ∷ []) (subst (All Of) are all))))

  -- the others are of it still
  pub others_of_hall : (p q : Pass HallView Entry) (before left : List (Begun (Worker M P G R planned) (Hand M P))) (member : Begun (Worker M P G R planned) (Hand M P))
      → before ≡ left ++ member ∷ [] → q.seat.inner.table_id ≡ p.seat.inner.table_id → ∥ AreOfHall p before ∥₁ → ∥ AreOfHall q left ∥₁
  others_of_hall p q before left member are same all =
      let Of = IsMember HasWorked (λ (w : Worker M P G R planned). IsPassOf (arc_value w.hand.lock) p) in
      still_of_hall p q left same (∥∥₁_map all (λ (all : AreOfHall p before). all_left Of left (member ∷ []) (subst (All Of) are all)))

  -- ---- hands that were taken in

  taken_in : (pass : Pass HallView Entry) (member : Begun (Worker M P G R planned) (Hand M P)) (hand : Hand M P) → IsLeftBy member hand → IsPrefix (seen hand.pass) (seen pass) → IsTakenIn pass member
  taken_in pass (Started running) hand left begins = λ w runs. (hand, left w runs, begins)
  taken_in pass (Refused w) hand left begins = subst (λ (h : Hand M P). IsPrefix (seen h.pass) (seen pass)) left begins

  still_taken : (p q : Pass HallView Entry) → IsPrefix (seen p) (seen q) → (member : Begun (Worker M P G R planned) (Hand M P)) → IsTakenIn p member → IsTakenIn q member
  still_taken p q more (Started running) taken =
      λ w runs. let t = taken w runs in (t.0, t.1, prefix_of_prefix (seen t.0.pass) (seen p) (seen q) t.2 more)
  still_taken p q more (Refused w) taken = prefix_of_prefix (seen w.hand.pass) (seen p) (seen q) taken more

  -- some members are left, and the hands of the others were taken in
  abbrev pub IsTaking : Pass HallView Entry → List (Begun (Worker M P G R planned) (Hand M P)) → List (Begun (Worker M P G R planned) (Hand M P)) → Type 0
  IsTaking pass all left = (taken : List (Begun (Worker M P G R planned) (Hand M P))) × (all ≡ left ++ taken) × All (IsTakenIn pass) taken

  pub taking_none : (pass : Pass HallView Entry) (all : List (Begun (Worker M P G R planned) (Hand M P))) → IsTaking pass all all
  taking_none pass all = ([], sym (append-nil all), All-nil (IsTakenIn pass))

  pub taking_more : (p q : Pass HallView Entry) (all before left : List (Begun (Worker M P G R planned) (Hand M P))) (member : Begun (Worker M P G R planned) (Hand M P)) (hand : Hand M P) → before ≡ left ++ member ∷ [] → IsLeftBy member hand → IsPrefix (seen p) (seen q)
      → IsPrefix (seen hand.pass) (seen q) → IsTaking p all before → IsTaking q all left
  taking_more p q all before left member hand are is_left more begins (taken, split, so_far) = (
    member ∷ taken,
    split ∙ ap (λ (ms : List (Begun (Worker M P G R planned) (Hand M P))). ms ++ taken) are ∙ append_assoc left (member ∷ []) taken,
    All-cons (IsTakenIn q) member taken (taken_in q member hand is_left begins) (All-weaker (IsTakenIn p) (IsTakenIn q) (still_taken p q more) taken so_far),
  )

  pub taking_all : (pass : Pass HallView Entry) (all left : List (Begun (Worker M P G R planned) (Hand M P))) → left ≡ [] → IsTaking pass all left → All (IsTakenIn pass) all
  taking_all pass all left none (taken, split, so_far) =
      subst (All (IsTakenIn pass)) (sym (split ∙ ap (λ (ms : List (Begun (Worker M P G R planned) (Hand M P))). ms ++ taken) none)) so_far

-- the hand of the caller's share is of the hall of the chief's lock
pub share_is_of : (theirs lock : TurnLock HallView Entry) (hand pass : Pass HallView Entry) → IsPassOf theirs hand → IsPassOf theirs pass → IsPassOf lock pass → IsPassOf lock hand
share_is_of theirs lock hand pass of_theirs of_hall of_lock = of_theirs ∙ sym of_hall ∙ of_lock
