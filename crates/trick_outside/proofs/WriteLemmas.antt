-- From calls to the writes that were done.
use Rattle.std.proofs.Common.{◌≡◌, ℕ, List, [], ◌∷◌, ◌++◌, refl, ◌∙◌, ap, subst, Some, IsOk, inl, inr}
use Rattle.std.specs.FinMap.{get}
use Rattle.std.specs.Prelude.{Result}
use Rattle.trick_base.proofs.ContentLemmas.{partly_written}
use Rattle.trick_base.proofs.WriteLemmas.{front_of_early}
use Rattle.trick_base.specs.Content.{IsPartly, IsTidy}
use Rattle.trick_base.specs.Files.{Files, Write, all_written}
use Rattle.trick_base.specs.Fronts.{IsFrontOf}
use Rattle.trick_outside.specs.Calls.{AllLeave, Call, Done, Get, Put, Read, Stopped}
use Rattle.trick_outside.specs.Does.{Does, IsPartOf}
use Rattle.trick_outside.specs.Writes.{AreDone, writes_of}
use Rattle.trick_outside.specs.declared.shelf.Shelf.{Ghosts}
use Rattle.trick_outside.specs.declared.stop.Stop.{Stop}

pub writes_of-append : (early late : List Call) → writes_of (early ++ late) ≡ writes_of early ++ writes_of late
writes_of-append [] late = refl
writes_of-append (Read name bytes ∷ early) late = writes_of-append early late
writes_of-append (Done write ∷ early) late = ap (λ w. write ∷ w) (writes_of-append early late)
writes_of-append (Stopped wanted why ∷ early) late = writes_of-append early late

pub done-append : (early late : List Call) → AreDone early → AreDone late → AreDone (early ++ late)
done-append [] late one two = two
done-append (Read name bytes ∷ early) late one two = done-append early late one two
done-append (Done write ∷ early) late one two = done-append early late one two
done-append (Stopped wanted why ∷ early) late one two = absurd one

-- where all steps are done, so are all of their writes
pub all_done : (steps : List Call) (files now : Files) → AreDone steps → AllLeave steps files now → now ≡ all_written (writes_of steps) files
all_done [] files now done left = left
all_done (Read name bytes ∷ steps) files now done (mid, one, more) = all_done steps mid now done more ∙ ap (all_written (writes_of steps)) one.1
all_done (Done write ∷ steps) files now done (mid, one, more) = all_done steps mid now done more ∙ ap (all_written (writes_of steps)) one
all_done (Stopped wanted why ∷ steps) files now done left = absurd done

-- the writes that a part of steps did
pub record Front (whole : List Call) (files now : Files) : Type 0 where
  pub writes : List Write
  pub front : IsFrontOf writes (writes_of whole)
  pub is : now ≡ all_written writes files

pub front_of : (part whole : List Call) (files now : Files) → AreDone whole → IsPartOf part whole → AllLeave part files now → Front whole files now
front_of [] whole files now done is left = record { writes = []; front = tt; is = left }
front_of (call ∷ part) [] files now done is left = absurd is
front_of (call ∷ part) (Read name bytes ∷ whole) files now done (inl is) left =
    let l : AllLeave (Read name bytes ∷ part) files now = subst (λ c. AllLeave (c ∷ part) files now) is.0 left in
    let later = front_of part whole l.0 now done is.1 l.2 in
    record { writes = later.writes; front = later.front; is = later.is ∙ ap (all_written later.writes) l.1.1 }
front_of (call ∷ part) (Done write ∷ whole) files now done (inl is) left =
    let l : AllLeave (Done write ∷ part) files now = subst (λ c. AllLeave (c ∷ part) files now) is.0 left in
    let later = front_of part whole l.0 now done is.1 l.2 in
    record { writes = write ∷ later.writes; front = inl (refl, later.front); is = later.is ∙ ap (all_written later.writes) l.1 }
front_of (call ∷ part) (Stopped wanted reason ∷ whole) files now done is left = absurd done
front_of (call ∷ part) (Read name bytes ∷ whole) files now done (inr (why, is, none)) left =
    let l : AllLeave (Stopped (Get name) why ∷ []) files now = subst (λ p. AllLeave (Stopped (Get name) why ∷ p) files now) none (subst (λ c. AllLeave (c ∷ part) files now) is left) in
    record { writes = []; front = tt; is = l.2 ∙ l.1 }
front_of (call ∷ part) (Done write ∷ whole) files now done (inr (why, is, none)) left =
    let l : AllLeave (Stopped (Put write) why ∷ []) files now = subst (λ p. AllLeave (Stopped (Put write) why ∷ p) files now) none (subst (λ c. AllLeave (c ∷ part) files now) is left) in
    record { writes = l.1.0; front = front_of_early l.1.0 (write ∷ []) (writes_of whole) l.1.1; is = l.2 ∙ l.1.2 }

-- what a shelf holds that tells it: all of the writes at `Ok`, and else a front of them
pub does_all : {S T : Type 0} {shelf : Ghosts S} {old new : S} {result : Result T Stop} {steps : List Call} → Does shelf old new result steps → AreDone steps → IsOk result
    → (files : Files) → shelf.holds old ≡ Some files → shelf.holds new ≡ Some (all_written (writes_of steps) files)
does_all {steps = steps} did done ok files told =
    let left = did.went.went.left files told in
    left.1 ∙ ap Some (all_done steps files left.0 done (subst (λ c. AllLeave c files left.0) (did.whole ok) left.2))

pub does_front : {S T : Type 0} {shelf : Ghosts S} {old new : S} {result : Result T Stop} {steps : List Call} → Does shelf old new result steps → AreDone steps
    → (files : Files) → shelf.holds old ≡ Some files → (writes : List Write) × IsFrontOf writes (writes_of steps) × (shelf.holds new ≡ Some (all_written writes files))
does_front {steps = steps} did done files told =
    let left = did.went.went.left files told in
    let front = front_of did.calls steps files left.0 done did.part left.2 in
    (front.writes, front.front, left.1 ∙ ap Some front.is)

-- whether all is done or not, a file that is made at most once is as it was, or a prefix of what all
-- of the steps make
pub does_partly : {S T : Type 0} {shelf : Ghosts S} {old new : S} {result : Result T Stop} {steps : List Call} → Does shelf old new result steps → AreDone steps
    → (name : List ℕ) → IsTidy name (writes_of steps) → (files : Files) → shelf.holds old ≡ Some files
    → (now : Files) × (shelf.holds new ≡ Some now) × IsPartly (get files name) (get now name) (get (all_written (writes_of steps) files) name)
does_partly {steps = steps} did done name tidy files told =
    let front = does_front did done files told in
    (all_written front.0 files, front.2, partly_written name front.0 (writes_of steps) files tidy front.1)
