-- Why a session left, by its entries, and want of memory that its writer told.
use Rattle.std.proofs.Common.{◌≡◌, ◌∙◌, inl, inr, ⊎_elim, ℕ, ◌+◌, Bool, true, false, List, [], ◌∷◌, ◌++◌, Option, Some, None, ap, map, refl, sym}
use Rattle.std.proofs.Math.Bool.{or-false}
use Rattle.std.proofs.lemmas.Bool.{false≢true}
use Rattle.std.proofs.lemmas.List.Folds.{list_any-append}
use Rattle.std.specs.List.{list_any}
use Rattle.std.specs.Prelude.{◌||◌}
use Rattle.trick_model.specs.Plan.{Plan}
use Rattle.trick_model.specs.State.{State}
use Rattle.trick_model.specs.declared.entry.Cause.{Cause}
use Rattle.trick_model.specs.declared.entry.Cause.TheVariants as cause
use Rattle.trick_model.specs.declared.entry.Entry.{Entry}
use Rattle.trick_model.specs.declared.entry.Entry.TheVariants.{Join, Said, Leave, Publish}
use Rattle.trick_model.specs.declared.session.Session.{Session}
use Rattle.trick_serve_source.specs.Calls.{View}
use Rattle.trick_serve_hearing.specs.Life.{Can, Happening, Hears, IsSeated, IsSlow, IsTold, Misses, after, entries_of, leave_of, own}
use Rattle.trick_serve_hearing.specs.Messages.{IsHanded}
use Rattle.trick_serve_hearing.specs.Sides.{Queues, Side, nobody, side}
use Rattle.trick_serve_facts.proofs.Clients.{always, at_end, lives_at_end}
use Rattle.trick_serve_facts.proofs.Keeping.{IsKept}
use Rattle.trick_serve_facts.proofs.Lives.{last_passes}
use Rattle.trick_serve_facts.specs.Life.{HasLived, life}
use Rattle.trick_serve_facts.specs.Serves.{IsServedRun, all_entries}
use Rattle.trick_serve_facts.specs.Wants.{LeavesAreTold, WantsAreSaid}
use Rattle.trick_wire.specs.declared.heard.WriteStop.{WriteStop}
use Rattle.trick_wire.specs.declared.heard.WriteStop.TheVariants as stop

-- ---- the leave among entries

-- why the first session among entries left
abbrev leave_in : List Entry → Option Cause
leave_in [] = None
leave_in (Join session ∷ entries) = leave_in entries
leave_in (Said session line ∷ entries) = leave_in entries
leave_in (Leave session why ∷ entries) = Some why
leave_in (Publish thread ∷ entries) = leave_in entries

of_leave : (n : ℕ) (leave : Option Cause) → leave_in (leave_of n leave) ≡ leave
of_leave n None = refl
of_leave n (Some why) = refl

life_leave : (n : ℕ) (lines : List (List ℕ)) (leave : Option Cause) → leave_in (map (λ (line : List ℕ). Said n line) lines ++ leave_of n leave) ≡ leave
life_leave n [] leave = of_leave n leave
life_leave n (line ∷ lines) leave = life_leave n lines leave

pub leaves_told : LeavesAreTold
leaves_told n lines others leave other same = sym (life_leave n lines leave) ∙ ap leave_in same ∙ life_leave n others other

-- ---- want of memory

abbrev is_want : Cause → Bool
is_want cause.Exit = false
is_want cause.HungUp = false
is_want cause.LinkFault = false
is_want cause.LongLine = false
is_want cause.Slow = false
is_want cause.NoThread = false
is_want cause.OutOfMemory = true

abbrev is_want_leave : Entry → Bool
is_want_leave (Join session) = false
is_want_leave (Said session line) = false
is_want_leave (Leave session why) = is_want why
is_want_leave (Publish thread) = false

abbrev is_write_want : WriteStop → Bool
is_write_want stop.Closed = false
is_write_want stop.LinkFault = false
is_write_want stop.OutOfMemory = true

wanted_by : (why : Cause) → is_want why ≡ true → why ≡ cause.OutOfMemory
wanted_by cause.Exit is = absurd (false≢true is)
wanted_by cause.HungUp is = absurd (false≢true is)
wanted_by cause.LinkFault is = absurd (false≢true is)
wanted_by cause.LongLine is = absurd (false≢true is)
wanted_by cause.Slow is = absurd (false≢true is)
wanted_by cause.NoThread is = absurd (false≢true is)
wanted_by cause.OutOfMemory is = refl

leave_wants : (n : ℕ) (leave : Option Cause) → list_any is_want_leave (leave_of n leave) ≡ true → leave ≡ Some cause.OutOfMemory
leave_wants n None is = absurd (false≢true is)
leave_wants n (Some why) is = ap (λ (w : Cause). Some w) (wanted_by why (sym (or-false (is_want why)) ∙ is))

life_wants : (n : ℕ) (lines : List (List ℕ)) (leave : Option Cause)
    → list_any is_want_leave (map (λ (line : List ℕ). Said n line) lines ++ leave_of n leave) ≡ true → leave ≡ Some cause.OutOfMemory
life_wants n [] leave is = leave_wants n leave is
life_wants n (line ∷ lines) leave is = life_wants n lines leave is

-- ---- all along a run

-- A session whose writer told that it had no memory has left, and its leave says so.
record HasWant (s : Side) (entries : List Entry) : Type 0 where
  left : list_any is_write_want s.told ≡ true → s.left ≡ true
  said : list_any is_write_want s.told ≡ true → list_any is_want_leave entries ≡ true

unwanted : (s : Side) (entries : List Entry) → (list_any is_write_want s.told ≡ true → ⊥) → HasWant s entries
unwanted s entries none = record { left = λ is. absurd (none is); said = λ is. absurd (none is) }

-- of one that has not left no such thing was told
here_unwanted : (a : Side) (entries : List Entry) → HasWant a entries → a.left ≡ false → list_any is_write_want a.told ≡ true → ⊥
here_unwanted a entries was stays told = false≢true (sym stays ∙ was.left told)

told_before : (told : List WriteStop) (why : WriteStop) → is_write_want why ≡ false → list_any is_write_want (told ++ why ∷ []) ≡ true
    → list_any is_write_want told ≡ true
told_before told why other is =
    sym (or-false (list_any is_write_want told))
    ∙ ap (λ (b : Bool). list_any is_write_want told || (b || false)) (sym other)
    ∙ sym (list_any-append is_write_want told (why ∷ [])) ∙ is

none_told : (s : Side) → s.told ≡ [] → list_any is_write_want s.told ≡ true → ⊥
none_told s none is = false≢true (ap (list_any is_write_want) (sym none) ∙ is)

-- where nothing else was told
same_told : (a b : Side) (entries more : List Entry) → a.left ≡ false → b.told ≡ a.told → HasWant a entries → HasWant b more
same_told a b entries more stays told was =
    unwanted b more (λ is. here_unwanted a entries was stays (ap (list_any is_write_want) (sym told) ∙ is))

told_wants : (n : ℕ) (why : WriteStop) (a : Side) (entries : List Entry) → Can (IsTold why) a → HasWant a entries
    → HasWant (after (IsTold why) a) (entries ++ entries_of n (IsTold why))
told_wants n stop.Closed a entries can was =
    unwanted (after (IsTold stop.Closed) a) (entries ++ []) (λ is. here_unwanted a entries was can.stays (told_before a.told stop.Closed refl is))
told_wants n stop.LinkFault a entries can was =
    unwanted (after (IsTold stop.LinkFault) a) (entries ++ Leave n cause.LinkFault ∷ [])
    (λ is. here_unwanted a entries was can.stays (told_before a.told stop.LinkFault refl is))
told_wants n stop.OutOfMemory a entries can was = record {
  left = λ is. refl;
  said = λ is. last_passes is_want_leave entries (Leave n cause.OutOfMemory) refl;
}

wants_happen : (n : ℕ) (h : Happening) (a : Side) (entries : List Entry) → Can h a → HasWant a entries → HasWant (after h a) (entries ++ entries_of n h)
wants_happen n (IsSeated s refused) a entries can was = unwanted s (entries ++ entries_of n (IsSeated s refused)) (none_told s can.fresh.1)
wants_happen n (Hears item) a entries can was =
    same_told a (after (Hears item) a) entries (entries ++ entries_of n (Hears item)) can.0.stays refl was
wants_happen n (Misses item) a entries can was =
    same_told a (after (Misses item) a) entries (entries ++ entries_of n (Misses item)) can.stays refl was
wants_happen n (IsTold why) a entries can was = told_wants n why a entries can was
wants_happen n IsSlow a entries can was = same_told a (after IsSlow a) entries (entries ++ entries_of n IsSlow) can.0.stays refl was

same_want : (a b : Side) (entries : List Entry) → b.told ≡ a.told → b.left ≡ a.left → HasWant a entries → HasWant b entries
same_want a b entries told left was = record {
  left = λ is. left ∙ was.left (ap (list_any is_write_want) (sym told) ∙ is);
  said = λ is. was.said (ap (list_any is_write_want) (sym told) ∙ is);
}

wants_handed : (bytes : List ℕ) (a b : Side) (entries : List Entry) → IsHanded bytes a b → HasWant a entries → HasWant b entries
wants_handed bytes a b entries (inl put) was =
    same_want a b entries (ap (λ (s : Side). s.told) put.is) (ap (λ (s : Side). s.left) put.is) was
wants_handed bytes a b entries (inr (inl out)) was =
    same_want a b entries (ap (λ (s : Side). s.told) out.is) (ap (λ (s : Side). s.left) out.is) was
wants_handed bytes a b entries (inr (inr past)) was =
    same_want a b entries (ap (λ (s : Side). s.told) past.is) (ap (λ (s : Side). s.left) past.is) was

wants_kept : (n : ℕ) (Shown : List Session → List Entry → Type 0) → IsKept n Shown (λ s mine messages. HasWant s mine)
wants_kept n Shown = record {
  happens = λ h a mine messages can so. wants_happen n h a mine can so;
  hangs_up = λ there list a b mine messages shown up so.
      same_told a b mine (mine ++ own n list) up.here.stays (ap (λ (s : Side). s.told) up.is) so;
  handed = λ bytes a b mine messages q seated did so. wants_handed bytes a b mine did so;
}

wants_at_end : (p : Plan) (s : State) (lists : List (List Entry)) (old new : View) (k : ℕ) → IsServedRun p s lists old new
    → HasWant (side new.seats k) (own (k + 1) (all_entries lists))
wants_at_end p s lists old new k run =
    at_end {P = λ lists here mine messages. HasWant here mine} p s lists old new k
    (always k p s (λ here mine messages. HasWant here mine) (λ Shown. wants_kept (k + 1) Shown)) run
    (unwanted nobody [] (λ is. false≢true is))

-- ---- the law

some_none : (q : Queues) → Some q ≡ None → ⊥
some_none q is = cc

left_for_want : (n : ℕ) (here : Side) (mine : List Entry) → HasLived n here mine → HasWant here mine → here.told ≡ stop.OutOfMemory ∷ []
    → (lines : List (List ℕ)) × (mine ≡ life n lines (Some cause.OutOfMemory))
left_for_want n here mine lived want told =
    let why : lived.leave ≡ Some cause.OutOfMemory =
    life_wants n lived.lines lived.leave (ap (list_any is_want_leave) (sym lived.entries_are) ∙ want.said (ap (list_any is_write_want) told)) in
    (lived.lines, lived.entries_are ∙ ap (λ (o : Option Cause). life n lived.lines o) why)

pub wants_said : WantsAreSaid
wants_said p s lists old new k queues run seated told = ⊎_elim
    (λ none. absurd (some_none queues (sym seated ∙ ap (λ (t : Side). t.queues) none.0)))
    (λ lived. left_for_want (k + 1) (side new.seats k) (own (k + 1) (all_entries lists)) lived (wants_at_end p s lists old new k run) told)
    (lives_at_end p s lists old new k run)
