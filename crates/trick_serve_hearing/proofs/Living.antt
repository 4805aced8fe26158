-- What happens to a session, one thing after another.
use Rattle.std.proofs.Common.{◌≡◌, ◌≢◌, ◌∙◌, inl, inr, ⊎_elim, ℕ, Bool, true, false, cond, eqb, List, [], ◌∷◌, ◌++◌, Option, Some, None, ap, append_assoc, append-nil, refl, subst, sym}
use Rattle.std.proofs.lemmas.Bool.{false≢true}
use Rattle.std.proofs.lemmas.Bool.Decides.{eqb_tells}
use Rattle.std.proofs.lemmas.List.Elements.{filter-append}
use Rattle.trick_base.proofs.Numbers.{equal_to_itself}
use Rattle.trick_model.specs.declared.entry.Cause.{Cause}
use Rattle.trick_model.specs.declared.entry.Cause.TheVariants as cause
use Rattle.trick_model.specs.declared.entry.Entry.{Entry}
use Rattle.trick_model.specs.declared.entry.Entry.TheVariants.{Join, Said, Leave}
use Rattle.trick_model.specs.declared.session.Session.{Session}
use Rattle.trick_serve_hearing.specs.Gathering.{HasListed}
use Rattle.trick_serve_hearing.specs.Life.{Can, Happening, Happens, Hears, IsSeated, IsSlow, IsTold, Lives, Misses, after, entries_of, entries_of_all, is_of, leave_after, leave_by, leave_of, leaves, own, said_of}
use Rattle.trick_serve_hearing.specs.Sides.{Queues, Side}
use Rattle.trick_wire.specs.declared.heard.Heard.{Heard}
use Rattle.trick_wire.specs.declared.heard.Heard.TheVariants as heard

-- ---- what happens, joined

pub happens_join : (early late : List Happening) (a b c : Side) → Happens early a b → Happens late b c → Happens (early ++ late) a c
happens_join [] late a b c one two = subst (λ (s : Side). Happens late s c) one two
happens_join (h ∷ early) late a b c one two = (one.0, happens_join early late (after h a) b c one.1 two)

pub entries_join : (n : ℕ) (early late : List Happening) → entries_of_all n (early ++ late) ≡ entries_of_all n early ++ entries_of_all n late
entries_join n [] late = refl
entries_join n (h ∷ early) late =
    ap (λ (l : List Entry). entries_of n h ++ l) (entries_join n early late)
    ∙ sym (append_assoc (entries_of n h) (entries_of_all n early) (entries_of_all n late))

pub listed_none : (n : ℕ) (s : Side) (list : List Entry) (done : Bool) → HasListed n s s list list done
listed_none n s list done = record { happened = []; happens = refl; listed = λ d. sym (append-nil list) }

-- nothing happened, by a side that did not change
pub listed_same : (n : ℕ) (old new : Side) (before after : List Entry) (done : Bool) → new ≡ old → after ≡ before
    → HasListed n old new before after done
listed_same n old new before after done same list =
    record { happened = []; happens = same; listed = λ d. list ∙ sym (append-nil before) }

-- one thing happened
pub listed_one : (n : ℕ) (h : Happening) (old new : Side) (before late : List Entry) → Can h old → new ≡ after h old
    → late ≡ before ++ entries_of n h → HasListed n old new before late true
listed_one n h old new before late can is list = record {
  happened = h ∷ [];
  happens = (can, is);
  listed = λ d. list ∙ ap (λ (l : List Entry). before ++ l) (sym (append-nil (entries_of n h)));
}

pub listed_join : (n : ℕ) (a b c : Side) (first second third : List Entry) (done : Bool) → HasListed n a b first second true
    → HasListed n b c second third done → HasListed n a c first third done
listed_join n a b c first second third done one two = record {
  happened = one.happened ++ two.happened;
  happens = happens_join one.happened two.happened a b c one.happens two.happens;
  listed = λ d. two.listed d ∙ ap (λ (l : List Entry). l ++ entries_of_all n two.happened) (one.listed refl)
      ∙ append_assoc first (entries_of_all n one.happened) (entries_of_all n two.happened)
      ∙ ap (λ (l : List Entry). first ++ l) (sym (entries_join n one.happened two.happened));
}

-- ---- a session that left

pub some≢none : (q : Queues) → Some q ≢ None
some≢none q is = cc

-- Nothing happens to a session that was seated and has left.
pub left_stays : (hs : List Happening) (a b : Side) (q : Queues) → a.queues ≡ Some q → a.left ≡ true → Happens hs a b → (hs ≡ []) × (b ≡ a)
left_stays [] a b q seated left h = (refl, h)
left_stays (IsSeated s refused ∷ hs) a b q seated left h = absurd (some≢none q (sym seated ∙ ap (λ (s : Side). s.queues) h.0.first))
left_stays (Hears item ∷ hs) a b q seated left h = absurd (false≢true (sym h.0.0.stays ∙ left))
left_stays (Misses item ∷ hs) a b q seated left h = absurd (false≢true (sym h.0.stays ∙ left))
left_stays (IsTold why ∷ hs) a b q seated left h = absurd (false≢true (sym h.0.stays ∙ left))
left_stays (IsSlow ∷ hs) a b q seated left h = absurd (false≢true (sym h.0.0.stays ∙ left))

-- Nothing but a message makes a session slow.
pub slow_stays : (hs : List Happening) (a b : Side) (q : Queues) → a.queues ≡ Some q → Happens hs a b → b.slow ≡ a.slow
slow_stays [] a b q seated h = ap (λ (s : Side). s.slow) h
slow_stays (IsSeated s refused ∷ hs) a b q seated h = absurd (some≢none q (sym seated ∙ ap (λ (s : Side). s.queues) h.0.first))
slow_stays (Hears item ∷ hs) a b q seated h = slow_stays hs (after (Hears item) a) b q seated h.1
slow_stays (Misses item ∷ hs) a b q seated h = slow_stays hs (after (Misses item) a) b q seated h.1
slow_stays (IsTold why ∷ hs) a b q seated h = slow_stays hs (after (IsTold why) a) b q seated h.1
slow_stays (IsSlow ∷ hs) a b q seated h = slow_stays hs (after IsSlow a) b q seated h.1

-- ---- entries of one session

pub own_self_one : (n : ℕ) (entry : Entry) → is_of n entry ≡ true → own n (entry ∷ []) ≡ entry ∷ []
own_self_one n entry is = ap (λ (b : Bool). cond b (entry ∷ []) []) is

pub own_other_one : (n : ℕ) (entry : Entry) → is_of n entry ≡ false → own n (entry ∷ []) ≡ []
own_other_one n entry is = ap (λ (b : Bool). cond b (entry ∷ []) []) is

pub other : (n m : ℕ) → m ≢ n → eqb m n ≡ false
other n m apart = ⊎_elim (λ e. absurd (apart e.1)) (λ e. e.0) (eqb_tells m n)

pub own_pair : (n : ℕ) (a b : List Entry) (c d : List Entry) → own n a ≡ c → own n b ≡ d → own n (a ++ b) ≡ c ++ d
own_pair n a b c d one two = filter-append (is_of n) a b ∙ (λ i. one i ++ two i)

pub own_leave : (n : ℕ) (why : Option Cause) → own n (leave_of n why) ≡ leave_of n why
own_leave n None = refl
own_leave n (Some why) = own_self_one n (Leave n why) (equal_to_itself n)

pub own_leave_other : (n m : ℕ) (why : Option Cause) → m ≢ n → own n (leave_of m why) ≡ []
own_leave_other n m None apart = refl
own_leave_other n m (Some why) apart = own_other_one n (Leave m why) (other n m apart)

own_said : (n : ℕ) (item : Heard) → own n (said_of n item) ≡ said_of n item
own_said n (heard.Line line) = own_self_one n (Said n line) (equal_to_itself n)
own_said n heard.End = refl
own_said n heard.LongLine = refl
own_said n heard.LinkFault = refl
own_said n heard.OutOfMemory = refl

own_said_other : (n m : ℕ) (item : Heard) → m ≢ n → own n (said_of m item) ≡ []
own_said_other n m (heard.Line line) apart = own_other_one n (Said m line) (other n m apart)
own_said_other n m heard.End apart = refl
own_said_other n m heard.LongLine apart = refl
own_said_other n m heard.LinkFault apart = refl
own_said_other n m heard.OutOfMemory apart = refl

own_refused : (n : ℕ) (refused : Bool) (why : Cause) → own n (cond refused (Leave n why ∷ []) []) ≡ cond refused (Leave n why ∷ []) []
own_refused n true why = own_self_one n (Leave n why) (equal_to_itself n)
own_refused n false why = refl

own_refused_other : (n m : ℕ) (refused : Bool) (why : Cause) → m ≢ n → own n (cond refused (Leave m why ∷ []) []) ≡ []
own_refused_other n m true why apart = own_other_one n (Leave m why) (other n m apart)
own_refused_other n m false why apart = refl

own_happening : (n : ℕ) (h : Happening) → own n (entries_of n h) ≡ entries_of n h
own_happening n (IsSeated s refused) =
    own_pair n (Join n ∷ []) (cond refused (Leave n cause.NoThread ∷ []) []) (Join n ∷ []) (cond refused (Leave n cause.NoThread ∷ []) [])
    (own_self_one n (Join n) (equal_to_itself n)) (own_refused n refused cause.NoThread)
own_happening n (Hears item) = own_pair n (said_of n item) (leave_of n (leave_by item)) (said_of n item) (leave_of n (leave_by item)) (own_said n item) (own_leave n (leave_by item))
own_happening n (Misses item) = own_self_one n (Leave n cause.OutOfMemory) (equal_to_itself n)
own_happening n (IsTold why) = own_leave n (leave_after why)
own_happening n IsSlow = own_self_one n (Leave n cause.Slow) (equal_to_itself n)

own_happening_other : (n m : ℕ) (h : Happening) → m ≢ n → own n (entries_of m h) ≡ []
own_happening_other n m (IsSeated s refused) apart =
    own_pair n (Join m ∷ []) (cond refused (Leave m cause.NoThread ∷ []) []) [] []
    (own_other_one n (Join m) (other n m apart)) (own_refused_other n m refused cause.NoThread apart)
own_happening_other n m (Hears item) apart =
    own_pair n (said_of m item) (leave_of m (leave_by item)) [] [] (own_said_other n m item apart) (own_leave_other n m (leave_by item) apart)
own_happening_other n m (Misses item) apart = own_other_one n (Leave m cause.OutOfMemory) (other n m apart)
own_happening_other n m (IsTold why) apart = own_leave_other n m (leave_after why) apart
own_happening_other n m IsSlow apart = own_other_one n (Leave m cause.Slow) (other n m apart)

pub own_all : (n : ℕ) (hs : List Happening) → own n (entries_of_all n hs) ≡ entries_of_all n hs
own_all n [] = refl
own_all n (h ∷ hs) = own_pair n (entries_of n h) (entries_of_all n hs) (entries_of n h) (entries_of_all n hs) (own_happening n h) (own_all n hs)

pub own_all_other : (n m : ℕ) (hs : List Happening) → m ≢ n → own n (entries_of_all m hs) ≡ []
own_all_other n m [] apart = refl
own_all_other n m (h ∷ hs) apart =
    own_pair n (entries_of m h) (entries_of_all m hs) [] [] (own_happening_other n m h apart) (own_all_other n m hs apart)

-- a list with entries of session m more
pub own_more : (m : ℕ) (hs : List Happening) (before list : List Entry) → list ≡ before ++ entries_of_all m hs
    → own m list ≡ own m before ++ entries_of_all m hs
own_more m hs before list is =
    ap (own m) is ∙ own_pair m before (entries_of_all m hs) (own m before) (entries_of_all m hs) refl (own_all m hs)

pub own_more_other : (n m : ℕ) (hs : List Happening) (before list : List Entry) → m ≢ n → list ≡ before ++ entries_of_all m hs
    → own n list ≡ own n before
own_more_other n m hs before list apart is =
    ap (own n) is ∙ own_pair n before (entries_of_all m hs) (own n before) [] refl (own_all_other n m hs apart) ∙ append-nil (own n before)

-- ---- one place

pub lives_none : (n : ℕ) (there : List Session) (s : Side) → Lives n there s s []
lives_none n there s = inr (record { happened = []; happens = refl; entries = refl })

pub lives_more : (n : ℕ) (there : List Session) (a b c : Side) (mine : List Entry) (hs : List Happening) → Lives n there a b mine
    → b.left ≡ false → Happens hs b c → Lives n there a c (mine ++ entries_of_all n hs)
lives_more n there a b c mine hs (inl up) stays more = absurd (false≢true (sym stays ∙ ap (λ (s : Side). s.left) up.is))
lives_more n there a b c mine hs (inr goes) stays more = inr (record {
  happened = goes.happened ++ hs;
  happens = happens_join goes.happened hs a b c goes.happens more;
  entries = ap (λ (l : List Entry). l ++ entries_of_all n hs) goes.entries ∙ sym (entries_join n goes.happened hs);
})

pub leaves_if : (b : Bool) (why : Cause) → leaves (cond b (Some why) None) ≡ b
leaves_if true why = refl
leaves_if false why = refl
