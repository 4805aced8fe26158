-- The rules of entries, as a list grows.
use Rattle.std.proofs.Common.{◌≡◌, ◌∙◌, ℕ, Bool, true, false, eqb, List, [], ◌∷◌, ◌++◌, Option, Some, None, ap, append_assoc, append-nil, refl, subst, sym}
use Rattle.std.proofs.lemmas.Bool.{and_from, and_parts, false≢true}
use Rattle.std.proofs.lemmas.List.Folds.{list_any-append}
use Rattle.std.specs.List.{filter, list_any}
use Rattle.std.specs.Prelude.{not, ◌&&◌, ◌||◌}
use Rattle.trick_model.specs.Journal.{is_entry, is_line, is_of_session, is_session, may_follow}
use Rattle.trick_model.specs.declared.entry.Cause.{Cause}
use Rattle.trick_model.specs.declared.entry.Entry.{Entry}
use Rattle.trick_model.specs.declared.entry.Entry.TheVariants.{Join, Said, Leave, Publish}
use Rattle.trick_serve_hearing.proofs.Living.{left_stays}
use Rattle.trick_serve_hearing.specs.Life.{Can, Happening, Happens, Hears, IsSeated, IsSlow, IsTold, Misses, after, entries_of, entries_of_all, leave_after, leave_by, leave_of, leaves}
use Rattle.trick_serve_hearing.specs.Rules.{Keeps}
use Rattle.trick_serve_hearing.specs.Sides.{IsHere, Side, nobody}
use Rattle.trick_exec_sources.specs.Turns.{Sessions, after_entries, after_entry, is_among, may_all_come, may_come}
use Rattle.trick_wire.specs.declared.heard.Heard.TheVariants as heard

-- ---- one entry more

is_other : Entry → Bool
is_other entry = not (is_of_session entry)

follows : (x e : Entry) → is_of_session x ≡ true → may_follow x e ≡ true
follows (Join session) e is = refl
follows (Said session line) e is = refl
follows (Leave session cause) e is = refl
follows (Publish thread) e is = absurd (false≢true is)

not_other : (b c : Bool) → (not b || c) ≡ false → (b ≡ true) × (c ≡ false)
not_other true c is = (refl, is)
not_other false c is = absurd (false≢true (sym is))

after_more : (list : List Entry) (s : Sessions) (e : Entry) → after_entries (list ++ e ∷ []) s ≡ after_entry e (after_entries list s)
after_more [] s e = refl
after_more (x ∷ list) s e = after_more list (after_entry x s) e

may_more : (list : List Entry) (s : Sessions) (e : Entry) → may_all_come list s ≡ true
    → list_any (λ entry. not (is_of_session entry)) list ≡ false → is_entry e ≡ true → may_come e (after_entries list s) ≡ true
    → may_all_come (list ++ e ∷ []) s ≡ true
may_more [] s e may only right comes = and_from (is_entry e) (may_come e s) right comes
may_more (x ∷ []) s e may only right comes =
    let parts = and_parts (is_entry x) (may_come x s) may in
    let mine = not_other (is_of_session x) false only in
    and_from (is_entry x) _ parts.0 (and_from (may_come x s) _ parts.1 (and_from (may_follow x e) _ (follows x e mine.0)
    (and_from (is_entry e) (may_come e (after_entry x s)) right comes)))
may_more (x ∷ y ∷ list) s e may only right comes =
    let one = and_parts (is_entry x) (may_come x s && (may_follow x y && may_all_come (y ∷ list) (after_entry x s))) may in
    let two = and_parts (may_come x s) (may_follow x y && may_all_come (y ∷ list) (after_entry x s)) one.1 in
    let three = and_parts (may_follow x y) (may_all_come (y ∷ list) (after_entry x s)) two.1 in
    let mine = not_other (is_of_session x) (list_any (λ entry. not (is_of_session entry)) (y ∷ list)) only in
    and_from (is_entry x) _ one.0 (and_from (may_come x s) _ two.0 (and_from (may_follow x y) _ three.0
    (may_more (y ∷ list) (after_entry x s) e three.1 mine.1 right comes)))

only_more : (list : List Entry) (e : Entry) → is_of_session e ≡ true → list_any (λ entry. not (is_of_session entry)) list ≡ false
    → list_any (λ entry. not (is_of_session entry)) (list ++ e ∷ []) ≡ false
only_more list e is only =
    list_any-append (λ entry. not (is_of_session entry)) list (e ∷ []) ∙ (λ i. only i || (not (is i) || false))

pub keeps_none : (s : Sessions) → Keeps s [] s
keeps_none s = record { may = refl; now = refl; only = refl }

pub keeps_more : (old mid new : Sessions) (list : List Entry) (e : Entry) → Keeps old list mid → is_of_session e ≡ true → is_entry e ≡ true
    → may_come e mid ≡ true → new ≡ after_entry e mid → Keeps old (list ++ e ∷ []) new
keeps_more old mid new list e so mine right comes is = record {
  may = may_more list old e so.may so.only right (subst (λ (s : Sessions). may_come e s ≡ true) so.now comes);
  now = is ∙ ap (after_entry e) so.now ∙ sym (after_more list old e);
  only = only_more list e mine so.only;
}

-- ---- what happens to a session that is live

-- the sessions after one left, or not
abbrev pub without_if : Bool → ℕ → Sessions → Sessions
without_if true n s = record s { live = filter (λ m. not (eqb m n)) s.live }
without_if false n s = s

pub keeps_leave : (n : ℕ) (old mid : Sessions) (list : List Entry) (why : Option Cause) → is_session n ≡ true → is_among n mid.live ≡ true
    → Keeps old list mid → Keeps old (list ++ leave_of n why) (without_if (leaves why) n mid)
keeps_leave n old mid list None right among so = subst (λ (l : List Entry). Keeps old l mid) (sym (append-nil list)) so
keeps_leave n old mid list (Some why) right among so = keeps_more old mid _ list (Leave n why) so refl right among refl

keeps_said : (n : ℕ) (old mid : Sessions) (list : List Entry) (line : List ℕ) → is_session n ≡ true → is_line line ≡ true → is_among n mid.live ≡ true
    → Keeps old list mid → Keeps old (list ++ Said n line ∷ []) mid
keeps_said n old mid list line right whole among so =
    keeps_more old mid mid list (Said n line) so refl (and_from (is_session n) (is_line line) right whole) among refl

keeps_one : (n : ℕ) (old mid : Sessions) (list : List Entry) (h : Happening) (a : Side) → is_session n ≡ true → is_among n mid.live ≡ true
    → IsHere a → Can h a → Keeps old list mid → Keeps old (list ++ entries_of n h) (without_if (after h a).left n mid)
keeps_one n old mid list (IsSeated s refused) a right among here can so = absurd (sits can.first)
  where
    sits : a ≡ nobody → ⊥
    sits is = let one = here.seated in let two = ap (λ (s : Side). s.queues) is in cc
keeps_one n old mid list (Hears (heard.Line line)) a right among here can so =
    subst (λ (l : List Entry). Keeps old l (without_if (leaves (leave_by (heard.Line line))) n mid)) (append_assoc list (Said n line ∷ []) (leave_of n (leave_by (heard.Line line))))
    (keeps_leave n old mid (list ++ Said n line ∷ []) (leave_by (heard.Line line)) right among (keeps_said n old mid list line right can.1 among so))
keeps_one n old mid list (Hears heard.End) a right among here can so = keeps_leave n old mid list None right among so
keeps_one n old mid list (Hears heard.LongLine) a right among here can so = keeps_leave n old mid list (leave_by heard.LongLine) right among so
keeps_one n old mid list (Hears heard.LinkFault) a right among here can so = keeps_leave n old mid list (leave_by heard.LinkFault) right among so
keeps_one n old mid list (Hears heard.OutOfMemory) a right among here can so = keeps_leave n old mid list (leave_by heard.OutOfMemory) right among so
keeps_one n old mid list (Misses item) a right among here can so = keeps_leave n old mid list (Some _) right among so
keeps_one n old mid list (IsTold why) a right among here can so = keeps_leave n old mid list (leave_after why) right among so
keeps_one n old mid list IsSlow a right among here can so = keeps_leave n old mid list (Some _) right among so

-- the queues stay
queues_stay : (h : Happening) (a : Side) → IsHere a → Can h a → (after h a).queues ≡ a.queues
queues_stay (IsSeated s refused) a here can = absurd (sits can.first)
  where
    sits : a ≡ nobody → ⊥
    sits is = let one = here.seated in let two = ap (λ (s : Side). s.queues) is in cc
queues_stay (Hears item) a here can = refl
queues_stay (Misses item) a here can = refl
queues_stay (IsTold why) a here can = refl
queues_stay IsSlow a here can = refl

-- after the first thing, by whether the session left
keeps_rest : (n : ℕ) (old mid : Sessions) (list : List Entry) (h : Happening) (hs : List Happening) (a b : Side) → is_session n ≡ true
    → is_among n mid.live ≡ true → IsHere a → Happens (h ∷ hs) a b → Keeps old list mid → (left : Bool) → (after h a).left ≡ left
    → ((after h a).left ≡ false → Keeps old ((list ++ entries_of n h) ++ entries_of_all n hs) (without_if b.left n mid))
    → Keeps old (list ++ entries_of_all n (h ∷ hs)) (without_if b.left n mid)
keeps_rest n old mid list h hs a b right among here happens so true left more =
    let seated : (after h a).queues ≡ Some here.queues = queues_stay h a here happens.0 ∙ here.seated in
    let stuck = left_stays hs (after h a) b here.queues seated left happens.1 in
    let same : entries_of_all n hs ≡ [] = ap (entries_of_all n) stuck.0 in
    subst (λ (l : List Entry). Keeps old (list ++ l) (without_if b.left n mid)) (sym (append-nil (entries_of n h)) ∙ ap (λ (l : List Entry). entries_of n h ++ l) (sym same))
    (subst (λ (s : Side). Keeps old (list ++ entries_of n h) (without_if s.left n mid)) (sym stuck.1)
    (keeps_one n old mid list h a right among here happens.0 so))
keeps_rest n old mid list h hs a b right among here happens so false stays more =
    subst (λ (l : List Entry). Keeps old l (without_if b.left n mid)) (append_assoc list (entries_of n h) (entries_of_all n hs)) (more stays)

-- All that happens to a session that is live keeps the rules; after it the session is live unless it left.
pub keeps_all : (n : ℕ) (old mid : Sessions) (list : List Entry) (hs : List Happening) (a b : Side) → is_session n ≡ true → is_among n mid.live ≡ true
    → IsHere a → Happens hs a b → Keeps old list mid → Keeps old (list ++ entries_of_all n hs) (without_if b.left n mid)
keeps_all n old mid list [] a b right among here happens so =
    subst (λ (l : List Entry). Keeps old l (without_if b.left n mid)) (sym (append-nil list))
    (subst (λ (left : Bool). Keeps old list (without_if left n mid)) (sym (ap (λ (s : Side). s.left) happens ∙ here.stays)) so)
keeps_all n old mid list (h ∷ hs) a b right among here happens so =
    keeps_rest n old mid list h hs a b right among here happens so (after h a).left refl
    (λ stays. keeps_all n old mid (list ++ entries_of n h) hs (after h a) b right among
    (record { queues = here.queues; seated = queues_stay h a here happens.0 ∙ here.seated; stays = stays }) happens.1
    (subst (λ (left : Bool). Keeps old (list ++ entries_of n h) (without_if left n mid)) stays
    (keeps_one n old mid list h a right among here happens.0 so)))
