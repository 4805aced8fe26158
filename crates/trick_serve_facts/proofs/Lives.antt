-- The entries of one session, all along a run.
use Rattle.std.proofs.Common.{◌≡◌, ◌≢◌, ◌∙◌, inl, inr, ⊎_elim, ℕ, Bool, true, false, cond, List, [], ◌∷◌, ◌++◌, Option, Some, None, ap, append_assoc, append-nil, map, refl, subst, sym}
use Rattle.std.proofs.Math.Bool.{or-true}
use Rattle.std.proofs.lemmas.Bool.{false≢true}
use Rattle.std.proofs.lemmas.List.{map-append}
use Rattle.std.proofs.lemmas.List.Elements.{All-nil, All-push}
use Rattle.std.proofs.lemmas.List.Folds.{list_any-append}
use Rattle.std.specs.List.{list_any}
use Rattle.std.specs.Prelude.{◌||◌, IsTrue}
use Rattle.trick_model.specs.declared.entry.Cause.{Cause}
use Rattle.trick_model.specs.declared.entry.Cause.TheVariants as cause
use Rattle.trick_model.specs.declared.entry.Entry.{Entry}
use Rattle.trick_model.specs.declared.entry.Entry.TheVariants.{Join, Said, Leave}
use Rattle.trick_model.specs.declared.session.Session.{Session}
use Rattle.trick_serve_hearing.specs.Ended.{has_end}
use Rattle.trick_serve_hearing.specs.Life.{Can, CanSit, Happening, Hears, HangsUp, IsSeated, IsSlow, IsTold, Misses, after, entries_of, is_exit, leave_by, leave_of, leaves, own, said_of}
use Rattle.trick_serve_hearing.specs.Messages.{IsHanded}
use Rattle.trick_serve_hearing.specs.Sides.{Queues, Side, nobody}
use Rattle.trick_serve_facts.proofs.Keeping.{IsKept}
use Rattle.trick_serve_facts.specs.Life.{AskBy, AskNothing, HasEntries, HasLived, HasReason, is_fault, is_long_line, is_write_fault, life, lines_in}
use Rattle.trick_wire.specs.declared.heard.Heard.{Heard}
use Rattle.trick_wire.specs.declared.heard.Heard.TheVariants as heard
use Rattle.trick_wire.specs.declared.heard.WriteStop.{WriteStop}
use Rattle.trick_wire.specs.declared.heard.WriteStop.TheVariants as stop

-- ---- what was heard

pub lines_join : (early late : List Heard) → lines_in (early ++ late) ≡ lines_in early ++ lines_in late
lines_join [] late = refl
lines_join (heard.Line line ∷ early) late = ap (λ (l : List (List ℕ)). line ∷ l) (lines_join early late)
lines_join (heard.End ∷ early) late = lines_join early late
lines_join (heard.LongLine ∷ early) late = lines_join early late
lines_join (heard.LinkFault ∷ early) late = lines_join early late
lines_join (heard.OutOfMemory ∷ early) late = lines_join early late

pub last_passes : {X : Type 0} → (test : X → Bool) (items : List X) (item : X) → test item ≡ true → list_any test (items ++ item ∷ []) ≡ true
last_passes test items item passes =
    list_any-append test items (item ∷ []) ∙ ap (λ (b : Bool). list_any test items || (b || false)) passes ∙ or-true (list_any test items)

-- ---- leaves

no_leave : (leave : Option Cause) → leaves leave ≡ false → leave ≡ None
no_leave None stays = refl
no_leave (Some why) stays = absurd (false≢true (sym stays))

some_none : (q : Queues) → Some q ≡ None → ⊥
some_none q is = cc

none_some : (why : Cause) → None ≡ Some why → ⊥
none_some why is = cc

asks_nothing : (lines : List (List ℕ)) → AskNothing lines → AskNothing (lines ++ [])
asks_nothing lines all = subst (λ (l : List (List ℕ)). AskNothing l) (sym (append-nil lines)) all

asks_more : (lines : List (List ℕ)) (line : List ℕ) (b : Bool) → is_exit line ≡ b → AskNothing lines
    → AskBy (cond b (Some cause.Exit) None) (lines ++ line ∷ [])
asks_more lines line true is all = record { before = lines; line = line; are = refl; asks = is; others = all }
asks_more lines line false is all = All-push (λ (l : List ℕ). is_exit l ≡ false) lines line all is

-- what was heard and told stays a reason
same_reason : (leave : Option Cause) (a b : Side) → b.queues ≡ a.queues → b.heard ≡ a.heard → b.told ≡ a.told → (a.slow ≡ true → b.slow ≡ true)
    → HasReason leave a → HasReason leave b
same_reason None a b queues_are heard_is told_is slow_is so = so
same_reason (Some cause.Exit) a b queues_are heard_is told_is slow_is so = so
same_reason (Some cause.HungUp) a b queues_are heard_is told_is slow_is so = subst (λ (l : List Heard). IsTrue (has_end l)) (sym heard_is) so
same_reason (Some cause.LinkFault) a b queues_are heard_is told_is slow_is so = ⊎_elim
    (λ x. inl (subst (λ (l : List Heard). IsTrue (list_any is_fault l)) (sym heard_is) x))
    (λ x. inr (subst (λ (l : List WriteStop). IsTrue (list_any is_write_fault l)) (sym told_is) x))
    so
same_reason (Some cause.LongLine) a b queues_are heard_is told_is slow_is so = subst (λ (l : List Heard). IsTrue (list_any is_long_line l)) (sym heard_is) so
same_reason (Some cause.Slow) a b queues_are heard_is told_is slow_is so = slow_is so
same_reason (Some cause.NoThread) a b queues_are heard_is told_is slow_is so = record { queues = so.queues; seated = queues_are ∙ so.seated; refused = so.refused }
same_reason (Some cause.OutOfMemory) a b queues_are heard_is told_is slow_is so = so

-- ---- one step of a session that is here

life_more : (n : ℕ) (lines more : List (List ℕ)) (leave : Option Cause)
    → life n lines None ++ (map (λ (line : List ℕ). Said n line) more ++ leave_of n leave) ≡ life n (lines ++ more) leave
life_more n lines more leave =
    let say : List ℕ → Entry = λ (line : List ℕ). Said n line in
    ap (λ (l : List Entry). Join n ∷ (l ++ (map say more ++ leave_of n leave))) (append-nil (map say lines))
    ∙ ap (λ (l : List Entry). Join n ∷ l) (sym (append_assoc (map say lines) (map say more) (leave_of n leave)))
    ∙ ap (λ (l : List Entry). Join n ∷ (l ++ leave_of n leave)) (sym (map-append say lines more))

-- What a step of one that has not left adds.
record Adds (n : ℕ) (a b : Side) (extra : List Entry) (lines : List (List ℕ)) : Type 0 where
  more : List (List ℕ)
  missed : List (List ℕ)
  leave : Option Cause
  extra_is : extra ≡ map (λ (line : List ℕ). Said n line) more ++ leave_of n leave
  queues : b.queues ≡ a.queues
  heard_is : lines_in b.heard ≡ lines_in a.heard ++ (more ++ missed)
  missing : leave ≢ Some cause.OutOfMemory → missed ≡ []
  left : b.left ≡ leaves leave
  asks : AskNothing lines → AskBy leave (lines ++ more)
  reason : HasReason leave b

adds_lived : (n : ℕ) (a b : Side) (mine extra : List Entry) (was : HasLived n a mine) → a.left ≡ false → Adds n a b extra was.lines
    → HasLived n b (mine ++ extra)
adds_lived n a b mine extra was stays adds =
    let none : was.leave ≡ None = no_leave was.leave (sym was.left ∙ stays) in
    let unmissed : was.missed ≡ [] = was.missing (λ is. none_some cause.OutOfMemory (sym none ∙ is)) in
    record {
      queues = was.queues;
      seated = adds.queues ∙ was.seated;
      lines = was.lines ++ adds.more;
      missed = adds.missed;
      leave = adds.leave;
      entries_are =
          (λ i. was.entries_are i ++ adds.extra_is i)
          ∙ ap (λ (o : Option Cause). life n was.lines o ++ (map (λ (line : List ℕ). Said n line) adds.more ++ leave_of n adds.leave)) none
          ∙ life_more n was.lines adds.more adds.leave;
      heard_are =
          adds.heard_is
          ∙ ap (λ (l : List (List ℕ)). l ++ (adds.more ++ adds.missed)) (was.heard_are ∙ ap (λ (l : List (List ℕ)). was.lines ++ l) unmissed ∙ append-nil was.lines)
          ∙ sym (append_assoc was.lines adds.more adds.missed);
      missing = adds.missing;
      left = adds.left;
      asks = adds.asks (subst (λ (o : Option Cause). AskBy o was.lines) none was.asks);
      reason = adds.reason;
    }

-- a line was taken
line_adds : (n : ℕ) (line : List ℕ) (a : Side) (lines : List (List ℕ)) (b : Bool) → is_exit line ≡ b
    → Adds n a (after (Hears (heard.Line line)) a) (entries_of n (Hears (heard.Line line))) lines
line_adds n line a lines b is = record {
  more = line ∷ [];
  missed = [];
  leave = cond b (Some cause.Exit) None;
  extra_is = ap (λ (c : Bool). Said n line ∷ leave_of n (cond c (Some cause.Exit) None)) is;
  queues = refl;
  heard_is = lines_join a.heard (heard.Line line ∷ []);
  missing = λ other. refl;
  left = ap (λ (c : Bool). leaves (cond c (Some cause.Exit) None)) is;
  asks = λ none. asks_more lines line b is none;
  reason = asked b (after (Hears (heard.Line line)) a);
}
  where
    asked : (c : Bool) (s : Side) → HasReason (cond c (Some cause.Exit) None) s
    asked true s = tt
    asked false s = tt

-- no line was taken
still : (n : ℕ) (a b : Side) (lines : List (List ℕ)) (leave : Option Cause) → b.queues ≡ a.queues → lines_in b.heard ≡ lines_in a.heard
    → b.left ≡ leaves leave → (AskNothing lines → AskBy leave lines) → HasReason leave b → Adds n a b (leave_of n leave) lines
still n a b lines leave queues heard_is left asks reason = record {
  more = [];
  missed = [];
  leave = leave;
  extra_is = refl;
  queues = queues;
  heard_is = heard_is ∙ sym (append-nil (lines_in a.heard));
  missing = λ other. refl;
  left = left;
  asks = λ none. subst (λ (l : List (List ℕ)). AskBy leave l) (sym (append-nil lines)) (asks none);
  reason = reason;
}

mark_adds : (n : ℕ) (item : Heard) (a : Side) (lines : List (List ℕ)) → lines_in (item ∷ []) ≡ [] → said_of n item ≡ []
    → (AskNothing lines → AskBy (leave_by item) lines) → HasReason (leave_by item) (after (Hears item) a)
    → Adds n a (after (Hears item) a) (entries_of n (Hears item)) lines
mark_adds n item a lines no_line unsaid asks reason =
    subst (λ (l : List Entry). Adds n a (after (Hears item) a) (l ++ leave_of n (leave_by item)) lines) (sym unsaid)
    (still n a (after (Hears item) a) lines (leave_by item) refl
    (lines_join a.heard (item ∷ []) ∙ ap (λ (l : List (List ℕ)). lines_in a.heard ++ l) no_line ∙ append-nil (lines_in a.heard))
    refl asks reason)

hears_adds : (n : ℕ) (item : Heard) (a : Side) (lines : List (List ℕ)) → Adds n a (after (Hears item) a) (entries_of n (Hears item)) lines
hears_adds n (heard.Line line) a lines = line_adds n line a lines (is_exit line) refl
hears_adds n heard.End a lines = mark_adds n heard.End a lines refl refl (λ none. none) tt
hears_adds n heard.LongLine a lines =
    mark_adds n heard.LongLine a lines refl refl (λ none. none) (last_passes is_long_line a.heard heard.LongLine refl)
hears_adds n heard.LinkFault a lines =
    mark_adds n heard.LinkFault a lines refl refl (λ none. none) (inl (last_passes is_fault a.heard heard.LinkFault refl))
hears_adds n heard.OutOfMemory a lines = mark_adds n heard.OutOfMemory a lines refl refl (λ none. none) tt

misses_adds : (n : ℕ) (item : Heard) (a : Side) (lines : List (List ℕ)) → Adds n a (after (Misses item) a) (entries_of n (Misses item)) lines
misses_adds n item a lines = record {
  more = [];
  missed = lines_in (item ∷ []);
  leave = Some cause.OutOfMemory;
  extra_is = refl;
  queues = refl;
  heard_is = lines_join a.heard (item ∷ []);
  missing = λ other. absurd (other refl);
  left = refl;
  asks = λ none. asks_nothing lines none;
  reason = tt;
}

told_adds : (n : ℕ) (why : WriteStop) (a : Side) (lines : List (List ℕ)) → Adds n a (after (IsTold why) a) (entries_of n (IsTold why)) lines
told_adds n stop.Closed a lines = still n a (after (IsTold stop.Closed) a) lines None refl refl refl (λ none. none) tt
told_adds n stop.LinkFault a lines = still n a (after (IsTold stop.LinkFault) a) lines (Some cause.LinkFault) refl refl refl (λ none. none)
    (inr (last_passes is_write_fault a.told stop.LinkFault refl))
told_adds n stop.OutOfMemory a lines = still n a (after (IsTold stop.OutOfMemory) a) lines (Some cause.OutOfMemory) refl refl refl (λ none. none) tt

-- ---- the first step

seated_reason : (refused : Bool) (s : Side) (q : Queues) → s.queues ≡ Some q → q.refused ≡ refused → HasReason (cond refused (Some cause.NoThread) None) s
seated_reason true s q seated is = record { queues = q; seated = seated; refused = is }
seated_reason false s q seated is = tt

seated_asks : (refused : Bool) → AskBy (cond refused (Some cause.NoThread) None) []
seated_asks true = refl
seated_asks false = All-nil (λ (line : List ℕ). is_exit line ≡ false)

seated_entries : (n : ℕ) (refused : Bool) → Join n ∷ cond refused (Leave n cause.NoThread ∷ []) []
    ≡ life n [] (cond refused (Some cause.NoThread) None)
seated_entries n true = refl
seated_entries n false = refl

seated_left : (refused : Bool) → refused ≡ leaves (cond refused (Some cause.NoThread) None)
seated_left true = refl
seated_left false = refl

sits : (n : ℕ) (s : Side) (refused : Bool) (a : Side) → CanSit s refused a → HasLived n s (entries_of n (IsSeated s refused))
sits n s refused a can =
    record {
      queues = can.client.0;
      seated = can.client.1;
      lines = [];
      missed = [];
      leave = cond refused (Some cause.NoThread) None;
      entries_are = seated_entries n refused;
      heard_are = ap lines_in can.fresh.0;
      missing = λ other. refl;
      left = ap (λ (t : Side). t.left) can.seated ∙ seated_left refused;
      asks = seated_asks refused;
      reason = seated_reason refused s can.client.0 can.client.1 can.client.2;
    }

-- ---- all steps

lived_happens : (n : ℕ) (h : Happening) (a : Side) (mine : List Entry) → Can h a → HasLived n a mine → HasLived n (after h a) (mine ++ entries_of n h)
lived_happens n (IsSeated s refused) a mine can was =
    absurd (some_none was.queues (sym was.seated ∙ ap (λ (t : Side). t.queues) can.first))
lived_happens n (Hears item) a mine can was =
    adds_lived n a (after (Hears item) a) mine (entries_of n (Hears item)) was can.0.stays (hears_adds n item a was.lines)
lived_happens n (Misses item) a mine can was =
    adds_lived n a (after (Misses item) a) mine (entries_of n (Misses item)) was can.stays (misses_adds n item a was.lines)
lived_happens n (IsTold why) a mine can was =
    adds_lived n a (after (IsTold why) a) mine (entries_of n (IsTold why)) was can.stays (told_adds n why a was.lines)
lived_happens n IsSlow a mine can was =
    adds_lived n a (after IsSlow a) mine (entries_of n IsSlow) was can.0.stays
    (still n a (after IsSlow a) was.lines (Some cause.Slow) refl refl refl (λ none. none) can.1)

-- to one that is nobody nothing happens but that its client is seated
here_none : (a : Side) (q : Queues) → a ≡ nobody → a.queues ≡ Some q → ⊥
here_none a q none seated = some_none q (sym seated ∙ ap (λ (t : Side). t.queues) none)

entries_happen : (n : ℕ) (h : Happening) (a : Side) (mine : List Entry) → Can h a → HasEntries n a mine
    → HasEntries n (after h a) (mine ++ entries_of n h)
entries_happen n h a mine can (inr was) = inr (lived_happens n h a mine can was)
entries_happen n (IsSeated s refused) a mine can (inl none) =
    inr (subst (λ (l : List Entry). HasLived n s (l ++ entries_of n (IsSeated s refused))) (sym none.1) (sits n s refused a can))
entries_happen n (Hears item) a mine can (inl none) = absurd (here_none a can.0.queues none.0 can.0.seated)
entries_happen n (Misses item) a mine can (inl none) = absurd (here_none a can.queues none.0 can.seated)
entries_happen n (IsTold why) a mine can (inl none) = absurd (here_none a can.queues none.0 can.seated)
entries_happen n IsSlow a mine can (inl none) = absurd (here_none a can.0.queues none.0 can.0.seated)

lived_hangs_up : (n : ℕ) (there : List Session) (a b : Side) (extra mine : List Entry) → HangsUp n there a b extra → HasLived n a mine
    → HasLived n b (mine ++ extra)
lived_hangs_up n there a b extra mine up was =
    subst (λ (l : List Entry). HasLived n b (mine ++ l)) (sym up.entries)
    (adds_lived n a b mine (Leave n cause.HungUp ∷ []) was up.here.stays
    (still n a b was.lines (Some cause.HungUp) (ap (λ (s : Side). s.queues) up.is) (ap (λ (s : Side). lines_in s.heard) up.is)
    (ap (λ (s : Side). s.left) up.is) (λ none. none)
    (subst (λ (l : List Heard). IsTrue (has_end l)) (sym (ap (λ (s : Side). s.heard) up.is)) up.ended)))

-- a message changes nothing of these
same_lived : (n : ℕ) (a b : Side) (mine : List Entry) → b.queues ≡ a.queues → b.heard ≡ a.heard → b.told ≡ a.told → b.left ≡ a.left
    → (a.slow ≡ true → b.slow ≡ true) → HasLived n a mine → HasLived n b mine
same_lived n a b mine queues heard_is told_is left_is slow_is was = record {
  queues = was.queues;
  seated = queues ∙ was.seated;
  lines = was.lines;
  missed = was.missed;
  leave = was.leave;
  entries_are = was.entries_are;
  heard_are = ap lines_in heard_is ∙ was.heard_are;
  missing = was.missing;
  left = left_is ∙ was.left;
  asks = was.asks;
  reason = same_reason was.leave a b queues heard_is told_is slow_is was.reason;
}

lived_handed : (n : ℕ) (bytes : List ℕ) (a b : Side) (mine : List Entry) → IsHanded bytes a b → HasLived n a mine → HasLived n b mine
lived_handed n bytes a b mine (inl put) was =
    same_lived n a b mine (ap (λ (s : Side). s.queues) put.is) (ap (λ (s : Side). s.heard) put.is) (ap (λ (s : Side). s.told) put.is)
    (ap (λ (s : Side). s.left) put.is) (λ slow. ap (λ (s : Side). s.slow) put.is ∙ slow) was
lived_handed n bytes a b mine (inr (inl out)) was =
    same_lived n a b mine (ap (λ (s : Side). s.queues) out.is) (ap (λ (s : Side). s.heard) out.is) (ap (λ (s : Side). s.told) out.is)
    (ap (λ (s : Side). s.left) out.is) (λ slow. ap (λ (s : Side). s.slow) out.is) was
lived_handed n bytes a b mine (inr (inr past)) was = subst (λ (s : Side). HasLived n s mine) (sym past.is) was

-- The entries of a session are so all along.
pub entries_kept : (n : ℕ) (Shown : List Session → List Entry → Type 0) → IsKept n Shown (λ s mine messages. HasEntries n s mine)
entries_kept n Shown = record {
  happens = λ h a mine messages can so. entries_happen n h a mine can so;
  hangs_up = λ there list a b mine messages shown up so. ⊎_elim
      (λ none. absurd (here_none a up.here.queues none.0 up.here.seated))
      (λ was. inr (lived_hangs_up n there a b (own n list) mine up was))
      so;
  handed = λ bytes a b mine messages q seated did so. ⊎_elim
      (λ none. absurd (some_none q (sym seated ∙ ap (λ (s : Side). s.queues) none.0)))
      (λ was. inr (lived_handed n bytes a b mine did was))
      so;
}
