-- What holds of a session at the end of a run, and what was heard of it.
use Rattle.std.proofs.Common.{IsTrue, ◌≡◌, ◌≢◌, ◌∙◌, ◌⊎◌, inl, inr, ⊎_elim, ℕ, ◌+◌, Bool, true, false, List, [], ◌∷◌, ◌++◌, Option, Some, None, ap, append_assoc, append-nil, refl, subst, sym}
use Rattle.std.proofs.lemmas.Bool.{false≢true}
use Rattle.std.proofs.lemmas.List.Folds.{list_any-append}
use Rattle.std.specs.List.{list_any}
use Rattle.std.specs.Prelude.{◌||◌}
use Rattle.trick_model.specs.Commands.{lines as lines_of}
use Rattle.trick_model.specs.Files.{messages_to, turns_said}
use Rattle.trick_model.specs.Plan.{Plan}
use Rattle.trick_model.specs.Run.{opened}
use Rattle.trick_model.specs.State.{State}
use Rattle.trick_model.specs.declared.entry.Cause.{Cause}
use Rattle.trick_model.specs.declared.entry.Cause.TheVariants as cause
use Rattle.trick_model.specs.declared.entry.Entry.{Entry}
use Rattle.trick_model.specs.declared.session.Session.{Session}
use Rattle.trick_outside.specs.Causes.{Rose}
use Rattle.trick_serve_source.specs.Calls.{View}
use Rattle.trick_serve_hearing.specs.Ended.{has_end, is_end}
use Rattle.trick_serve_hearing.specs.Life.{own}
use Rattle.trick_serve_hearing.specs.Sides.{Queues, Side, nobody, side}
use Rattle.trick_serve_hearing.specs.declared.seat.Seat.{Seat}
use Rattle.trick_serve_facts.proofs.HangUps.{HasHungUp, hung_up_along, hung_up_none}
use Rattle.trick_serve_facts.proofs.Keeping.{AllShown, HoldsAlong, IsKept, IsShown, ShownIn, run_keeps}
use Rattle.trick_serve_facts.proofs.Lives.{entries_kept, lines_join}
use Rattle.trick_serve_facts.proofs.Messages.{messages_kept, messages_none}
use Rattle.trick_serve_facts.specs.Clients.{EndSays, IsUnsaid, LinkTale, OthersAreAbsent}
use Rattle.trick_serve_facts.specs.Life.{HasEntries, HasLived, HasReason, is_fault, is_long_line, lines_in}
use Rattle.trick_serve_facts.specs.Messages.{HasMessages}
use Rattle.trick_serve_facts.specs.Serves.{GiveNothing, IsServedRun, all_entries, given_by, given_in}
use Rattle.trick_exec_sources.specs.Turns.{Answer}
use Rattle.trick_wire.specs.HasHeard.{IsMissing}
use Rattle.trick_wire.specs.Puts.{IsTooLong, last_of, said}
use Rattle.trick_wire.specs.declared.heard.Heard.{Heard}
use Rattle.trick_wire.specs.declared.heard.Heard.TheVariants as heard
use Rattle.trick_wire.specs.declared.heard.ReadStop.{ReadStop}
use Rattle.trick_wire.specs.declared.heard.ReadStop.TheVariants as read

-- ---- what holds at the end of a run

nothing_shown : (answers : List Answer) → GiveNothing answers → AllShown (λ there list. ⊥) answers
nothing_shown [] none = tt
nothing_shown (answer ∷ answers) none =
    (subst (λ (o : Option (List Entry)). ShownIn (λ there list. ⊥) answer.sessions o) (sym none.0) tt, nothing_shown answers none.1)

nothing_given : (answers : List Answer) → GiveNothing answers → given_by answers ≡ []
nothing_given [] none = refl
nothing_given (answer ∷ answers) none =
    ap (λ (o : Option (List Entry)). given_in o ++ given_by answers) none.0 ∙ nothing_given answers none.1

-- A fact of a session that holds along a run holds at its end.
pub at_end : {P : List (List Entry) → Side → List Entry → List (List ℕ) → Type 0} → (p : Plan) (s : State) (lists : List (List Entry)) (old new : View)
    (k : ℕ) → HoldsAlong k p (opened s) P → IsServedRun p s lists old new → P [] nobody [] []
    → P lists (side new.seats k) (own (k + 1) (all_entries lists)) (messages_to (k + 1) (turns_said p (opened s) lists))
at_end {P} p s lists old new k holds run start =
    let n = k + 1 in
    let told = messages_to n (turns_said p (opened s) lists) in
    let mine = own n (all_entries lists) in
    subst (λ (l : List (List ℕ)). P lists (side new.seats k) mine l) (append-nil told)
    (subst (λ (l : List Entry). P lists (side new.seats k) l (told ++ []))
    (ap (λ (l : List Entry). mine ++ own n l) (nothing_given run.last run.nothing) ∙ append-nil mine)
    (run_keeps k p (opened s) holds lists old run.mid new run.last run.turns run.ends (nothing_shown run.last run.nothing) run.whole
    (subst (λ (l : List Seat). P [] (side l k) [] []) (sym run.none) start)))

-- a fact that does not speak of the lists
pub always : (k : ℕ) (p : Plan) (s : State) (P : Side → List Entry → List (List ℕ) → Type 0)
    → ((Shown : List Session → List Entry → Type 0) → IsKept (k + 1) Shown P) → HoldsAlong k p (opened s) (λ lists here mine messages. P here mine messages)
always k p s P kept = record {
  turn_keeps = λ lists entries. kept (IsShown p (opened s) lists entries);
  last_keeps = λ lists. kept (λ there list. ⊥);
  more = λ lists entries here mine messages so. so;
}

pub lives_at_end : (p : Plan) (s : State) (lists : List (List Entry)) (old new : View) (k : ℕ) → IsServedRun p s lists old new
    → HasEntries (k + 1) (side new.seats k) (own (k + 1) (all_entries lists))
lives_at_end p s lists old new k run =
    at_end {P = λ lists here mine messages. HasEntries (k + 1) here mine} p s lists old new k
    (always k p s (λ here mine messages. HasEntries (k + 1) here mine) (λ Shown. entries_kept (k + 1) Shown)) run (inl (refl, refl))

pub messages_at_end : (p : Plan) (s : State) (lists : List (List Entry)) (old new : View) (k : ℕ)
    → IsServedRun p s lists old new → HasMessages (side new.seats k) (messages_to (k + 1) (turns_said p (opened s) lists))
messages_at_end p s lists old new k run =
    at_end {P = λ lists here mine messages. HasMessages here messages} p s lists old new k
    (always k p s (λ here mine messages. HasMessages here messages) (λ Shown. messages_kept (k + 1) Shown)) run messages_none

pub hung_up_at_end : (p : Plan) (s : State) (lists : List (List Entry)) (old new : View) (k : ℕ) → IsServedRun p s lists old new
    → HasHungUp p (opened s) (k + 1) lists (side new.seats k) (own (k + 1) (all_entries lists)) (messages_to (k + 1) (turns_said p (opened s) lists))
hung_up_at_end p s lists old new k run =
    at_end {P = λ more here mine messages. HasHungUp p (opened s) (k + 1) more here mine messages} p s lists old new k (hung_up_along p (opened s) k) run
    (hung_up_none p (opened s) (k + 1) nobody)

-- ---- what was heard

said_lines : (some : List (List ℕ)) → lines_in (said some) ≡ some
said_lines [] = refl
said_lines (line ∷ some) = ap (λ (l : List (List ℕ)). line ∷ l) (said_lines some)

no_lines : (mark : ReadStop) → lines_in (last_of mark) ≡ []
no_lines read.End = refl
no_lines read.LongLine = refl
no_lines read.LinkFault = refl
no_lines read.OutOfMemory = refl
no_lines read.Closed = refl

-- a test that no line passes
said_fails : (test : Heard → Bool) → ((line : List ℕ) → test (heard.Line line) ≡ false) → (some : List (List ℕ)) → list_any test (said some) ≡ false
said_fails test never [] = refl
said_fails test never (line ∷ some) = (λ i. never line i || list_any test (said some)) ∙ said_fails test never some

mark_passes : (test : Heard → Bool) → ((line : List ℕ) → test (heard.Line line) ≡ false) → (items : List Heard) (some : List (List ℕ)) (mark : ReadStop)
    → items ≡ said some ++ last_of mark → list_any test items ≡ true → list_any test (last_of mark) ≡ true
mark_passes test never items some mark are passes =
    ap (λ (b : Bool). b || list_any test (last_of mark)) (sym (said_fails test never some))
    ∙ sym (list_any-append test (said some) (last_of mark)) ∙ ap (list_any test) (sym are) ∙ passes

end_marked : (mark : ReadStop) → list_any is_end (last_of mark) ≡ true → mark ≡ read.End
end_marked read.End is = refl
end_marked read.LongLine is = absurd (false≢true is)
end_marked read.LinkFault is = absurd (false≢true is)
end_marked read.OutOfMemory is = absurd (false≢true is)
end_marked read.Closed is = absurd (false≢true is)

long_marked : (mark : ReadStop) → list_any is_long_line (last_of mark) ≡ true → mark ≡ read.LongLine
long_marked read.End is = absurd (false≢true is)
long_marked read.LongLine is = refl
long_marked read.LinkFault is = absurd (false≢true is)
long_marked read.OutOfMemory is = absurd (false≢true is)
long_marked read.Closed is = absurd (false≢true is)

fault_marked : (mark : ReadStop) → list_any is_fault (last_of mark) ≡ true → mark ≡ read.LinkFault
fault_marked read.End is = absurd (false≢true is)
fault_marked read.LongLine is = absurd (false≢true is)
fault_marked read.LinkFault is = refl
fault_marked read.OutOfMemory is = absurd (false≢true is)
fault_marked read.Closed is = absurd (false≢true is)

-- which lines were not said, by what was heard last
unsaid : (leave : Option Cause) (s : Side) (some : List (List ℕ)) (mark : ReadStop) (missed rest : List (List ℕ)) (bytes : List ℕ)
    → s.heard ≡ said some ++ last_of mark → HasReason leave s → (leave ≢ Some cause.OutOfMemory → missed ≡ []) → IsMissing bytes rest mark
    → IsUnsaid leave bytes (missed ++ rest)
unsaid None s some mark missed rest bytes are reason missing so = tt
unsaid (Some cause.Exit) s some mark missed rest bytes are reason missing so = tt
unsaid (Some cause.HungUp) s some mark missed rest bytes are reason missing so =
    let is : mark ≡ read.End = end_marked mark (mark_passes is_end (λ line. refl) s.heard some mark are reason) in
    let none : rest ≡ [] = subst (λ (m : ReadStop). IsMissing bytes rest m) is so in
    (λ i. missing (λ e. cc) i ++ none i)
unsaid (Some cause.LinkFault) s some mark missed rest bytes are reason missing so = tt
unsaid (Some cause.LongLine) s some mark missed rest bytes are reason missing so =
    let is : mark ≡ read.LongLine = long_marked mark (mark_passes is_long_line (λ line. refl) s.heard some mark are reason) in
    let both : (rest ≡ []) × IsTooLong bytes = subst (λ (m : ReadStop). IsMissing bytes rest m) is so in
    let none = both.0 in
    ((λ i. missing (λ e. cc) i ++ none i), both.1)
unsaid (Some cause.Slow) s some mark missed rest bytes are reason missing so = tt
unsaid (Some cause.NoThread) s some mark missed rest bytes are reason missing so = tt
unsaid (Some cause.OutOfMemory) s some mark missed rest bytes are reason missing so = tt

pub heard_is : (n : ℕ) (s : Side) (mine : List Entry) (tale : LinkTale) (was : HasLived n s mine) → (says : EndSays tale s)
    → (bytes : List ℕ) → tale.told ≡ Some bytes
    → (rest : List (List ℕ)) × (lines_of bytes ≡ was.lines ++ rest) × IsUnsaid was.leave bytes rest
heard_is n s mine tale was says bytes told =
    let fed = says.heard.lines_are bytes told in
    let some = says.heard.some in
    let mark = says.heard.mark in
    let same : some ≡ was.lines ++ was.missed =
    sym (append-nil some) ∙ (λ i. sym (said_lines some) i ++ sym (no_lines mark) i) ∙ sym (lines_join (said some) (last_of mark))
    ∙ ap lines_in (sym says.heard.are) ∙ was.heard_are in (
      was.missed ++ fed.0,
      fed.1 ∙ ap (λ (l : List (List ℕ)). l ++ fed.0) same ∙ append_assoc was.lines was.missed fed.0,
      unsaid was.leave s some mark was.missed fed.0 bytes says.heard.are was.reason was.missing fed.2,
    )

none_some : (why : Cause) → None ≡ Some why → ⊥
none_some why is = cc

-- of a session that has not left, and whose bytes were heard to their end, all lines were said
pub heard_to_end : (n : ℕ) (s : Side) (mine : List Entry) (tale : LinkTale) (was : HasLived n s mine) → EndSays tale s → IsTrue (has_end s.heard)
    → was.leave ≡ None → (bytes : List ℕ) → tale.told ≡ Some bytes → lines_of bytes ≡ was.lines
unfolding heard_is
heard_to_end n s mine tale was says ended stays bytes told =
    let so = heard_is n s mine tale was says bytes told in
    let fed = says.heard.lines_are bytes told in
    let rest : so.0 ≡ [] = unsaid (Some cause.HungUp) s says.heard.some says.heard.mark was.missed fed.0 bytes says.heard.are ended
    (λ never. was.missing (λ other. none_some cause.OutOfMemory (sym stays ∙ other))) fed.2 in
    so.1 ∙ ap (λ (l : List (List ℕ)). was.lines ++ l) rest ∙ append-nil was.lines

pub fault_is : (leave : Option Cause) (s : Side) (tale : LinkTale) → EndSays tale s → HasReason leave s → leave ≡ Some cause.LinkFault
    → Rose tale.read_before tale.read_now ⊎ Rose tale.write_before tale.write_now
fault_is leave s tale says reason is = ⊎_elim
    (λ told. inl (says.heard.fault (fault_marked says.heard.mark
    (mark_passes is_fault (λ line. refl) s.heard says.heard.some says.heard.mark says.heard.are told))))
    (λ told. inr (says.told told))
    (subst (λ (o : Option Cause). HasReason o s) is reason)

-- ---- who has no seat

some_none : (q : Queues) → Some q ≡ None → ⊥
some_none q is = cc

pub others_absent : OthersAreAbsent
others_absent p s lists old new k run unseated = ⊎_elim
    (λ none.
    let told = messages_at_end p s lists old new k run in
    let quick : (side new.seats k).slow ≡ false = ap (λ (t : Side). t.slow) none.0 in
    let left_none : told.dropped ≡ [] = told.all quick in
    let put_none : (side new.seats k).put ≡ [] = ap (λ (t : Side). t.put) none.0 in
    record { entries = none.1; text = told.messages_are ∙ (λ i. put_none i ++ left_none i) })
    (λ lived. absurd (some_none lived.queues (sym lived.seated ∙ unseated)))
    (lives_at_end p s lists old new k run)
