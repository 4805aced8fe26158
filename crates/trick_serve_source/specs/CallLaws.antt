-- Laws of calls: none, and one after another.
use Rattle.std.proofs.Common.{◌≡◌, ◌∙◌, ⊎_elim, ℕ, ◌<◌, ◌≤◌, Bool, false, List, [], ◌∷◌, ◌++◌, ap, append_assoc, append-nil, length, refl, Option, Some, None, subst, sym}
use Rattle.std.proofs.lemmas.Bool.{false≢true}
use Rattle.std.proofs.lemmas.Bool.Decides.{eqb_tells}
use Rattle.std.proofs.lemmas.List.Elements.{All-head, All-tail}
use Rattle.std.specs.Prelude.{◌||◌, IsTrue}
use Rattle.trick_model.specs.Session.{Message}
use Rattle.trick_model.specs.declared.entry.Entry.{Entry}
use Rattle.trick_serve_source.specs.Calls.{Answers, Breaks, Call, DoAll, Does, Hands, IsAnswered, Looks, View, Went, WentOn, answer_of, answers_of, message_of, messages_of}
use Rattle.trick_serve_hearing.specs.Rules.{AreSeated}
use Rattle.trick_serve_hearing.specs.declared.seat.Seat.{Seat}
use Rattle.trick_exec_sources.specs.Turns.{Answer, is_among}

answers_join : (early late : List Call) → answers_of (early ++ late) ≡ answers_of early ++ answers_of late
answers_join [] late = refl
answers_join (call ∷ early) late =
    ap (λ (l : List Answer). answer_of call ++ l) (answers_join early late)
    ∙ sym (append_assoc (answer_of call) (answers_of early) (answers_of late))

messages_join : (early late : List Call) → messages_of (early ++ late) ≡ messages_of early ++ messages_of late
messages_join [] late = refl
messages_join (call ∷ early) late =
    ap (λ (l : List Message). message_of call ++ l) (messages_join early late)
    ∙ sym (append_assoc (message_of call) (messages_of early) (messages_of late))

do_join : (first second third : View) (early late : List Call) → DoAll early first second → DoAll late second third
    → DoAll (early ++ late) first third
do_join first second third [] late one two = subst (λ (v : View). DoAll late v third) one two
do_join first second third (call ∷ early) late one two = (one.0, one.1, do_join one.0 second third early late one.2 two)

pub went_none : (v : View) → Went v v [] []
went_none v = record { calls = []; did = refl; answers_are = refl; messages_are = refl }

pub went_one : (call : Call) (old new : View) → Does call old new → Went old new (answer_of call) (message_of call)
went_one call old new does = record {
  calls = call ∷ [];
  did = (new, does, refl);
  answers_are = append-nil (answer_of call);
  messages_are = append-nil (message_of call);
}

pub went_join : (first second third : View) (early late : List Answer) (some more : List Message)
    → Went first second early some → Went second third late more → Went first third (early ++ late) (some ++ more)
went_join first second third early late some more one two = record {
  calls = one.calls ++ two.calls;
  did = do_join first second third one.calls two.calls one.did two.did;
  answers_are = answers_join one.calls two.calls ∙ (λ i. one.answers_are i ++ two.answers_are i);
  messages_are = messages_join one.calls two.calls ∙ (λ i. one.messages_are i ++ two.messages_are i);
}

pub went_on_none : {Q : Type 0} (v : View) (queue : Q) → WentOn v v queue queue [] []
went_on_none v queue = record { went = went_none v; same = refl }

pub went_on_join : {Q : Type 0} (first second third : View) (one two three : Q) (early late : List Answer)
    (some more : List Message) → WentOn first second one two early some → WentOn second third two three late more
    → WentOn first third one three (early ++ late) (some ++ more)
went_on_join first second third one two three early late some more before after = record {
  went = went_join first second third early late some more before.went after.went;
  same = after.same ∙ before.same;
}

-- A session that is among some that have seats has one.
pub seated_among : (session : ℕ) (numbers : List ℕ) (seats : List Seat) → AreSeated numbers seats
    → IsTrue (is_among session numbers)
    → (0 < session) × (session ≤ length seats)
seated_among session [] seats seated among = absurd (false≢true among)
seated_among session (n ∷ numbers) seats seated among = ⊎_elim
    (λ yes. subst (λ (m : ℕ). (0 < m) × (m ≤ length seats)) yes.1
    (All-head (λ m. (0 < m) × (m ≤ length seats)) n numbers seated))
    (λ no. seated_among session numbers seats (All-tail (λ m. (0 < m) × (m ≤ length seats)) n numbers seated)
    (sym (ap (λ (b : Bool). b || is_among session numbers) no.0) ∙ among))
    (eqb_tells n session)

-- Where there was memory after a call, there was memory before it.
pub whole_before : (call : Call) (old new : View) → Does call old new → new.broke ≡ false → old.broke ≡ false
whole_before (Looks there) old new did whole = sym did.whole ∙ whole
whole_before (Answers answer) old new did whole = by answer.list did
  where
    by : (list : Option (List Entry)) → IsAnswered list answer old new → old.broke ≡ false
    by None over = sym over.quiet.whole ∙ whole
    by (Some list) given = given.1
whole_before (Breaks there) old new did whole = absurd (false≢true (sym whole ∙ did.broke))
whole_before (Hands message) old new did whole = sym did.broke ∙ whole
