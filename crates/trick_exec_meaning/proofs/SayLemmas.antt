-- Messages, one after another.
use Rattle.std.proofs.Common.{◌≡◌, ◌∙◌, List, [], ◌++◌, IsOk, ap, append_assoc, append-nil, refl, sym}
use Rattle.std.specs.Prelude.{Result}
use Rattle.trick_model.specs.Session.{Message}
use Rattle.trick_exec_meaning.proofs.Going.{TurnsJoin}
use Rattle.trick_exec_meaning.specs.Answers.{IsKept, Says}
use Rattle.trick_exec_sources.specs.declared.turns.Turns.{Ghosts}

pub kept_same : {U M : Type 0} (turns : Ghosts U M) (u : U) → IsKept turns u u
kept_same turns u = record { owes = refl; journal = refl; decided = refl; sessions = refl }

pub kept_then : {U M : Type 0} {turns : Ghosts U M} {old mid new : U} → IsKept turns old mid → IsKept turns mid new → IsKept turns old new
kept_then one two = record {
  owes = two.owes ∙ one.owes;
  journal = two.journal ∙ one.journal;
  decided = two.decided ∙ one.decided;
  sessions = two.sessions ∙ one.sessions;
}

-- there is nothing to say
pub says_nothing : {U M T E : Type 0} (turns : Ghosts U M) (u : U) (result : Result T E) → turns.went u [] [] u → Says turns u u result []
says_nothing turns u result none = record { sent = []; rest = []; all = refl; whole = λ ok. refl; step = none; kept = kept_same turns u }

-- nothing was said, since it stopped before
pub says_none : {U M T E : Type 0} (turns : Ghosts U M) (u : U) (result : Result T E) (messages : List Message) → turns.went u [] [] u → (IsOk result → ⊥)
    → (says : Says turns u u result messages) × (says.sent ≡ [])
says_none turns u result messages none never = (
  record {
    sent = [];
    rest = messages;
    all = refl;
    whole = λ ok. absurd (never ok);
    step = none;
    kept = kept_same turns u;
  },
  refl,
)

-- some messages, and then others
pub says_then : {U M A B E D : Type 0} {turns : Ghosts U M} {old mid new : U} {first : Result A E} {result : Result B D} {early late : List Message}
    → TurnsJoin turns → Says turns old mid first early → IsOk first → Says turns mid new result late → Says turns old new result (early ++ late)
says_then {old = old} {mid = mid} {new = new} {early = early} {late = late} join one ok two =
    let whole : early ≡ one.sent = one.all ∙ ap (λ m. one.sent ++ m) (one.whole ok) ∙ append-nil one.sent in
    record {
      sent = one.sent ++ two.sent;
      rest = two.rest;
      all = ap (λ m. m ++ late) whole ∙ ap (λ m. one.sent ++ m) two.all ∙ sym (append_assoc one.sent two.sent two.rest);
      whole = two.whole;
      step = join old mid new [] [] one.sent two.sent one.step two.step;
      kept = kept_then one.kept two.kept;
    }

-- it stopped among the first messages
pub says_stops : {U M A B E D : Type 0} {turns : Ghosts U M} {old new : U} {first : Result A E} {early : List Message} (result : Result B D) (late : List Message)
    → Says turns old new first early → (IsOk result → ⊥) → Says turns old new result (early ++ late)
says_stops {early = early} result late one never = record {
  sent = one.sent;
  rest = one.rest ++ late;
  all = ap (λ m. m ++ late) one.all ∙ append_assoc one.sent one.rest late;
  whole = λ ok. absurd (never ok);
  step = one.step;
  kept = one.kept;
}

-- the same messages, in other words and under another result
pub says_as : {U M A B E D : Type 0} {turns : Ghosts U M} {old new : U} {first : Result A E} {messages : List Message} (result : Result B D) (others : List Message)
    → others ≡ messages → Says turns old new first messages → (IsOk result → IsOk first) → Says turns old new result others
says_as result others same one ok = record {
  sent = one.sent;
  rest = one.rest;
  all = same ∙ one.all;
  whole = λ fine. one.whole (ok fine);
  step = one.step;
  kept = one.kept;
}

-- ---- a loop over messages

-- Of all messages the first were handed over, and these are left.
pub record Saying {U M : Type 0} (turns : Ghosts U M) (old new : U) (messages left : List Message) : Type 0 where
  pub done : List Message
  pub step : turns.went old [] done new
  pub kept : IsKept turns old new
  pub are : messages ≡ done ++ left

pub saying_starts : {U M : Type 0} (turns : Ghosts U M) (u : U) (messages : List Message) → turns.went u [] [] u → Saying turns u u messages messages
saying_starts turns u messages none = record { done = []; step = none; kept = kept_same turns u; are = refl }

pub saying_more : {U M : Type 0} {turns : Ghosts U M} {old mid new : U} {messages left : List Message} (one rest : List Message)
    → TurnsJoin turns → Saying turns old mid messages left → left ≡ one ++ rest → turns.went mid [] one new → IsKept turns mid new
    → Saying turns old new messages rest
saying_more {old = old} {mid = mid} {new = new} one rest join so splits step kept = record {
  done = so.done ++ one;
  step = join old mid new [] [] so.done one so.step step;
  kept = kept_then so.kept kept;
  are = so.are ∙ ap (λ m. so.done ++ m) splits ∙ sym (append_assoc so.done one rest);
}

-- the next message was not handed over
pub saying_stops : {U M T E : Type 0} {turns : Ghosts U M} {old mid new : U} {messages left : List Message} (result : Result T E)
    → TurnsJoin turns → Saying turns old mid messages left → turns.went mid [] [] new → IsKept turns mid new → (IsOk result → ⊥)
    → Says turns old new result messages
saying_stops {turns = turns} {old = old} {mid = mid} {new = new} {left = left} result join so step kept never = record {
  sent = so.done ++ [];
  rest = left;
  all = so.are ∙ ap (λ m. m ++ left) (sym (append-nil so.done));
  whole = λ ok. absurd (never ok);
  step = join old mid new [] [] so.done [] so.step step;
  kept = kept_then so.kept kept;
}

-- nothing is left
pub saying_ends : {U M T E : Type 0} {turns : Ghosts U M} {old new : U} {messages left : List Message} (result : Result T E)
    → Saying turns old new messages left → left ≡ [] → Says turns old new result messages
saying_ends result so none = record {
  sent = so.done;
  rest = [];
  all = so.are ∙ ap (λ m. so.done ++ m) none;
  whole = λ ok. refl;
  step = so.step;
  kept = so.kept;
}
