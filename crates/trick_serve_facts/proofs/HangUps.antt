-- Where a session hangs up.
use Rattle.std.proofs.Common.{◌≡◌, ◌∙◌, ⊎_elim, ℕ, ◌+◌, Bool, true, false, cond, List, [], ◌∷◌, ◌++◌, Option, Some, None, ap, append_assoc, map, refl, subst, sym}
use Rattle.std.proofs.lemmas.Bool.{false≢true, or_cases}
use Rattle.std.proofs.lemmas.List.Folds.{list_any-append}
use Rattle.std.specs.List.{list_any}
use Rattle.std.specs.Prelude.{IsTrue}
use Rattle.trick_model.specs.Plan.{Plan}
use Rattle.trick_model.specs.State.{World}
use Rattle.trick_model.specs.declared.entry.Cause.{Cause}
use Rattle.trick_model.specs.declared.entry.Cause.TheVariants as cause
use Rattle.trick_model.specs.declared.entry.Entry.{Entry}
use Rattle.trick_model.specs.declared.entry.Entry.TheVariants.{Join, Said, Leave, Publish}
use Rattle.trick_model.specs.declared.session.Session.{Session}
use Rattle.trick_serve_hearing.specs.Life.{Happening, Hears, IsSeated, IsSlow, IsTold, Misses, entries_of, is_exit, is_idle, leave_of, own}
use Rattle.trick_serve_hearing.specs.Sides.{Side}
use Rattle.trick_serve_facts.proofs.Keeping.{HoldsAlong, IsKept, IsShown, own_given}
use Rattle.trick_serve_facts.specs.HangUps.{HangsUpIn}
use Rattle.trick_serve_facts.specs.Life.{life}
use Rattle.trick_wire.specs.declared.heard.Heard.{Heard}
use Rattle.trick_wire.specs.declared.heard.Heard.TheVariants as heard
use Rattle.trick_wire.specs.declared.heard.WriteStop.{WriteStop}
use Rattle.trick_wire.specs.declared.heard.WriteStop.TheVariants as stop

-- ---- which entries are a leave by HungUp

abbrev is_hung_up : Cause → Bool
is_hung_up cause.Exit = false
is_hung_up cause.HungUp = true
is_hung_up cause.LinkFault = false
is_hung_up cause.LongLine = false
is_hung_up cause.Slow = false
is_hung_up cause.NoThread = false
is_hung_up cause.OutOfMemory = false

abbrev is_hang_up : Entry → Bool
is_hang_up (Join session) = false
is_hang_up (Said session line) = false
is_hang_up (Leave session why) = is_hung_up why
is_hang_up (Publish thread) = false

refused_is_none : (n : ℕ) (refused : Bool) → list_any is_hang_up (cond refused (Leave n cause.NoThread ∷ []) []) ≡ false
refused_is_none n true = refl
refused_is_none n false = refl

exit_is_none : (n : ℕ) (exits : Bool) → list_any is_hang_up (leave_of n (cond exits (Some cause.Exit) None)) ≡ false
exit_is_none n true = refl
exit_is_none n false = refl

heard_is_none : (n : ℕ) (item : Heard) → list_any is_hang_up (entries_of n (Hears item)) ≡ false
heard_is_none n (heard.Line line) = exit_is_none n (is_exit line)
heard_is_none n heard.End = refl
heard_is_none n heard.LongLine = refl
heard_is_none n heard.LinkFault = refl
heard_is_none n heard.OutOfMemory = refl

told_is_none : (n : ℕ) (why : WriteStop) → list_any is_hang_up (entries_of n (IsTold why)) ≡ false
told_is_none n stop.Closed = refl
told_is_none n stop.LinkFault = refl
told_is_none n stop.OutOfMemory = refl

-- nothing that happens but a hang-up is one
happening_is_none : (n : ℕ) (h : Happening) → list_any is_hang_up (entries_of n h) ≡ false
happening_is_none n (IsSeated s refused) = refused_is_none n refused
happening_is_none n (Hears item) = heard_is_none n item
happening_is_none n (Misses item) = refl
happening_is_none n (IsTold why) = told_is_none n why
happening_is_none n IsSlow = refl

life_hangs_up : (n : ℕ) (lines : List (List ℕ)) → list_any is_hang_up (map (λ (line : List ℕ). Said n line) lines ++ Leave n cause.HungUp ∷ []) ≡ true
life_hangs_up n [] = refl
life_hangs_up n (line ∷ lines) = life_hangs_up n lines

-- ---- all along a run

-- A session with a leave by HungUp hung up in one of the turns.
abbrev pub HasHungUp : Plan → World → ℕ → List (List Entry) → Side → List Entry → List (List ℕ) → Type 0
HasHungUp p w n lists here mine messages = list_any is_hang_up mine ≡ true → HangsUpIn p w lists n

none_more : (p : Plan) (w : World) (n : ℕ) (lists : List (List Entry)) (mine more : List Entry) → list_any is_hang_up more ≡ false
    → (list_any is_hang_up mine ≡ true → HangsUpIn p w lists n) → list_any is_hang_up (mine ++ more) ≡ true → HangsUpIn p w lists n
none_more p w n lists mine more none so is = ⊎_elim
    (λ early. so early)
    (λ late. absurd (false≢true (sym none ∙ late)))
    (or_cases (list_any is_hang_up mine) (list_any is_hang_up more) (sym (list_any-append is_hang_up mine more) ∙ is))

in_turn : (p : Plan) (w : World) (k : ℕ) (lists : List (List Entry)) (entries : List Entry)
    → IsKept (k + 1) (IsShown p w lists entries) (HasHungUp p w (k + 1) (lists ++ entries ∷ []))
in_turn p w k lists entries = record {
  happens = λ h a mine messages can so. none_more p w (k + 1) (lists ++ entries ∷ []) mine (entries_of (k + 1) h) (happening_is_none (k + 1) h) so;
  hangs_up = λ there list a b mine messages shown up so is. record {
    early = lists;
    entries = entries;
    late = [];
    lists_are = refl;
    alone = sym (own_given (k + 1) entries) ∙ ap (λ (l : List Entry). own (k + 1) l) (sym shown.list_is) ∙ up.entries;
    idle = subst (λ (l : List Session). IsTrue (is_idle (k + 1) l)) shown.sessions up.idle;
  };
  handed = λ bytes a b mine messages q seated did so. so;
}

at_last : (p : Plan) (w : World) (k : ℕ) (lists : List (List Entry)) → IsKept (k + 1) (λ there list. ⊥) (HasHungUp p w (k + 1) lists)
at_last p w k lists = record {
  happens = λ h a mine messages can so. none_more p w (k + 1) lists mine (entries_of (k + 1) h) (happening_is_none (k + 1) h) so;
  hangs_up = λ there list a b mine messages shown up so is. absurd shown;
  handed = λ bytes a b mine messages q seated did so. so;
}

turn_more : (p : Plan) (w : World) (n : ℕ) (lists : List (List Entry)) (entries : List Entry) → HangsUpIn p w lists n → HangsUpIn p w (lists ++ entries ∷ []) n
turn_more p w n lists entries was = record {
  early = was.early;
  entries = was.entries;
  late = was.late ++ entries ∷ [];
  lists_are = ap (λ (l : List (List Entry)). l ++ entries ∷ []) was.lists_are ∙ append_assoc was.early (was.entries ∷ was.late) (entries ∷ []);
  alone = was.alone;
  idle = was.idle;
}

pub hung_up_along : (p : Plan) (w : World) (k : ℕ) → HoldsAlong k p w (HasHungUp p w (k + 1))
hung_up_along p w k = record {
  turn_keeps = λ lists entries. in_turn p w k lists entries;
  last_keeps = λ lists. at_last p w k lists;
  more = λ lists entries here mine messages so is. turn_more p w (k + 1) lists entries (so is);
}

-- before anything was given
pub hung_up_none : (p : Plan) (w : World) (n : ℕ) (here : Side) → HasHungUp p w n [] here [] []
hung_up_none p w n here = λ is. absurd (false≢true is)

-- A session that left by HungUp did so.
pub hung_up_by : (p : Plan) (w : World) (n : ℕ) (lists : List (List Entry)) (here : Side) (mine : List Entry) (messages : List (List ℕ))
    (lines : List (List ℕ)) (leave : Option Cause) → HasHungUp p w n lists here mine messages → mine ≡ life n lines leave
    → leave ≡ Some cause.HungUp → HangsUpIn p w lists n
hung_up_by p w n lists here mine messages lines leave so are is =
    so (ap (list_any is_hang_up) (are ∙ ap (λ (o : Option Cause). life n lines o) is) ∙ life_hangs_up n lines)
