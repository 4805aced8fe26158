-- Lines that are lines, in a feed.
use Rattle.std.proofs.Common.{◌≡◌, ◌≢◌, ◌≤◌, ℕ, Bool, true, false, not, ◌&&◌, ◌||◌, List, [], ◌∷◌, ◌++◌, length, Option, Some, None, Result, Ok, Err, refl, sym, ap, ◌∙◌, subst, arith, length-append, append-nil}
use Rattle.std.specs.Prelude.{◌==◌, nat_le, nat_lt, IsTrue}
use Rattle.std.specs.List.{All, list_any}
use Rattle.std.specs.Option.{option_to_list, unwrap_or}
use Rattle.std.proofs.lemmas.Bool.{and_parts, le-leb, leb-true, ltb-true, not-true, or_from, or_parts}
use Rattle.std.proofs.lemmas.List.Elements.{All-append, All-cons, All-head, All-nil, All-tail}
use Rattle.std.proofs.lemmas.List.Folds.{list_any-append}
use Rattle.trick_command.specs.Fed.{Fed, fed, held_behind, HasTaken}
use Rattle.trick_command.specs.declared.feed_fault.FeedFault.{FeedFault}
use Rattle.trick_command.specs.declared.feed_fault.FeedFault.TheVariants.{LongLine, OutOfMemory}
use Rattle.trick_model.specs.Commands.{lines_behind, without_return}
use Rattle.trick_model.specs.Journal.{is_line}
use Rattle.trick_wire.specs.Feeding.{HoldsLines}

abbrev IsLine : List ℕ → Type 0
IsLine line = IsTrue (is_line line)

abbrev is_feed : ℕ → Bool
is_feed byte = byte == 10

-- ---- tests with two parts

-- ---- one line

short : (line : List ℕ) → IsLine line → length line ≤ 4096
short line right = leb-true (length line) 4096 (and_parts (nat_le (length line) 4096) (not (list_any is_feed line)) right).0

no_feed : (line : List ℕ) → IsLine line → list_any is_feed line ≡ false
no_feed line right = not-true (list_any is_feed line) (and_parts (nat_le (length line) 4096) (not (list_any is_feed line)) right).1

is_one : (line : List ℕ) → length line ≤ 4096 → list_any is_feed line ≡ false → IsLine line
is_one line short none = λ i. le-leb (length line) 4096 short i && not (none i)

-- one byte more
longer : (held : List ℕ) (byte : ℕ) → IsLine held → is_feed byte ≡ false → nat_lt (length held) 4096 ≡ true → IsLine (held ++ byte ∷ [])
longer held byte right other fits = is_one (held ++ byte ∷ []) (let room = ltb-true (length held) 4096 fits in omega (arith, length-append held (byte ∷ [])))
    (list_any-append is_feed held (byte ∷ []) ∙ or_from (list_any is_feed held) (is_feed byte || false) (no_feed held right) (or_from (is_feed byte) false other refl))

-- without a carriage return at its end
one_shorter : (byte : ℕ) (is_return : Bool) → length {A = ℕ} (elim is_return [ true ↦ [] | false ↦ byte ∷ [] ]) ≤ 1
one_shorter byte true = omega arith
one_shorter byte false = omega arith

shorter : (line : List ℕ) → length (without_return line) ≤ length line
shorter [] = omega arith
shorter (byte ∷ []) = one_shorter byte (byte == 13)
shorter (byte ∷ next ∷ line) = let rest = shorter (next ∷ line) in omega arith

one_left : (byte : ℕ) (is_return : Bool) → (is_feed byte || false) ≡ false → list_any is_feed (elim is_return [ true ↦ [] | false ↦ byte ∷ [] ]) ≡ false
one_left byte true none = refl
one_left byte false none = none

none_left : (line : List ℕ) → list_any is_feed line ≡ false → list_any is_feed (without_return line) ≡ false
none_left [] none = none
none_left (byte ∷ []) none = one_left byte (byte == 13) none
none_left (byte ∷ next ∷ line) none = let parts = or_parts (is_feed byte) (list_any is_feed (next ∷ line)) none in
    or_from (is_feed byte) (list_any is_feed (without_return (next ∷ line))) parts.0 (none_left (next ∷ line) parts.1)

without : (line : List ℕ) → IsLine line → IsLine (without_return line)
without line right = is_one (without_return line) (let less = shorter line in let fits = short line right in omega arith) (none_left line (no_feed line right))

-- ---- a feed to which more bytes come

abbrev IsHeld : Option (List ℕ) → Type 0
IsHeld held = (line : List ℕ) → held ≡ Some line → IsLine line

held_some : (held : List ℕ) → IsLine held → IsHeld (Some held)
held_some held right line is = subst IsLine (ap (λ (some : Option (List ℕ)). unwrap_or some []) is) right

held_none : IsHeld None
held_none line is = absurd (let e : None ≡ Some line = is in cc)

one_byte : (is_end fits : Bool) (line : List ℕ) (ended longer : List (List ℕ)) (held_ended held_longer : Option (List ℕ))
    → IsLine line → All IsLine ended × IsHeld held_ended → ((is_end ≡ false) → (fits ≡ true) → All IsLine longer × IsHeld held_longer)
    → All IsLine (elim is_end [ true ↦ line ∷ ended | false ↦ elim fits [ true ↦ longer | false ↦ [] ] ])
    × IsHeld (elim is_end [ true ↦ held_ended | false ↦ elim fits [ true ↦ held_longer | false ↦ None ] ])
one_byte true fits line ended longer held_ended held_longer right e l = (All-cons IsLine line ended right e.0, e.1)
one_byte false true line ended longer held_ended held_longer right e l = l refl refl
one_byte false false line ended longer held_ended held_longer right e l = (All-nil IsLine, held_none)

behind : (held bytes : List ℕ) → IsLine held → All IsLine (lines_behind held bytes) × IsHeld (held_behind held bytes)
behind held [] right = (All-nil IsLine, held_some held right)
behind held (byte ∷ bytes) right = one_byte (byte == 10) (nat_lt (length held) 4096) (without_return held) _ _ _ _ (without held right) (behind [] bytes refl)
    (λ other fits. behind (held ++ byte ∷ []) bytes (longer held byte right other fits))

fed_holds : (feed : Fed) (bytes : List ℕ) → HoldsLines feed → HoldsLines (fed feed bytes)
fed_holds feed bytes = by feed.waiting feed.held
  where
    by : (waiting : List (List ℕ)) (held : Option (List ℕ)) → HoldsLines (record { waiting = waiting; held = held }) → HoldsLines (fed (record { waiting = waiting; held = held }) bytes)
    by waiting None holds = holds
    by waiting (Some held) holds = let more = behind held bytes (holds.held held refl) in record { waiting = All-append IsLine waiting (lines_behind held bytes) holds.waiting more.0; held = more.1 }

-- a feed to which no byte has come
pub nothing_holds : HoldsLines (record { waiting = []; held = Some [] })
nothing_holds = record { waiting = All-nil IsLine; held = held_some [] refl }

-- some first bytes of a piece, or all of it
pub taken_holds : (old new : Fed) (piece : List ℕ) → HasTaken old piece new → HoldsLines old → HoldsLines new
taken_holds old new piece taken holds = subst HoldsLines (sym taken.3) (fed_holds old taken.0 holds)

pub push_taken : (result : Result (Unit {0}) FeedFault) (old new : Fed) (piece : List ℕ) → (result ≢ Err OutOfMemory → new ≡ fed old piece) → (result ≡ Err OutOfMemory → HasTaken old piece new) → HasTaken old piece new
push_taken (Ok done) old new piece all some = (piece, [], sym (append-nil piece), all (λ e. cc))
push_taken (Err LongLine) old new piece all some = (piece, [], sym (append-nil piece), all (λ e. cc))
push_taken (Err OutOfMemory) old new piece all some = some refl

-- ---- a line is pulled

pub pulled_line : (old new : Fed) (line : List ℕ) → HoldsLines old → old.waiting ≡ line ∷ new.waiting → IsLine line
pulled_line old new line holds cut = All-head IsLine line new.waiting (subst (All IsLine) cut holds.waiting)

rest_holds : (pulled : Option (List ℕ)) (rest : List (List ℕ)) → All IsLine (option_to_list pulled ++ rest) → All IsLine rest
rest_holds None rest holds = holds
rest_holds (Some line) rest holds = All-tail IsLine line rest holds

pub pulled_holds : (old new : Fed) (pulled : Option (List ℕ)) → HoldsLines old → old.waiting ≡ option_to_list pulled ++ new.waiting → new.held ≡ old.held → HoldsLines new
pulled_holds old new pulled holds cut same = record { waiting = rest_holds pulled new.waiting (subst (All IsLine) cut holds.waiting); held = subst IsHeld (sym same) holds.held }
