-- What a reader puts, step after step.
use Rattle.std.proofs.Common.{◌≡◌, ℕ, List, [], ◌∷◌, ◌++◌, ◌≤◌, Option, Some, None, MatchOption, arith, sym, refl, ap, ◌∙◌, subst, ◌⊎◌, ⊎_elim, append_assoc, append-nil}
use Rattle.trick_command.proofs.FedPieces.{in_two}
use Rattle.trick_command.specs.Fed.{Fed, fed, held_behind, nothing_fed, HasTaken}
use Rattle.trick_model.specs.Commands.{lines, lines_behind}
use Rattle.trick_outside.specs.Links.{Gave}
use Rattle.trick_outside.proofs.LinkLemmas.{gave_then}
use Rattle.trick_wire.specs.HasRead.{HasRead, IsReading}
use Rattle.trick_wire.specs.Puts.{HasPut, IsFed, IsLeftOut, IsTooLong, IsWhy, last_of, said}
use Rattle.trick_wire.specs.declared.heard.Heard.{Heard}
use Rattle.trick_wire.specs.declared.heard.Heard.TheVariants.{Line}
use Rattle.trick_wire.specs.declared.heard.ReadStop.{ReadStop}
use Rattle.trick_wire.specs.declared.heard.ReadStop.TheVariants.{End, LongLine, LinkFault, OutOfMemory, Closed}

pub said-append : (early late : List (List ℕ)) → said (early ++ late) ≡ said early ++ said late
said-append [] late = refl
said-append (line ∷ early) late = ap (λ entries. Line line ∷ entries) (said-append early late)

-- ---- the lines of bytes, and of more bytes

-- the lines that more bytes end
abbrev pub late_lines : Option (List ℕ) → List ℕ → List (List ℕ)
late_lines None more = []
late_lines (Some held) more = lines_behind held more

late_waiting : (waiting : List (List ℕ)) (held : Option (List ℕ)) (more : List ℕ) → (fed (record { waiting = waiting; held = held }) more).waiting ≡ waiting ++ late_lines held more
late_waiting waiting None more = sym (append-nil waiting)
late_waiting waiting (Some held) more = refl

pub lines_go_on : (read more : List ℕ) → lines (read ++ more) ≡ lines read ++ late_lines (held_behind [] read) more
lines_go_on read more = ap (λ (feed : Fed). feed.waiting) (sym (in_two nothing_fed read more)) ∙ late_waiting (lines read) (held_behind [] read) more

-- no line comes behind one that is too long
pub too_long_stays : (read more : List ℕ) → IsTooLong read → (late_lines (held_behind [] read) more ≡ []) × IsTooLong (read ++ more)
too_long_stays read more long = (
  ap (λ held. late_lines held more) long,
  ap (λ (feed : Fed). feed.held) (sym (in_two nothing_fed read more)) ∙ (λ i. (fed (record { waiting = lines read; held = long i }) more).held),
)

-- ---- a feed

-- a feed of which some lines were taken goes on as it would have
behind_taken : (some : List (List ℕ)) (feed : Fed) (piece : List ℕ)
    → fed (record { waiting = some ++ feed.waiting; held = feed.held }) piece ≡ record { waiting = some ++ (fed feed piece).waiting; held = (fed feed piece).held }
behind_taken some feed piece = by feed.waiting feed.held
  where
    by : (waiting : List (List ℕ)) (held : Option (List ℕ)) → fed (record { waiting = some ++ waiting; held = held }) piece
        ≡ record { waiting = some ++ (fed (record { waiting = waiting; held = held }) piece).waiting; held = (fed (record { waiting = waiting; held = held }) piece).held }
    by waiting None = refl
    by waiting (Some held) = ap (λ ls. record { waiting = ls; held = held_behind held piece }) (append_assoc some waiting (lines_behind held piece))

pub fed_pushed : (old new : Fed) (read piece : List ℕ) (puts : List Heard) → IsFed old read puts → new ≡ fed old piece → IsFed new (read ++ piece) puts
fed_pushed old new read piece puts f is = record {
  some = f.some;
  feeds = sym (in_two nothing_fed read piece) ∙ ap (λ (feed : Fed). fed feed piece) f.feeds ∙ behind_taken f.some old piece
      ∙ ap (λ (feed : Fed). record { waiting = f.some ++ feed.waiting; held = feed.held }) (sym is);
  are = f.are;
}

pub fed_put : (old new : Fed) (read : List ℕ) (puts after : List Heard) → IsFed old read puts → new.held ≡ old.held → new.waiting ≡ [] → after ≡ puts ++ said old.waiting → IsFed new read after
fed_put old new read puts after f same none put = record {
  some = f.some ++ old.waiting;
  feeds = f.feeds ∙ (λ i. record { waiting = (sym (append-nil (f.some ++ old.waiting)) ∙ ap (λ ls. (f.some ++ old.waiting) ++ ls) (sym none)) i; held = sym same i });
  are = put ∙ ap (λ entries. entries ++ said old.waiting) f.are ∙ sym (said-append f.some old.waiting);
}

lines_fed : (feed : Fed) (read : List ℕ) (puts : List Heard) (f : IsFed feed read puts) → lines read ≡ f.some ++ feed.waiting
lines_fed feed read puts f = ap (λ (its : Fed). its.waiting) f.feeds

pub held_fed : (feed : Fed) (read : List ℕ) (puts : List Heard) → IsFed feed read puts → held_behind [] read ≡ feed.held
held_fed feed read puts f = ap (λ (its : Fed). its.held) f.feeds

-- ---- the ways to stop

-- the inbox was full and closed, at some line of those that wait
pub put_closed : {A F : Type 0} (feed : Fed) (front more read : List ℕ) (puts after : List Heard) → IsFed feed front puts → read ≡ front ++ more
    → (some : List (List ℕ)) × (rest : List (List ℕ)) × (feed.waiting ≡ some ++ rest) × (after ≡ puts ++ said some) → HasPut A F read Closed after
put_closed feed front more read puts after f cut put = let late = late_lines (held_behind [] front) more in record {
  some = f.some ++ put.0;
  rest = put.1 ++ late;
  lines_are = ap lines cut ∙ lines_go_on front more ∙ ap (λ ls. ls ++ late) (lines_fed feed front puts f ∙ ap (λ ls. f.some ++ ls) put.2 ∙ sym (append_assoc f.some put.0 put.1))
      ∙ append_assoc (f.some ++ put.0) put.1 late;
  are = put.3 ∙ ap (λ entries. entries ++ said put.0) f.are ∙ sym (said-append f.some put.0) ∙ sym (append-nil (said (f.some ++ put.0)));
  left_out = tt;
  why = tt;
}

-- the last entry was put, or the inbox was full and closed
put_last : {A F : Type 0} (read : List ℕ) (some rest : List (List ℕ)) (puts after : List Heard) (stop told : ReadStop) → lines read ≡ some ++ rest → puts ≡ said some → IsLeftOut rest stop → IsWhy A F read stop
    → ((told ≡ stop) × (after ≡ puts ++ last_of stop)) ⊎ ((told ≡ Closed) × (after ≡ puts)) → HasPut A F read told after
put_last {A} {F} read some rest puts after stop told lines_are are left_out why put = ⊎_elim
    (λ (done : (told ≡ stop) × (after ≡ puts ++ last_of stop)). let back = sym done.0 in record {
      some = some;
      rest = rest;
      lines_are = lines_are;
      are = done.1 ∙ (λ i. are i ++ last_of (back i));
      left_out = subst (λ s. IsLeftOut rest s) back left_out;
      why = subst (λ s. IsWhy A F read s) back why;
    })
    (λ (closed : (told ≡ Closed) × (after ≡ puts)). let back = sym closed.0 in record {
      some = some;
      rest = rest;
      lines_are = lines_are;
      are = closed.1 ∙ are ∙ sym (append-nil (said some)) ∙ (λ i. said some ++ last_of (back i));
      left_out = subst (λ s. IsLeftOut rest s) back tt;
      why = subst (λ s. IsWhy A F read s) back tt;
    })
    put

-- all lines were put before it
pub put_end : {A F : Type 0} (feed : Fed) (read : List ℕ) (puts after : List Heard) (stop told : ReadStop) → IsFed feed read puts → feed.waiting ≡ [] → IsLeftOut [] stop → IsWhy A F read stop
    → ((told ≡ stop) × (after ≡ puts ++ last_of stop)) ⊎ ((told ≡ Closed) × (after ≡ puts)) → HasPut A F read told after
put_end feed read puts after stop told f none left_out why put = put_last read f.some [] puts after stop told (lines_fed feed read puts f ∙ ap (λ ls. f.some ++ ls) none) f.are left_out why put

-- want of memory in a piece, behind some first bytes of it
pub put_memory : {A F : Type 0} (feed : Fed) (front more read : List ℕ) (puts after : List Heard) (told : ReadStop) → IsFed feed front puts → feed.waiting ≡ [] → read ≡ front ++ more
    → ((told ≡ OutOfMemory) × (after ≡ puts ++ last_of OutOfMemory)) ⊎ ((told ≡ Closed) × (after ≡ puts)) → HasPut A F read told after
put_memory feed front more read puts after told f none cut put =
    put_last read f.some (late_lines (held_behind [] front) more) puts after OutOfMemory told
    (ap lines cut ∙ lines_go_on front more ∙ ap (λ ls. ls ++ late_lines (held_behind [] front) more) (lines_fed feed front puts f ∙ ap (λ ls. f.some ++ ls) none ∙ append-nil f.some))
    f.are tt tt put

-- the bytes of a piece of which some first ones were taken
pub cut_piece : (old new : Fed) (read piece : List ℕ) (taken : HasTaken old piece new) → read ++ piece ≡ (read ++ taken.0) ++ taken.1
cut_piece old new read piece taken = ap (λ bytes. read ++ bytes) taken.2 ∙ sym (append_assoc read taken.0 taken.1)

-- ---- one read

pub one_line_more : (some first new waiting : List (List ℕ)) (line : List ℕ) (before mid after : List Heard) → first ≡ some ++ waiting → waiting ≡ line ∷ new → mid ≡ before ++ said some → after ≡ mid ++ Line line ∷ []
    → (first ≡ (some ++ line ∷ []) ++ new) × (after ≡ before ++ said (some ++ line ∷ []))
one_line_more some first new waiting line before mid after is cut puts put = (
  is ∙ ap (λ ls. some ++ ls) cut ∙ sym (append_assoc some (line ∷ []) new),
  put ∙ ap (λ entries. entries ++ Line line ∷ []) puts ∙ append_assoc before (said some) (Line line ∷ []) ∙ ap (λ entries. before ++ entries) (sym (said-append some (line ∷ []))),
)

why_as : (A F : Type 0) (read : List ℕ) (stop : ReadStop) → IsWhy ⊥ ⊥ read stop → IsWhy A F read stop
why_as A F read End why = absurd why
why_as A F read LongLine why = why
why_as A F read LinkFault why = absurd why
why_as A F read OutOfMemory why = why
why_as A F read Closed why = why

put_as : {A F : Type 0} (read : List ℕ) (stop : ReadStop) (puts : List Heard) → HasPut ⊥ ⊥ read stop puts → HasPut A F read stop puts
put_as {A} {F} read stop puts h = record { some = h.some; rest = h.rest; lines_are = h.lines_are; are = h.are; left_out = h.left_out; why = why_as A F read stop h.why }

-- bytes more were read and taken in
pub read_more : (start old new : Option (List ℕ)) (before mid now : ℕ) (feed after : Fed) (puts later : List Heard) (piece : List ℕ) (answer : Option ReadStop) (r : IsReading start old before mid feed puts) → Gave old new piece → mid ≤ now
    → MatchOption answer (IsFed after (r.read ++ piece) later × (after.waiting ≡ [])) (λ stop. HasPut ⊥ ⊥ (r.read ++ piece) stop later)
    → MatchOption answer (IsReading start new before now after later × (after.waiting ≡ [])) (λ stop. HasRead start new before now stop later)
read_more start old new before mid now feed after puts later piece None r gave count taken =
    (record { read = r.read ++ piece; gave = gave_then start old new r.read piece r.gave gave; later = (let less = r.later in omega arith); fed = taken.0 }, taken.1)
read_more start old new before mid now feed after puts later piece (Some stop) r gave count taken =
    record { read = r.read ++ piece; gave = gave_then start old new r.read piece r.gave gave; later = (let less = r.later in omega arith); put = put_as (r.read ++ piece) stop later taken }
