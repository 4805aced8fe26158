-- Sessions that are ended, one after another.
use Rattle.std.proofs.Common.{◌≡◌, ◌∙◌, ℕ, ◌+◌, Bool, false, List, [], ◌∷◌, ◌++◌, Option, Some, None, ap, append_assoc, append-nil, arith, length, length-append, map, refl, reverse, subst, sym}
use Rattle.std.proofs.lemmas.Bool.{or_parts}
use Rattle.std.proofs.lemmas.List.Elements.{All-append, All-cons, All-nil}
use Rattle.std.proofs.lemmas.List.{reverse-append, reverse-reverse}
use Rattle.std.specs.Option.{option_to_list}
use Rattle.std.specs.Prelude.{◌||◌, All, MatchOption}
use Rattle.trick_outside.specs.Visits.{Back, Visit}
use Rattle.trick_outside.specs.declared.link_in.LinkIn.{Ghosts as InGhosts}
use Rattle.trick_outside.specs.declared.link_out.LinkOut.{Ghosts as OutGhosts}
use Rattle.trick_serve_hearing.specs.declared.seat.Seat.{Seat}
use Rattle.trick_serve_clients.specs.Ending.{AreEnded, EndsAll, IsEndedBy}
use Rattle.trick_serve_clients.specs.Ends.{AreItsEnds, ends_left, seat_ends}
use Rattle.trick_serve_clients.specs.declared.ending.EndsLeft.{EndsLeft}
use Rattle.trick_serve_seats.specs.Pairs.{AllFit}
use Rattle.trick_serve_door.specs.Returns.{backs_of}
use Rattle.trick_serve_door.specs.declared.ending.SessionEnd.{SessionEnd}
use Rattle.trick_serve_door.specs.declared.ending.Ends.{Ends}
use Rattle.trick_serve_seats.specs.declared.past.Past.{Past}

-- the links of one session more
backs_more : {I O : Type 0} (number : ℕ) (sessions : List (SessionEnd I O)) (session : SessionEnd I O)
    → backs_of number (sessions ++ session ∷ []) ≡ backs_of number sessions ++ Back (number + length sessions) session.input session.output ∷ []
backs_more number [] session = ap (λ (n : ℕ). Back n session.input session.output ∷ []) (omega arith)
backs_more {I} {O} number (first ∷ sessions) session =
    ap (λ (l : List (Visit I O)). Back number first.input first.output ∷ l)
    (backs_more (number + 1) sessions session ∙ ap (λ (n : ℕ). backs_of (number + 1) sessions ++ Back n session.input session.output ∷ []) (omega arith))

-- It is not so of any of these sessions that there was no memory for its messages and its caller was not told.
abbrev pub NoneLacks : {I O : Type 0} → List (SessionEnd I O) → Type 0
NoneLacks sessions = All (λ session. session.lacked ≡ false) sessions

-- The first sessions were ended, and their links went back; the others are left, the last of them first.
pub record IsEnding {D I O : Type 0} (visited : D → List (Visit I O) → D → Type 0) (input : InGhosts I) (output : OutGhosts O) (first now : D) (all ends : List Ends) (pasts left : List (Past I O))
    (number : ℕ) (lacked : Bool) : Type 0 where
  pub done : List (SessionEnd I O)
  pub more : (sessions : List (SessionEnd I O)) → AreEnded input output ends (reverse left) sessions → AreEnded input output all pasts (done ++ sessions)
  pub fit : AllFit AreItsEnds ends (reverse left)
  pub count : number ≡ length done
  pub went : visited first (backs_of 1 done) now
  pub memory : lacked ≡ false → NoneLacks done

-- ---- the ends that are left

turned_cut : {A : Type 0} (left rest : List A) (x : A) → left ≡ rest ++ x ∷ [] → reverse left ≡ x ∷ reverse rest
turned_cut left rest x cut = ap reverse cut ∙ reverse-append rest (x ∷ [])

pub left_new : (left : EndsLeft) (seats : List Seat) (late : List Ends) → left.seats.items ≡ reverse seats → left.late.items ≡ reverse late → ends_left left ≡ map seat_ends seats ++ late
left_new left seats late turned also =
    λ i. map seat_ends ((ap reverse turned ∙ reverse-reverse seats) i) ++ (ap reverse also ∙ reverse-reverse late) i

pub left_seat : (old new : EndsLeft) (seat : Seat) (ends : Ends) → old.seats.items ≡ new.seats.items ++ seat ∷ [] → new.late ≡ old.late → ends ≡ seat_ends seat → ends_left old ≡ ends ∷ ends_left new
left_seat old new seat ends cut same is =
    (λ i. map seat_ends (turned_cut old.seats.items new.seats.items seat cut i) ++ reverse (sym same i).items)
    ∙ ap (λ (e : Ends). e ∷ ends_left new) (sym is)

-- where nothing was popped, nothing is left
pub none_popped : {T : Type 0} (result : Option T) (before now : ℕ) → MatchOption result ((before ≡ 0) × (now ≡ 0)) (λ item. now + 1 ≡ before) → result ≡ None → now ≡ 0
none_popped {T} result before now cases is = (subst (λ (r : Option T). MatchOption r ((before ≡ 0) × (now ≡ 0)) (λ item. now + 1 ≡ before)) is cases).1

pub left_late : (old new : EndsLeft) (next : Option Ends) → old.seats.items ≡ [] → new.seats.items ≡ [] → old.late.items ≡ new.late.items ++ option_to_list next → (next ≡ None → new.late.items ≡ [])
    → MatchOption next ((ends_left old ≡ []) × (ends_left new ≡ [])) (λ ends. ends_left old ≡ ends ∷ ends_left new)
left_late old new None none also cut empty =
    let over = empty refl in (
      (λ i. map seat_ends (reverse (none i)) ++ reverse ((cut ∙ append-nil new.late.items ∙ over) i)),
      (λ i. map seat_ends (reverse (also i)) ++ reverse (over i)),
    )
left_late old new (Some ends) none also cut empty =
    (λ i. map seat_ends (reverse (none i)) ++ turned_cut old.late.items new.late.items ends cut i)
    ∙ ap (λ (l : List Ends). ends ∷ l) (λ i. map seat_ends (reverse (sym also i)) ++ reverse new.late.items)

-- ---- one session after another

module _ {I O : Type 0} where
  -- some ends are left for a session that is
  pub not_none : (ends : List Ends) (past : Past I O) (pasts : List (Past I O)) → ends ≡ [] → AllFit AreItsEnds ends (past ∷ pasts) → ⊥
  not_none ends past pasts is fit = subst (λ (l : List Ends). AllFit AreItsEnds l (past ∷ pasts)) is fit

  -- the next ends are those of the next session
  pub next_fits : (ends after : List Ends) (mine : Ends) (past : Past I O) (pasts : List (Past I O)) → ends ≡ mine ∷ after → AllFit AreItsEnds ends (past ∷ pasts) → AreItsEnds mine past
  next_fits ends after mine past pasts is fit = (subst (λ (l : List Ends). AllFit AreItsEnds l (past ∷ pasts)) is fit).0

  rest_fits : (ends after : List Ends) (mine : Ends) (past : Past I O) (pasts : List (Past I O)) → ends ≡ mine ∷ after → AllFit AreItsEnds ends (past ∷ pasts) → AllFit AreItsEnds after pasts
  rest_fits ends after mine past pasts is fit = (subst (λ (l : List Ends). AllFit AreItsEnds l (past ∷ pasts)) is fit).1

  -- where no session is left, no ends are
  none_left : (input : InGhosts I) (output : OutGhosts O) (ends : List Ends) → AllFit (AreItsEnds {I = I} {O = O}) ends [] → AreEnded {I = I} {O = O} input output ends [] []
  none_left input output [] fit = tt
  none_left input output (one ∷ ends) fit = absurd fit

module _ {D I O : Type 0} (visited : D → List (Visit I O) → D → Type 0) (input : InGhosts I) (output : OutGhosts O) (first : D) (all : List Ends) (pasts : List (Past I O)) where
  pub ending_none : (left : List (Past I O)) → visited first [] first → AllFit AreItsEnds all pasts → left ≡ reverse pasts → IsEnding visited input output first first all all pasts left 0 false
  ending_none left none fit turned =
      let back : reverse left ≡ pasts = ap reverse turned ∙ reverse-reverse pasts in record {
        done = [];
        more = λ sessions ended. subst (λ (l : List (Past I O)). AreEnded input output all l sessions) back ended;
        fit = subst (λ (l : List (Past I O)). AllFit AreItsEnds all l) (sym back) fit;
        count = refl;
        went = none;
        memory = λ no. All-nil (λ (session : SessionEnd I O). session.lacked ≡ false);
      }

  -- the ends that come next are those of the session that comes next
  pub ending_fits : (now : D) (ends : List Ends) (left rest : List (Past I O)) (past : Past I O) (number : ℕ) (lacked : Bool) → left ≡ rest ++ past ∷ []
      → IsEnding visited input output first now all ends pasts left number lacked → (pasts' : List (Past I O)) × AllFit AreItsEnds ends (past ∷ pasts')
  ending_fits now ends left rest past number lacked cut e = (reverse rest, subst (λ (l : List (Past I O)). AllFit AreItsEnds ends l) (turned_cut left rest past cut) e.fit)

  pub ending_more : (old new : D) (ends after : List Ends) (mine : Ends) (left rest : List (Past I O)) (past : Past I O) (ended : SessionEnd I O) (number now : ℕ) (was is : Bool)
      → ((one two three : D) (early late : List (Visit I O)) → visited one early two → visited two late three → visited one (early ++ late) three)
      → left ≡ rest ++ past ∷ [] → now ≡ number + 1 → visited old (Back now ended.input ended.output ∷ []) new → ends ≡ mine ∷ after → IsEndedBy input output mine past ended
      → is ≡ (was || ended.lacked) → IsEnding visited input output first old all ends pasts left number was → IsEnding visited input output first new all after pasts rest now is
  ending_more old new ends after mine left rest past ended number now was is join cut more back next by said e =
      let turned = turned_cut left rest past cut in
      let fit = subst (λ (l : List (Past I O)). AllFit AreItsEnds ends l) turned e.fit in record {
        done = e.done ++ ended ∷ [];
        more = λ sessions so. subst (λ (l : List (SessionEnd I O)). AreEnded input output all pasts l) (sym (append_assoc e.done (ended ∷ []) sessions))
            (e.more (ended ∷ sessions) (subst (λ (l : List (Past I O)). AreEnded input output ends l (ended ∷ sessions)) (sym turned)
            (subst (λ (l : List Ends). AreEnded input output l (past ∷ reverse rest) (ended ∷ sessions)) (sym next) (by, so))));
        fit = rest_fits ends after mine past (reverse rest) next fit;
        count = (let many = length-append e.done (ended ∷ []) in let count = e.count in omega arith);
        went = subst (λ (visits : List (Visit I O)). visited first visits new) (sym (backs_more 1 e.done ended))
            (join first old new (backs_of 1 e.done) (Back (1 + length e.done) ended.input ended.output ∷ []) e.went
            (subst (λ (n : ℕ). visited old (Back n ended.input ended.output ∷ []) new) (more ∙ (let count = e.count in omega arith)) back));
        memory = λ no.
            let none = or_parts was ended.lacked (sym said ∙ no) in
            let Holds : SessionEnd I O → Type 0 = λ session. session.lacked ≡ false in
            All-append Holds e.done (ended ∷ []) (e.memory none.0) (All-cons Holds ended [] none.1 (All-nil Holds));
      }

  pub ending_all : (now : D) (ends : List Ends) (left : List (Past I O)) (number : ℕ) (lacked : Bool) → left ≡ [] → IsEnding visited input output first now all ends pasts left number lacked
      → EndsAll visited input output first now all pasts lacked
  ending_all now ends left number lacked none e =
      let empty : reverse left ≡ [] = ap reverse none in record {
        sessions = e.done;
        ended = subst (λ (l : List (SessionEnd I O)). AreEnded input output all pasts l) (append-nil e.done)
            (e.more [] (subst (λ (l : List (Past I O)). AreEnded input output ends l []) (sym empty) (none_left input output ends (subst (λ (l : List (Past I O)). AllFit AreItsEnds ends l) empty e.fit))));
        back = e.went;
        memory = e.memory;
      }
