-- What is known once both ends of a queue are in one hand.
use Rattle.std.proofs.Common.{◌≡◌, ℕ, List, [], ◌∷◌, ◌++◌, Option, Some, None, arith, length, length-append, sym, refl, ap, ◌∙◌, subst, ◌⊎◌, inl, inr, ⊎_elim, append_assoc, append-nil}
use Rattle.std.proofs.lemmas.List.{nil_from_length}
use Rattle.trick_command.specs.Fed.{held_behind}
use Rattle.trick_model.specs.Commands.{lines}
use Rattle.trick_outside.specs.Causes.{Rose}
use Rattle.trick_wire.proofs.Reading.{late_lines, lines_go_on, too_long_stays}
use Rattle.trick_wire.proofs.Writing.{text_of-append}
use Rattle.trick_wire.specs.HasHeard.{HasHeard, IsMissing}
use Rattle.trick_wire.specs.HasRead.{HasRead}
use Rattle.trick_wire.specs.HasWritten.{HasWritten, IsCauseOf, IsUnwritten, cause_of, text_of}
use Rattle.trick_wire.specs.Puts.{IsLeftOut, IsWhy, last_of, said}
use Rattle.trick_wire.specs.declared.heard.Heard.{Heard}
use Rattle.trick_wire.specs.declared.heard.Heard.TheVariants as heard
use Rattle.trick_wire.specs.declared.heard.ReadStop.{ReadStop}
use Rattle.trick_wire.specs.declared.heard.ReadStop.TheVariants.{End, LongLine, LinkFault, OutOfMemory, Closed}
use Rattle.trick_wire.specs.declared.heard.WriteStop.{WriteStop}
use Rattle.trick_wire.specs.declared.heard.WriteStop.TheVariants as wrote

-- ---- the writer's side

-- what the writer took is the front of what was put
pub wrote_front : (old new : Option (List ℕ)) (first now : ℕ) (stop : WriteStop) (taken left put : List (List ℕ)) → HasWritten old new first now stop taken → put ≡ taken ++ left → (stop ≡ wrote.Closed → left ≡ []) → HasWritten old new first now stop put
wrote_front old new first now stop taken left put w is none = record {
  part = w.part;
  rest = w.rest ++ text_of left;
  text_is = ap text_of is ∙ text_of-append taken left ∙ ap (λ text. text ++ text_of left) w.text_is ∙ append_assoc w.part w.rest (text_of left);
  took = w.took;
  later = w.later;
  unwritten = unwritten_with stop w.unwritten none;
}
  where
    unwritten_with : (s : WriteStop) → IsUnwritten w.rest (Rose first now) s → (s ≡ wrote.Closed → left ≡ []) → IsUnwritten (w.rest ++ text_of left) (Rose first now) s
    unwritten_with wrote.Closed unwritten none = ap (λ text. text ++ text_of left) unwritten ∙ ap text_of (none refl)
    unwritten_with wrote.LinkFault unwritten none = unwritten
    unwritten_with wrote.OutOfMemory unwritten none = unwritten

-- ---- the fronts of lists with one entry or none

module _ {X : Type 0} where
  first_or : X → List X → X
  first_or other [] = other
  first_or other (x ∷ xs) = x

  tail_of : List X → List X
  tail_of [] = []
  tail_of (x ∷ xs) = xs

  no_entry : (x : X) (taken left : List X) → [] ≡ x ∷ (taken ++ left) → ⊥
  no_entry x taken left is = let counts = ap length is in omega arith

  none_front : (taken left : List X) → [] ≡ taken ++ left → taken ≡ []
  none_front [] left is = refl
  none_front (x ∷ taken) left is = absurd (no_entry x taken left is)

  one_front : (entry x : X) (taken left : List X) → entry ∷ [] ≡ x ∷ (taken ++ left) → x ∷ taken ≡ entry ∷ []
  unfolding first_or tail_of
  one_front entry x taken left is = let head : entry ≡ x = ap (λ xs. first_or x xs) is in let none = none_front taken left (ap tail_of is) in (λ i. sym head i ∷ none i)

pub cause_front : (stop : WriteStop) (taken left : List WriteStop) → cause_of stop ≡ taken ++ left → IsCauseOf taken stop
cause_front stop [] left is = inl refl
cause_front wrote.Closed (x ∷ taken) left is = absurd (no_entry x taken left is)
cause_front wrote.LinkFault (x ∷ taken) left is = inr (one_front wrote.LinkFault x taken left is)
cause_front wrote.OutOfMemory (x ∷ taken) left is = inr (one_front wrote.OutOfMemory x taken left is)

last_front : (stop : ReadStop) (x : Heard) (taken left : List Heard) → last_of stop ≡ x ∷ (taken ++ left) → x ∷ taken ≡ last_of stop
last_front End x taken left is = one_front heard.End x taken left is
last_front LongLine x taken left is = one_front heard.LongLine x taken left is
last_front LinkFault x taken left is = one_front heard.LinkFault x taken left is
last_front OutOfMemory x taken left is = one_front heard.OutOfMemory x taken left is
last_front Closed x taken left is = absurd (no_entry x taken left is)

-- ---- the reader's side

-- a front of lines and a mark is a front of the lines, or all of it
put_front : (stop : ReadStop) (some : List (List ℕ)) (taken left : List Heard) → said some ++ last_of stop ≡ taken ++ left
    → ((part : List (List ℕ)) × (rest : List (List ℕ)) × (some ≡ part ++ rest) × (taken ≡ said part)) ⊎ (taken ≡ said some ++ last_of stop)
unfolding first_or tail_of
put_front stop some [] left is = inl ([], some, refl, refl)
put_front stop [] (x ∷ taken) left is = inr (last_front stop x taken left is)
put_front stop (line ∷ some) (x ∷ taken) left is = let head : heard.Line line ≡ x = ap (λ xs. first_or x xs) is in
    ⊎_elim (λ (front : (part : List (List ℕ)) × (rest : List (List ℕ)) × (some ≡ part ++ rest) × (taken ≡ said part)). inl (line ∷ front.0, front.1, ap (λ ls. line ∷ ls) front.2, λ i. sym head i ∷ front.3 i))
    (λ (all : taken ≡ said some ++ last_of stop). inr (λ i. sym head i ∷ all i)) (put_front stop some taken left (ap tail_of is))

more_lines : (read more bytes : List ℕ) (some rest : List (List ℕ)) → lines read ≡ some ++ rest → bytes ≡ read ++ more → lines bytes ≡ some ++ (rest ++ late_lines (held_behind [] read) more)
more_lines read more bytes some rest are is = ap lines is ∙ lines_go_on read more ∙ ap (λ ls. ls ++ late_lines (held_behind [] read) more) are ∙ append_assoc some rest (late_lines (held_behind [] read) more)

no_late : (held : Option (List ℕ)) → late_lines held [] ≡ []
no_late None = refl
no_late (Some held) = refl

at_mark : (F : Type 0) (told : Option (List ℕ)) (stop : ReadStop) (read more bytes : List ℕ) (rest : List (List ℕ)) → told ≡ Some bytes → IsLeftOut rest stop
    → IsWhy ((all : List ℕ) → told ≡ Some all → all ≡ read) F read stop → bytes ≡ read ++ more → IsMissing bytes (rest ++ late_lines (held_behind [] read) more) stop
at_mark F told End read more bytes rest tells left_out why is = let none : more ≡ [] = nil_from_length more (let counts = ap length (sym is ∙ why bytes tells) in omega (arith, length-append read more)) in
    (λ i. left_out i ++ late_lines (held_behind [] read) (none i)) ∙ no_late (held_behind [] read)
at_mark F told LongLine read more bytes rest tells left_out why is = let stays = too_long_stays read more why in ((λ i. left_out i ++ late_lines (held_behind [] read) more) ∙ stays.0, ap (λ b. held_behind [] b) is ∙ stays.1)
at_mark F told LinkFault read more bytes rest tells left_out why is = tt
at_mark F told OutOfMemory read more bytes rest tells left_out why is = tt
at_mark F told Closed read more bytes rest tells left_out why is = tt

abbrev IsClosed : ReadStop → Type 0
IsClosed End = ⊥
IsClosed LongLine = ⊥
IsClosed LinkFault = ⊥
IsClosed OutOfMemory = ⊥
IsClosed Closed = Unit {0}

pub heard_front : (told new : Option (List ℕ)) (first now : ℕ) (stop : ReadStop) (put taken left : List Heard) → HasRead told new first now stop put → put ≡ taken ++ left → HasHeard told (Rose first now) taken
heard_front told new first now stop put taken left r cut = let h = r.put in let late = λ (more : List ℕ). late_lines (held_behind [] r.read) more in
    ⊎_elim (λ (front : (part : List (List ℕ)) × (rest : List (List ℕ)) × (h.some ≡ part ++ rest) × (taken ≡ said part)). record {
      some = front.0;
      mark = Closed;
      are = front.3 ∙ sym (append-nil (said front.0));
      lines_are = (λ bytes tells. let more = r.gave.left bytes tells in (
        (front.1 ++ h.rest) ++ late more.0,
        more_lines r.read more.0 bytes front.0 (front.1 ++ h.rest) (h.lines_are ∙ ap (λ ls. ls ++ h.rest) front.2 ∙ append_assoc front.0 front.1 h.rest) more.2,
        tt,
      ));
      fault = λ e. absurd (subst IsClosed e tt);
    })
    (λ (all : taken ≡ said h.some ++ last_of stop). record {
      some = h.some;
      mark = stop;
      are = all;
      lines_are = (λ bytes tells. let more = r.gave.left bytes tells in (
        h.rest ++ late more.0,
        more_lines r.read more.0 bytes h.some h.rest h.lines_are more.2,
        at_mark (Rose first now) told stop r.read more.0 bytes h.rest tells h.left_out h.why more.2,
      ));
      fault = λ e. subst (λ s. IsWhy ((all : List ℕ) → told ≡ Some all → all ≡ r.read) (Rose first now) r.read s) e h.why;
    })
    (put_front stop h.some taken left (sym h.are ∙ cut))
