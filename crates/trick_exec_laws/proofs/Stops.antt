-- What the calls of a turn leave that stopped.
use Rattle.std.proofs.Common.{◌≡◌, ◌∙◌, List, [], ◌∷◌, ◌++◌, ap, inl, inr, refl, subst, sym}
use Rattle.std.specs.Prelude.{◌⊎◌}
use Rattle.trick_base.proofs.WriteLemmas.{all_written-append}
use Rattle.trick_base.specs.Files.{Files, Write, all_written}
use Rattle.trick_base.specs.Fronts.{IsFrontOf}
use Rattle.trick_model.specs.Files.{turn_writes}
use Rattle.trick_model.specs.Plan.{Plan}
use Rattle.trick_model.specs.Session.{Message}
use Rattle.trick_model.specs.State.{World}
use Rattle.trick_model.specs.Turn.{turn}
use Rattle.trick_model.specs.declared.entry.Entry.{Entry}
use Rattle.trick_outside.proofs.WriteLemmas.{all_done as all_left, front_of}
use Rattle.trick_outside.specs.Calls.{AllLeave, Call}
use Rattle.trick_outside.specs.Does.{IsPartOf}
use Rattle.trick_exec_laws.proofs.Lasting.{IsOn}
use Rattle.trick_exec_laws.proofs.Cuts.{InTurns, behind_notes, in_notes}
use Rattle.trick_exec_laws.proofs.Fronts.{InTwo, in_two}
use Rattle.trick_exec_laws.proofs.Notes.{notes, notes_are, turn_is}
use Rattle.trick_exec_meaning.specs.Stops.{StopsInTurn}
use Rattle.trick_exec_meaning.specs.Turned.{notes as turn_notes}
use Rattle.trick_exec_tic.proofs.StepLemmas.{all_done, steps_of-append, writes_of-steps_of}
use Rattle.trick_exec_tic.specs.Steps.{steps_of}

-- what steps leave that were all done
pub all_of_steps : (writes : List Write) (files now : Files) → AllLeave (steps_of writes) files now → now ≡ all_written writes files
all_of_steps writes files now left =
    all_left (steps_of writes) files now (all_done writes) left ∙ ap (λ (ws : List Write). all_written ws files) (writes_of-steps_of writes)

-- what a part of them leaves
pub front_of_steps : (calls : List Call) (writes : List Write) (files now : Files) → IsPartOf calls (steps_of writes) → AllLeave calls files now
    → (part : List Write) × IsFrontOf part writes × (now ≡ all_written part files)
front_of_steps calls writes files now is left =
    let so = front_of calls (steps_of writes) files now (all_done writes) is left in
    (so.writes, subst (IsFrontOf so.writes) (writes_of-steps_of writes) so.front, so.is)

-- what two parts of calls leave, one after the other
pub joined : (early late : List Write) (files mid now : Files) → mid ≡ all_written early files → now ≡ all_written late mid → now ≡ all_written (early ++ late) files
joined early late files mid now one two = two ∙ ap (all_written late) one ∙ sym (all_written-append early late files)

-- the files between two parts of calls
pub leave_split : (early late : List Call) (files now : Files) → AllLeave (early ++ late) files now → (mid : Files) × AllLeave early files mid × AllLeave late mid now
leave_split [] late files now left = (files, refl, left)
leave_split (call ∷ early) late files now (mid, one, more) =
    let so = leave_split early late mid now more in (so.0, (mid, one, so.1), so.2)

part_behind : (writes : List Write) (calls late : List Call) → IsPartOf (steps_of writes ++ calls) (steps_of writes ++ late) → IsPartOf calls late
part_behind [] calls late is = is
part_behind (write ∷ writes) calls late (inl is) = part_behind writes calls late is.1
part_behind (write ∷ writes) calls late (inr (why, is, none)) = cc is

-- What the calls of a turn leave that stopped with these messages handed over.
pub record TurnLeaves (p : Plan) (w : World) (entries : List Entry) (said : List Message) (files now : Files) : Type 0 where
  pub part : List Write
  pub is : now ≡ all_written part files
  pub so : IsOn w → InTurns p w (entries ∷ []) said part

pub turn_leaves : (p : Plan) (w : World) (entries : List Entry) (calls : List Call) (said : List Message) (files now : Files)
    → StopsInTurn p w entries calls said → AllLeave calls files now → TurnLeaves p w entries said files now
turn_leaves p w entries calls said files now stops left = by stops.prompt
  where
    by_part : (part : List Write) → IsOn w → InTwo part (notes w.state.turn (turn p w entries).noted) (turn p w entries).writes → InTurns p w (entries ∷ []) [] part
    by_part part goes (inl noting) = in_notes p w entries part goes noting
    by_part part goes (inr (rest, all, behind)) = behind_notes p w entries [] (turn p w entries).said part rest goes all behind refl

    by : (said ≡ []) ⊎ ((later : List Call) × (calls ≡ steps_of (turn_notes w.state.turn (turn p w entries)) ++ later)) → TurnLeaves p w entries said files now
    by (inl none) =
        let so = front_of_steps calls (turn_writes w.state.turn (turn p w entries)) files now stops.part left in
        record {
          part = so.0;
          is = so.2;
          so = λ goes. subst (λ (ms : List Message). InTurns p w (entries ∷ []) ms so.0) (sym none)
              (by_part so.0 goes (in_two so.0 (notes w.state.turn (turn p w entries).noted) (turn p w entries).writes
              (subst (IsFrontOf so.0) (turn_is p w entries) so.1)));
        }
    by (inr (later, are)) =
        let t = turn p w entries in
        let noted = notes w.state.turn t.noted in
        let begins : calls ≡ steps_of noted ++ later = are ∙ ap (λ (ws : List Write). steps_of ws ++ later) (notes_are w.state.turn t) in
        let whole : steps_of (turn_writes w.state.turn t) ≡ steps_of noted ++ steps_of t.writes =
        ap steps_of (turn_is p w entries) ∙ steps_of-append noted t.writes in
        let split = leave_split (steps_of noted) later files now (subst (λ (cs : List Call). AllLeave cs files now) begins left) in
        let so = front_of_steps later t.writes split.0 now
        (part_behind noted later (steps_of t.writes)
        (subst (λ (cs : List Call). IsPartOf cs (steps_of noted ++ steps_of t.writes)) begins (subst (IsPartOf calls) whole stops.part))) split.2 in
        record {
          part = noted ++ so.0;
          is = joined noted so.0 files split.0 now (all_of_steps noted files split.0 split.1) so.2;
          so = λ goes. behind_notes p w entries said stops.rest (noted ++ so.0) so.0 goes refl so.1 stops.front;
        }
