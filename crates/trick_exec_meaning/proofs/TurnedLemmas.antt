-- What a turn did, by its parts.
use Rattle.std.proofs.Common.{◌≡◌, ◌∙◌, List, [], ◌++◌, not, Err, IsOk, ap, append_assoc, inl, inr, refl, subst, sym}
use Rattle.std.specs.Prelude.{filter, Result}
use Rattle.trick_base.proofs.Results.{not_ok}
use Rattle.trick_base.specs.Files.{Write}
use Rattle.trick_model.specs.Files.{note, turn_writes}
use Rattle.trick_model.specs.Journal.{is_of_session}
use Rattle.trick_model.specs.Plan.{Plan}
use Rattle.trick_model.specs.Session.{samples}
use Rattle.trick_model.specs.State.{World}
use Rattle.trick_model.specs.Turn.{Hearing, begun, replies, turn}
use Rattle.trick_model.specs.declared.entry.Entry.{Entry}
use Rattle.trick_outside.proofs.DoesLemmas.{does_err, does_then}
use Rattle.trick_outside.specs.Does.{Does, IsPartOf}
use Rattle.trick_outside.specs.declared.stop.Stop.{Stop}
use Rattle.trick_exec_meaning.proofs.DidLemmas.{did_err, did_of, did_then}
use Rattle.trick_exec_meaning.proofs.Going.{Laws}
use Rattle.trick_exec_meaning.proofs.PartLemmas.{IsMade}
use Rattle.trick_exec_meaning.proofs.SayLemmas.{says_as, says_none}
use Rattle.trick_exec_tic.proofs.StepLemmas.{steps_of-append}
use Rattle.trick_exec_meaning.specs.Answers.{Says}
use Rattle.trick_exec_meaning.specs.Hosts.{Hosts, Place, at}
use Rattle.trick_exec_meaning.specs.Parts.{counting, state_after, writes_after}
use Rattle.trick_exec_tic.specs.Steps.{steps_of}
use Rattle.trick_exec_meaning.specs.Turned.{Turned, line_notes, notes}

module _ {S U M Q : Type 0} (h : Hosts S U M Q) (laws : Laws h) (p : Plan) (w : World) (entries lines publications : List Entry) (heard : Hearing)
    (made : IsMade p w entries lines publications heard) where
  notes_are : steps_of (notes w.state.turn (turn p w entries)) ≡ steps_of (note w.state.turn lines) ++ steps_of (note w.state.turn (counting p heard.asking.state publications))
  notes_are =
      steps_of-append (note w.state.turn (filter is_of_session (turn p w entries).noted)) (note w.state.turn (filter (λ (entry : Entry). not (is_of_session entry)) (turn p w entries).noted))
      ∙ ap (λ (es : List Entry). steps_of (note w.state.turn es) ++ steps_of (note w.state.turn (filter (λ (entry : Entry). not (is_of_session entry)) (turn p w entries).noted))) made.noted_lines
      ∙ ap (λ (es : List Entry). steps_of (note w.state.turn lines) ++ steps_of (note w.state.turn es)) made.noted_publications

  steps_are : steps_of (turn_writes w.state.turn (turn p w entries))
      ≡ steps_of (notes w.state.turn (turn p w entries)) ++ steps_of (writes_after p publications heard.asking)
  steps_are =
      steps_of-append (notes w.state.turn (turn p w entries)) (turn p w entries).writes
      ∙ ap (λ (ws : List Write). steps_of (notes w.state.turn (turn p w entries)) ++ steps_of ws) made.writes

  -- all of its notes were made, and then the rest was done or not
  pub turned : {A B T : Type 0} {old : Place S U Q} {mid bottom : S} {new : Place S U Q} {first : Result A Stop} {second : Result B Stop} {result : Result T Stop}
      → Does h.shelf old.shelf mid first (steps_of (note w.state.turn lines)) → IsOk first
      → Does h.shelf mid bottom second (steps_of (note w.state.turn (counting p heard.asking.state publications))) → IsOk second
      → Does h.shelf bottom new.shelf result (steps_of (writes_after p publications heard.asking))
      → Says h.turns old.turns new.turns result (replies p lines (begun w) ++ samples w.state.tic (state_after p publications heard.asking) heard.sessions)
      → Turned h p w entries old new result
  turned {old = old} {bottom = bottom} {new = new} {second = second} {result = result} one ok two fine rest says =
      let noted : Does h.shelf old.shelf bottom second (steps_of (notes w.state.turn (turn p w entries))) =
      subst (λ c. Does h.shelf old.shelf bottom second c) (sym notes_are) (does_then laws.shelf one ok two) in
      let all = did_of (sym steps_are) (did_then laws.shelf noted fine rest) in
      record {
        does = all.0;
        says = says_as result (turn p w entries).said made.said says (λ d. d);
        prompt = inr (rest.calls, all.1);
      }

  -- it stopped before its notes were made
  unsaid : {T : Type 0} (old new : Place S U Q) (result : Result T Stop) → h.turns.went old.turns [] [] old.turns → (IsOk result → ⊥)
      → Does h.shelf old.shelf new.shelf result (steps_of (turn_writes w.state.turn (turn p w entries)))
      → Turned h p w entries old (at new.shelf old.turns new.posts) result
  unsaid old new result none never did =
      let says = says_none h.turns old.turns result (turn p w entries).said none never in
      record { does = did; says = says.0; prompt = inl says.1 }

  -- its lines were not all noted, or what was next was not done, for want of memory: no more was written than its lines
  pub turned_lines : {T : Type 0} {old : Place S U Q} {new : S} {posts : Q} (result : Result T Stop) (e : Stop)
      → h.turns.went old.turns [] [] old.turns → result ≡ Err e → Does h.shelf old.shelf new result (steps_of (note w.state.turn lines))
      → (turned : Turned h p w entries old (at new old.turns posts) result)
      × IsPartOf turned.does.calls (steps_of (line_notes w.state.turn (turn p w entries)))
  turned_lines {old = old} {new = new} {posts = posts} result e none is did =
      let counts = steps_of (note w.state.turn (counting p heard.asking.state publications)) in
      let rest = steps_of (writes_after p publications heard.asking) in
      let never = not_ok result e is in
      let all = did_of (sym (steps_are ∙ ap (λ c. c ++ rest) notes_are ∙ append_assoc (steps_of (note w.state.turn lines)) counts rest))
      (did_err result e e (counts ++ rest) did is is refl) in
      let says = says_none h.turns old.turns result (turn p w entries).said none never in (
        record { does = all.0; says = says.0; prompt = inl says.1 },
        subst (λ c. IsPartOf c (steps_of (line_notes w.state.turn (turn p w entries)))) (sym all.1)
            (subst (λ (es : List Entry). IsPartOf did.calls (steps_of (note w.state.turn es))) (sym made.noted_lines) did.part),
      )

  -- its publications were not noted
  pub turned_second : {A B T : Type 0} {old : Place S U Q} {mid new : S} {posts : Q} {first : Result A Stop} {second : Result B Stop} (result : Result T Stop) (e f : Stop)
      → h.turns.went old.turns [] [] old.turns → (IsOk result → ⊥)
      → Does h.shelf old.shelf mid first (steps_of (note w.state.turn lines)) → IsOk first
      → Does h.shelf mid new second (steps_of (note w.state.turn (counting p heard.asking.state publications))) → second ≡ Err e → result ≡ Err f → f ≡ e
      → Turned h p w entries old (at new old.turns posts) result
  turned_second {old = old} {new = new} {posts = posts} {second = second} result e f none never one ok two at_second is same =
      let noted : Does h.shelf old.shelf new second (steps_of (notes w.state.turn (turn p w entries))) =
      subst (λ c. Does h.shelf old.shelf new second c) (sym notes_are) (does_then laws.shelf one ok two) in
      unsaid old (at new old.turns posts) result none never
      (subst (λ c. Does h.shelf old.shelf new result c) (sym steps_are)
      (does_err result e f (steps_of (writes_after p publications heard.asking)) noted at_second is same))
