-- A run under what its turns noted.
use Rattle.std.proofs.Common.{◌≡◌, ◌∙◌, ℕ, List, [], ◌∷◌, ◌++◌, ap, refl, subst, sym}
use Rattle.trick_serve_headline.proofs.Entries.{joins_join, joins_of_turn, lines_of_turn, own_of_turn}
use Rattle.trick_serve_headline.specs.Noted.{RunsAreTheSameAsNoted}
use Rattle.trick_model_sessions.specs.Silence.{newcomers}
use Rattle.trick_model.specs.Files.{messages_to}
use Rattle.trick_model.specs.Plan.{Plan}
use Rattle.trick_model.specs.Run.{opened}
use Rattle.trick_model.specs.State.{World}
use Rattle.trick_model.specs.Turn.{turn}
use Rattle.trick_model.specs.declared.entry.Entry.{Entry}
use Rattle.trick_exec_laws.specs.Left.{in_note_order, journal_lists}
use Rattle.trick_exec_laws.specs.Noting.{NotedDoSame}
use Rattle.trick_serve_hearing.specs.Life.{own}
use Rattle.trick_serve_facts.proofs.Keeping.{own_join}
use Rattle.trick_serve_facts.specs.IsServed.{FreezeHasEntries}
use Rattle.trick_serve_facts.specs.Serves.{all_entries}

pub own_same : (p : Plan) (w : World) (n : ℕ) (lists : List (List Entry)) → own n (all_entries (journal_lists p w lists)) ≡ own n (all_entries lists)
own_same p w n [] = refl
own_same p w n (entries ∷ lists) =
    let next = (turn p w entries).world in
    let noted = in_note_order (turn p w entries).noted in
    own_join n noted (all_entries (journal_lists p next lists))
    ∙ ap (λ (es : List Entry). es ++ own n (all_entries (journal_lists p next lists))) (own_of_turn p w n entries)
    ∙ ap (λ (es : List Entry). own n entries ++ es) (own_same p next n lists)
    ∙ sym (own_join n entries (all_entries lists))

joins_same : (p : Plan) (w : World) (lists : List (List Entry)) → newcomers (all_entries (journal_lists p w lists)) ≡ newcomers (all_entries lists)
joins_same p w [] = refl
joins_same p w (entries ∷ lists) =
    let next = (turn p w entries).world in
    let noted = in_note_order (turn p w entries).noted in
    joins_join noted (all_entries (journal_lists p next lists))
    ∙ ap (λ (ns : List ℕ). ns ++ newcomers (all_entries (journal_lists p next lists))) (joins_of_turn p w entries)
    ∙ ap (λ (ns : List ℕ). newcomers entries ++ ns) (joins_same p next lists)
    ∙ sym (joins_join entries (all_entries lists))

-- the world after a turn under what it noted
pub world_same : NotedDoSame → (p : Plan) (w : World) (entries : List Entry) → (turn p w (in_note_order (turn p w entries).noted)).world ≡ (turn p w entries).world
world_same law p w entries = (law p w (entries ∷ [])).worlds

frozen_same : NotedDoSame → (p : Plan) (w : World) (lists : List (List Entry)) → FreezeHasEntries p w lists → FreezeHasEntries p w (journal_lists p w lists)
frozen_same law p w [] holds = tt
frozen_same law p w (entries ∷ lists) (here, later) =
    let next = (turn p w entries).world in (
      λ frozen none. here frozen (sym (lines_of_turn p w entries) ∙ none),
      subst (λ (v : World). FreezeHasEntries p v (journal_lists p next lists)) (sym (world_same law p w entries)) (frozen_same law p next lists later),
    )

pub the_same : NotedDoSame → RunsAreTheSameAsNoted
the_same law p s lists = record {
  entries = λ n. own_same p (opened s) n lists;
  texts = λ n. ap (messages_to n) (law p (opened s) lists).said;
  joins = joins_same p (opened s) lists;
  frozen = λ holds. frozen_same law p (opened s) lists holds;
}
