-- Turns that were done in part.
use Rattle.std.proofs.Common.{◌≡◌, ◌∙◌, ℕ, List, [], ◌∷◌, ◌++◌, false, ap, append-nil, append_assoc, inl, inr, refl, subst, sym}
use Rattle.std.specs.Prelude.{◌⊎◌, Option}
use Rattle.trick_base.proofs.ContentLemmas.{content-append}
use Rattle.trick_base.proofs.WriteLemmas.{front_of_all, front_of_early, front_of_late}
use Rattle.trick_base.specs.Content.{IsKept, content, same_name}
use Rattle.trick_base.specs.Files.{Write}
use Rattle.trick_base.specs.Fronts.{IsFrontOf}
use Rattle.trick_model.specs.Files.{journal_name, turn_writes, turns_said, turns_writes}
use Rattle.trick_model.specs.Plan.{Plan}
use Rattle.trick_model.specs.Run.{after_turns}
use Rattle.trick_model.specs.Session.{Message}
use Rattle.trick_model.specs.State.{World}
use Rattle.trick_model.specs.Turn.{turn}
use Rattle.trick_model.specs.declared.entry.Entry.{Entry}
use Rattle.trick_model_remainder.proofs.Contents.{added_append, kept_append}
use Rattle.trick_model_remainder.proofs.Ends.{journal_is_no_checkpoint}
use Rattle.trick_model_remainder.proofs.Turns.{turns_kept}
use Rattle.trick_model_remainder.specs.Remainder.{added}
use Rattle.trick_exec_laws.proofs.Lasting.{AllOn, IsOn}
use Rattle.trick_exec_laws.proofs.Fronts.{NoneOf, none_added, none_content, none_front, none_kept, kept_front}
use Rattle.trick_exec_laws.proofs.Notes.{front_adds, front_order, notes, notes_add, notes_cut, notes_kept, notes_none, no_journal, turn_adds, turn_is}
use Rattle.trick_exec_laws.proofs.Same.{worlds_same}
use Rattle.trick_exec_laws.specs.Left.{IsCutOf, IsTorn, in_note_order, journal_lists, one_of}

-- ---- turns whose writes were done in part

-- Of lists that turns were given these are all, and nothing is torn; or all but the last, and of the last turn some of
-- the entries that it noted first, with the next one torn.
abbrev pub IsGivenCut : Plan → World → List (List Entry) → List ℕ → List (List Entry) → Type 0
IsGivenCut p w cut torn lists =
    ((cut ≡ lists) × (torn ≡ []))
    ⊎ ((most : List (List Entry)) × (entries front rest : List Entry) × (lists ≡ most ++ entries ∷ [])
    × (in_note_order (turn p (after_turns p w most) entries).noted ≡ front ++ rest) × (cut ≡ most ++ one_of front)
    × IsTorn (after_turns p w most).state.turn rest torn)

-- A part of what turns write was done, and these messages of theirs were handed over. The journal's whole lines are
-- those of a cut, all else is as after a part of what the turns under the cut write, and the messages are the first
-- that these turns say.
pub record InTurns (p : Plan) (w : World) (lists : List (List Entry)) (sent : List Message) (part : List Write) : Type 0 where
  pub cut : List (List Entry)
  pub torn : List ℕ
  pub is_cut : IsGivenCut p w cut torn lists
  pub goes : AllOn p w cut
  pub same : List Write
  pub is_same : IsFrontOf same (turns_writes p w cut)
  pub others : (name : List ℕ) (before : Option (List ℕ)) → same_name name journal_name ≡ false → content name part before ≡ content name same before
  pub kept : IsKept journal_name part
  pub adds : added journal_name part ≡ added journal_name (turns_writes p w cut) ++ torn
  pub unsent : List Message
  pub said : turns_said p w cut ≡ sent ++ unsent

-- a part of what a turn notes, and nothing said
pub in_notes : (p : Plan) (w : World) (entries : List Entry) (part : List Write) → IsOn w
    → IsFrontOf part (notes w.state.turn (turn p w entries).noted) → InTurns p w (entries ∷ []) [] part
in_notes p w entries part goes is =
    let so = notes_cut w.state.turn (turn p w entries).noted part is in
    record {
      cut = one_of so.front;
      torn = so.torn;
      is_cut = inr ([], entries, so.front, so.rest, refl, so.all, refl, so.is_torn);
      goes = on_one so.front;
      same = [];
      is_same = tt;
      others = λ name before other. none_content name part before
          (none_front name part (notes w.state.turn (turn p w entries).noted) is (notes_none name w.state.turn (turn p w entries).noted other));
      kept = kept_front journal_name part (notes w.state.turn (turn p w entries).noted) is (notes_kept w.state.turn (turn p w entries).noted);
      adds = so.are ∙ ap (λ (bs : List ℕ). bs ++ so.torn) (sym (front_adds p w entries so.front so.rest so.all));
      unsent = turns_said p w (one_of so.front);
      said = refl;
    }
  where
    on_one : (front : List Entry) → AllOn p w (one_of front)
    on_one [] = tt
    on_one (entry ∷ front) = (goes, tt)

-- all that a turn notes, a part of the rest, and the first of its messages
pub behind_notes : (p : Plan) (w : World) (entries : List Entry) (said unsaid : List Message) (part rest : List Write) → IsOn w
    → part ≡ notes w.state.turn (turn p w entries).noted ++ rest → IsFrontOf rest (turn p w entries).writes → (turn p w entries).said ≡ said ++ unsaid
    → InTurns p w (entries ∷ []) said part
behind_notes p w entries said unsaid part rest goes all is front =
    let number = w.state.turn in
    let t = turn p w entries in
    let none : NoneOf journal_name rest = none_front journal_name rest t.writes is (no_journal p w entries) in
    record {
      cut = entries ∷ [];
      torn = [];
      is_cut = inl (refl, refl);
      goes = (goes, tt);
      same = part;
      is_same = front_of_early part (turn_writes number t) []
          (subst (IsFrontOf part) (sym (turn_is p w entries))
          (subst (λ (ws : List Write). IsFrontOf ws (notes number t.noted ++ t.writes)) (sym all) (front_of_late (notes number t.noted) rest t.writes is)));
      others = λ name before other. refl;
      kept = subst (IsKept journal_name) (sym all) (kept_append journal_name (notes number t.noted) rest (notes_kept number t.noted) (none_kept journal_name rest none));
      adds = ap (added journal_name) all ∙ added_append journal_name (notes number t.noted) rest
          ∙ ap (λ (bs : List ℕ). added journal_name (notes number t.noted) ++ bs) (none_added journal_name rest none)
          ∙ append-nil (added journal_name (notes number t.noted)) ∙ notes_add number t.noted ∙ sym (turn_adds p w entries)
          ∙ sym (ap (added journal_name) (append-nil (turn_writes number t)))
          ∙ sym (append-nil (added journal_name (turns_writes p w (entries ∷ []))));
      unsent = unsaid;
      said = append-nil (turn p w entries).said ∙ front;
    }

-- a cut of later turns
cut_later : (p : Plan) (w : World) (entries : List Entry) (cut lists : List (List Entry)) (torn : List ℕ)
    → IsGivenCut p (turn p w entries).world cut torn lists → IsGivenCut p w (entries ∷ cut) torn (entries ∷ lists)
cut_later p w entries cut lists torn (inl is) = inl (ap (λ (ls : List (List Entry)). entries ∷ ls) is.0, is.1)
cut_later p w entries cut lists torn (inr (most, given, front, rest, is, noted_so, cut_so, torn_so)) =
    inr (
      entries ∷ most,
      given,
      front,
      rest,
      ap (λ (ls : List (List Entry)). entries ∷ ls) is,
      noted_so,
      ap (λ (ls : List (List Entry)). entries ∷ ls) cut_so,
      torn_so,
    )

kept_of_one : (p : Plan) (w : World) (entries : List Entry) → IsKept journal_name (turn_writes w.state.turn (turn p w entries))
kept_of_one p w entries =
    subst (IsKept journal_name) (append-nil (turn_writes w.state.turn (turn p w entries)))
    (turns_kept journal_name p w (entries ∷ []) journal_is_no_checkpoint)

-- turns after one whose writes were all done, and whose messages were all handed over
later_turn : (p : Plan) (w : World) (entries : List Entry) (lists : List (List Entry)) (sent more : List Message) (part rest : List Write) → IsOn w
    → sent ≡ (turn p w entries).said ++ more → part ≡ turn_writes w.state.turn (turn p w entries) ++ rest
    → InTurns p (turn p w entries).world lists more rest → InTurns p w (entries ∷ lists) sent part
later_turn p w entries lists sent more part rest goes all_said all so =
    let first = turn_writes w.state.turn (turn p w entries) in
    let next = (turn p w entries).world in
    let says = (turn p w entries).said in
    record {
      cut = entries ∷ so.cut;
      torn = so.torn;
      is_cut = cut_later p w entries so.cut lists so.torn so.is_cut;
      goes = (goes, so.goes);
      same = first ++ so.same;
      is_same = front_of_late first so.same (turns_writes p next so.cut) so.is_same;
      others = λ name before other.
          ap (λ (ws : List Write). content name ws before) all ∙ content-append name first rest before
          ∙ so.others name (content name first before) other ∙ sym (content-append name first so.same before);
      kept = subst (IsKept journal_name) (sym all) (kept_append journal_name first rest (kept_of_one p w entries) so.kept);
      adds = ap (added journal_name) all ∙ added_append journal_name first rest
          ∙ ap (λ (bs : List ℕ). added journal_name first ++ bs) so.adds
          ∙ sym (append_assoc (added journal_name first) (added journal_name (turns_writes p next so.cut)) so.torn)
          ∙ ap (λ (bs : List ℕ). bs ++ so.torn) (sym (added_append journal_name first (turns_writes p next so.cut)));
      unsent = so.unsent;
      said = ap (λ (said : List Message). says ++ said) so.said ∙ sym (append_assoc says more so.unsent)
          ∙ ap (λ (said : List Message). said ++ so.unsent) (sym all_said);
    }

-- turns whose writes were all done, and whose messages were all handed over
pub all_turns : (p : Plan) (w : World) (lists : List (List Entry)) → AllOn p w lists → InTurns p w lists (turns_said p w lists) (turns_writes p w lists)
all_turns p w lists goes = record {
  cut = lists;
  torn = [];
  is_cut = inl (refl, refl);
  goes = goes;
  same = turns_writes p w lists;
  is_same = front_of_all (turns_writes p w lists);
  others = λ name before other. refl;
  kept = turns_kept journal_name p w lists journal_is_no_checkpoint;
  adds = sym (append-nil (added journal_name (turns_writes p w lists)));
  unsent = [];
  said = sym (append-nil (turns_said p w lists));
}

-- such turns, and then one that was done in part
pub in_last : (p : Plan) (w : World) (most : List (List Entry)) (entries : List Entry) (said : List Message) (part : List Write) → AllOn p w (most ++ entries ∷ [])
    → (IsOn (after_turns p w most) → InTurns p (after_turns p w most) (entries ∷ []) said part)
    → InTurns p w (most ++ entries ∷ []) (turns_said p w most ++ said) (turns_writes p w most ++ part)
in_last p w [] entries said part goes so = so goes.0
in_last p w (first ∷ most) entries said part goes so =
    let next = (turn p w first).world in
    later_turn p w first (most ++ entries ∷ []) (turns_said p w (first ∷ most) ++ said) (turns_said p next most ++ said)
    (turns_writes p w (first ∷ most) ++ part) (turns_writes p next most ++ part) goes.0
    (append_assoc (turn p w first).said (turns_said p next most) said)
    (append_assoc (turn_writes w.state.turn (turn p w first)) (turns_writes p next most) part)
    (in_last p next most entries said part goes.1 so)

-- ---- the same, by what was noted

noted_append : (p : Plan) (w : World) (early late : List (List Entry)) → journal_lists p w (early ++ late) ≡ journal_lists p w early ++ journal_lists p (after_turns p w early) late
noted_append p w [] late = refl
noted_append p w (entries ∷ early) late =
    ap (λ (ls : List (List Entry)). in_note_order (turn p w entries).noted ∷ ls) (noted_append p (turn p w entries).world early late)

noted_front : (p : Plan) (w : World) (entries front rest : List Entry) → in_note_order (turn p w entries).noted ≡ front ++ rest
    → journal_lists p w (one_of front) ≡ one_of front
noted_front p w entries [] rest is = refl
noted_front p w entries (entry ∷ front) rest is = ap (λ (es : List Entry). es ∷ []) (front_order p w entries (entry ∷ front) rest is)

pub cut_noted : (p : Plan) (w : World) (cut lists : List (List Entry)) (torn : List ℕ) → IsGivenCut p w cut torn lists
    → IsCutOf p w (journal_lists p w cut) torn lists
cut_noted p w cut lists torn (inl is) = inl (ap (journal_lists p w) is.0, is.1)
cut_noted p w cut lists torn (inr (most, entries, front, rest, is, noted_so, cut_so, torn_so)) =
    inr (
      most,
      entries,
      front,
      rest,
      is,
      noted_so,
      ap (journal_lists p w) cut_so ∙ noted_append p w most (one_of front)
          ∙ ap (λ (ls : List (List Entry)). journal_lists p w most ++ ls) (noted_front p (after_turns p w most) entries front rest noted_so),
      torn_so,
    )

pub noted_on : (p : Plan) (w : World) (cut : List (List Entry)) → AllOn p w cut → AllOn p w (journal_lists p w cut)
noted_on p w [] goes = tt
noted_on p w (entries ∷ cut) goes = (
  goes.0,
  subst (λ (v : World). AllOn p v (journal_lists p (turn p w entries).world cut)) (sym (worlds_same p w (entries ∷ [])))
      (noted_on p (turn p w entries).world cut goes.1),
)
