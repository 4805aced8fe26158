-- What a turn notes, by its entries.
use Rattle.std.proofs.Common.{◌≡◌, ◌∙◌, ℕ, ◌+◌, List, [], ◌∷◌, ◌++◌, ap, append-nil, cond, refl, sym, zero-add}
use Rattle.std.proofs.lemmas.List.Elements.{filter-append}
use Rattle.std.proofs.lemmas.List.Sums.{sum_by-append, sum_by-cons}
use Rattle.std.specs.Prelude.{count_by}
use Rattle.trick_model_sessions.specs.Silence.{newcomers}
use Rattle.trick_model.specs.Journal.{is_of_session}
use Rattle.trick_model.specs.Plan.{Plan}
use Rattle.trick_model.specs.State.{World}
use Rattle.trick_model.specs.Turn.{begun, heard, noted, turn}
use Rattle.trick_model.specs.declared.entry.Entry.{Entry}
use Rattle.trick_model.specs.declared.entry.Entry.TheVariants.{Join, Said, Leave, Publish}
use Rattle.trick_exec_laws.proofs.Notes.{lines_in, lines_noted, others_in}
use Rattle.trick_exec_laws.specs.Left.{in_note_order}
use Rattle.trick_serve_hearing.specs.Life.{own}
use Rattle.trick_serve_facts.proofs.Keeping.{own_given}
use Rattle.trick_serve_facts.specs.NoThreads.{is_no_thread}

-- ---- publications are of no session

own_others : (n : ℕ) (entries : List Entry) → own n (others_in entries) ≡ []
own_others n [] = refl
own_others n (Join session ∷ entries) = own_others n entries
own_others n (Said session line ∷ entries) = own_others n entries
own_others n (Leave session why ∷ entries) = own_others n entries
own_others n (Publish thread ∷ entries) = own_others n entries

lines_others : (entries : List Entry) → lines_in (others_in entries) ≡ []
lines_others [] = refl
lines_others (Join session ∷ entries) = lines_others entries
lines_others (Said session line ∷ entries) = lines_others entries
lines_others (Leave session why ∷ entries) = lines_others entries
lines_others (Publish thread ∷ entries) = lines_others entries

lines_lines : (entries : List Entry) → lines_in (lines_in entries) ≡ lines_in entries
lines_lines [] = refl
lines_lines (Join session ∷ entries) = ap (λ (es : List Entry). Join session ∷ es) (lines_lines entries)
lines_lines (Said session line ∷ entries) = ap (λ (es : List Entry). Said session line ∷ es) (lines_lines entries)
lines_lines (Leave session why ∷ entries) = ap (λ (es : List Entry). Leave session why ∷ es) (lines_lines entries)
lines_lines (Publish thread ∷ entries) = lines_lines entries

pub joins_lines : (entries : List Entry) → newcomers (lines_in entries) ≡ newcomers entries
joins_lines [] = refl
joins_lines (Join session ∷ entries) = ap (λ (l : List ℕ). session ∷ l) (joins_lines entries)
joins_lines (Said session line ∷ entries) = joins_lines entries
joins_lines (Leave session why ∷ entries) = joins_lines entries
joins_lines (Publish thread ∷ entries) = joins_lines entries

pub joins_join : (early late : List Entry) → newcomers (early ++ late) ≡ newcomers early ++ newcomers late
joins_join [] late = refl
joins_join (Join session ∷ early) late = ap (λ (l : List ℕ). session ∷ l) (joins_join early late)
joins_join (Said session line ∷ early) late = joins_join early late
joins_join (Leave session why ∷ early) late = joins_join early late
joins_join (Publish thread ∷ early) late = joins_join early late

-- ---- what a turn notes

-- the joins, lines and leaves that a turn notes are those that it was given
pub lines_of_turn : (p : Plan) (w : World) (entries : List Entry) → lines_in (in_note_order (turn p w entries).noted) ≡ lines_in entries
lines_of_turn p w entries =
    let s = (heard p entries (begun w)).asking.state in
    filter-append is_of_session (lines_in (noted p s entries)) (others_in (noted p s entries))
    ∙ ap (λ (es : List Entry). lines_in (lines_in (noted p s entries)) ++ es) (lines_others (noted p s entries))
    ∙ append-nil (lines_in (lines_in (noted p s entries)))
    ∙ lines_lines (noted p s entries) ∙ lines_noted p s entries

-- so each session has the entries that it was given
pub own_of_turn : (p : Plan) (w : World) (n : ℕ) (entries : List Entry) → own n (in_note_order (turn p w entries).noted) ≡ own n entries
own_of_turn p w n entries =
    sym (own_given n (in_note_order (turn p w entries).noted)) ∙ ap (own n) (lines_of_turn p w entries) ∙ own_given n entries

-- and the same sessions join
pub joins_of_turn : (p : Plan) (w : World) (entries : List Entry) → newcomers (in_note_order (turn p w entries).noted) ≡ newcomers entries
joins_of_turn p w entries =
    sym (joins_lines (in_note_order (turn p w entries).noted)) ∙ ap newcomers (lines_of_turn p w entries) ∙ joins_lines entries

-- ---- leaves for want of a thread

-- how many of these entries are such
abbrev pub refused_in : List Entry → ℕ
refused_in entries = count_by is_no_thread entries

pub refused_join : (early late : List Entry) → refused_in (early ++ late) ≡ refused_in early + refused_in late
refused_join early late = sum_by-append (λ (entry : Entry). cond (is_no_thread entry) 1 0) early late

refused_cons : (entry : Entry) (entries : List Entry) → refused_in (entry ∷ entries) ≡ cond (is_no_thread entry) 1 0 + refused_in entries
refused_cons entry entries = sum_by-cons (λ (e : Entry). cond (is_no_thread e) 1 0) entry entries

refused_lines : (entries : List Entry) → refused_in (lines_in entries) ≡ refused_in entries
refused_lines [] = refl
refused_lines (Join session ∷ entries) =
    refused_cons (Join session) (lines_in entries) ∙ ap (λ (n : ℕ). 0 + n) (refused_lines entries) ∙ sym (refused_cons (Join session) entries)
refused_lines (Said session line ∷ entries) =
    refused_cons (Said session line) (lines_in entries) ∙ ap (λ (n : ℕ). 0 + n) (refused_lines entries) ∙ sym (refused_cons (Said session line) entries)
refused_lines (Leave session why ∷ entries) =
    refused_cons (Leave session why) (lines_in entries)
    ∙ ap (λ (n : ℕ). cond (is_no_thread (Leave session why)) 1 0 + n) (refused_lines entries) ∙ sym (refused_cons (Leave session why) entries)
refused_lines (Publish thread ∷ entries) = refused_lines entries ∙ sym (zero-add (refused_in entries)) ∙ sym (refused_cons (Publish thread) entries)

-- as many leave so by what a turn notes as by what it was given
pub refused_of_turn : (p : Plan) (w : World) (entries : List Entry) → refused_in (in_note_order (turn p w entries).noted) ≡ refused_in entries
refused_of_turn p w entries =
    sym (refused_lines (in_note_order (turn p w entries).noted)) ∙ ap refused_in (lines_of_turn p w entries) ∙ refused_lines entries
