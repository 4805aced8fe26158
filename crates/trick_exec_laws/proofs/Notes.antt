-- What the first entries that a turn noted would note, and what a turn writes of names.
use Rattle.std.proofs.Common.{◌≡◌, ◌∙◌, ℕ, List, [], ◌∷◌, ◌++◌, Bool, true, false, not, ap, append-nil, append_assoc, inl, inr, refl, subst, sym}
use Rattle.std.specs.List.{list_any}
use Rattle.std.specs.Prelude.{◌⊎◌, cond, filter}
use Rattle.trick_base.proofs.ListLemmas.{same_rest}
use Rattle.trick_base.specs.Content.{IsKept, same_name}
use Rattle.trick_base.specs.Files.{Write}
use Rattle.trick_base.specs.Fronts.{IsFrontOf}
use Rattle.trick_model.specs.Files.{journal_name, note, turn_writes, turns_writes}
use Rattle.trick_model.specs.Journal.{entry_lines, is_of_session}
use Rattle.trick_model.specs.Plan.{Plan}
use Rattle.trick_model.specs.State.{State, World}
use Rattle.trick_model.specs.Turn.{Hearing, Turned, begun, hear, heard, noted, publishes, turn}
use Rattle.trick_model.specs.declared.entry.Entry.{Entry}
use Rattle.trick_model.specs.declared.entry.Entry.TheVariants.{Join, Said, Leave, Publish}
use Rattle.trick_model_remainder.proofs.Contents.{added_append, kept_append}
use Rattle.trick_model_remainder.proofs.Turns.{note_kept}
use Rattle.trick_model_remainder.specs.Remainder.{added}
use Rattle.trick_exec_laws.proofs.Fronts.{InLines, InTwo, NoneOf, in_two, lines_append, none_added, none_append, note_adds, note_cut, note_none}
use Rattle.trick_exec_laws.proofs.Others.{IsNoLog, rest_none}
use Rattle.trick_exec_laws.specs.Left.{IsTorn, in_note_order, one_of}
use Rattle.trick_exec_meaning.proofs.PartLemmas.{heard_apart, lines_of, publications_of}
use Rattle.trick_exec_meaning.specs.Parts.{AreApart, counting}
use Rattle.trick_exec_meaning.specs.Turned.{notes as turn_notes}
use Rattle.trick_exec_sources.specs.Turns.{has_line}

-- ---- lines and publications among what is noted

abbrev pub lines_in : List Entry → List Entry
lines_in entries = filter is_of_session entries

abbrev pub others_in : List Entry → List Entry
others_in entries = filter (λ (entry : Entry). not (is_of_session entry)) entries

-- publications are not heard
pub heard_lines : (p : Plan) (entries : List Entry) (h : Hearing) → heard p (lines_in entries) h ≡ heard p entries h
heard_lines p [] h = refl
heard_lines p (Join session ∷ entries) h = heard_lines p entries (hear p (Join session) h)
heard_lines p (Said session line ∷ entries) h = heard_lines p entries (hear p (Said session line) h)
heard_lines p (Leave session cause ∷ entries) h = heard_lines p entries (hear p (Leave session cause) h)
heard_lines p (Publish thread ∷ entries) h = heard_lines p entries h

-- all lines are noted
pub lines_noted : (p : Plan) (s : State) (entries : List Entry) → lines_in (noted p s entries) ≡ lines_in entries
lines_noted p s [] = refl
lines_noted p s (Join session ∷ entries) = ap (λ (es : List Entry). Join session ∷ es) (lines_noted p s entries)
lines_noted p s (Said session line ∷ entries) = ap (λ (es : List Entry). Said session line ∷ es) (lines_noted p s entries)
lines_noted p s (Leave session cause ∷ entries) = ap (λ (es : List Entry). Leave session cause ∷ es) (lines_noted p s entries)
lines_noted p s (Publish thread ∷ entries) = by (publishes p s (Publish thread)) (lines_noted p s entries)
  where
    by : (b : Bool) → lines_in (noted p s entries) ≡ lines_in entries → lines_in (cond b (Publish thread ∷ noted p s entries) (noted p s entries)) ≡ lines_in entries
    by true e = e
    by false e = e

pub only_lines : (entries : List Entry) → list_any (λ (entry : Entry). not (is_of_session entry)) (lines_in entries) ≡ false
only_lines [] = refl
only_lines (Join session ∷ entries) = only_lines entries
only_lines (Said session line ∷ entries) = only_lines entries
only_lines (Leave session cause ∷ entries) = only_lines entries
only_lines (Publish thread ∷ entries) = only_lines entries

-- Each of these entries is a publication that counts.
abbrev pub AllCount : Plan → State → List Entry → Type 0
AllCount p s [] = Unit {0}
AllCount p s (entry ∷ entries) = (publishes p s entry ≡ true) × AllCount p s entries

pub noted_count : (p : Plan) (s : State) (entries : List Entry) → AllCount p s (others_in (noted p s entries))
noted_count p s [] = tt
noted_count p s (Join session ∷ entries) = noted_count p s entries
noted_count p s (Said session line ∷ entries) = noted_count p s entries
noted_count p s (Leave session cause ∷ entries) = noted_count p s entries
noted_count p s (Publish thread ∷ entries) = by (publishes p s (Publish thread)) refl (noted_count p s entries)
  where
    by : (b : Bool) → publishes p s (Publish thread) ≡ b → AllCount p s (others_in (noted p s entries))
        → AllCount p s (others_in (cond b (Publish thread ∷ noted p s entries) (noted p s entries)))
    by true e so = (e, so)
    by false e so = so

count_front : (p : Plan) (s : State) (front rest : List Entry) → AllCount p s (front ++ rest) → AllCount p s front
count_front p s [] rest so = tt
count_front p s (entry ∷ front) rest so = (so.0, count_front p s front rest so.1)

pub all_counting : (p : Plan) (s : State) (entries : List Entry) → AllCount p s entries → counting p s entries ≡ entries
all_counting p s [] so = refl
all_counting p s (entry ∷ entries) so =
    ap (λ (b : Bool). cond b (entry ∷ counting p s entries) (counting p s entries)) so.0
    ∙ ap (λ (es : List Entry). entry ∷ es) (all_counting p s entries so.1)

pub no_line_counts : (p : Plan) (s : State) (entries : List Entry) → AllCount p s entries → has_line entries ≡ false
no_line_counts p s [] so = refl
no_line_counts p s (Join session ∷ entries) so = let never = so.0 in cc never
no_line_counts p s (Said session line ∷ entries) so = let never = so.0 in cc never
no_line_counts p s (Leave session cause ∷ entries) so = let never = so.0 in cc never
no_line_counts p s (Publish thread ∷ entries) so = no_line_counts p s entries so.1

-- ---- the first entries that were noted note themselves

-- a prefix of lists in two parts
abbrev InParts : List Entry → List Entry → List Entry → Type 0
InParts front early late = ((rest : List Entry) × (early ≡ front ++ rest)) ⊎ ((more rest : List Entry) × (front ≡ early ++ more) × (late ≡ more ++ rest))

first_entry : (a b : Entry) (xs ys : List Entry) → a ∷ xs ≡ b ∷ ys → a ≡ b
first_entry a b xs ys e = cc e

in_parts : (front rest early late : List Entry) → early ++ late ≡ front ++ rest → InParts front early late
in_parts [] rest early late e = inl (early, refl)
in_parts (mine ∷ front) rest [] late e = inr (mine ∷ front, rest, refl, e)
in_parts (mine ∷ front) rest (entry ∷ early) late e =
    by (in_parts front rest early late (same_rest entry mine (early ++ late) (front ++ rest) e))
  where
    same : entry ≡ mine
    same = first_entry entry mine (early ++ late) (front ++ rest) e

    by : InParts front early late → InParts (mine ∷ front) (entry ∷ early) late
    by (inl (rest, is)) = inl (rest, ap (λ (e : Entry). e ∷ early) same ∙ ap (λ (es : List Entry). mine ∷ es) is)
    by (inr (more, rest, is, so)) = inr (more, rest, ap (λ (e : Entry). e ∷ front) (sym same) ∙ ap (λ (es : List Entry). entry ∷ es) is, so)

-- lines before publications are noted in this order
order_apart : (p : Plan) (s : State) (entries lines others : List Entry) → AreApart entries lines others → counting p s others ≡ others
    → in_note_order (noted p s entries) ≡ entries
order_apart p s entries lines others apart counts =
    ap (λ (es : List Entry). es ++ others_in (noted p s entries)) (lines_of p s entries lines others apart)
    ∙ ap (λ (es : List Entry). lines ++ es) (publications_of p s entries lines others apart ∙ counts)
    ∙ sym apart.all

no_line_front : (front rest : List Entry) → list_any (λ (entry : Entry). not (is_of_session entry)) (front ++ rest) ≡ false
    → list_any (λ (entry : Entry). not (is_of_session entry)) front ≡ false
no_line_front [] rest e = refl
no_line_front (Join session ∷ front) rest e = no_line_front front rest e
no_line_front (Said session line ∷ front) rest e = no_line_front front rest e
no_line_front (Leave session cause ∷ front) rest e = no_line_front front rest e
no_line_front (Publish thread ∷ front) rest e = cc e

pub front_order : (p : Plan) (w : World) (entries front rest : List Entry) → in_note_order (turn p w entries).noted ≡ front ++ rest
    → in_note_order (turn p w front).noted ≡ front
front_order p w entries front rest is = by (in_parts front rest (lines_in whole) (others_in whole) is)
  where
    s : State
    s = (heard p entries (begun w)).asking.state

    whole : List Entry
    whole = noted p (heard p entries (begun w)).asking.state entries

    by : InParts front (lines_in (noted p (heard p entries (begun w)).asking.state entries)) (others_in (noted p (heard p entries (begun w)).asking.state entries))
        → in_note_order (turn p w front).noted ≡ front
    by (inl (left, all)) =
        order_apart p (heard p front (begun w)).asking.state front front []
        (record {
          all = sym (append-nil front);
          no_publication = no_line_front front left
              (ap (list_any (λ (entry : Entry). not (is_of_session entry))) (sym all)
              ∙ only_lines (noted p (heard p entries (begun w)).asking.state entries));
          no_line = refl;
        }) refl
    by (inr (more, left, all, so)) =
        let before : State = (heard p entries (begun w)).asking.state in
        let lines = lines_in (noted p before entries) in
        let counts : AllCount p before more = count_front p before more left (subst (AllCount p before) so (noted_count p before entries)) in
        let apart : AreApart front lines more = record {
          all = all;
          no_publication = only_lines (noted p before entries);
          no_line = no_line_counts p before more counts;
        } in
        let same : heard p front (begun w) ≡ heard p entries (begun w) =
        heard_apart p front lines more (begun w) apart
        ∙ ap (λ (es : List Entry). heard p es (begun w)) (lines_noted p before entries) ∙ heard_lines p entries (begun w) in
        order_apart p (heard p front (begun w)).asking.state front lines more apart
        (ap (λ (h : Hearing). counting p h.asking.state more) same ∙ all_counting p before more counts)

-- ---- what a turn writes after its notes

pub journal_is_no_log : IsNoLog journal_name
journal_is_no_log group = refl

-- nothing else that a turn writes is the journal
pub no_journal : (p : Plan) (w : World) (entries : List Entry) → NoneOf journal_name (turn p w entries).writes
no_journal p w entries = rest_none journal_name journal_is_no_log p w entries refl

-- ---- both notes

-- what a turn notes, first
pub notes : ℕ → List Entry → List Write
notes number entries = note number (lines_in entries) ++ note number (others_in entries)

pub notes_add : (number : ℕ) (entries : List Entry) → added journal_name (notes number entries) ≡ entry_lines number (in_note_order entries)
unfolding notes
notes_add number entries =
    added_append journal_name (note number (lines_in entries)) (note number (others_in entries))
    ∙ ap (λ (bs : List ℕ). bs ++ added journal_name (note number (others_in entries))) (note_adds number (lines_in entries))
    ∙ ap (λ (bs : List ℕ). entry_lines number (lines_in entries) ++ bs) (note_adds number (others_in entries))
    ∙ sym (lines_append number (lines_in entries) (others_in entries))

pub notes_none : (name : List ℕ) (number : ℕ) (entries : List Entry) → same_name name journal_name ≡ false → NoneOf name (notes number entries)
unfolding notes
notes_none name number entries other =
    none_append name (note number (lines_in entries)) (note number (others_in entries))
    (note_none name number (lines_in entries) other) (note_none name number (others_in entries) other)

-- what is torn is so where more is left
torn_more : (number : ℕ) (rest more : List Entry) (torn : List ℕ) → IsTorn number rest torn → IsTorn number (rest ++ more) torn
torn_more number rest more torn (inl none) = inl none
torn_more number rest more torn (inr (entry, later, is, short)) = inr (entry, later ++ more, ap (λ (es : List Entry). es ++ more) is, short)

-- a part of them adds the first of their lines
pub notes_cut : (number : ℕ) (entries : List Entry) (front : List Write) → IsFrontOf front (notes number entries)
    → InLines number (in_note_order entries) (added journal_name front)
unfolding notes
notes_cut number entries front is = by (in_two front (note number (lines_in entries)) (note number (others_in entries)) is)
  where
    by : InTwo front (note number (lines_in entries)) (note number (others_in entries)) → InLines number (in_note_order entries) (added journal_name front)
    by (inl first) =
        let so = note_cut number (lines_in entries) front first in
        record {
          front = so.front;
          rest = so.rest ++ others_in entries;
          torn = so.torn;
          all = ap (λ (es : List Entry). es ++ others_in entries) so.all ∙ append_assoc so.front so.rest (others_in entries);
          are = so.are;
          is_torn = torn_more number so.rest (others_in entries) so.torn so.is_torn;
        }
    by (inr (rest, all, second)) =
        let so = note_cut number (others_in entries) rest second in
        let lines = lines_in entries in
        record {
          front = lines ++ so.front;
          rest = so.rest;
          torn = so.torn;
          all = ap (λ (es : List Entry). lines ++ es) so.all ∙ sym (append_assoc lines so.front so.rest);
          are = ap (added journal_name) all ∙ added_append journal_name (note number lines) rest
              ∙ ap (λ (bs : List ℕ). bs ++ added journal_name rest) (note_adds number lines)
              ∙ ap (λ (bs : List ℕ). entry_lines number lines ++ bs) so.are
              ∙ sym (append_assoc (entry_lines number lines) (entry_lines number so.front) so.torn)
              ∙ ap (λ (bs : List ℕ). bs ++ so.torn) (sym (lines_append number lines so.front));
          is_torn = so.is_torn;
        }

-- the writes of a turn: its notes, and the rest
pub turn_is : (p : Plan) (w : World) (entries : List Entry) → turn_writes w.state.turn (turn p w entries)
    ≡ notes w.state.turn (turn p w entries).noted ++ (turn p w entries).writes
unfolding notes
turn_is p w entries = refl

-- what a turn notes, as `trick_exec_meaning` says it
pub notes_are : (number : ℕ) (t : Turned) → turn_notes number t ≡ notes number t.noted
unfolding notes
notes_are number t = refl

-- a turn adds to the journal the lines of what it notes
pub turn_adds : (p : Plan) (w : World) (entries : List Entry)
    → added journal_name (turn_writes w.state.turn (turn p w entries)) ≡ entry_lines w.state.turn (in_note_order (turn p w entries).noted)
turn_adds p w entries =
    let t = turn p w entries in
    ap (added journal_name) (turn_is p w entries)
    ∙ added_append journal_name (notes w.state.turn t.noted) t.writes
    ∙ ap (λ (bs : List ℕ). bs ++ added journal_name t.writes) (notes_add w.state.turn t.noted)
    ∙ ap (λ (bs : List ℕ). entry_lines w.state.turn (in_note_order t.noted) ++ bs) (none_added journal_name t.writes (no_journal p w entries))
    ∙ append-nil (entry_lines w.state.turn (in_note_order t.noted))

-- and those of a front are the front's
pub front_adds : (p : Plan) (w : World) (entries front rest : List Entry) → in_note_order (turn p w entries).noted ≡ front ++ rest
    → added journal_name (turns_writes p w (one_of front)) ≡ entry_lines w.state.turn front
front_adds p w entries [] rest is = refl
front_adds p w entries (entry ∷ front) rest is =
    ap (added journal_name) (append-nil (turn_writes w.state.turn (turn p w (entry ∷ front))))
    ∙ turn_adds p w (entry ∷ front) ∙ ap (entry_lines w.state.turn) (front_order p w entries (entry ∷ front) rest is)

-- notes make no file anew
pub notes_kept : (number : ℕ) (entries : List Entry) → IsKept journal_name (notes number entries)
unfolding notes
notes_kept number entries =
    kept_append journal_name (note number (lines_in entries)) (note number (others_in entries))
    (note_kept journal_name number (lines_in entries)) (note_kept journal_name number (others_in entries))
