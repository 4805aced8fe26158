-- Turns do the same under what they note.
use Rattle.std.proofs.Common.{◌≡◌, ◌∙◌, ℕ, ◌==◌, List, [], ◌∷◌, ◌++◌, Bool, true, false, not, ◌&&◌, Option, Some, None, ap, refl, subst, sym}
use Rattle.std.proofs.lemmas.Bool.{and_from, and_parts, eq-eqb, eqb-true}
use Rattle.std.specs.List.{list_any}
use Rattle.std.specs.Prelude.{◌||◌, cond, nat_le}
use Rattle.trick_base.specs.Files.{Write}
use Rattle.trick_exec_posts.proofs.Steps.{publish_none, publish_others, second_of}
use Rattle.trick_lang.specs.declared.class.Class.TheVariants as class
use Rattle.trick_model.specs.Beside.{find_thread, has_round, is_in_flight, publish, publish_round}
use Rattle.trick_model.specs.Events.{Asking}
use Rattle.trick_model.specs.Files.{note, turn_writes, turns_said, turns_writes}
use Rattle.trick_model.specs.Journal.{is_of_session}
use Rattle.trick_model.specs.Plan.{Plan, is_async, threads_beside}
use Rattle.trick_model.specs.Run.{Fits, after_turns, goes_on, has_session_entry, is_over, is_shut, opened}
use Rattle.trick_model.specs.Running.{run_class}
use Rattle.trick_model.specs.Session.{Message, samples}
use Rattle.trick_model.specs.State.{State, World, taken_at}
use Rattle.trick_model.specs.Tic.{Ticked, frame}
use Rattle.trick_model.specs.Turn.{Hearing, begun, checkpoint_jobs, checkpoint_writes, counted, framed, frozen, hear, heard, is_frozen, noted, publish_all, publishes, replies, reply, rounds, runs, turn}
use Rattle.trick_model.specs.declared.entry.Entry.{Entry}
use Rattle.trick_model.specs.declared.entry.Entry.TheVariants.{Join, Said, Leave, Publish}
use Rattle.trick_model.specs.declared.session.Session.{Session}
use Rattle.trick_model.specs.declared.taken.Taken.{Taken}
use Rattle.trick_model.specs.declared.thread.Thread.{Thread}
use Rattle.trick_exec_laws.proofs.Notes.{all_counting, heard_lines, lines_in, lines_noted, no_line_counts, noted_count, only_lines, others_in}
use Rattle.trick_exec_laws.specs.Left.{in_note_order, journal_lists}
use Rattle.trick_exec_laws.specs.Noting.{DoAsNoted}
use Rattle.trick_exec_meaning.proofs.PartLemmas.{IsMade, turn_made}
use Rattle.trick_exec_meaning.specs.Parts.{AreApart}

-- ---- publications that do not count do nothing

-- what holds something after a publication held it before
held_before : (p : Plan) (place other : ℕ) (thread : Thread) (tic : ℕ) (t : State) → (taken_at (publish p place thread tic t) other).held ≡ true
    → (taken_at t other).held ≡ true
held_before p place other thread tic t now = by (taken_at t place).held refl
  where
    by_place : (taken_at t place).held ≡ true → (c : Bool) → (other == place) ≡ c → (taken_at t other).held ≡ true
    by_place held true same = subst (λ (k : ℕ). (taken_at t k).held ≡ true) (sym (eqb-true other place same)) held
    by_place held false apart =
        ap (λ (x : Taken). x.held) (sym (publish_others p place other thread tic t (λ same. cc (sym apart ∙ eq-eqb other place same)))) ∙ now

    by : (b : Bool) → (taken_at t place).held ≡ b → (taken_at t other).held ≡ true
    by true e = by_place e (other == place) refl
    by false e = subst (λ (s : State). (taken_at s other).held ≡ true) (sym (publish_none p place thread tic t e)) now

abbrev flies : State → Option (ℕ × Thread) → Bool
flies t found = elim found [ None ↦ false | Some found ↦ has_round t found.0 found.1 ]

abbrev round_of : Plan → State → Option (ℕ × Thread) → State
round_of p t found = elim found [
  | None ↦ t
  | Some found ↦ elim (has_round t found.0 found.1) [ true ↦ publish p found.0 found.1 t.tic t | false ↦ t ]
]

-- where nothing flies nothing is published
round_not : (p : Plan) (t : State) (found : Option (ℕ × Thread)) → flies t found ≡ false → round_of p t found ≡ t
round_not p t None e = refl
round_not p t (Some found) e = sym (second_of (has_round t found.0 found.1) (publish p found.0 found.1 t.tic t) t e)

-- what flies after a round was published flew before
flew : (p : Plan) (t : State) (found other : Option (ℕ × Thread)) → flies (round_of p t found) other ≡ true → flies t other ≡ true
flew p t found None e = cc e
flew p t None (Some other) e = e
flew p t (Some found) (Some other) e = by (has_round t found.0 found.1) e
  where
    by : (b : Bool) → (let s : State = elim b [ true ↦ publish p found.0 found.1 t.tic t | false ↦ t ] in has_round s other.0 other.1 ≡ true)
        → has_round t other.0 other.1 ≡ true
    by true now =
        let parts = and_parts (is_async other.1.process) (taken_at (publish p found.0 found.1 t.tic t) other.0).held now in
        and_from (is_async other.1.process) (taken_at t other.0).held parts.0 (held_before p found.0 other.0 found.1 t.tic t parts.1)
    by false now = now

-- What flies in one state flies in another.
abbrev Within : Plan → State → State → Type 0
Within p t s = (number : ℕ) → is_in_flight p t number ≡ true → is_in_flight p s number ≡ true

within_more : (p : Plan) (t s : State) (number : ℕ) → Within p t s → Within p (publish_round p number t) s
within_more p t s number within other e =
    within other (flew p t (find_thread number (threads_beside p)) (find_thread other (threads_beside p)) e)

not_in_flight : (p : Plan) (t s : State) (number : ℕ) → runs s ≡ true → Within p t s → publishes p s (Publish number) ≡ false
    → publish_round p number t ≡ t
not_in_flight p t s number ran within e = round_not p t (find_thread number (threads_beside p)) (by (is_in_flight p t number) refl)
  where
    clash : (a b : Bool) → a ≡ true → b ≡ true → (a && b) ≡ false → ⊥
    clash true true one two none = cc none
    clash true false one two none = cc two
    clash false b one two none = cc one

    by : (b : Bool) → is_in_flight p t number ≡ b → is_in_flight p t number ≡ false
    by true now = absurd (clash (runs s) (is_in_flight p s number) ran (within number now) e)
    by false now = now

-- those that count publish what all of them publish
published_same : (p : Plan) (s : State) (entries : List Entry) (t : State) → runs s ≡ true → Within p t s
    → publish_all p (others_in (noted p s entries)) t ≡ publish_all p entries t
published_same p s [] t ran within = refl
published_same p s (Join session ∷ entries) t ran within = published_same p s entries t ran within
published_same p s (Said session line ∷ entries) t ran within = published_same p s entries t ran within
published_same p s (Leave session cause ∷ entries) t ran within = published_same p s entries t ran within
published_same p s (Publish number ∷ entries) t ran within =
    by (λ u so. published_same p s entries u ran so) (publishes p s (Publish number)) refl
  where
    by : ((u : State) → Within p u s → publish_all p (others_in (noted p s entries)) u ≡ publish_all p entries u)
        → (b : Bool) → publishes p s (Publish number) ≡ b
        → publish_all p (others_in (cond b (Publish number ∷ noted p s entries) (noted p s entries))) t ≡ publish_all p entries (publish_round p number t)
    by later true e = later (publish_round p number t) (within_more p t s number within)
    by later false e = later t within ∙ ap (publish_all p entries) (sym (not_in_flight p t s number ran within e))

-- a run frame after its publications
abbrev frame_from : Plan → State → Asking → Ticked
frame_from p s a =
    let top = run_class p class.TopOfFrame s in
    let ran = frame p (record a { state = top }) in
    let bottom = run_class p class.EndOfFrame ran.asking.state in
    record { asking = record (ran.asking) { state = frozen p ran.asking.freeze bottom }; writes = ran.writes }

framed_same : (p : Plan) (entries : List Entry) (a : Asking) → framed p (runs a.state) (others_in (noted p a.state entries)) a ≡ framed p (runs a.state) entries a
framed_same p entries a = by (runs a.state) refl
  where
    by : (b : Bool) → runs a.state ≡ b → framed p b (others_in (noted p a.state entries)) a ≡ framed p b entries a
    by true ran = ap (λ (s : State). frame_from p s a) (published_same p a.state entries a.state ran (λ number e. e))
    by false ran = refl

-- ---- a turn

replies_lines : (p : Plan) (entries : List Entry) (h : Hearing) → replies p (lines_in entries) h ≡ replies p entries h
replies_lines p [] h = refl
replies_lines p (Join session ∷ entries) h = replies_lines p entries (hear p (Join session) h)
replies_lines p (Said session line ∷ entries) h =
    ap (λ (ms : List Message). reply p (Said session line) h ++ ms) (replies_lines p entries (hear p (Said session line) h))
replies_lines p (Leave session cause ∷ entries) h = replies_lines p entries (hear p (Leave session cause) h)
replies_lines p (Publish thread ∷ entries) h = replies_lines p entries h

-- What a turn does under what it notes is what it does.
record TurnSame (p : Plan) (w : World) (entries : List Entry) : Type 0 where
  world : (turn p w (in_note_order (turn p w entries).noted)).world ≡ (turn p w entries).world
  writes : turn_writes w.state.turn (turn p w (in_note_order (turn p w entries).noted)) ≡ turn_writes w.state.turn (turn p w entries)
  said : (turn p w (in_note_order (turn p w entries).noted)).said ≡ (turn p w entries).said

turn_same : (p : Plan) (w : World) (entries : List Entry) → TurnSame p w entries
turn_same p w entries =
    let h = heard p entries (begun w) in
    let s = h.asking.state in
    let lines = lines_in (noted p s entries) in
    let others = others_in (noted p s entries) in
    let counts = noted_count p s entries in
    let apart : AreApart (in_note_order (noted p s entries)) lines others = record {
      all = refl;
      no_publication = only_lines (noted p s entries);
      no_line = no_line_counts p s others counts;
    } in
    let same : heard p lines (begun w) ≡ h = ap (λ (es : List Entry). heard p es (begun w)) (lines_noted p s entries) ∙ heard_lines p entries (begun w) in
    let made : IsMade p w (in_note_order (noted p s entries)) lines others h =
    turn_made p w (in_note_order (noted p s entries)) lines others h apart (sym same) in
    let ran = framed_same p entries h.asking in
    let after : Ticked → State = λ ran. counted (rounds p (runs s) (checkpoint_jobs p ran.asking.checkpoint ran.asking.state)) in
    let state : (turn p w (in_note_order (noted p s entries))).world.state ≡ (turn p w entries).world.state = made.state ∙ ap after ran in
    let number = w.state.turn in
    let rest : (turn p w (in_note_order (noted p s entries))).writes ≡ (turn p w entries).writes =
    made.writes ∙ ap (λ (ran : Ticked). ran.writes ++ checkpoint_writes p ran.asking.checkpoint (after ran)) ran in
    record {
      world = two_of (turn p w (in_note_order (noted p s entries))).world (turn p w entries).world state made.sessions;
      writes =
          ap (λ (es : List Entry). note number es ++ note number (others_in (turn p w (in_note_order (noted p s entries))).noted)
          ++ (turn p w (in_note_order (noted p s entries))).writes) made.noted_lines
          ∙ ap (λ (es : List Entry). note number lines ++ note number es ++ (turn p w (in_note_order (noted p s entries))).writes)
          (made.noted_publications ∙ all_counting p s others counts)
          ∙ ap (λ (ws : List Write). note number lines ++ note number others ++ ws) rest;
      said = made.said
          ∙ ap (λ (ms : List Message). ms ++ samples w.state.tic (after (framed p (runs s) others h.asking)) h.sessions)
          (ap (λ (es : List Entry). replies p es (begun w)) (lines_noted p s entries) ∙ replies_lines p entries (begun w))
          ∙ ap (λ (t : State). replies p entries (begun w) ++ samples w.state.tic t h.sessions) (ap after ran);
    }
  where
    two_of : (one other : World) → one.state ≡ other.state → one.sessions ≡ other.sessions → one ≡ other
    two_of one other state sessions =
        ap (λ (s : State). let w : World = record { state = s; sessions = one.sessions } in w) state
        ∙ ap (λ (ss : List Session). let w : World = record { state = other.state; sessions = ss } in w) sessions

-- ---- turns

pub worlds_same : (p : Plan) (w : World) (lists : List (List Entry)) → after_turns p w (journal_lists p w lists) ≡ after_turns p w lists
worlds_same p w [] = refl
worlds_same p w (entries ∷ lists) =
    let next = (turn p w entries).world in
    ap (λ (v : World). after_turns p v (journal_lists p next lists)) (turn_same p w entries).world ∙ worlds_same p next lists

pub writes_same : (p : Plan) (w : World) (lists : List (List Entry)) → turns_writes p w (journal_lists p w lists) ≡ turns_writes p w lists
writes_same p w [] = refl
writes_same p w (entries ∷ lists) =
    let next = (turn p w entries).world in
    let same = turn_same p w entries in
    ap (λ (ws : List Write). ws ++ turns_writes p (turn p w (in_note_order (turn p w entries).noted)).world (journal_lists p next lists)) same.writes
    ∙ ap (λ (v : World). turn_writes w.state.turn (turn p w entries) ++ turns_writes p v (journal_lists p next lists)) same.world
    ∙ ap (λ (ws : List Write). turn_writes w.state.turn (turn p w entries) ++ ws) (writes_same p next lists)

pub said_same : (p : Plan) (w : World) (lists : List (List Entry)) → turns_said p w (journal_lists p w lists) ≡ turns_said p w lists
said_same p w [] = refl
said_same p w (entries ∷ lists) =
    let next = (turn p w entries).world in
    let same = turn_same p w entries in
    ap (λ (ms : List Message). ms ++ turns_said p (turn p w (in_note_order (turn p w entries).noted)).world (journal_lists p next lists)) same.said
    ∙ ap (λ (v : World). (turn p w entries).said ++ turns_said p v (journal_lists p next lists)) same.world
    ∙ ap (λ (ms : List Message). (turn p w entries).said ++ ms) (said_same p next lists)

pub do_same : (p : Plan) (w : World) (lists : List (List Entry)) → DoAsNoted p w lists
do_same p w lists = record { worlds = worlds_same p w lists; writes = writes_same p w lists; said = said_same p w lists }

-- ---- whole runs

lines_any : (entries : List Entry) → list_any is_of_session (lines_in entries) ≡ list_any is_of_session entries
lines_any [] = refl
lines_any (Join session ∷ entries) = refl
lines_any (Said session line ∷ entries) = refl
lines_any (Leave session cause ∷ entries) = refl
lines_any (Publish thread ∷ entries) = lines_any entries

any_append : (early late : List Entry) → list_any is_of_session late ≡ false → list_any is_of_session (early ++ late) ≡ list_any is_of_session early
any_append [] late none = none
any_append (Join session ∷ early) late none = refl
any_append (Said session line ∷ early) late none = refl
any_append (Leave session cause ∷ early) late none = refl
any_append (Publish thread ∷ early) late none = any_append early late none

-- a turn notes a line where it has one
order_any : (p : Plan) (w : World) (entries : List Entry) → list_any is_of_session (in_note_order (turn p w entries).noted) ≡ list_any is_of_session entries
order_any p w entries =
    let s = (heard p entries (begun w)).asking.state in
    any_append (lines_in (noted p s entries)) (others_in (noted p s entries)) (no_line_counts p s (others_in (noted p s entries)) (noted_count p s entries))
    ∙ ap (list_any is_of_session) (lines_noted p s entries) ∙ lines_any entries

has_same : (p : Plan) (w : World) (lists : List (List Entry)) → has_session_entry (journal_lists p w lists) ≡ has_session_entry lists
has_same p w [] = refl
has_same p w (entries ∷ lists) =
    ap (λ (b : Bool). b || has_session_entry (journal_lists p (turn p w entries).world lists)) (order_any p w entries)
    ∙ ap (λ (b : Bool). list_any is_of_session entries || b) (has_same p (turn p w entries).world lists)

goes_same : (p : Plan) (w : World) (lists : List (List Entry)) → goes_on p w (journal_lists p w lists) ≡ goes_on p w lists
goes_same p w [] = refl
goes_same p w (entries ∷ lists) =
    let next = (turn p w entries).world in
    ap (λ (v : World). not (is_over w.state (journal_lists p w (entries ∷ lists))) && goes_on p v (journal_lists p next lists)) (turn_same p w entries).world
    ∙ ap (λ (b : Bool). not (is_over w.state (journal_lists p w (entries ∷ lists))) && b) (goes_same p next lists)
    ∙ ap (λ (b : Bool). not (is_shut w.state.mode || (nat_le w.state.limit w.state.tic || (is_frozen w.state.mode && not b))) && goes_on p next lists)
    (has_same p w (entries ∷ lists))

pub fits_same : (p : Plan) (s : State) (lists : List (List Entry)) → Fits p s lists → Fits p s (journal_lists p (opened s) lists)
fits_same p s lists fits = record {
  goes = goes_same p (opened s) lists ∙ fits.goes;
  over = ap (λ (w : World). is_over w.state []) (worlds_same p (opened s) lists) ∙ fits.over;
}
