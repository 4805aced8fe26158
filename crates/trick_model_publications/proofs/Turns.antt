-- Turns on both sides, under entries that differ in publications alone.
use Rattle.std.proofs.Common.{◌≡◌, ◌∙◌, ℕ, List, [], ◌∷◌, ◌++◌, Bool, true, false, not, cond, Option, Some, None, ap, refl, subst, sym, unwrap_or}
use Rattle.std.specs.Prelude.{filter}
use Rattle.trick_base.proofs.ContentLemmas.{content-append}
use Rattle.trick_base.specs.Content.{content, same_name}
use Rattle.trick_base.specs.Files.{Write}
use Rattle.trick_lang.specs.declared.class.Class.TheVariants as class
use Rattle.trick_model.specs.Checkpoint.{checkpoint_text}
use Rattle.trick_model.specs.Events.{Asking, Between, enter_freeze, leave_freeze}
use Rattle.trick_model.specs.Files.{journal_name, note, turn_writes}
use Rattle.trick_model.specs.Journal.{entry_lines, is_of_session}
use Rattle.trick_model.specs.Plan.{Plan}
use Rattle.trick_model.specs.Running.{run_class}
use Rattle.trick_model.specs.Session.{Answer, answered, joined, staying}
use Rattle.trick_model.specs.State.{State, World}
use Rattle.trick_model.specs.Turn.{Hearing, Turned, begun, changed, checkpoint_jobs, checkpoint_name, checkpoint_writes, counted, do_between, framed, frozen, hear, heard, publish_all, resumed, rounds, run_frame, runs, session_of, turn}
use Rattle.trick_model.specs.declared.deed.Deed.{Deed}
use Rattle.trick_model.specs.declared.deed.Deed.TheVariants.{SetCell, SetJob, Freeze, Stop as StopRun, Checkpoint, SetGroup, SetEvent}
use Rattle.trick_model.specs.declared.entry.Entry.{Entry}
use Rattle.trick_model.specs.declared.entry.Entry.TheVariants.{Join, Said, Leave, Publish}
use Rattle.trick_model.specs.declared.session.Session.{Session}
use Rattle.trick_model_publications.proofs.Beside.{publications_quiet, rounds_quiet}
use Rattle.trick_model_publications.proofs.States.{AreAlike, Keeps, alike_sym, alike_trans, both, class_keeps, enter_keeps, leave_keeps, lift}
use Rattle.trick_model_publications.proofs.Steady.{IsSteady}
use Rattle.trick_model_publications.proofs.Tics.{AreAskingAlike, AreTicksAlike, deed_alike, frame_alike, with_state}
use Rattle.trick_model_publications.specs.Publications.{lines_of}

-- Worlds have alike states and the same sessions.
pub record AreWorldsAlike (p : Plan) (w u : World) : Type 0 where
  pub state : AreAlike p w.state u.state
  pub sessions : w.sessions ≡ u.sessions

-- ---- step 1

-- the same of a turn whose entries are heard
record AreHeardAlike (p : Plan) (h g : Hearing) : Type 0 where
  asking : AreAskingAlike p h.asking g.asking
  sessions : h.sessions ≡ g.sessions

between_alike : (p : Plan) → IsSteady p → (deed : Option Deed) (a b : Asking) → AreAskingAlike p a b
    → AreAskingAlike p (do_between p deed a) (do_between p deed b)
between_alike p steady None a b h = h
between_alike p steady (Some (SetCell cell number)) a b h = deed_alike p Between (SetCell cell number) a b h
between_alike p steady (Some (SetJob job on)) a b h = deed_alike p Between (SetJob job on) a b h
between_alike p steady (Some Freeze) a b h = with_state p a b _ _ h (both p (enter_freeze p) (enter_keeps p steady) a.state b.state h.state)
between_alike p steady (Some (StopRun at)) a b h = deed_alike p Between (StopRun at) a b h
between_alike p steady (Some Checkpoint) a b h = deed_alike p Between Checkpoint a b h
between_alike p steady (Some (SetGroup group on)) a b h = deed_alike p Between (SetGroup group on) a b h
between_alike p steady (Some (SetEvent event on)) a b h = deed_alike p Between (SetEvent event on) a b h

resumed_alike : (p : Plan) → IsSteady p → (resume : Bool) (a b : Asking) → AreAskingAlike p a b → AreAskingAlike p (resumed p resume a) (resumed p resume b)
resumed_alike p steady false a b h = h
resumed_alike p steady true a b h = with_state p a b _ _ h (both p (leave_freeze p) (leave_keeps p steady) a.state b.state h.state)

-- what a line comes to, by the sessions that are there
abbrev answer_by : Plan → ℕ → List ℕ → List Session → Answer
answer_by p number line sessions = answered p (p.command line) (session_of number sessions)

said_alike : (p : Plan) → IsSteady p → (number : ℕ) (line : List ℕ) (h g : Hearing) → AreHeardAlike p h g
    → AreAskingAlike p (hear p (Said number line) h).asking (hear p (Said number line) g).asking
said_alike p steady number line h g alike =
    let one = answer_by p number line h.sessions in
    subst (λ (sessions : List Session). AreAskingAlike p (hear p (Said number line) h).asking
    (resumed p (answer_by p number line sessions).resume (do_between p (answer_by p number line sessions).deed g.asking))) alike.sessions
    (resumed_alike p steady one.resume (do_between p one.deed h.asking) (do_between p one.deed g.asking)
    (between_alike p steady one.deed h.asking g.asking alike.asking))

hear_alike : (p : Plan) → IsSteady p → (entry : Entry) (h g : Hearing) → AreHeardAlike p h g → AreHeardAlike p (hear p entry h) (hear p entry g)
hear_alike p steady (Join number) h g alike = record {
  asking = alike.asking;
  sessions = ap (λ (sessions : List Session). sessions ++ joined number ∷ []) alike.sessions;
}
hear_alike p steady (Said number line) h g alike = record {
  asking = said_alike p steady number line h g alike;
  sessions = ap (λ (sessions : List Session). changed (λ session. (answer_by p number line sessions).session) number sessions) alike.sessions;
}
hear_alike p steady (Leave number cause) h g alike = record {
  asking = alike.asking;
  sessions = ap (λ (sessions : List Session). changed (λ session. record session { leaving = true }) number sessions) alike.sessions;
}
hear_alike p steady (Publish thread) h g alike = alike

heard_alike : (p : Plan) → IsSteady p → (entries : List Entry) (h g : Hearing) → AreHeardAlike p h g → AreHeardAlike p (heard p entries h) (heard p entries g)
heard_alike p steady [] h g alike = alike
heard_alike p steady (entry ∷ entries) h g alike =
    heard_alike p steady entries (hear p entry h) (hear p entry g) (hear_alike p steady entry h g alike)

-- publications are not heard
lines_heard : (p : Plan) (entries : List Entry) (h : Hearing) → heard p entries h ≡ heard p (lines_of entries) h
lines_heard p [] h = refl
lines_heard p (Join number ∷ entries) h = lines_heard p entries (hear p (Join number) h)
lines_heard p (Said number line ∷ entries) h = lines_heard p entries (hear p (Said number line) h)
lines_heard p (Leave number cause ∷ entries) h = lines_heard p entries (hear p (Leave number cause) h)
lines_heard p (Publish thread ∷ entries) h = lines_heard p entries h

all_heard : (p : Plan) → IsSteady p → (one other : List Entry) (h g : Hearing) → lines_of one ≡ lines_of other → AreHeardAlike p h g
    → AreHeardAlike p (heard p one h) (heard p other g)
all_heard p steady one other h g same alike =
    subst (λ (x : Hearing). AreHeardAlike p x (heard p other g)) (sym (lines_heard p one h))
    (subst (λ (y : Hearing). AreHeardAlike p (heard p (lines_of one) h) y)
    (ap (λ (lines : List Entry). heard p lines g) same ∙ sym (lines_heard p other g)) (heard_alike p steady (lines_of one) h g alike))

-- ---- steps 2 to 7

runs_same : (p : Plan) (s t : State) → AreAlike p s t → runs s ≡ runs t
runs_same p s t h = lift p (λ (u : State). runs s ≡ runs u) s t h (λ v suits. refl)

frozen_alike : (p : Plan) → IsSteady p → (b c : Bool) (s t : State) → b ≡ c → AreAlike p s t → AreAlike p (frozen p b s) (frozen p c t)
frozen_alike p steady b c s t e h = subst (λ (d : Bool). AreAlike p (frozen p b s) (frozen p d t)) e (by_one b)
  where
    by_one : (d : Bool) → AreAlike p (frozen p d s) (frozen p d t)
    by_one true = both p (enter_freeze p) (enter_keeps p steady) s t h
    by_one false = h

-- what is published on either side makes no difference
published_alike : (p : Plan) → IsSteady p → (one other : List Entry) (s t : State) → AreAlike p s t → AreAlike p (publish_all p one s) (publish_all p other t)
published_alike p steady one other s t h =
    alike_trans p (publish_all p one s) s (publish_all p other t) (alike_sym p s (publish_all p one s) (publications_quiet p steady one s))
    (alike_trans p s t (publish_all p other t) h (publications_quiet p steady other t))

run_alike : (p : Plan) → IsSteady p → (one other : List Entry) (a b : Asking) → AreAskingAlike p a b
    → AreTicksAlike p (run_frame p one a) (run_frame p other b)
run_alike p steady one other a b h =
    let top = both p (run_class p class.TopOfFrame) (class_keeps p steady class.TopOfFrame) _ _ (published_alike p steady one other a.state b.state h.state) in
    let ran = frame_alike p steady (record a { state = run_class p class.TopOfFrame (publish_all p one a.state) })
    (record b { state = run_class p class.TopOfFrame (publish_all p other b.state) }) (with_state p a b _ _ h top) in
    let bottom = both p (run_class p class.EndOfFrame) (class_keeps p steady class.EndOfFrame) _ _ ran.asking.state in
    record {
      asking = with_state p _ _ _ _ ran.asking (frozen_alike p steady _ _ _ _ ran.asking.freeze bottom);
      writes = ran.writes;
    }

framed_alike : (p : Plan) → IsSteady p → (b c : Bool) (one other : List Entry) (x y : Asking) → b ≡ c → AreAskingAlike p x y
    → AreTicksAlike p (framed p b one x) (framed p c other y)
framed_alike p steady b c one other x y e h = subst (λ (d : Bool). AreTicksAlike p (framed p b one x) (framed p d other y)) e (by_one b)
  where
    by_one : (d : Bool) → AreTicksAlike p (framed p d one x) (framed p d other y)
    by_one true = run_alike p steady one other x y h
    by_one false = record { asking = h; writes = refl }

-- ---- steps 8 to 11

checked_alike : (p : Plan) → IsSteady p → (b c : Bool) (s t : State) → b ≡ c → AreAlike p s t → AreAlike p (checkpoint_jobs p b s) (checkpoint_jobs p c t)
checked_alike p steady b c s t e h = subst (λ (d : Bool). AreAlike p (checkpoint_jobs p b s) (checkpoint_jobs p d t)) e (by_one b)
  where
    by_one : (d : Bool) → AreAlike p (checkpoint_jobs p d s) (checkpoint_jobs p d t)
    by_one true = both p (run_class p class.Checkpoint) (class_keeps p steady class.Checkpoint) s t h
    by_one false = h

started_alike : (p : Plan) (b c : Bool) (s t : State) → AreAlike p s t → AreAlike p (rounds p b s) (rounds p c t)
started_alike p b c s t h =
    alike_trans p (rounds p b s) s (rounds p c t) (alike_sym p s (rounds p b s) (rounds_quiet p b s))
    (alike_trans p s t (rounds p c t) h (rounds_quiet p c t))

counted_keeps : (p : Plan) → Keeps p counted
counted_keeps p s v h = record { work = v; suits = h; is = refl }

-- ---- logs

-- A name is neither the journal's nor that of a checkpoint of a turn.
pub record IsLogName (name : List ℕ) : Type 0 where
  pub no_journal : same_name name journal_name ≡ false
  pub no_checkpoint : (turn : ℕ) → same_name name (checkpoint_name turn) ≡ false

-- bytes that are appended to another file
append_other : (t : Bool) (bytes : List ℕ) (before : Option (List ℕ)) → t ≡ false → cond t (Some (unwrap_or before [] ++ bytes)) before ≡ before
append_other t bytes before e = ap (λ (c : Bool). cond c (Some (unwrap_or before [] ++ bytes)) before) e

-- another file that is created and written
file_other : (t : Bool) (bytes : List ℕ) (before : Option (List ℕ)) → t ≡ false
    → cond t (Some (unwrap_or (cond t (Some []) before) [] ++ bytes)) (cond t (Some []) before) ≡ before
file_other t bytes before e = ap (λ (c : Bool). cond c (Some (unwrap_or (cond c (Some []) before) [] ++ bytes)) (cond c (Some []) before)) e

note_leaves : (name : List ℕ) → IsLogName name → (number : ℕ) (entries : List Entry) (before : Option (List ℕ)) → content name (note number entries) before ≡ before
note_leaves name log number [] before = refl
note_leaves name log number (entry ∷ entries) before =
    append_other (same_name name journal_name) (entry_lines number (entry ∷ entries)) before log.no_journal

checkpoint_leaves : (name : List ℕ) → IsLogName name → (p : Plan) (asked : Bool) (s : State) (before : Option (List ℕ))
    → content name (checkpoint_writes p asked s) before ≡ before
checkpoint_leaves name log p false s before = refl
checkpoint_leaves name log p true s before =
    file_other (same_name name (checkpoint_name s.turn)) (checkpoint_text p s) before (log.no_checkpoint s.turn)

-- of what a turn writes only its rows go to a log
rows_alone : (name : List ℕ) → IsLogName name → (p : Plan) (number : ℕ) (t : Turned) (rows : List Write) (asked : Bool) (s : State)
    → t.writes ≡ rows ++ checkpoint_writes p asked s → (before : Option (List ℕ)) → content name (turn_writes number t) before ≡ content name rows before
rows_alone name log p number t rows asked s e before =
    let lines : List Write = note number (filter is_of_session t.noted) in
    let publications : List Write = note number (filter (λ entry. not (is_of_session entry)) t.noted) in
    content-append name (lines ++ publications) t.writes before
    ∙ ap (content name t.writes)
    (content-append name lines publications before
    ∙ ap (content name publications) (note_leaves name log number (filter is_of_session t.noted) before)
    ∙ note_leaves name log number (filter (λ entry. not (is_of_session entry)) t.noted) before)
    ∙ ap (λ (writes : List Write). content name writes before) e
    ∙ content-append name rows (checkpoint_writes p asked s) before
    ∙ checkpoint_leaves name log p asked s (content name rows before)

-- ---- a turn

-- Turns go on to alike worlds and write the same to logs.
pub record AreTurnsAlike (p : Plan) (x y : Turned) : Type 0 where
  pub world : AreWorldsAlike p x.world y.world
  pub logs : (name : List ℕ) → IsLogName name → (m n : ℕ) (before : Option (List ℕ))
      → content name (turn_writes m x) before ≡ content name (turn_writes n y) before

pub turn_alike : (p : Plan) → IsSteady p → (w u : World) (one other : List Entry) → lines_of one ≡ lines_of other → AreWorldsAlike p w u
    → AreTurnsAlike p (turn p w one) (turn p u other)
turn_alike p steady w u one other same h =
    let x = heard p one (begun w) in
    let y = heard p other (begun u) in
    let heard = all_heard p steady one other (begun w) (begun u) same
    (record { asking = record { state = h.state; freeze = refl; checkpoint = refl }; sessions = h.sessions }) in
    let goes = runs_same p x.asking.state y.asking.state heard.asking.state in
    let ran = framed p (runs x.asking.state) one x.asking in
    let also = framed p (runs y.asking.state) other y.asking in
    let framed = framed_alike p steady (runs x.asking.state) (runs y.asking.state) one other x.asking y.asking goes heard.asking in
    let s = counted (rounds p (runs x.asking.state) (checkpoint_jobs p ran.asking.checkpoint ran.asking.state)) in
    let t = counted (rounds p (runs y.asking.state) (checkpoint_jobs p also.asking.checkpoint also.asking.state)) in
    let checked = checked_alike p steady ran.asking.checkpoint also.asking.checkpoint ran.asking.state also.asking.state framed.asking.checkpoint framed.asking.state in
    let started = started_alike p (runs x.asking.state) (runs y.asking.state) (checkpoint_jobs p ran.asking.checkpoint ran.asking.state)
    (checkpoint_jobs p also.asking.checkpoint also.asking.state) checked in
    record {
      world = record { state = both p counted (counted_keeps p) _ _ started; sessions = ap staying heard.sessions };
      logs = λ name log m n before.
          rows_alone name log p m (turn p w one) ran.writes ran.asking.checkpoint s refl before
          ∙ ap (λ (writes : List Write). content name writes before) framed.writes
          ∙ sym (rows_alone name log p n (turn p u other) also.writes also.asking.checkpoint t refl before);
    }
