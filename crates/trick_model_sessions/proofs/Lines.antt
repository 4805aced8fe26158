-- What a turn does, by its lines and publications.
use Rattle.std.proofs.Common.{◌≡◌, ◌∙◌, ℕ, nat_lt, List, [], ◌∷◌, ◌++◌, length, Bool, true, false, Option, Some, None, ap, refl, sym}
use Rattle.trick_base.specs.Files.{Write}
use Rattle.trick_lang.specs.declared.class.Class.TheVariants as class
use Rattle.trick_model_sessions.specs.Lines.{AllApplySame, ApplySame, line_texts, rows_and_checkpoints, threads_in}
use Rattle.trick_model.specs.Beside.{publish_round}
use Rattle.trick_model.specs.Events.{Asking, names_of}
use Rattle.trick_model.specs.Names.{deed_of}
use Rattle.trick_model.specs.Plan.{Plan}
use Rattle.trick_model.specs.Run.{after_turns}
use Rattle.trick_model.specs.Running.{run_class}
use Rattle.trick_model.specs.Session.{Answer, acted, added, answered, bad, joined, quiet}
use Rattle.trick_model.specs.State.{State, World}
use Rattle.trick_model.specs.Tic.{Ticked, frame}
use Rattle.trick_model.specs.Turn.{Hearing, begun, checkpoint_jobs, checkpoint_writes, counted, do_between, framed, frozen, hear, heard, publish_all, resumed, rounds, runs, session_of, turn}
use Rattle.trick_model.specs.declared.command.Command.{Command}
use Rattle.trick_model.specs.declared.command.Command.TheVariants as command
use Rattle.trick_model.specs.declared.deed.Deed.{Deed}
use Rattle.trick_model.specs.declared.entry.Entry.{Entry}
use Rattle.trick_model.specs.declared.entry.Entry.TheVariants.{Join, Said, Leave, Publish}
use Rattle.trick_model.specs.declared.session.Session.{Session}

-- ---- a line

-- What a line leaves to the executive is one of all sessions.
record Same (one other : Answer) : Type 0 where
  deed : one.deed ≡ other.deed
  resume : one.resume ≡ other.resume

same_acted : (deed : Option Deed) (s t : Session) → Same (acted deed s) (acted deed t)
same_acted None s t = record { deed = refl; resume = refl }
same_acted (Some deed) s t = record { deed = refl; resume = refl }

added_nothing : (b : Bool) (a s : Session) → let x : Answer = elim b [ true ↦ quiet a | false ↦ bad s ] in (x.deed ≡ None) × (x.resume ≡ false)
added_nothing true a s = (refl, refl)
added_nothing false a s = (refl, refl)

same_added : (p : Plan) (name : List ℕ) (s t : Session) → Same (added p name s) (added p name t)
same_added p name s t =
    let one = added_nothing (nat_lt (length s.variables) 256) _ s in
    let other = added_nothing (nat_lt (length t.variables) 256) _ t in
    record { deed = one.0 ∙ sym other.0; resume = one.1 ∙ sym other.1 }

same_answered : (p : Plan) (c : Command) (s t : Session) → Same (answered p c s) (answered p c t)
same_answered p (command.Act action) s t = same_acted (deed_of (names_of p) action) s t
same_answered p command.Nothing s t = record { deed = refl; resume = refl }
same_answered p command.Resume s t = record { deed = refl; resume = refl }
same_answered p (command.Add name) s t = same_added p name s t
same_answered p (command.Remove name) s t = record { deed = refl; resume = refl }
same_answered p command.Clear s t = record { deed = refl; resume = refl }
same_answered p (command.Cycle tics) s t = record { deed = refl; resume = refl }
same_answered p (command.Pause on) s t = record { deed = refl; resume = refl }
same_answered p command.Send s t = record { deed = refl; resume = refl }
same_answered p (command.Exists name) s t = record { deed = refl; resume = refl }
same_answered p (command.Copy mode) s t = record { deed = refl; resume = refl }
same_answered p command.Exit s t = record { deed = refl; resume = refl }
same_answered p command.Bad s t = record { deed = refl; resume = refl }

-- what a line asks for, said by a session that is none
abbrev line_asks : Plan → List ℕ → Asking → Asking
line_asks p line a = let x = answered p (p.command line) (joined 0) in resumed p x.resume (do_between p x.deed a)

-- and lines, one after another
abbrev lines_ask : Plan → List (List ℕ) → Asking → Asking
lines_ask p [] a = a
lines_ask p (line ∷ lines) a = lines_ask p lines (line_asks p line a)

said_asks : (p : Plan) (number : ℕ) (line : List ℕ) (h : Hearing) → (hear p (Said number line) h).asking ≡ line_asks p line h.asking
said_asks p number line h =
    let same = same_answered p (p.command line) (session_of number h.sessions) (joined 0) in
    ap (λ (b : Bool). resumed p b (do_between p (answered p (p.command line) (session_of number h.sessions)).deed h.asking)) same.resume
    ∙ ap (λ (d : Option Deed). resumed p (answered p (p.command line) (joined 0)).resume (do_between p d h.asking)) same.deed

heard_asks : (p : Plan) (entries : List Entry) (h : Hearing) → (heard p entries h).asking ≡ lines_ask p (line_texts entries) h.asking
heard_asks p [] h = refl
heard_asks p (Join session ∷ entries) h = heard_asks p entries (hear p (Join session) h)
heard_asks p (Said session line ∷ entries) h =
    heard_asks p entries (hear p (Said session line) h) ∙ ap (lines_ask p (line_texts entries)) (said_asks p session line h)
heard_asks p (Leave session cause ∷ entries) h = heard_asks p entries (hear p (Leave session cause) h)
heard_asks p (Publish thread ∷ entries) h = heard_asks p entries h

-- ---- publications

abbrev publish_threads : Plan → List ℕ → State → State
publish_threads p [] s = s
publish_threads p (thread ∷ threads) s = publish_threads p threads (publish_round p thread s)

published_by : (p : Plan) (entries : List Entry) (s : State) → publish_all p entries s ≡ publish_threads p (threads_in entries) s
published_by p [] s = refl
published_by p (Join session ∷ entries) s = published_by p entries s
published_by p (Said session line ∷ entries) s = published_by p entries s
published_by p (Leave session cause ∷ entries) s = published_by p entries s
published_by p (Publish thread ∷ entries) s = published_by p entries (publish_round p thread s)

-- a run frame after its publications
abbrev frame_from : Plan → State → Asking → Ticked
frame_from p s a =
    let top = run_class p class.TopOfFrame s in
    let ran = frame p (record a { state = top }) in
    let bottom = run_class p class.EndOfFrame ran.asking.state in
    record { asking = record (ran.asking) { state = frozen p ran.asking.freeze bottom }; writes = ran.writes }

-- the frame of a turn that publishes these threads
abbrev framed_by : Plan → Bool → List ℕ → Asking → Ticked
framed_by p false threads a = record { asking = a; writes = [] }
framed_by p true threads a = frame_from p (publish_threads p threads a.state) a

framed_same : (p : Plan) (b : Bool) (entries : List Entry) (a : Asking) → framed p b entries a ≡ framed_by p b (threads_in entries) a
framed_same p false entries a = refl
framed_same p true entries a = ap (λ (s : State). frame_from p s a) (published_by p entries a.state)

-- ---- a turn

-- the state after a frame, and the rows and the checkpoint
abbrev state_after : Plan → Bool → Ticked → State
state_after p ran t = counted (rounds p ran (checkpoint_jobs p t.asking.checkpoint t.asking.state))

abbrev writes_after : Plan → Bool → Ticked → List Write
writes_after p ran t = t.writes ++ checkpoint_writes p t.asking.checkpoint (state_after p ran t)

-- the same of a turn, by what was asked for and which threads it publishes
abbrev state_by : Plan → List ℕ → Asking → State
state_by p threads a = state_after p (runs a.state) (framed_by p (runs a.state) threads a)

abbrev writes_by : Plan → List ℕ → Asking → List Write
writes_by p threads a = writes_after p (runs a.state) (framed_by p (runs a.state) threads a)

-- nothing is asked for yet
abbrev nothing_asked : State → Asking
nothing_asked s = record { state = s; freeze = false; checkpoint = false }

turn_state : (p : Plan) (w : World) (entries : List Entry)
    → (turn p w entries).world.state ≡ state_by p (threads_in entries) (lines_ask p (line_texts entries) (nothing_asked w.state))
turn_state p w entries =
    let a = (heard p entries (begun w)).asking in
    ap (state_after p (runs a.state)) (framed_same p (runs a.state) entries a)
    ∙ ap (state_by p (threads_in entries)) (heard_asks p entries (begun w))

turn_writes : (p : Plan) (w : World) (entries : List Entry)
    → (turn p w entries).writes ≡ writes_by p (threads_in entries) (lines_ask p (line_texts entries) (nothing_asked w.state))
turn_writes p w entries =
    let a = (heard p entries (begun w)).asking in
    ap (writes_after p (runs a.state)) (framed_same p (runs a.state) entries a)
    ∙ ap (writes_by p (threads_in entries)) (heard_asks p entries (begun w))

-- What turns of two worlds that have one state have in common.
record TurnSame (p : Plan) (w v : World) (one other : List Entry) : Type 0 where
  state : (turn p w one).world.state ≡ (turn p v other).world.state
  writes : (turn p w one).writes ≡ (turn p v other).writes

turn_same : (p : Plan) (w v : World) (one other : List Entry) → w.state ≡ v.state → ApplySame one other → TurnSame p w v one other
turn_same p w v one other e same =
    let asks : lines_ask p (line_texts one) (nothing_asked w.state) ≡ lines_ask p (line_texts other) (nothing_asked v.state) =
    ap (λ (lines : List (List ℕ)). lines_ask p lines (nothing_asked w.state)) same.lines
    ∙ ap (λ (s : State). lines_ask p (line_texts other) (nothing_asked s)) e in
    let asked = lines_ask p (line_texts one) (nothing_asked w.state) in
    record {
      state = turn_state p w one ∙ ap (λ (threads : List ℕ). state_by p threads asked) same.publications
          ∙ ap (state_by p (threads_in other)) asks ∙ sym (turn_state p v other);
      writes = turn_writes p w one ∙ ap (λ (threads : List ℕ). writes_by p threads asked) same.publications
          ∙ ap (writes_by p (threads_in other)) asks ∙ sym (turn_writes p v other);
    }

-- ---- turns

pub states_same : (p : Plan) (w v : World) (one other : List (List Entry)) → w.state ≡ v.state → AllApplySame one other
    → (after_turns p w one).state ≡ (after_turns p v other).state
states_same p w v [] [] e all = e
states_same p w v [] (other ∷ more) e all = absurd all
states_same p w v (one ∷ some) [] e all = absurd all
states_same p w v (one ∷ some) (other ∷ more) e all =
    states_same p (turn p w one).world (turn p v other).world some more (turn_same p w v one other e all.0).state all.1

pub rows_same : (p : Plan) (w v : World) (one other : List (List Entry)) → w.state ≡ v.state → AllApplySame one other
    → rows_and_checkpoints p w one ≡ rows_and_checkpoints p v other
rows_same p w v [] [] e all = refl
rows_same p w v [] (other ∷ more) e all = absurd all
rows_same p w v (one ∷ some) [] e all = absurd all
rows_same p w v (one ∷ some) (other ∷ more) e all =
    let same = turn_same p w v one other e all.0 in
    let next = (turn p w one).world in
    ap (λ (writes : List Write). writes ++ rows_and_checkpoints p next some) same.writes
    ∙ ap (λ (writes : List Write). (turn p v other).writes ++ writes) (rows_same p next (turn p v other).world some more same.state all.1)
