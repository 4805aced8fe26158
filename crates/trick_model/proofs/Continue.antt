-- A run from the state after some turns goes on as the original; joins in front of a turn's entries.
use Rattle.std.proofs.Common.{◌≡◌, ℕ, List, [], ◌∷◌, ◌++◌, Bool, true, false, not, ◌&&◌, IsTrue, refl, sym, ap, ◌∙◌, append_assoc}
use Rattle.std.specs.Prelude.{filter, map}
use Rattle.trick_base.proofs.Truths.{second_holds}
use Rattle.trick_base.specs.Files.{Write}
use Rattle.trick_lang.specs.declared.class.Class.TheVariants as class
use Rattle.trick_model.proofs.Runs.{runs_join}
use Rattle.trick_model.proofs.Sessions.{same_heard, sessions_do_not_matter}
use Rattle.trick_model.specs.Events.{Asking}
use Rattle.trick_model.specs.Files.{end_writes, note, start_writes, turns_writes}
use Rattle.trick_model.specs.Journal.{is_of_session}
use Rattle.trick_model.specs.Laws.{JoinsAreNoted, RunsContinue}
use Rattle.trick_model.specs.Plan.{Plan}
use Rattle.trick_model.specs.Run.{after_turns, final, goes_on, is_over, opened, shut}
use Rattle.trick_model.specs.State.{State, World}
use Rattle.trick_model.specs.Running.{run_class}
use Rattle.trick_model.specs.Tic.{Ticked, frame}
use Rattle.trick_model.specs.Turn.{Hearing, begun, checkpoint_jobs, checkpoint_writes, counted, framed, frozen, heard, noted, publish_all, rounds, runs, turn}
use Rattle.trick_model.specs.declared.entry.Entry.{Entry}
use Rattle.trick_model.specs.declared.entry.Entry.TheVariants.{Join}

-- what a turn writes, from its parts
abbrev written : ℕ → List Entry → List Write → List Write
written number kept writes =
    note number (filter is_of_session kept) ++ note number (filter (λ entry. not (is_of_session entry)) kept) ++ writes

-- worlds of one state write the same under the same entries, end with one state, and go on alike
record AreAlike (p : Plan) (w v : World) (lists : List (List Entry)) : Type 0 where
  writes : turns_writes p w lists ≡ turns_writes p v lists
  state : (after_turns p w lists).state ≡ (after_turns p v lists).state
  goes : goes_on p w lists ≡ goes_on p v lists

alike : (p : Plan) (w v : World) (lists : List (List Entry)) → w.state ≡ v.state → AreAlike p w v lists
alike p w v [] e = record { writes = refl; state = e; goes = refl }
alike p w v (entries ∷ lists) e =
    let same = sessions_do_not_matter p w v entries e in
    let rest = alike p (turn p w entries).world (turn p v entries).world lists same.state in
    record {
      writes = λ i. let s = e i in written s.turn (same.noted i) (same.writes i) ++ rest.writes i;
      state = rest.state;
      goes = λ i. not (is_over (e i) (entries ∷ lists)) && rest.goes i;
    }

goes_late : (p : Plan) (w : World) (early late : List (List Entry)) → IsTrue (goes_on p w (early ++ late)) → IsTrue (goes_on p (after_turns p w early) late)
goes_late p w [] late goes = goes
goes_late p w (entries ∷ early) late goes =
    goes_late p (turn p w entries).world early late (second_holds (not (is_over w.state (entries ∷ (early ++ late)))) _ goes)

pub runs_continue : RunsContinue
runs_continue p s early late fits =
    let w = after_turns p (opened s) early in
    let same = alike p w (opened w.state) late refl in
    let whole : (after_turns p (opened s) (early ++ late)).state ≡ (after_turns p (opened w.state) late).state =
    ap (λ (v : World). v.state) (runs_join.worlds p (opened s) early late) ∙ same.state in
    let turns : turns_writes p (opened s) (early ++ late) ≡ turns_writes p (opened s) early ++ turns_writes p (opened w.state) late =
    runs_join.writes p (opened s) early late ∙ ap (λ (more : List Write). turns_writes p (opened s) early ++ more) same.writes in
    record {
      fits = record {
        goes = sym same.goes ∙ goes_late p (opened s) early late fits.goes;
        over = ap (λ (t : State). is_over t []) (sym whole) ∙ fits.over;
      };
      ends = ap (λ (t : State). shut p t) whole;
      writes =
          (λ i. (start_writes p s.turn ++ turns i) ++ end_writes p (shut p (whole i)))
          ∙ ap (λ (front : List Write). front ++ end_writes p (final p w.state late))
          (sym (append_assoc (start_writes p s.turn) (turns_writes p (opened s) early) (turns_writes p (opened w.state) late)));
    }

-- ---- joins

abbrev joined : List ℕ → List Entry → List Entry
joined live entries = map (λ session. Join session) live ++ entries

-- what a turn's entries come to
abbrev after : Plan → World → List Entry → Asking
after p w entries = (heard p entries (begun w)).asking

-- a frame whose publications came to a state
abbrev framed_from : Plan → Asking → State → Ticked
framed_from p a s =
    let top = run_class p class.TopOfFrame s in
    let ran = frame p (record a { state = top }) in
    let bottom = run_class p class.EndOfFrame ran.asking.state in
    record { asking = record (ran.asking) { state = frozen p ran.asking.freeze bottom }; writes = ran.writes }

-- a turn's end, and its rows and checkpoint, from its frame
abbrev end_from : Plan → Asking → Ticked → State
end_from p a t =
    let asked = t.asking in counted (rounds p (runs a.state) (checkpoint_jobs p asked.checkpoint asked.state))

abbrev writes_from : Plan → Asking → Ticked → List Write
writes_from p a t = t.writes ++ checkpoint_writes p t.asking.checkpoint (end_from p a t)

joins_heard : (p : Plan) (live : List ℕ) (entries : List Entry) (h g : Hearing) → h.asking ≡ g.asking
    → (heard p (joined live entries) h).asking ≡ (heard p entries g).asking
joins_heard p [] entries h g e = same_heard p entries h g e
joins_heard p (session ∷ live) entries h g e = joins_heard p live entries _ g e

heard_same : (p : Plan) (w : World) (live : List ℕ) (entries : List Entry) → after p w (joined live entries) ≡ after p w entries
heard_same p w live entries = joins_heard p live entries (begun w) (begun w) refl

published_same : (p : Plan) (live : List ℕ) (entries : List Entry) (s : State) → publish_all p (joined live entries) s ≡ publish_all p entries s
published_same p [] entries s = refl
published_same p (session ∷ live) entries s = published_same p live entries s

framed_same : (p : Plan) (live : List ℕ) (entries : List Entry) (ran : Bool) (a : Asking) → framed p ran (joined live entries) a ≡ framed p ran entries a
framed_same p live entries false a = refl
framed_same p live entries true a = ap (λ (s : State). framed_from p a s) (published_same p live entries a.state)

noted_same : (p : Plan) (s : State) (live : List ℕ) (entries : List Entry)
    → noted p s (joined live entries) ≡ joined live (noted p s entries)
noted_same p s [] entries = refl
noted_same p s (session ∷ live) entries = ap (λ (more : List Entry). Join session ∷ more) (noted_same p s live entries)

pub joins_are_noted : JoinsAreNoted
joins_are_noted = record {
  state = λ p w live entries.
      let same = heard_same p w live entries in
      let a = after p w entries in
      (λ i. let b = same i in end_from p b (framed p (runs b.state) (joined live entries) b))
      ∙ ap (λ (t : Ticked). end_from p a t) (framed_same p live entries (runs a.state) a);
  noted = λ p w live entries.
      let same = heard_same p w live entries in
      (λ i. let b = same i in noted p b.state (joined live entries)) ∙ noted_same p (after p w entries).state live entries;
  writes = λ p w live entries.
      let same = heard_same p w live entries in
      let a = after p w entries in
      (λ i. let b = same i in writes_from p b (framed p (runs b.state) (joined live entries) b))
      ∙ ap (λ (t : Ticked). writes_from p a t) (framed_same p live entries (runs a.state) a);
}
