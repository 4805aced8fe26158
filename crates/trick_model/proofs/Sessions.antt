-- Sessions change nothing but messages.
use Rattle.std.proofs.Common.{◌≡◌, ℕ, nat_lt, List, [], ◌∷◌, ◌++◌, length, Bool, true, false, Option, Some, None, refl, sym, ◌∙◌}
use Rattle.trick_model.specs.Events.{names_of}
use Rattle.trick_model.specs.Laws.{SessionsDoNotMatter}
use Rattle.trick_model.specs.Names.{deed_of}
use Rattle.trick_model.specs.Plan.{Plan}
use Rattle.trick_model.specs.Session.{Answer, acted, added, answered, bad, quiet}
use Rattle.trick_model.specs.Turn.{Hearing, begun, checkpoint_jobs, checkpoint_writes, counted, do_between, framed, hear, heard, noted, resumed, rounds, runs, session_of}
use Rattle.trick_model.specs.Events.{Asking}
use Rattle.trick_model.specs.State.{State}
use Rattle.trick_model.specs.Tic.{Ticked}
use Rattle.trick_model.specs.declared.command.Command.{Command}
use Rattle.trick_model.specs.declared.command.Command.TheVariants as command
use Rattle.trick_model.specs.declared.deed.Deed.{Deed}
use Rattle.trick_model.specs.declared.entry.Entry.{Entry}
use Rattle.trick_model.specs.declared.entry.Entry.TheVariants.{Join, Said, Leave, Publish}
use Rattle.trick_model.specs.declared.session.Session.{Session}

-- what a line leaves to the executive
record Same (one other : Answer) : Type 0 where
  deed : one.deed ≡ other.deed
  resume : one.resume ≡ other.resume

same_acted : (deed : Option Deed) (s t : Session) → Same (acted deed s) (acted deed t)
same_acted None s t = record { deed = refl; resume = refl }
same_acted (Some deed) s t = record { deed = refl; resume = refl }

added_nothing : (b : Bool) (a : Session) (s : Session)
    → let x : Answer = elim b [ true ↦ quiet a | false ↦ bad s ] in (x.deed ≡ None) × (x.resume ≡ false)
added_nothing true a s = (refl, refl)
added_nothing false a s = (refl, refl)

same_added : (p : Plan) (name : List ℕ) (s t : Session) → Same (added p name s) (added p name t)
same_added p name s t =
    let one = added_nothing (nat_lt (length s.variables) 256) _ s in
    let other = added_nothing (nat_lt (length t.variables) 256) _ t in
    record { deed = one.0 ∙ sym other.0; resume = one.1 ∙ sym other.1 }

same_answered : (p : Plan) (c : Command) (s t : Session) → Same (answered p c s) (answered p c t)
same_answered p (command.Act action) s t = same_acted (deed_of (names_of p) action) s t
same_answered p command.Nothing s t = record { deed = refl; resume = refl }
same_answered p command.Resume s t = record { deed = refl; resume = refl }
same_answered p (command.Add name) s t = same_added p name s t
same_answered p (command.Remove name) s t = record { deed = refl; resume = refl }
same_answered p command.Clear s t = record { deed = refl; resume = refl }
same_answered p (command.Cycle tics) s t = record { deed = refl; resume = refl }
same_answered p (command.Pause on) s t = record { deed = refl; resume = refl }
same_answered p command.Send s t = record { deed = refl; resume = refl }
same_answered p (command.Exists name) s t = record { deed = refl; resume = refl }
same_answered p (command.Copy mode) s t = record { deed = refl; resume = refl }
same_answered p command.Exit s t = record { deed = refl; resume = refl }
same_answered p command.Bad s t = record { deed = refl; resume = refl }

same_hear : (p : Plan) (entry : Entry) (h g : Hearing) → h.asking ≡ g.asking → (hear p entry h).asking ≡ (hear p entry g).asking
same_hear p (Join number) h g e = e
same_hear p (Said number line) h g e =
    let same = same_answered p (p.command line) (session_of number h.sessions) (session_of number g.sessions) in
    λ i. resumed p (same.resume i) (do_between p (same.deed i) (e i))
same_hear p (Leave number cause) h g e = e
same_hear p (Publish thread) h g e = e

pub same_heard : (p : Plan) (entries : List Entry) (h g : Hearing) → h.asking ≡ g.asking → (heard p entries h).asking ≡ (heard p entries g).asking
same_heard p [] h g e = e
same_heard p (entry ∷ entries) h g e = same_heard p entries (hear p entry h) (hear p entry g) (same_hear p entry h g e)

-- the frame of a turn whose entries were heard, and the state at its end
abbrev ran_of : Plan → List Entry → Asking → Ticked
ran_of p entries a = framed p (runs a.state) entries a

abbrev end_of : Plan → List Entry → Asking → State
end_of p entries a =
    let asked = (ran_of p entries a).asking in
    counted (rounds p (runs a.state) (checkpoint_jobs p asked.checkpoint asked.state))

pub sessions_do_not_matter : SessionsDoNotMatter
sessions_do_not_matter p w v entries e =
    let a = same_heard p entries (begun w) (begun v) (λ i. record { state = e i; freeze = false; checkpoint = false }) in
    record {
      state = λ i. end_of p entries (a i);
      noted = λ i. noted p (a i).state entries;
      writes = λ i. (ran_of p entries (a i)).writes ++ checkpoint_writes p (ran_of p entries (a i)).asking.checkpoint (end_of p entries (a i));
    }
