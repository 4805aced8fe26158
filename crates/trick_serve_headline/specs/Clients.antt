-- What the clients of a run came to, as its door has them.
use Rattle.std.specs.List.{slice_get}
use Rattle.std.specs.Prelude.{◌≡◌, ◌⊎◌, ◌<◌, ◌≤◌, ◌+◌, ℕ, Bool, true, ◌&&◌, nat_lt, All, List, [], ◌∷◌, ◌++◌, Some, None, length}
use Rattle.trick_model_sessions.specs.Silence.{newcomers}
use Rattle.trick_model.specs.Commands.{lines as lines_of}
use Rattle.trick_model.specs.Plan.{Plan}
use Rattle.trick_model.specs.Run.{after_turns, opened}
use Rattle.trick_model.specs.State.{State}
use Rattle.trick_model.specs.Turn.{is_frozen}
use Rattle.trick_model.specs.declared.entry.Cause.TheVariants as cause
use Rattle.trick_model.specs.declared.entry.Entry.{Entry}
use Rattle.trick_outside.specs.Causes.{RoseBy}
use Rattle.trick_outside.specs.Links.{Took}
use Rattle.trick_outside.specs.Visits.{Back, Ended as HasEnded, Failed, Gave, NotYet, OutOfMemory, Visit, clients}
use Rattle.trick_outside.specs.declared.link_in.LinkIn.{Ghosts as InGhosts}
use Rattle.trick_outside.specs.declared.link_out.LinkOut.{Ghosts as OutGhosts}
use Rattle.trick_serve_hearing.specs.Sides.{Queues}
use Rattle.trick_serve_door.specs.Returns.{backs_of}
use Rattle.trick_serve_seats.specs.Taking.{Hosts}
use Rattle.trick_serve_door.specs.declared.ending.SessionEnd.{SessionEnd}
use Rattle.trick_serve_facts.specs.Clients.{HasServed, IsAbsent, LinkTale}
use Rattle.trick_serve_facts.specs.IsServed.{FreezeHasEntries}
use Rattle.trick_serve_facts.specs.Joins.{JoinsFirst, numbers_from}
use Rattle.trick_serve_facts.specs.NoThreads.{no_thread_leaves}
use Rattle.trick_serve_facts.specs.Serves.{all_entries}
use Rattle.trick_wire.specs.HasWritten.{text_of}
use Rattle.trick_wire.specs.declared.heard.WriteStop.TheVariants as stop

-- ---- the door

module _ {I O : Type 0} where
  -- The door was asked for a client.
  abbrev pub IsAsk : Visit I O → Type 0
  IsAsk (Gave input output) = Unit {0}
  IsAsk NotYet = Unit {0}
  IsAsk HasEnded = Unit {0}
  IsAsk Failed = Unit {0}
  IsAsk OutOfMemory = Unit {0}
  IsAsk (Back number input output) = ⊥

  -- The last answer is that the door has ended or failed.
  abbrev pub EndsOver : List (Visit I O) → Type 0
  EndsOver [] = ⊥
  EndsOver (Gave input output ∷ visits) = EndsOver visits
  EndsOver (NotYet ∷ visits) = EndsOver visits
  EndsOver (HasEnded ∷ visits) = visits ≡ []
  EndsOver (Failed ∷ visits) = visits ≡ []
  EndsOver (OutOfMemory ∷ visits) = EndsOver visits
  EndsOver (Back number input output ∷ visits) = EndsOver visits

  -- what the links of a client tell, as the door gave them and as it got them back
  abbrev pub tale_between : InGhosts I → OutGhosts O → I × O → SessionEnd I O → LinkTale
  tale_between input output links ended = record {
    told = input.holds links.0;
    read_before = input.failures links.0;
    read_now = input.failures ended.input;
    taken_before = output.holds links.1;
    taken_now = output.holds ended.output;
    write_before = output.failures links.1;
    write_now = output.failures ended.output;
    wrote = ended.wrote;
  }

-- A run asked its door for clients, and then gave the links of each client back, once, under its number.
pub record Visits {D I O S : Type 0} (h : Hosts D I O S) (before now : D) : Type 0 where
  pub asks : List (Visit I O)
  pub ended : List (SessionEnd I O)
  pub visited : h.visited before (asks ++ backs_of 1 ended) now
  pub asked : All IsAsk asks
  pub each : length ended ≡ length (clients asks)

-- What holds of each client: of its number less one, its links as they were given, and its end.
abbrev pub EachClient : {D I O S : Type 0} {h : Hosts D I O S} {before now : D} → Visits h before now
    → (ℕ → LinkTale → Type 0) → Type 0
EachClient {I = I} {O = O} {h = h} visits Holds =
    (k : ℕ) (links : I × O) (end : SessionEnd I O) → slice_get (clients visits.asks) k ≡ Some links
    → slice_get visits.ended k ≡ Some end → Holds k (tale_between h.input h.output links end)

-- ---- what clients were sent

-- The link of a client took a first part of the text of these messages.
pub record IsSentOf (messages : List (List ℕ)) (tale : LinkTale) : Type 0 where
  pub part : List ℕ
  pub rest : List ℕ
  pub text_is : text_of messages ≡ part ++ rest
  pub took : Took tale.taken_before tale.taken_now part

-- Client n was sent a first part of the n-th of these texts.
pub record WereSent {D I O S : Type 0} (h : Hosts D I O S) (texts : ℕ → List (List ℕ)) (before now : D) : Type 0 where
  pub visits : Visits h before now
  pub sent : EachClient visits (λ k tale. IsSentOf (texts (k + 1)) tale)

-- ---- a whole run

-- A client that joined in a run was served, and its outbox has room for 1,024 messages. Its writer had no memory only
-- where it left for that. Where the run waited until no line could come any more, and it has not left, all lines of its
-- bytes were said.
pub record IsClientServed (p : Plan) (s : State) (lists : List (List Entry)) (waited : Bool) (n : ℕ) (tale : LinkTale)
    : Type 0 where
  pub queues : Queues
  pub room : queues.room ≡ 1024
  pub served : HasServed p s lists n queues tale
  pub memory : tale.wrote ≡ stop.OutOfMemory → served.leave ≡ Some cause.OutOfMemory
  pub ended : waited ≡ true → served.leave ≡ None → (bytes : List ℕ) → tale.told ≡ Some bytes
      → lines_of bytes ≡ served.lines

-- whether a run is over in Freeze below its limit
abbrev pub has_waited : Plan → State → List (List Entry) → Bool
has_waited p s lists =
    let end = (after_turns p (opened s) lists).state in is_frozen end.mode && nat_lt end.tic end.limit

-- So many clients joined in a run, under the numbers 1, 2 and so on, in the order in which the door gave them. Each of
-- them was served; one that came too late to join was sent nothing; and no other session has an entry or a message. A
-- turn that begins in Freeze has an entry of a client. At most as many left for want of a thread as the count of refused
-- starts rose by. Where the door told that it has a client, that one joined in the first turn. Where the run waited
-- until no line could come any more, each client joined, and the door had ended or failed, or had given the last number.
pub record ServesClients {D I O S : Type 0} (h : Hosts D I O S) (p : Plan) (s : State) (lists : List (List Entry))
    (before now : D) (spawner after : S) : Type 0 where
  pub visits : Visits h before now
  pub joined : ℕ
  pub joins : newcomers (all_entries lists) ≡ numbers_from 1 joined
  pub given : joined ≤ length visits.ended
  pub served : EachClient visits (λ k tale. k < joined → IsClientServed p s lists (has_waited p s lists) (k + 1) tale)
  pub late : EachClient visits (λ k tale. joined ≤ k → IsSentOf [] tale)
  pub others : (k : ℕ) → joined ≤ k → IsAbsent p s lists (k + 1)
  pub frozen : FreezeHasEntries p (opened s) lists
  pub no_thread : RoseBy (h.refusals spawner) (no_thread_leaves lists) (h.refusals after)
  pub first : h.has_client before → JoinsFirst lists
  pub all : has_waited p s lists ≡ true → joined ≡ length visits.ended
  pub over : has_waited p s lists ≡ true → EndsOver visits.asks ⊎ (4294967295 ≤ length visits.ended)
