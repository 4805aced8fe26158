-- All clients of a run, under its journal.
use Rattle.std.proofs.Common.{◌≡◌, ◌∙◌, ℕ, ◌+◌, List, [], ◌∷◌, Bool, ap, refl, subst, sym}
use Rattle.std.specs.Prelude.{◌&&◌, nat_lt}
use Rattle.trick_serve_headline.proofs.Clients.{served_as_noted}
use Rattle.trick_serve_headline.proofs.Entries.{joins_of_turn, refused_in, refused_join, refused_of_turn}
use Rattle.trick_serve_headline.proofs.Same.{the_same}
use Rattle.trick_serve_headline.specs.Clients.{IsClientServed, ServesClients, has_waited, tale_between}
use Rattle.trick_serve_headline.specs.Noted.{noted_of}
use Rattle.trick_model.specs.Plan.{Plan}
use Rattle.trick_model.specs.Run.{opened}
use Rattle.trick_model.specs.State.{State, World}
use Rattle.trick_model.specs.Turn.{is_frozen, turn}
use Rattle.trick_model.specs.declared.entry.Entry.{Entry}
use Rattle.trick_outside.specs.Causes.{RoseBy}
use Rattle.trick_exec_laws.specs.Left.{in_note_order, journal_lists}
use Rattle.trick_exec_laws.specs.Noting.{NotedDoSame}
use Rattle.trick_serve_seats.specs.Taking.{Hosts}
use Rattle.trick_serve_facts.specs.Clients.{LinkTale}
use Rattle.trick_serve_facts.specs.Joins.{JoinsFirst}
use Rattle.trick_serve_facts.specs.NoThreads.{no_thread_leaves}
use Rattle.trick_serve_facts.specs.Serves.{all_entries}

-- ---- one client

client_same : NotedDoSame → (p : Plan) (s : State) (lists : List (List Entry)) (waited : Bool) (n : ℕ) (tale : LinkTale) → IsClientServed p s lists waited n tale
    → IsClientServed p s (noted_of p s lists) waited n tale
client_same law p s lists waited n tale client =
    let same = served_as_noted law p s lists n client.queues tale client.served in record {
      queues = client.queues;
      room = client.room;
      served = same.served;
      memory = λ wrote. same.leave ∙ client.memory wrote;
      ended = λ was stays bytes told. client.ended was (sym same.leave ∙ stays) bytes told ∙ sym same.lines;
    }

-- ---- all of them

refused_same : (p : Plan) (w : World) (lists : List (List Entry)) → no_thread_leaves (journal_lists p w lists) ≡ no_thread_leaves lists
refused_same p w [] = refl
refused_same p w (entries ∷ lists) =
    let next = (turn p w entries).world in
    let noted = in_note_order (turn p w entries).noted in
    refused_join noted (all_entries (journal_lists p next lists))
    ∙ ap (λ (n : ℕ). n + no_thread_leaves (journal_lists p next lists)) (refused_of_turn p w entries)
    ∙ ap (λ (n : ℕ). refused_in entries + n) (refused_same p next lists)
    ∙ sym (refused_join entries (all_entries lists))

first_same : (p : Plan) (w : World) (lists : List (List Entry)) → JoinsFirst lists → JoinsFirst (journal_lists p w lists)
first_same p w [] first = tt
first_same p w (entries ∷ lists) (others, first) = (others, joins_of_turn p w entries ∙ first)

waited_same : NotedDoSame → (p : Plan) (s : State) (lists : List (List Entry)) → has_waited p s (noted_of p s lists) ≡ has_waited p s lists
waited_same law p s lists = ap (λ (w : World). is_frozen w.state.mode && nat_lt w.state.tic w.state.limit) (law p (opened s) lists).worlds

pub all_same : {D I O S : Type 0} → NotedDoSame → (h : Hosts D I O S) (p : Plan) (s : State) (lists : List (List Entry)) (door now : D) (spawner after : S)
    → ServesClients h p s lists door now spawner after → ServesClients h p s (noted_of p s lists) door now spawner after
all_same law h p s lists door now spawner after all =
    let same = the_same law p s lists in
    let waits = waited_same law p s lists in record {
      visits = all.visits;
      joined = all.joined;
      joins = same.joins ∙ all.joins;
      given = all.given;
      served = λ k links end gave back joined.
          let tale = tale_between h.input h.output links end in
          subst (λ (waited : Bool). IsClientServed p s (noted_of p s lists) waited (k + 1) tale) (sym waits)
          (client_same law p s lists (has_waited p s lists) (k + 1) tale (all.served k links end gave back joined));
      late = all.late;
      others = λ k past. let other = all.others k past in record { entries = same.entries (k + 1) ∙ other.entries; text = same.texts (k + 1) ∙ other.text };
      frozen = same.frozen all.frozen;
      no_thread = subst (λ (n : ℕ). RoseBy (h.refusals spawner) n (h.refusals after)) (sym (refused_same p (opened s) lists)) all.no_thread;
      first = λ has. first_same p (opened s) lists (all.first has);
      all = λ was. all.all (sym waits ∙ was);
      over = λ was. all.over (sym waits ∙ was);
    }
