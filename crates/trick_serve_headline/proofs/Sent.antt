-- What clients of a run that stopped were sent.
use Rattle.std.proofs.Common.{◌≡◌, ◌∙◌, ℕ, ◌+◌, List, [], ◌∷◌, ◌++◌, ap, append_assoc, refl, sym}
use Rattle.trick_serve_headline.specs.Clients.{IsSentOf}
use Rattle.trick_serve_headline.specs.Stopped.{FrontsAreSent}
use Rattle.trick_model.specs.Files.{messages_to}
use Rattle.trick_serve_seats.specs.Taking.{Hosts}
use Rattle.trick_serve_facts.proofs.Keeping.{messages_join}
use Rattle.trick_serve_facts.specs.Clients.{LinkTale}
use Rattle.trick_wire.specs.HasWritten.{text_of}

text_join : (early late : List (List ℕ)) → text_of (early ++ late) ≡ text_of early ++ text_of late
text_join [] late = refl
text_join (message ∷ early) late = ap (λ (bytes : List ℕ). message ++ bytes) (text_join early late) ∙ sym (append_assoc message (text_of early) (text_of late))

-- a first part of first messages is one of all
pub sent_more : (early late all : List (List ℕ)) (tale : LinkTale) → all ≡ early ++ late → IsSentOf early tale → IsSentOf all tale
sent_more early late all tale is sent = record {
  part = sent.part;
  rest = sent.rest ++ text_of late;
  text_is =
      ap text_of is ∙ text_join early late ∙ ap (λ (bytes : List ℕ). bytes ++ text_of late) sent.text_is
      ∙ append_assoc sent.part sent.rest (text_of late);
  took = sent.took;
}

pub fronts_sent : {D I O S : Type 0} (h : Hosts D I O S) → FrontsAreSent h
fronts_sent h p s lists sent before left door now stands were = record {
  files = stands;
  clients = λ more end lasts.
      let said = stands.said more end lasts in record {
        visits = were.visits;
        sent = λ k links ended gave back.
            sent_more (messages_to (k + 1) sent) (messages_to (k + 1) said.0) _ _
            (ap (messages_to (k + 1)) said.1 ∙ messages_join (k + 1) sent said.0) (were.sent k links ended gave back);
      };
}
