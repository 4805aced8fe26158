-- What a door was asked, and what it gave.
use Rattle.std.proofs.Common.{◌≡◌, ◌∙◌, inl, inr, ℕ, zero, suc, List, [], ◌∷◌, ◌++◌, Some, None, ap, append-nil, length, refl, subst, sym}
use Rattle.std.proofs.lemmas.List.Elements.{All-cons, All-head, All-nil, All-tail}
use Rattle.std.proofs.lemmas.Option.{same_Some}
use Rattle.std.specs.List.{slice_get}
use Rattle.std.specs.Prelude.{All}
use Rattle.trick_serve_headline.specs.Clients.{EndsOver, IsAsk}
use Rattle.trick_outside.specs.Visits.{Back, Ended as HasEnded, Failed, Gave, NotYet, OutOfMemory, Visit, clients}
use Rattle.trick_serve_clients.specs.Tended.{IsLastAnswer}
use Rattle.trick_serve_seats.specs.Told.{IsOpen, links_of}
use Rattle.trick_serve_seats.specs.declared.arrival.Arrival.{Arrival}

pub none_some : {X : Type 0} (one : X) → None ≡ Some one → ⊥
none_some one is = cc

module _ {I O : Type 0} where
  -- ---- it was asked

  pub open_ask : (visit : Visit I O) → IsOpen visit → IsAsk visit
  open_ask (Gave input output) is = tt
  open_ask NotYet is = tt
  open_ask HasEnded is = tt
  open_ask Failed is = tt
  open_ask OutOfMemory is = tt
  open_ask (Back number input output) is = is

  one_ask : (last : List (Visit I O)) (visit : Visit I O) → last ≡ visit ∷ [] → IsAsk visit → All IsAsk last
  one_ask last visit is ask = subst (All IsAsk) (sym is) (All-cons IsAsk visit [] ask (All-nil IsAsk))

  pub last_asks : (last : List (Visit I O)) → IsLastAnswer last → All IsAsk last
  last_asks last (inl is) = subst (All IsAsk) (sym is) (All-nil IsAsk)
  last_asks last (inr (inl is)) = one_ask last HasEnded is tt
  last_asks last (inr (inr (inl is))) = one_ask last Failed is tt
  last_asks last (inr (inr (inr is))) = one_ask last OutOfMemory is tt

  -- ---- what it gave

  -- with its last answer it gave no client
  last_gives : (last : List (Visit I O)) → IsLastAnswer last → clients last ≡ []
  last_gives last (inl is) = ap clients is
  last_gives last (inr (inl is)) = ap clients is
  last_gives last (inr (inr (inl is))) = ap clients is
  last_gives last (inr (inr (inr is))) = ap clients is

  clients_join : (early late : List (Visit I O)) → clients (early ++ late) ≡ clients early ++ clients late
  clients_join [] late = refl
  clients_join (Gave input output ∷ early) late = ap (λ (l : List (I × O)). (input, output) ∷ l) (clients_join early late)
  clients_join (NotYet ∷ early) late = clients_join early late
  clients_join (HasEnded ∷ early) late = clients_join early late
  clients_join (Failed ∷ early) late = clients_join early late
  clients_join (OutOfMemory ∷ early) late = clients_join early late
  clients_join (Back number input output ∷ early) late = clients_join early late

  pub all_given : (visits last : List (Visit I O)) → IsLastAnswer last → clients (visits ++ last) ≡ clients visits
  all_given visits last is =
      clients_join visits last ∙ ap (λ (l : List (I × O)). clients visits ++ l) (last_gives last is) ∙ append-nil (clients visits)

  -- while it gives clients, or none yet, it has not ended
  pub open_over : (visits last : List (Visit I O)) → All IsOpen visits → EndsOver last → EndsOver (visits ++ last)
  open_over [] last all over = over
  open_over (Gave input output ∷ visits) last all over = open_over visits last (All-tail IsOpen (Gave input output) visits all) over
  open_over (NotYet ∷ visits) last all over = open_over visits last (All-tail IsOpen NotYet visits all) over
  open_over (HasEnded ∷ visits) last all over = absurd (All-head IsOpen HasEnded visits all)
  open_over (Failed ∷ visits) last all over = absurd (All-head IsOpen Failed visits all)
  open_over (OutOfMemory ∷ visits) last all over = absurd (All-head IsOpen OutOfMemory visits all)
  open_over (Back number input output ∷ visits) last all over = absurd (All-head IsOpen (Back number input output) visits all)

  -- ---- the links of arrivals

  pub links_count : (arrivals : List (Arrival I O)) → length (links_of arrivals) ≡ length arrivals
  links_count [] = refl
  links_count (arrival ∷ arrivals) = ap suc (links_count arrivals)

  pub links_get : (arrivals : List (Arrival I O)) (k : ℕ) (arrival : Arrival I O) → slice_get arrivals k ≡ Some arrival
      → slice_get (links_of arrivals) k ≡ Some (arrival.input.value, arrival.output.value)
  links_get [] k arrival is = absurd (none_some arrival is)
  links_get (first ∷ arrivals) zero arrival is =
      ap (λ (a : Arrival I O). Some (a.input.value, a.output.value)) (same_Some first arrival is)
  links_get (first ∷ arrivals) (suc k) arrival is = links_get arrivals k arrival is
