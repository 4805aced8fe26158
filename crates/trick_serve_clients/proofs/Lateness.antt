-- Clients that come as the run ends.
use Rattle.std.proofs.Common.{◌≡◌, ◌≢◌, ◌∙◌, ⊎_elim, ℕ, ◌+◌, ◌<◌, ◌≤◌, List, [], ◌∷◌, ◌++◌, Option, Some, ap, append_assoc, append-nil, arith, length, refl, subst, sym}
use Rattle.std.proofs.lemmas.Bool.{cases_lt}
use Rattle.std.proofs.lemmas.List.{length-map, map_push}
use Rattle.std.specs.Prelude.{IfSome}
use Rattle.trick_serve_hearing.proofs.Seating.{clients_more}
use Rattle.trick_serve_hearing.specs.Clients.{clients_of}
use Rattle.trick_serve_clients.specs.Ends.{ends_of}
use Rattle.trick_serve_clients.specs.Late.{AreKept, HasComeLate}
use Rattle.trick_serve_seats.specs.declared.arrival.Arrival.{Arrival}
use Rattle.trick_serve_seats.specs.declared.arrival.Comes.{Comes}
use Rattle.trick_serve_seats.specs.declared.arrival.Comes.TheVariants.{Client, Closed}
use Rattle.trick_serve_door.specs.declared.ending.Ends.{Ends}

-- What had been taken before, and then this.
pub record IsTakingLate {I O : Type 0} (before now : List (Comes I O)) (ends : List Ends) : Type 0 where
  pub some : List (Comes I O)
  pub taken : now ≡ before ++ some
  pub kept : AreKept some ends

-- what was popped was taken
pub popped : {T : Type 0} (result : Option T) (item : T) (before now : List T) → result ≡ Some item → IfSome result (λ one. now ≡ before ++ one ∷ []) → now ≡ before ++ item ∷ []
popped {T} result item before now is taken = subst (λ (r : Option T). IfSome r (λ one. now ≡ before ++ one ∷ [])) is taken

some_more : {A : Type 0} (x : A) (xs : List A) → x ∷ xs ≡ [] → ⊥
some_more x xs is = cc

-- Where there is room, the ends of all were kept.
pub no_others : {A : Type 0} (others : List A) (many : ℕ) → (others ≢ [] → 64 ≤ many) → many + length others ≤ 64 → others ≡ []
no_others [] many full few = refl
no_others (x ∷ others) many full few = absurd (let more = full (some_more x others) in omega arith)

none_missing : {A : Type 0} (others : List A) (many : ℕ) → (others ≢ [] → 64 ≤ many) → many < 64 → others ≡ []
none_missing [] many full few = refl
none_missing (x ∷ others) many full few = absurd (let more = full (some_more x others) in omega arith)

module _ {I O : Type 0} where
  -- nothing came yet
  pub late_none : (before : List (Comes I O)) (ends : List Ends) → ends ≡ [] → IsTakingLate before before ends
  late_none before ends none = record {
    some = [];
    taken = sym (append-nil before);
    kept = record { kept = []; others = []; clients = refl; items = none; full = λ more. absurd (more refl) };
  }

  many_kept : (some : List (Comes I O)) (ends : List Ends) (k : AreKept some ends) → length ends ≡ length k.kept
  many_kept some ends k = ap length k.items ∙ length-map k.kept ends_of

  -- a client came, for whose ends there is room
  kept_more : (some : List (Comes I O)) (arrival : Arrival I O) (was now : List Ends) → length was < 64 → now ≡ was ++ ends_of arrival ∷ [] → AreKept some was → AreKept (some ++ Client arrival ∷ []) now
  kept_more some arrival was now few grown k =
      let none : k.others ≡ [] = none_missing k.others (length k.kept) k.full (let many = many_kept some was k in omega arith) in
      record {
        kept = k.kept ++ arrival ∷ [];
        others = [];
        clients = clients_more some (Client arrival)
            ∙ ap (λ (l : List (Arrival I O)). l ++ arrival ∷ []) (k.clients ∙ ap (λ (l : List (Arrival I O)). k.kept ++ l) none ∙ append-nil k.kept)
            ∙ sym (append-nil (k.kept ++ arrival ∷ []));
        items = grown ∙ ap (λ (l : List Ends). l ++ ends_of arrival ∷ []) k.items ∙ sym (map_push ends_of k.kept arrival);
        full = λ more. absurd (more refl);
      }

  -- a client came, for whose ends there is none
  kept_same : (some : List (Comes I O)) (arrival : Arrival I O) (was now : List Ends) → 64 ≤ length was → now ≡ was → AreKept some was → AreKept (some ++ Client arrival ∷ []) now
  kept_same some arrival was now many same k = record {
    kept = k.kept;
    others = k.others ++ arrival ∷ [];
    clients = clients_more some (Client arrival) ∙ ap (λ (l : List (Arrival I O)). l ++ arrival ∷ []) k.clients ∙ append_assoc k.kept k.others (arrival ∷ []);
    items = same ∙ k.items;
    full = λ more. (let count = many_kept some was k in omega arith);
  }

  pub late_client : (before old new : List (Comes I O)) (arrival : Arrival I O) (was now : List Ends) → new ≡ old ++ Client arrival ∷ []
      → (length was < 64 → now ≡ was ++ ends_of arrival ∷ []) → (64 ≤ length was → now ≡ was) → IsTakingLate before old was → IsTakingLate before new now
  late_client before old new arrival was now took grown same t = record {
    some = t.some ++ Client arrival ∷ [];
    taken = took ∙ ap (λ (l : List (Comes I O)). l ++ Client arrival ∷ []) t.taken ∙ append_assoc before t.some (Client arrival ∷ []);
    kept = ⊎_elim (λ few. kept_more t.some arrival was now few (grown few) t.kept) (λ many. kept_same t.some arrival was now many (same many) t.kept) (cases_lt (length was) 64);
  }

  -- something else came
  pub late_other : (before old new : List (Comes I O)) (item : Comes I O) (ends : List Ends) → new ≡ old ++ item ∷ [] → clients_of (item ∷ []) ≡ [] → IsTakingLate before old ends
      → IsTakingLate before new ends
  late_other before old new item ends took none t = record {
    some = t.some ++ item ∷ [];
    taken = took ∙ ap (λ (l : List (Comes I O)). l ++ item ∷ []) t.taken ∙ append_assoc before t.some (item ∷ []);
    kept = record {
      kept = t.kept.kept;
      others = t.kept.others;
      clients = clients_more t.some item ∙ ap (λ (l : List (Arrival I O)). clients_of t.some ++ l) none ∙ append-nil (clients_of t.some) ∙ t.kept.clients;
      items = t.kept.items;
      full = t.kept.full;
    };
  }

  -- nothing came
  pub late_same : (before old new : List (Comes I O)) (ends : List Ends) → new ≡ old → IsTakingLate before old ends → IsTakingLate before new ends
  late_same before old new ends same t = record { some = t.some; taken = same ∙ t.taken; kept = t.kept }

  -- the acceptor is closed
  pub late_closed : (before old new : List (Comes I O)) (ends : List Ends) → new ≡ old ++ Closed ∷ [] → IsTakingLate before old ends → HasComeLate before new ends
  late_closed before old new ends took t = record {
    some = t.some;
    taken = took ∙ ap (λ (l : List (Comes I O)). l ++ Closed ∷ []) t.taken;
    kept = t.kept;
  }
