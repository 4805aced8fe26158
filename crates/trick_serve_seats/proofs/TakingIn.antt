-- How the threads of all sessions are taken in, the last session first.
use Rattle.std.proofs.Common.{◌≡◌, ◌∙◌, List, [], ◌∷◌, ◌++◌, ap, append_assoc, append-nil, length, refl, reverse, subst, sym}
use Rattle.std.proofs.lemmas.List.{reverse-append}
use Rattle.trick_outside.specs.declared.link_in.LinkIn.{Ghosts as InGhosts}
use Rattle.trick_outside.specs.declared.link_out.LinkOut.{Ghosts as OutGhosts}
use Rattle.trick_serve_seats.proofs.Pairs.{fit_cut}
use Rattle.trick_serve_seats.specs.Pairs.{AllFit}
use Rattle.trick_serve_seats.specs.Seats.{IsPast, IsSeated}
use Rattle.trick_serve_seats.specs.declared.arrival.Arrival.{Arrival}
use Rattle.trick_serve_seats.specs.declared.past.Past.{Past}
use Rattle.trick_serve_seats.specs.declared.seat.Seated.{Seated}

-- The last of these clients were taken in, and the others still have their threads.
pub record IsTakingIn {I O R : Type 0} (input : InGhosts I) (output : OutGhosts O) (arrivals : List (Arrival I O)) (seated : List (Seated I O R)) (past : List (Past I O)) : Type 0 where
  pub front : List (Arrival I O)
  pub back : List (Arrival I O)
  pub are : arrivals ≡ front ++ back
  pub sit : AllFit (IsSeated input output) front seated
  pub gone : AllFit (IsPast input output) back (reverse past)

pub no_items : {A : Type 0} (items : List A) → length items ≡ 0 → items ≡ []
no_items [] none = refl
no_items (item ∷ items) none = absurd (cc)

module _ {I O R : Type 0} (input : InGhosts I) (output : OutGhosts O) (arrivals : List (Arrival I O)) where
  pub in_none : (seated : List (Seated I O R)) (past : List (Past I O)) → AllFit (IsSeated input output) arrivals seated → length past ≡ 0 → IsTakingIn input output arrivals seated past
  in_none seated past fit none = record {
    front = arrivals;
    back = [];
    are = sym (append-nil arrivals);
    sit = fit;
    gone = subst (λ (l : List (Past I O)). AllFit (IsPast input output) [] (reverse l)) (sym (no_items past none)) tt;
  }

  pub in_more : (seated left : List (Seated I O R)) (last : Seated I O R) (past after : List (Past I O)) (one : Past I O) → seated ≡ left ++ last ∷ [] → after ≡ past ++ one ∷ []
      → ((arrival : Arrival I O) → IsSeated input output arrival last → IsPast input output arrival one) → IsTakingIn input output arrivals seated past → IsTakingIn input output arrivals left after
  in_more seated left last past after one cut put took t =
      let all : AllFit (IsSeated input output) t.front (left ++ last ∷ []) = subst (λ (l : List (Seated I O R)). AllFit (IsSeated input output) t.front l) cut t.sit in
      let parts = fit_cut (IsSeated input output) t.front left last all in record {
        front = parts.0;
        back = parts.1 ∷ t.back;
        are = t.are ∙ ap (λ (l : List (Arrival I O)). l ++ t.back) parts.2 ∙ append_assoc parts.0 (parts.1 ∷ []) t.back;
        sit = parts.3;
        gone = subst (λ (l : List (Past I O)). AllFit (IsPast input output) (parts.1 ∷ t.back) l) (sym (ap reverse put ∙ reverse-append past (one ∷ []))) (took parts.1 parts.4, t.gone);
      }

  pub in_all : (seated : List (Seated I O R)) (past after : List (Past I O)) → length seated ≡ 0 → after ≡ reverse past → IsTakingIn input output arrivals seated past → AllFit (IsPast input output) arrivals after
  in_all seated past after none turned t = rest t.front t.are (subst (λ (l : List (Seated I O R)). AllFit (IsSeated input output) t.front l) (no_items seated none) t.sit)
    where
      rest : (front : List (Arrival I O)) → arrivals ≡ front ++ t.back → AllFit (IsSeated {R = R} input output) front [] → AllFit (IsPast input output) arrivals after
      rest [] are sit = subst (λ (l : List (Past I O)). AllFit (IsPast input output) arrivals l) (sym turned) (subst (λ (l : List (Arrival I O)). AllFit (IsPast input output) l (reverse past)) (sym are) t.gone)
      rest (first ∷ front) are sit = absurd sit
