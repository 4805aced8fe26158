-- What the chief's own entries say.
use Rattle.std.proofs.Common.{◌≡◌, sym, subst, refl, true, Option, Some, None, List, [], ◌∷◌, ◌++◌}
use Rattle.std.specs.Prelude.{IsSome}
use Rattle.trick_hall_kept.specs.Histories.{Opening, has_shut}
use Rattle.trick_hall_kept.specs.Openings.{opened_at}
use Rattle.trick_hall_kept.specs.declared.entry.Entry.{Entry}
use Rattle.trick_hall_kept.specs.declared.entry.Entry.TheVariants.{Close, Commit, Open, Shut, Take}

pub some_of : (o : Option Opening) → IsSome o → (x : Opening) × (o ≡ Some x)
some_of (Some x) some = (x, refl)
some_of None some = absurd (cc)

-- a tic is open, by entries that are those before
pub still_open : (now before : List Entry) → now ≡ before → IsSome (opened_at before) → (x : Opening) × (opened_at now ≡ Some x)
still_open now before same some = some_of (opened_at now) (subst (λ (es : List Entry). IsSome (opened_at es)) (sym same) some)

-- a Shut at the end shuts
pub shut_last : (own : List Entry) → has_shut (own ++ Shut 1 ∷ []) ≡ true
shut_last [] = refl
shut_last (Open seat memory on tic ∷ es) = shut_last es
shut_last (Take seat job ∷ es) = shut_last es
shut_last (Commit seat job ∷ es) = shut_last es
shut_last (Close seat ∷ es) = shut_last es
shut_last (Shut seat ∷ es) = refl
