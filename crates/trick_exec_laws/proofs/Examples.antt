-- Two turns, of which the first was given a join and the second two: what is a cut of them, and what is not.
use Rattle.std.proofs.Common.{◌≡◌, ℕ, List, [], ◌∷◌, ◌++◌, inl, inr, refl}
use Rattle.trick_model.specs.Plan.{Plan}
use Rattle.trick_model.specs.State.{World}
use Rattle.trick_model.specs.declared.entry.Entry.{Entry}
use Rattle.trick_model.specs.declared.entry.Entry.TheVariants.{Join}
use Rattle.trick_exec_laws.specs.Left.{IsCutOf, journal_lists, one_of}

abbrev given : List (List Entry)
given = (Join 1 ∷ []) ∷ (Join 2 ∷ Join 3 ∷ []) ∷ []

-- all were noted
all_noted : (p : Plan) (w : World) → IsCutOf p w given [] given
all_noted p w = inl (refl, refl)

-- the last was not
one_missing : (p : Plan) (w : World) → IsCutOf p w ((Join 1 ∷ []) ∷ (Join 2 ∷ []) ∷ []) [] given
one_missing p w = inr ((Join 1 ∷ []) ∷ [], Join 2 ∷ Join 3 ∷ [], Join 2 ∷ [], Join 3 ∷ [], refl, refl, refl, inl refl)

-- nothing of the second turn was
turn_missing : (p : Plan) (w : World) → IsCutOf p w ((Join 1 ∷ []) ∷ []) [] given
turn_missing p w = inr ((Join 1 ∷ []) ∷ [], Join 2 ∷ Join 3 ∷ [], [], Join 2 ∷ Join 3 ∷ [], refl, refl, refl, inl refl)

-- what the first turn noted is never missing
both_missing : (p : Plan) (w : World) (torn : List ℕ) → IsCutOf p w [] torn given → ⊥
both_missing p w torn (inl is) = let none = is.0 in cc none
both_missing p w torn (inr (most, entries, front, rest, is, noted, cut, short)) = by most is cut
  where
    by : (most : List (List Entry)) → given ≡ most ++ entries ∷ [] → [] ≡ journal_lists p w most ++ one_of front → ⊥
    by [] is cut = cc is
    by (first ∷ most) is cut = cc cut
