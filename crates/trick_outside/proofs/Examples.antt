-- Worked calls: what each definition says of one of them.
use Rattle.std.proofs.Common.{◌≡◌, ℕ, List, [], ◌∷◌, Some, None, true, false, refl, inl, inr}
use Rattle.std.specs.FinMap.{empty}
use Rattle.std.specs.Prelude.{codes}
use Rattle.trick_base.specs.Files.{Append, Create, Files, all_written}
use Rattle.trick_outside.specs.Calls.{AllLeave, Call, EndAtFault, Get, Put, Read, Stopped, fails}
use Rattle.trick_outside.specs.Does.{IsPartOf, added, created}
use Rattle.trick_outside.specs.Pieces as pieces
use Rattle.trick_outside.specs.Puts.{ArePiecesOf}
use Rattle.trick_outside.specs.Writes.{writes_of}
use Rattle.trick_outside.specs.declared.stop.Stop.TheVariants.{Memory, Shelf}

a : List ℕ
a = codes "a"

none : Files
none = empty

-- an answer is of what is held at that moment
read_then_read : (now : Files) → AllLeave (Read a None ∷ created a ∷ Read a (Some []) ∷ []) none now → now ≡ all_written (Create a ∷ []) none
read_then_read now (m1, (none_there, e1), (m2, e2, (m3, (empty_there, e3), e4))) = rw (e4, e3, e2, e1) refl

-- a create that stopped left what was there, or an empty file
stopped_create : AllLeave (Stopped (Put (Create a)) Shelf ∷ []) none none
stopped_create = (none, ([], tt, refl), refl)

stopped_create_made : AllLeave (Stopped (Put (Create a)) Shelf ∷ []) none (all_written (Create a ∷ []) none)
stopped_create_made = (_, (Create a ∷ [], inl (refl, tt), refl), refl)

-- an append that stopped may have added a prefix, and nothing else
stopped_append : AllLeave (Stopped (Put (Append a (1 ∷ 2 ∷ []))) Memory ∷ []) none (all_written (Append a (1 ∷ []) ∷ []) none)
stopped_append = (_, (Append a (1 ∷ []) ∷ [], inr ((refl, (2 ∷ [], refl)), refl), refl), refl)

-- want of memory is no fault
no_fault : fails (Read a None ∷ Stopped (Get a) Memory ∷ []) ≡ false
no_fault = refl

fault : fails (Read a None ∷ Stopped (Get a) Shelf ∷ []) ≡ true
fault = refl

-- after a fault there is no other call
no_more : (call : Call) → EndAtFault (Stopped (Get a) Shelf ∷ call ∷ []) → ⊥
no_more call ends = (let e = ends.0 refl in cc)

-- a part ends where a call stopped: it is not made again
not_again : IsPartOf (Stopped (Put (Create a)) Shelf ∷ created a ∷ []) (created a ∷ added a [] ∷ []) → ⊥
not_again (inl (e, more)) = cc
not_again (inr (why, e, none)) = cc

-- and no step is done in two calls
not_in_two : IsPartOf (added a (1 ∷ []) ∷ added a (2 ∷ []) ∷ []) (added a (1 ∷ 2 ∷ []) ∷ []) → ⊥
not_in_two (inl (e, more)) = absurd more
not_in_two (inr (why, e, none)) = cc

writes : writes_of (Read a None ∷ created a ∷ added a (1 ∷ []) ∷ Stopped (Put (Append a (2 ∷ []))) Shelf ∷ []) ≡ Create a ∷ Append a (1 ∷ []) ∷ []
writes = refl

-- a text of three bytes, of which a sink took one, then two
in_pieces : ArePiecesOf (1 ∷ 2 ∷ 3 ∷ []) (pieces.Took (1 ∷ 2 ∷ 3 ∷ []) 1 ∷ pieces.Took (2 ∷ 3 ∷ []) 2 ∷ [])
in_pieces = (refl, (refl, tt))

taken : pieces.taken_of (pieces.Took (1 ∷ 2 ∷ 3 ∷ []) 1 ∷ pieces.Failed (2 ∷ 3 ∷ []) ∷ []) ≡ 1 ∷ []
taken = refl

-- after a piece of which nothing was taken there is no other
no_more_pieces : (piece : pieces.Piece) → ArePiecesOf (1 ∷ []) (pieces.Failed (1 ∷ []) ∷ piece ∷ []) → ⊥
no_more_pieces piece (is, none) = cc
