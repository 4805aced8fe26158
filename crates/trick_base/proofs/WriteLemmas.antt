-- Calls that write, one after another, and their fronts.
use Rattle.std.proofs.Common.{List, [], ◌∷◌, ◌++◌, refl, inl, inr, ◌≡◌}
use Rattle.trick_base.specs.Files.{Files, Write, written, all_written}
use Rattle.trick_base.specs.Fronts.{IsFrontOf}

pub all_written-append : (early late : List Write) (files : Files) → all_written (early ++ late) files ≡ all_written late (all_written early files)
all_written-append [] late files = refl
all_written-append (write ∷ early) late files = all_written-append early late (written write files)

-- all of them are a front
pub front_of_all : (writes : List Write) → IsFrontOf writes writes
front_of_all [] = tt
front_of_all (write ∷ writes) = inl (refl, front_of_all writes)

-- a front of the first calls is a front of all of them
pub front_of_early : (front early late : List Write) → IsFrontOf front early → IsFrontOf front (early ++ late)
front_of_early [] early late is = tt
front_of_early (write ∷ front) [] late is = absurd is
front_of_early (write ∷ front) (first ∷ early) late (inl is) = inl (is.0, front_of_early front early late is.1)
front_of_early (write ∷ front) (first ∷ early) late (inr is) = inr is

-- the first calls and a front of the others are a front of all of them
pub front_of_late : (early front late : List Write) → IsFrontOf front late → IsFrontOf (early ++ front) (early ++ late)
front_of_late [] front late is = is
front_of_late (write ∷ early) front late is = inl (refl, front_of_late early front late is)
