-- The list of a turn as it is gathered.
use Rattle.std.specs.Prelude.{◌≡◌, ◌⊎◌, ℕ, ◌+◌, ◌≤◌, Bool, true, List, [], ◌∷◌, ◌++◌, length}
use Rattle.trick_model.specs.declared.entry.Cause.TheVariants as cause
use Rattle.trick_model.specs.declared.entry.Entry.{Entry}
use Rattle.trick_model.specs.declared.entry.Entry.TheVariants.{Leave}
use Rattle.trick_model.specs.declared.session.Session.{Session}
use Rattle.trick_serve_hearing.specs.Life.{Happening, Happens, HangsUp, Hears, Lives, Misses, entries_of, entries_of_all, is_exit, own}
use Rattle.trick_wire.specs.declared.heard.Heard.TheVariants as heard
use Rattle.trick_serve_hearing.specs.Rules.{Keeps, sessions_by}
use Rattle.trick_serve_hearing.specs.Sides.{Side, side}
use Rattle.trick_serve_hearing.specs.declared.seat.Seat.{Seat}

-- A line that was taken of session n is listed, with its leave where it asks for it; or there was no memory to look at
-- it, and the session leaves for that.
pub record IsListed (n : ℕ) (line : List ℕ) (old new : Side) (before after : List Entry) : Type 0 where
  pub listed : ((new ≡ record old { left = is_exit line }) × (after ≡ before ++ entries_of n (Hears (heard.Line line))))
      ⊎ ((new ≡ record old { left = true }) × (after ≡ before ++ entries_of n (Misses (heard.Line line))))

-- These things happen to session n, and their entries are added to the list, where no memory was wanting.
pub record HasListed (n : ℕ) (old new : Side) (before after : List Entry) (done : Bool) : Type 0 where
  pub happened : List Happening
  pub happens : Happens happened old new
  pub listed : done ≡ true → after ≡ before ++ entries_of_all n happened

-- Session n hangs up, or nothing happens to it.
pub record HasLooked (n : ℕ) (there : List Session) (old new : Side) (before after : List Entry) : Type 0 where
  pub looked : HangsUp n there old new (Leave n cause.HungUp ∷ []) × (after ≡ before ++ Leave n cause.HungUp ∷ [])
      ⊎ ((new ≡ old) × (after ≡ before))

-- From these seats, and these sessions that were live, a list was gathered; where memory was wanting some of it may be
-- missing.
pub record Gathers (there : List Session) (was : List Seat) (known : List ℕ) (seats : List Seat) (live : List ℕ)
    (list : List Entry) (done : Bool) : Type 0 where
  pub count : length was ≤ length seats
  pub fresh : done ≡ true → (k : ℕ) → length seats ≤ k → own (k + 1) list ≡ []
  pub lives : (k : ℕ) → (mine : List Entry) × Lives (k + 1) there (side was k) (side seats k) mine
      × (done ≡ true → mine ≡ own (k + 1) list)
  pub keeps : done ≡ true → Keeps (sessions_by was known known) list (sessions_by seats live live)
