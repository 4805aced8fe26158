-- What a look at the clients came to.
use Rattle.std.specs.Prelude.{◌≡◌, ◌≢◌, ℕ, ◌+◌, Bool, true, List, [], Option, Some, None, Result, Ok, Err}
use Rattle.std.specs.declared.alloc.AllocError.{AllocError}
use Rattle.std.specs.declared.alloc.Global.{Global}
use Rattle.std.specs.declared.vec.Vec.{Vec}
use Rattle.trick_model.specs.declared.entry.Entry.{Entry}
use Rattle.trick_model.specs.declared.session.Session.{Session}
use Rattle.trick_serve_source.specs.Calls.{StaysSilent, View, Went}
use Rattle.trick_serve_hearing.specs.Life.{AllLive, Lives}
use Rattle.trick_serve_source.specs.Rolls.{AreEnded, IsGathered}
use Rattle.trick_serve_hearing.specs.Rules.{AreQuick, Keeps, sessions_by}
use Rattle.trick_serve_hearing.specs.Sides.{side}
use Rattle.trick_serve_source.specs.declared.roll.Roll.{Roll}
use Rattle.trick_exec_sources.specs.Turns.{in_next}

-- After looks at which nothing came.
pub record HasLooked (old mid : View) : Type 0 where
  pub looked : Went old mid [] []
  pub same : mid.sessions ≡ old.sessions
  pub whole : mid.broke ≡ old.broke

-- After looks at which nothing came a list was gathered; what was said of the first answer of the door stays.
pub record HasFound (there : List Session) (old : View) (now : Roll) (silent done : Bool) : Type 0 where
  pub mid : View
  pub looks : HasLooked old mid
  pub known : List ℕ
  pub next : sessions_by mid.seats known known ≡ in_next old.sessions
  pub gathered : IsGathered there mid.seats known now done
  pub stays : mid.silent ≡ true → silent ≡ true

-- After looks at which nothing came no line comes any more.
pub record HasNoMore (frozen : Bool) (old new : View) : Type 0 where
  pub looks : HasLooked old new
  pub frozen_is : frozen ≡ true
  pub over : new.over ≡ true
  pub ended : AreEnded new.seats new.sessions.live

-- After looks at which nothing came a list was given.
pub record HasGiven (there : List Session) (frozen : Bool) (old new : View) (list : List Entry) : Type 0 where
  pub mid : View
  pub looks : HasLooked old mid
  pub lives : AllLive there mid.seats new.seats list
  pub rules : Keeps (in_next old.sessions) list new.sessions
  pub filled : frozen ≡ true → list ≢ []
  pub silent : StaysSilent mid new
  pub answered : new.seats ≡ [] → list ≡ [] → new.silent ≡ true
  pub quick : AreQuick new.seats new.sessions.live

-- After looks at which nothing came there was no memory.
pub record HasLost (there : List Session) (old new : View) : Type 0 where
  pub mid : View
  pub looks : HasLooked old mid
  pub lost : (k : ℕ) → (own : List Entry) × Lives (k + 1) there (side mid.seats k) (side new.seats k) own
  pub silent : StaysSilent mid new

-- what the search for the next list came to
abbrev pub Came : List Session → Bool → View → View → Result (Option (Vec Entry Global)) AllocError → Type 0
Came there frozen old new (Ok (Some list)) = HasGiven there frozen old new list.items
Came there frozen old new (Ok None) = HasNoMore frozen old new
Came there frozen old new (Err e) = HasLost there old new
