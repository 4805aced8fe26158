-- What a seat knows, and how each kind of step changes it.
use Rattle.std.specs.Prelude.{ℕ, ◌+◌, true, false, if◌then◌else◌, nat_le, List, [], ◌∷◌, ◌++◌, length, Option, Some, None}
use Rattle.trick_turn.specs.declared.view.View.{View}

module _ {E : Type 0} where
  -- a seat with this number that has done nothing, and has seen this much
  abbrev pub fresh_view : ℕ → ℕ → List E → View E
  fresh_view number made log = record {
    number = number;
    holding = false;
    seen = log;
    beside = [];
    own = [];
    misses = 0;
    found = 0;
    made = made;
  }

  -- the seat that a join leaves behind
  abbrev pub spent_view : View E
  spent_view = fresh_view 0 0 []

  -- what a turn adds to the history
  abbrev pub entries_told : Option E → List E
  entries_told (Some e) = e ∷ []
  entries_told None = []

  -- claim: the seat has the turn, and has seen the history
  abbrev pub after_claim : View E → List E → View E
  after_claim v log = record v { holding = true; seen = log; beside = [] }

  -- missed claim: one more miss, which found this number
  abbrev pub after_miss : View E → ℕ → View E
  after_miss v found = record v { misses = v.misses + 1; found = found }

  -- release: the turn is over, and what it told is at the end of the history
  abbrev pub after_release : View E → Option E → View E
  after_release v e = record v {
    holding = false;
    seen = v.seen ++ entries_told e;
    beside = [];
    own = v.own ++ entries_told e;
  }

  -- split a seat: the first seat counts one more, and that count is the new seat's number
  abbrev pub after_split : View E → View E
  after_split v = record v { made = v.made + 1 }

  abbrev pub split_off : View E → View E
  split_off v = fresh_view (v.made + 1) 0 v.seen

  -- join a seat: the first takes the longer of what the two have seen
  abbrev pub longer_of : List E → List E → List E
  longer_of xs ys = if nat_le (length xs) (length ys) then ys else xs

  abbrev pub shorter_of : List E → List E → List E
  shorter_of xs ys = if nat_le (length xs) (length ys) then xs else ys

  abbrev pub after_join : View E → View E → View E
  after_join v w = record v { seen = longer_of v.seen w.seen; beside = shorter_of v.seen w.seen }
