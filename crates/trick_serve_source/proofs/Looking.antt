-- What a look at the clients came to.
use Rattle.std.proofs.Common.{◌≡◌, ◌≢◌, ◌∙◌, ⊎_elim, inl, inr, ℕ, ◌+◌, ◌-◌, ◌<◌, ◌≤◌, Bool, true, false, cond, eqb, List, [], ◌∷◌, Option, Some, None, Ok, Err, ap, arith, length, refl, subst, sym}
use Rattle.std.proofs.lemmas.Bool.{false≢true}
use Rattle.std.specs.List.{filter, list_any}
use Rattle.std.specs.Prelude.{not, ◌||◌, Result, is_ok}
use Rattle.std.specs.declared.alloc.AllocError.{AllocError}
use Rattle.std.specs.declared.alloc.Global.{Global}
use Rattle.std.specs.declared.vec.Vec.{Vec}
use Rattle.trick_model.specs.Journal.{is_of_session}
use Rattle.trick_model.specs.Turn.{is_frozen}
use Rattle.trick_model.specs.declared.entry.Entry.{Entry}
use Rattle.trick_model.specs.declared.mode.Mode.{Mode}
use Rattle.trick_model.specs.declared.session.Session.{Session}
use Rattle.trick_serve_hearing.proofs.Gathering.{begins}
use Rattle.std.proofs.lemmas.Bool.Decides.{eqb_tells, nat_tests}
use Rattle.std.proofs.lemmas.List.{nil_from_length}
use Rattle.trick_serve_hearing.proofs.Living.{lives_none}
use Rattle.trick_serve_hearing.proofs.Placing.{filter_twice, live_same}
use Rattle.trick_serve_hearing.specs.Messages.{IsHanded}
use Rattle.trick_serve_source.specs.CallLaws.{went_join, went_none, went_one}
use Rattle.trick_serve_source.specs.Calls.{Answers, Breaks, Hands, IsQuiet, Looks, View, Went}
use Rattle.trick_serve_hearing.specs.Life.{Lives, own}
use Rattle.trick_serve_source.specs.Looks.{Came, HasFound, HasGiven, HasLooked, HasLost, HasNoMore}
use Rattle.trick_serve_source.specs.Rolls.{IsGathered, view, view_of}
use Rattle.trick_serve_hearing.specs.Rules.{AreQuick, AreSeated, Keeps, is_live, sessions_by}
use Rattle.trick_serve_hearing.specs.Sides.{Side, side}
use Rattle.trick_serve_source.specs.declared.roll.Roll.{Roll}
use Rattle.trick_serve_hearing.specs.declared.seat.Seat.{Seat}
use Rattle.trick_serve_source.specs.declared.served.Served.{Served}
use Rattle.trick_exec_sources.specs.Turns.{Sessions, has_line, in_next, owes_after}

-- ---- looks

pub looked_none : (v : View) → HasLooked v v
looked_none v = record { looked = went_none v; same = refl; whole = refl }

-- the same list, gathered from equal seats and sessions
pub gathered_as : (there : List Session) (was was' : List Seat) (known known' : List ℕ) (roll : Roll) (done : Bool) → was ≡ was' → known ≡ known'
    → IsGathered there was known roll done → IsGathered there was' known' roll done
gathered_as there was was' known known' roll done seats numbers so =
    subst (λ (k : List ℕ). IsGathered there was' k roll done) numbers (subst (λ (w : List Seat). IsGathered there w known roll done) seats so)

-- a look at which nothing came
looked_so : (there : List Session) (old : View) (mid new : Roll) (reached : List ℕ) (over over' broke silent silent' : Bool)
    → (over ≡ true → over' ≡ true) → (silent ≡ true → silent' ≡ true) → AreSeated mid.live.items mid.seats.items
    → HasLooked old (view mid reached over broke silent)
    → IsGathered there mid.seats.items (filter (is_live mid.seats.items) mid.live.items) new true → new.list.items ≡ []
    → HasLooked old (view new reached over' broke silent')
looked_so there old mid new reached over over' broke silent silent' stays known_still seated before so empty = record {
  looked = went_join old (view mid reached over broke silent) (view new reached over' broke silent') [] [] [] [] before.looked
      (went_one (Looks there) (view mid reached over broke silent) (view new reached over' broke silent') quiet);
  same = same ∙ before.same;
  whole = before.whole;
}
  where
    known : List ℕ
    known = filter (is_live mid.seats.items) mid.live.items

    keeps : Keeps (sessions_by mid.seats.items known known) [] (sessions_by new.seats.items new.live.items new.live.items)
    keeps = subst (λ (l : List Entry). Keeps (sessions_by mid.seats.items known known) l (sessions_by new.seats.items new.live.items new.live.items)) empty (so.keeps refl)

    same : sessions_by new.seats.items new.live.items reached ≡ sessions_by mid.seats.items mid.live.items reached
    same = λ i. record {
      highest = ap (λ (s : Sessions). s.highest) (keeps.now) i;
      live = (ap (λ (s : Sessions). s.live) (keeps.now) ∙ filter_twice (λ m. (0 < m) × (m ≤ length mid.seats.items)) (is_live mid.seats.items) mid.live.items seated) i;
      reached = reached;
    }

    quiet : IsQuiet there (view mid reached over broke silent) (view new reached over' broke silent')
    quiet = record {
      lives = record {
        each = λ k. let one = so.lives k in
            subst (λ (l : List Entry). Lives (k + 1) there (side mid.seats.items k) (side new.seats.items k) l) (one.2 refl ∙ ap (own (k + 1)) empty) one.1;
      };
      sessions = same;
      whole = refl;
      over = stays;
      silent = known_still;
    }

module _ {I O R : Type 0} where
  pub looked_more : (there : List Session) (old : View) (mid new : Served I O R) → new.reached.items ≡ mid.reached.items → new.broke ≡ mid.broke
      → (mid.over ≡ true → new.over ≡ true) → (mid.silent ≡ true → new.silent ≡ true) → HasLooked old (view_of mid)
      → IsGathered there mid.roll.seats.items (filter (is_live mid.roll.seats.items) mid.roll.live.items) new.roll true → new.roll.list.items ≡ []
      → HasLooked old (view_of new)
  looked_more there old mid new same_reached same_broke stays known_still before so empty =
      subst (λ (r : List ℕ). HasLooked old (view new.roll r new.over new.broke new.silent)) (sym same_reached)
      (subst (λ (b : Bool). HasLooked old (view new.roll mid.reached.items new.over b new.silent)) (sym same_broke)
      (looked_so there old mid.roll new.roll mid.reached.items mid.over new.over mid.broke mid.silent new.silent stays known_still mid.roll.seated before so empty))

  -- a list was gathered, or memory was wanting
  pub found_more : (there : List Session) (old : View) (mid new : Served I O R) (done : Bool) → HasLooked old (view_of mid)
      → (mid.silent ≡ true → new.silent ≡ true)
      → IsGathered there mid.roll.seats.items (filter (is_live mid.roll.seats.items) mid.roll.live.items) new.roll done
      → HasFound there old new.roll new.silent done
  found_more there old mid new done before known_still so = record {
    mid = view_of mid;
    looks = before;
    known = filter (is_live mid.roll.seats.items) mid.roll.live.items;
    next = begins mid.roll.seats.items mid.roll.live.items mid.reached.items mid.roll.seated ∙ ap in_next before.same;
    gathered = so;
    stays = known_still;
  }

  -- ---- what is given

  pub given : (there : List Session) (frozen : Bool) (old : View) (found now : Served I O R) (list : List Entry)
      → HasFound there old found.roll found.silent true → list ≡ found.roll.list.items → (frozen ≡ true → found.roll.list.items ≢ [])
      → (found.roll.seats.items ≡ [] → found.roll.list.items ≡ [] → found.silent ≡ true)
      → AreQuick found.roll.seats.items (filter (is_live found.roll.seats.items) found.roll.live.items)
      → now.roll.seats ≡ found.roll.seats → now.roll.live ≡ found.roll.live → now.reached.items ≡ found.roll.live.items → now.silent ≡ found.silent
      → HasGiven there frozen old (view_of now) list
  given there frozen old found now list so is filled answered quick seats live reaches same = record {
    mid = so.mid;
    looks = so.looks;
    lives = record {
      each = λ k. let one = so.gathered.lives k in
          subst (λ (l : List Entry). Lives (k + 1) there (side so.mid.seats k) (side now.roll.seats.items k) l) (one.2 refl ∙ ap (own (k + 1)) (sym is))
          (subst (λ v. Lives (k + 1) there (side so.mid.seats k) (side v.items k) one.0) (sym seats) one.1);
    };
    rules = subst (λ (l : List Entry). Keeps (in_next old.sessions) l (view_of now).sessions) (sym is)
        (subst (λ (s : Sessions). Keeps (in_next old.sessions) found.roll.list.items s) (λ i. sessions_by (sym seats i).items (sym live i).items (sym reaches i))
        (subst (λ (s : Sessions). Keeps s found.roll.list.items (sessions_by found.roll.seats.items found.roll.live.items found.roll.live.items)) so.next
        (so.gathered.keeps refl)));
    filled = λ f none. filled f (sym is ∙ none);
    silent = λ yes. same ∙ so.stays yes;
    answered = λ nobody_sits none. same ∙ answered (ap (λ v. v.items) (sym seats) ∙ nobody_sits) (sym is ∙ none);
    quick = subst (λ v. AreQuick now.roll.seats.items (filter (is_live now.roll.seats.items) v.items)) (sym live)
        (subst (λ v. AreQuick v.items (filter (is_live v.items) found.roll.live.items)) (sym seats) quick);
  }

  -- memory was wanting
  pub lost : (there : List Session) (old : View) (found now : Served I O R) (done : Bool) → HasFound there old found.roll found.silent done
      → now.roll.seats ≡ found.roll.seats → now.silent ≡ found.silent → HasLost there old (view_of now)
  lost there old found now done so seats same = record {
    mid = so.mid;
    looks = so.looks;
    lost = λ k. let one = so.gathered.lives k in
        (one.0, subst (λ v. Lives (k + 1) there (side so.mid.seats k) (side v.items k) one.0) (sym seats) one.1);
    silent = λ yes. same ∙ so.stays yes;
  }

-- ---- the answers

pub went_given : (there : List Session) (turn : ℕ) (mode : Mode) (old new : View) (list : List Entry) → old.broke ≡ false
    → new.broke ≡ old.broke → HasGiven there (is_frozen mode) old new list
    → Went old new (record { turn = turn; mode = mode; sessions = there; list = Some list } ∷ []) []
went_given there turn mode old new list whole kept so =
    went_join old so.mid new [] _ [] [] so.looks.looked
    (went_one (Answers (record { turn = turn; mode = mode; sessions = there; list = Some list })) so.mid new (
      record {
        lives = so.lives;
        rules = subst (λ (s : Sessions). Keeps (in_next s) list new.sessions) (sym so.looks.same) so.rules;
        frozen = so.filled;
        whole = kept ∙ sym so.looks.whole;
        silent = so.silent;
        answered = so.answered;
        quick = so.quick;
      },
      so.looks.whole ∙ whole,
    ))

-- nothing is given at once, where the next list begins with the same sessions
pub went_calm : (there : List Session) (turn : ℕ) (mode : Mode) (v : View) → v.broke ≡ false → is_frozen mode ≡ false
    → v.sessions ≡ in_next v.sessions → (v.seats ≡ [] → v.silent ≡ true) → AreQuick v.seats v.sessions.live
    → Went v v (record { turn = turn; mode = mode; sessions = there; list = Some [] } ∷ []) []
went_calm there turn mode v whole runs same silent quick = went_given there turn mode v v [] whole refl (record {
  mid = v;
  looks = looked_none v;
  lives = record { each = λ k. lives_none (k + 1) there (side v.seats k) };
  rules = record { may = refl; now = same; only = refl };
  filled = λ frozen. absurd (false≢true (sym runs ∙ frozen));
  silent = λ is. is;
  answered = λ none empty. silent none;
  quick = quick;
})

pub went_over : (there : List Session) (turn : ℕ) (mode : Mode) (old new : View) → HasNoMore (is_frozen mode) old new
    → Went old new (record { turn = turn; mode = mode; sessions = there; list = None } ∷ []) []
went_over there turn mode old new so =
    went_join old new new [] _ [] [] so.looks.looked
    (went_one (Answers (record { turn = turn; mode = mode; sessions = there; list = None })) new new
    (record {
      frozen = so.frozen_is;
      quiet = record { lives = record { each = λ k. inr (record { happened = []; happens = refl; entries = refl }) }; sessions = refl; whole = refl; over = λ is. is; silent = λ is. is };
      over = so.over;
      ended = so.ended;
    }))

pub went_lost : (there : List Session) (old new broken : View) → HasLost there old new → broken.seats ≡ new.seats → broken.broke ≡ true
    → broken.silent ≡ new.silent → Went old broken [] []
went_lost there old new broken so seats broke same =
    went_join old so.mid broken [] [] [] [] so.looks.looked
    (went_one (Breaks there) so.mid broken (record {
      lost = λ k. let one = so.lost k in
          (one.0, subst (λ (l : List Seat). Lives (k + 1) there (side so.mid.seats k) (side l k) one.0) (sym seats) one.1);
      broke = broke;
      silent = λ yes. same ∙ so.silent yes;
    }))

-- nothing is owed after a list that is given
pub nothing_owed : (mode : Mode) (list : List Entry) → list_any (λ entry. not (is_of_session entry)) list ≡ false
    → (is_frozen mode ≡ true → list ≢ []) → false ≡ owes_after mode list false
nothing_owed mode [] only filled = go (is_frozen mode) refl
  where
    go : (b : Bool) → is_frozen mode ≡ b → false ≡ cond b true false
    go true is = absurd (filled is refl)
    go false is = refl
nothing_owed mode (entry ∷ list) only filled = sym (ap (λ (b : Bool). cond (b || has_line list) false (cond (is_frozen mode) true false)) (mine (is_of_session entry) (list_any (λ other. not (is_of_session other)) list) only))
  where
    mine : (b c : Bool) → (not b || c) ≡ false → b ≡ true
    mine true c is = refl
    mine false c is = absurd (false≢true (sym is))

-- ---- messages

handed_left : (bytes : List ℕ) (s t : Side) → IsHanded bytes s t → t.left ≡ s.left
handed_left bytes s t (inl put) = ap (λ (x : Side). x.left) put.is
handed_left bytes s t (inr (inl out)) = ap (λ (x : Side). x.left) out.is
handed_left bytes s t (inr (inr over)) = ap (λ (x : Side). x.left) over.is

-- a message was handed to a session
pub went_handed : (session : ℕ) (bytes message : List ℕ) (old new : Roll) (reached : List ℕ) (over broke silent : Bool) → 0 < session → message ≡ bytes
    → IsHanded message (side old.seats.items (session - 1)) (side new.seats.items (session - 1))
    → ((k : ℕ) → session ≢ k + 1 → side new.seats.items k ≡ side old.seats.items k) → length new.seats.items ≡ length old.seats.items
    → new.live ≡ old.live → Went (view old reached over broke silent) (view new reached over broke silent) [] ((session, bytes) ∷ [])
went_handed session bytes message old new reached over broke silent low is handed others count live =
    went_one (Hands (session, bytes)) (view old reached over broke silent) (view new reached over broke silent) (record {
      own = λ k same. subst (λ (m : ℕ). IsHanded bytes (side old.seats.items m) (side new.seats.items m)) (place k same)
          (subst (λ (b : List ℕ). IsHanded b (side old.seats.items (session - 1)) (side new.seats.items (session - 1))) is handed);
      others = others;
      sessions = λ i. record { highest = count i; live = (ap (λ v. filter (is_live new.seats.items) v.items) live ∙ live_same old.seats.items new.seats.items old.live.items lefts) i; reached = reached };
      over = refl;
      broke = refl;
      silent = refl;
    })
  where
    place : (k : ℕ) → session ≡ k + 1 → session - 1 ≡ k
    place k same = omega (arith, same)

    lefts : (k : ℕ) → (side new.seats.items k).left ≡ (side old.seats.items k).left
    lefts k = ⊎_elim
        (λ same. subst (λ (m : ℕ). (side new.seats.items m).left ≡ (side old.seats.items m).left) (place k same.1)
        (handed_left message (side old.seats.items (session - 1)) (side new.seats.items (session - 1)) handed))
        (λ apart. ap (λ (s : Side). s.left) (others k apart.1))
        (eqb_tells session (k + 1))

-- ---- results

pub came_lost : (there : List Session) (frozen : Bool) (old new : View) (r : Result (Option (Vec Entry Global)) AllocError) → is_ok r ≡ false
    → HasLost there old new → Came there frozen old new r
came_lost there frozen old new (Ok x) fails so = absurd (false≢true (sym fails))
came_lost there frozen old new (Err e) fails so = so

pub no_answer : (r : Result Bool AllocError) → is_ok r ≡ false → r ≢ Ok false
no_answer (Ok b) fails = λ same. absurd (false≢true (sym fails))
no_answer (Err e) fails = λ same. absurd (false≢true (ap is_ok same))

abbrev is_yes : Result Bool AllocError → Bool
is_yes (Ok b) = b
is_yes (Err e) = false

pub answer_yes : (r : Result Bool AllocError) → r ≡ Ok true → r ≢ Ok false
answer_yes r is = λ same. absurd (false≢true (ap is_yes (sym same ∙ is)))

-- a list that was found to have no item
pub empty_from : (items : List Entry) (len : ℕ) (b : Bool) → len ≡ length items → b ≡ eqb len 0 → b ≡ true → items ≡ []
empty_from items len b is test holds =
    let tested : eqb len 0 ≡ true = sym test ∙ holds in
    let zero : len ≡ 0 = grind (arith, nat_tests) in
    nil_from_length items (sym is ∙ zero)
