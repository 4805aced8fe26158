-- Turns in Freeze that are given no entry, as the code passes them.
use Rattle.std.proofs.Common.{◌≡◌, ℕ, ℤ, ◌+◌, List, Option, false, refl, subst}
use Rattle.std.proofs.Math.Nat.{min-le_right}
use Rattle.std.specs.Prelude.{min, nat_le}
use Rattle.trick_exec.proofs.GoLemmas.{IsUnder}
use Rattle.trick_exec.proofs.IdleTurns.{idle_known}
use Rattle.trick_exec_turn.specs.Known.{AreKnown}
use Rattle.trick_exec_turn.specs.Worlds.{world_of}
use Rattle.trick_model.specs.declared.world.World.{World as WorldValue}
use Rattle.trick_lang.specs.declared.scalar.Scalar.{Scalar}
use Rattle.trick_model.specs.Plan.{Plan}
use Rattle.trick_model.specs.State.{State, World}
use Rattle.trick_model.specs.Time.{last_turn}
use Rattle.trick_model.specs.Turn.{counted}
use Rattle.trick_model.specs.declared.plan.Plan.{Plan as PlanValue}
use Rattle.trick_model.specs.declared.session.Session.{Session}
use Rattle.trick_exec_frame.specs.Pass.{IsEquipped}
use Rattle.trick_exec_frame.specs.declared.equipment.Equipment.{Equipment}
use Rattle.trick_post_work.specs.Work.{Started}
use Rattle.trick_exec_meaning.proofs.Gaps.{AreQuiet, AreStill, GivesTurn, going_gap, later}
use Rattle.trick_exec_meaning.proofs.Going.{Laws}
use Rattle.trick_exec_meaning.specs.Hosts.{Hosts, Place, at}
use Rattle.trick_exec_sources.specs.Gap as gap
use Rattle.trick_exec_sources.specs.Gap.{Gap}
use Rattle.trick_exec_sources.specs.declared.turns.Turns.{Ghosts as TurnsGhosts}

-- a gap that was given where these sessions are there
pub gap_as : {U M : Type 0} (turns : TurnsGhosts U M) (live there : List Session) (s : State) (count : ℕ) (old now : U) → live ≡ there
    → Gap (GivesTurn turns live) s count old now → Gap (GivesTurn turns there) s count old now
gap_as turns live there s count old now same given = subst (λ (ss : List Session). Gap (GivesTurn turns ss) s count old now) same given

-- its source knows the same sessions after it
pub gap_known : {U M : Type 0} (p : Plan) (turns : TurnsGhosts U M) (live : List Session) (s : State) (count : ℕ) (old now : U) (ss : List Session)
    → Gap (GivesTurn turns live) s count old now → AreKnown p (turns.sessions old) ss → AreKnown p (turns.sessions now) ss
gap_known p turns live _ _ _ _ ss (gap.last s old now gives) are = idle_known p (turns.sessions old) (turns.sessions now) ss ss are gives.there refl
gap_known p turns live _ _ _ _ ss (gap.more s count old mid now gives rest) are =
    gap_known p turns live (counted s) count mid now ss rest (idle_known p (turns.sessions old) (turns.sessions mid) ss ss are gives.there refl)

-- a run is equipped after it
pub equipped_later : {L : Type 0} (plan : PlanValue) (equipment : Equipment L) (in_flight : ℕ → Option Started) (s : State) (scalars : List Scalar) (turns turn : ℕ)
    → min (s.turn + turns) last_turn ≡ turn → IsEquipped plan equipment in_flight s scalars
    → IsEquipped plan equipment in_flight (record s { turn = turn }) scalars
equipped_later plan equipment in_flight s scalars turns turn is equipped =
    let goes = equipped.under_way.goes in
    let valid = goes.valid in
    let ready = equipped.under_way.ready in
    subst (λ (n : ℕ). IsEquipped plan equipment in_flight (record s { turn = n }) scalars) is
    (record {
      under_way = record {
        goes = record {
          valid = record {
            turn = min-le_right (s.turn + turns) last_turn;
            tic = valid.tic;
            limit = valid.limit;
            sizes = valid.sizes;
            memory = valid.memory;
            last = valid.last;
            taken = valid.taken;
            faults = valid.faults;
            kept = valid.kept;
          };
          memory = goes.memory;
          tied = goes.tied;
        };
        ready = record { stirs = ready.stirs; jobs = ready.jobs; rows = ready.rows; ends = ready.ends };
      };
      bench = equipped.bench;
    })

-- the turns of a gap are done
pub under_gap : {S U M Q : Type 0} (h : Hosts S U M Q) → Laws h → AreQuiet h → (p : Plan) (start : State) {old mid : Place S U Q} {w : World} {kept : List ℕ} (turns : ℕ) (now : U)
    → IsUnder h p start old mid w kept → nat_le w.state.limit w.state.tic ≡ false → AreStill w.sessions
    → Gap (GivesTurn h.turns w.sessions) w.state turns mid.turns now → IsUnder h p start old (at mid.shelf now mid.posts) (later turns w) kept
under_gap h laws quiet p start {w = w} turns now so below still given =
    let more = going_gap h laws quiet p start w.sessions w.state so.waits so.lists turns now so.going below still given in
    record { lists = more.0; waits = so.waits; going = more.1; same = so.same }

-- the world in which they are done, as the code holds it
pub under_as : {S U M Q D : Type 0} {h : Hosts S U M Q} {p : Plan} {start : State} {old now : Place S U Q} {kept : List ℕ} (numbers : D → List ℤ)
    (world : WorldValue D) (turns turn : ℕ) → min ((world_of numbers world).state.turn + turns) last_turn ≡ turn
    → IsUnder h p start old now (later turns (world_of numbers world)) kept
    → IsUnder h p start old now (record (world_of numbers world) { state = record ((world_of numbers world).state) { turn = turn } }) kept
under_as {h = h} {p = p} {start = start} {old = old} {now = now} {kept = kept} numbers world turns turn is so =
    let w : World = world_of numbers world in
    subst (λ (n : ℕ). IsUnder h p start old now (record w { state = record (w.state) { turn = n } }) kept) is so
