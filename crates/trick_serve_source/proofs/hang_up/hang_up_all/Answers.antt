use Rattle.std.proofs.Common.{rules, ◌∙◌, ◌∷◌, ◌<◌, ◌≤◌, [], List, ℕ, length, true, ◌-◌, ap, arith, refl, slice_index_or, subst, sym}
use Rattle.trick_model.specs.declared.entry.Entry.{Entry}
use Rattle.trick_serve_hearing.specs.declared.seat.Seat.{Seat}
use Rattle.trick_serve_hearing.proofs.Gathering.{AreQuiet, among_at, gathers_any, gathers_looked, gathers_none, idle_there, quiet_looked, quiet_none}
use Rattle.trick_serve_hearing.proofs.Placing.{seated_more, side_at}
use Rattle.trick_serve_hearing.proofs.Seating.{looked_keeps, queues_set}
use Rattle.std.proofs.lemmas.List.{length-set}
use Rattle.trick_serve_source.proofs.hang_up.hang_up_all.Goals as goal
use Rattle.trick_serve_hearing.specs.Gathering.{Gathers, HasLooked}
use Rattle.trick_serve_hearing.specs.Rules.{AreSeated}
use Rattle.trick_serve_hearing.specs.Sides.{Side, side_of}

pub loop-at-init : goal.loop-at-init
loop-at-init c = record {
  count = refl;
  queues = refl;
  gathers = subst (λ (l : List Entry). Gathers c.args.there.now c.args.seats.now.items c.args.live.now c.args.seats.now.items c.args.live.now l true) (sym c.requires.empty)
      (gathers_none c.args.there.now c.args.seats.now.items c.args.live.now);
  quiet = subst (λ (l : List Entry). AreQuiet c.args.seats.now.items c.args.seats.now.items l) (sym c.requires.empty) (quiet_none c.args.seats.now.items);
}

pub returns-in_err-look_at-clause-gathers : goal.returns-in_err-look_at-clause-gathers
returns-in_err-look_at-clause-gathers c =
    let n = slice_index_or c.args.live.now c.loop-at.at 0 in
    let here : c.loop-at.at < length c.args.live.now = search rules in
    let shown : c.loop-at.at < length c.args.there.now = search rules in
    let in_range = c.requires.seated c.loop-at.at 0 here in
    let positive : 0 < n = in_range.0 in
    let within : n ≤ length c.loop-at.seats.items = subst (λ (m : ℕ). n ≤ m) (sym c.loop-at.invariant.count) in_range.1 in
    let fits = c.type_inv.live c.loop-at.at in
    let seated : AreSeated c.args.live.now c.loop-at.seats.items =
    seated_more c.args.live.now c.args.seats.now.items c.loop-at.seats.items (omega (arith, c.loop-at.invariant.count)) c.requires.seated in
    let did : HasLooked n (c.index-there-at.result ∷ []) (side_of (slice_index_or c.loop-at.seats.items (n - 1) c.index_mut.result.now)) (side_of c.look_at.new.seat) c.loop-at.list.items c.look_at.new.list.items =
    subst (λ (s : Seat). HasLooked n (c.index-there-at.result ∷ []) (side_of s) (side_of c.look_at.new.seat) c.loop-at.list.items c.look_at.new.list.items) c.index_mut.ensures.value c.look_at.ensures in
    gathers_any c.args.there.now c.args.seats.now.items c.args.live.now _ c.args.live.now c.look_at.new.list.items _
    (gathers_looked c.args.there.now c.index-there-at.result c.args.seats.now.items c.args.live.now c.loop-at.seats.items c.args.live.now c.loop-at.list.items c.look_at.new.list.items
    n (n - 1) c.index_mut.result.now c.look_at.new.seat c.loop-at.invariant.gathers (omega (arith, positive)) (omega (arith, positive, within)) seated
    (omega (arith, fits)) (among_at n c.args.live.now c.loop-at.at here refl)
    (idle_there n c.args.there.now c.loop-at.at c.index-there-at.result shown c.index-there-at.is)
    (λ stays. c.loop-at.invariant.quiet (n - 1) (ap (λ (s : Side). s.left) (side_at c.loop-at.seats.items (n - 1) c.index_mut.result.now (omega (arith, positive, within))) ∙ stays))
    did)

pub returns-in_err-look_at-clause-queues : goal.returns-in_err-look_at-clause-queues
returns-in_err-look_at-clause-queues c =
    let n = slice_index_or c.args.live.now c.loop-at.at 0 in
    let here : c.loop-at.at < length c.args.live.now = search rules in
    let in_range = c.requires.seated c.loop-at.at 0 here in
    let positive : 0 < n = in_range.0 in
    let within : n ≤ length c.loop-at.seats.items = subst (λ (m : ℕ). n ≤ m) (sym c.loop-at.invariant.count) in_range.1 in
    let did : HasLooked n (c.index-there-at.result ∷ []) (side_of (slice_index_or c.loop-at.seats.items (n - 1) c.index_mut.result.now)) (side_of c.look_at.new.seat) c.loop-at.list.items c.look_at.new.list.items =
    subst (λ (s : Seat). HasLooked n (c.index-there-at.result ∷ []) (side_of s) (side_of c.look_at.new.seat) c.loop-at.list.items c.look_at.new.list.items) c.index_mut.ensures.value c.look_at.ensures in
    queues_set c.loop-at.seats.items (n - 1) c.index_mut.result.now c.look_at.new.seat (omega (arith, positive, within))
    (looked_keeps n (c.index-there-at.result ∷ []) (slice_index_or c.loop-at.seats.items (n - 1) c.index_mut.result.now) c.look_at.new.seat c.loop-at.list.items c.look_at.new.list.items did)
    ∙ c.loop-at.invariant.queues

pub loop-at-preserved : goal.loop-at-preserved
loop-at-preserved c =
    let n = slice_index_or c.args.live.now c.loop-at.at 0 in
    let here : c.loop-at.at < length c.args.live.now = search rules in
    let shown : c.loop-at.at < length c.args.there.now = search rules in
    let in_range = c.requires.seated c.loop-at.at 0 here in
    let positive : 0 < n = in_range.0 in
    let within : n ≤ length c.loop-at.seats.items = subst (λ (m : ℕ). n ≤ m) (sym c.loop-at.invariant.count) in_range.1 in
    let fits = c.type_inv.live c.loop-at.at in
    let seated : AreSeated c.args.live.now c.loop-at.seats.items =
    seated_more c.args.live.now c.args.seats.now.items c.loop-at.seats.items (omega (arith, c.loop-at.invariant.count)) c.requires.seated in
    let did : HasLooked n (c.index-there-at.result ∷ []) (side_of (slice_index_or c.loop-at.seats.items (n - 1) c.index_mut.result.now)) (side_of c.look_at.new.seat) c.loop-at.list.items c.look_at.new.list.items =
    subst (λ (s : Seat). HasLooked n (c.index-there-at.result ∷ []) (side_of s) (side_of c.look_at.new.seat) c.loop-at.list.items c.look_at.new.list.items) c.index_mut.ensures.value c.look_at.ensures in
    record {
      count = length-set c.loop-at.seats.items (n - 1) c.look_at.new.seat ∙ c.loop-at.invariant.count;
      queues = queues_set c.loop-at.seats.items (n - 1) c.index_mut.result.now c.look_at.new.seat (omega (arith, positive, within))
          (looked_keeps n (c.index-there-at.result ∷ []) (slice_index_or c.loop-at.seats.items (n - 1) c.index_mut.result.now) c.look_at.new.seat c.loop-at.list.items c.look_at.new.list.items did)
          ∙ c.loop-at.invariant.queues;
      gathers = gathers_looked c.args.there.now c.index-there-at.result c.args.seats.now.items c.args.live.now c.loop-at.seats.items c.args.live.now c.loop-at.list.items c.look_at.new.list.items
          n (n - 1) c.index_mut.result.now c.look_at.new.seat c.loop-at.invariant.gathers (omega (arith, positive)) (omega (arith, positive, within)) seated
          (omega (arith, fits)) (among_at n c.args.live.now c.loop-at.at here refl)
          (idle_there n c.args.there.now c.loop-at.at c.index-there-at.result shown c.index-there-at.is)
          (λ stays. c.loop-at.invariant.quiet (n - 1) (ap (λ (s : Side). s.left) (side_at c.loop-at.seats.items (n - 1) c.index_mut.result.now (omega (arith, positive, within))) ∙ stays))
          did;
      quiet = quiet_looked (c.index-there-at.result ∷ []) c.args.seats.now.items c.loop-at.seats.items c.loop-at.list.items c.look_at.new.list.items n (n - 1) c.index_mut.result.now c.look_at.new.seat
          (omega (arith, positive)) (omega (arith, positive, within)) c.loop-at.invariant.quiet did;
    }
