use Rattle.std.proofs.Common.{rules, ◌≡◌, ◌∙◌, ◌<◌, ◌≤◌, ℕ, length, true, false, ◌-◌, Bool, arith, refl, slice_index_or, slice_set, subst, sym}
use Rattle.std.specs.Prelude.{is_ok}
use Rattle.trick_serve_hearing.specs.declared.seat.Seat.{Seat}
use Rattle.trick_serve_hearing.proofs.hear.listen_all.Goals as goal
use Rattle.trick_serve_hearing.proofs.Gathering.{among_at, gathers_listed}
use Rattle.trick_serve_hearing.proofs.Placing.{seated_more}
use Rattle.trick_serve_hearing.proofs.Quick.{quick_all, quick_more}
use Rattle.trick_serve_hearing.proofs.Seating.{listed_keeps, queues_set}
use Rattle.std.proofs.lemmas.List.{length-set}
use Rattle.trick_serve_hearing.specs.Gathering.{Gathers, HasListed}
use Rattle.trick_serve_hearing.specs.Rules.{AreSeated}
use Rattle.trick_serve_hearing.specs.Sides.{side_of}

pub returns-in_err-listen-clause-gathers : goal.returns-in_err-listen-clause-gathers
returns-in_err-listen-clause-gathers g c =
    let n = slice_index_or c.args.live.now c.loop-session.session-index 0 in
    let here : c.loop-session.session-index < length c.args.live.now = search rules in
    let in_range = c.requires c.loop-session.session-index 0 here in
    let positive : 0 < n = in_range.0 in
    let within : n ≤ length c.loop-session.seats.items = subst (λ (m : ℕ). n ≤ m) (sym c.loop-session.invariant.count) in_range.1 in
    let fits = c.type_inv.live c.loop-session.session-index in
    let seated : AreSeated c.args.live.now c.loop-session.seats.items =
    seated_more c.args.live.now c.args.seats.now.items c.loop-session.seats.items (omega (arith, c.loop-session.invariant.count)) c.requires in
    let did : HasListed n (side_of (slice_index_or c.loop-session.seats.items (n - 1) c.index_mut.result.now)) (side_of c.listen.new.seat) c.loop-session.list.items c.listen.new.list.items (is_ok c.listen.result) =
    subst (λ (s : Seat). HasListed n (side_of s) (side_of c.listen.new.seat) c.loop-session.list.items c.listen.new.list.items (is_ok c.listen.result)) c.index_mut.ensures.value c.listen.ensures.listed in
    let one : is_ok c.listen.result ≡ false = search rules in
    let two : is_ok c.from_residual.result ≡ false = search rules in
    let same : is_ok c.listen.result ≡ is_ok c.from_residual.result = one ∙ sym two in
    λ there was known so. subst (λ (b : Bool). Gathers there was known (slice_set c.loop-session.seats.items (n - 1) c.listen.new.seat) c.args.live.now c.listen.new.list.items b) same
    (gathers_listed there was known c.loop-session.seats.items c.args.live.now c.loop-session.list.items c.listen.new.list.items n (n - 1) c.index_mut.result.now c.listen.new.seat (is_ok c.listen.result)
    (c.loop-session.invariant.gathers there was known so) (omega (arith, positive)) (omega (arith, positive, within)) seated (omega (arith, fits))
    (among_at n c.args.live.now c.loop-session.session-index here refl) did)

pub returns-in_err-listen-clause-queues : goal.returns-in_err-listen-clause-queues
returns-in_err-listen-clause-queues g c =
    let n = slice_index_or c.args.live.now c.loop-session.session-index 0 in
    let here : c.loop-session.session-index < length c.args.live.now = search rules in
    let in_range = c.requires c.loop-session.session-index 0 here in
    let positive : 0 < n = in_range.0 in
    let within : n ≤ length c.loop-session.seats.items = subst (λ (m : ℕ). n ≤ m) (sym c.loop-session.invariant.count) in_range.1 in
    let did : HasListed n (side_of (slice_index_or c.loop-session.seats.items (n - 1) c.index_mut.result.now)) (side_of c.listen.new.seat) c.loop-session.list.items c.listen.new.list.items (is_ok c.listen.result) =
    subst (λ (s : Seat). HasListed n (side_of s) (side_of c.listen.new.seat) c.loop-session.list.items c.listen.new.list.items (is_ok c.listen.result)) c.index_mut.ensures.value c.listen.ensures.listed in
    queues_set c.loop-session.seats.items (n - 1) c.index_mut.result.now c.listen.new.seat (omega (arith, positive, within))
    (listed_keeps n (slice_index_or c.loop-session.seats.items (n - 1) c.index_mut.result.now) c.listen.new.seat c.loop-session.list.items c.listen.new.list.items (is_ok c.listen.result) did)
    ∙ c.loop-session.invariant.queues

pub loop-session-preserved : goal.loop-session-preserved
loop-session-preserved g c =
    let n = slice_index_or c.args.live.now c.loop-session.session-index 0 in
    let here : c.loop-session.session-index < length c.args.live.now = search rules in
    let in_range = c.requires c.loop-session.session-index 0 here in
    let positive : 0 < n = in_range.0 in
    let within : n ≤ length c.loop-session.seats.items = subst (λ (m : ℕ). n ≤ m) (sym c.loop-session.invariant.count) in_range.1 in
    let fits = c.type_inv.live c.loop-session.session-index in
    let seated : AreSeated c.args.live.now c.loop-session.seats.items =
    seated_more c.args.live.now c.args.seats.now.items c.loop-session.seats.items (omega (arith, c.loop-session.invariant.count)) c.requires in
    let did : HasListed n (side_of (slice_index_or c.loop-session.seats.items (n - 1) c.index_mut.result.now)) (side_of c.listen.new.seat) c.loop-session.list.items c.listen.new.list.items (is_ok c.listen.result) =
    subst (λ (s : Seat). HasListed n (side_of s) (side_of c.listen.new.seat) c.loop-session.list.items c.listen.new.list.items (is_ok c.listen.result)) c.index_mut.ensures.value c.listen.ensures.listed in
    let same : is_ok c.listen.result ≡ true = search rules in
    record {
      count = length-set c.loop-session.seats.items (n - 1) c.listen.new.seat ∙ c.loop-session.invariant.count;
      queues = queues_set c.loop-session.seats.items (n - 1) c.index_mut.result.now c.listen.new.seat (omega (arith, positive, within))
          (listed_keeps n (slice_index_or c.loop-session.seats.items (n - 1) c.index_mut.result.now) c.listen.new.seat c.loop-session.list.items c.listen.new.list.items (is_ok c.listen.result) did)
          ∙ c.loop-session.invariant.queues;
      gathers = λ there was known so. subst (λ (b : Bool). Gathers there was known (slice_set c.loop-session.seats.items (n - 1) c.listen.new.seat) c.args.live.now c.listen.new.list.items b) same
          (gathers_listed there was known c.loop-session.seats.items c.args.live.now c.loop-session.list.items c.listen.new.list.items n (n - 1) c.index_mut.result.now c.listen.new.seat (is_ok c.listen.result)
          (c.loop-session.invariant.gathers there was known so) (omega (arith, positive)) (omega (arith, positive, within)) seated (omega (arith, fits))
          (among_at n c.args.live.now c.loop-session.session-index here refl) did);
      quick = quick_more c.loop-session.seats.items c.args.live.now c.loop-session.session-index (n - 1) c.listen.new.seat (omega (arith, positive, within)) refl
          (c.listen.ensures.quick same) c.loop-session.invariant.quick;
    }

pub returns-clause-quick : goal.returns-clause-quick
returns-clause-quick g c =
    let past : length c.args.live.now ≤ c.loop-session.session-index = search rules in
    λ ok. quick_all c.loop-session.seats.items c.args.live.now c.loop-session.session-index past c.loop-session.invariant.quick
