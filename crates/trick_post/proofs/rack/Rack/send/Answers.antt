use Rattle.std.proofs.Common.{rules, ◌≡◌, ◌∙◌, ◌<◌, List, Some, arith, length, refl, subst, sym, true}
use Rattle.std.specs.Arc.{arc_value}
use Rattle.std.specs.List.{slice_index_or}
use Rattle.trick_post.proofs.Passes.{parcels_set, same_number, start_stands, told_open}
use Rattle.trick_post_places.proofs.PostLemmas.{returned_own}
use Rattle.trick_post_places.specs.Histories.{after, desk_seat}
use Rattle.trick_post_places.specs.Places.{PostView, Stands}
use Rattle.trick_post_places.specs.declared.event.Event.{Event}
use Rattle.trick_post_places.specs.declared.event.Event.TheVariants.{Start}
use Rattle.trick_post_trays.proofs.Trays.{thread_small}
use Rattle.trick_post_trays.specs.Outputs.{IsParcelOf}
use Rattle.trick_post_trays.specs.Trays.{held_in}
use Rattle.trick_post_trays.specs.declared.outputs.Parcel.{Parcel}
use Rattle.trick_turn.specs.Passes.{number_of, own, seen}
use Rattle.trick_post.proofs.rack.Rack.send.Goals as goal

pub index_mut-parcel-requires : goal.index_mut-parcel-requires
index_mut-parcel-requires g c =
    let plan = (arc_value c.args.self.now.held.accepted).plan in
    let small : c.args.thread < 16 = thread_small plan c.args.thread c.args.taken.now c.args.work c.requires.right in
    let many : length c.args.self.now.parcels.items ≡ 16 = c.args.self.now.fits.many in
    let there : c.args.thread < length c.args.self.now.parcels.items = omega (arith, small, many) in
    search (rules, there)

pub swap-requires : goal.swap-requires
swap-requires g c =
    let plan = (arc_value c.args.self.now.held.accepted).plan in
    let s = c.claim-turn.ensures.got.state plan c.args.self.now.held.is in
    let many : length c.claim-turn.result.value.places ≡ 16 = s.state.many in
    let small : c.args.thread < 16 = thread_small plan c.args.thread c.args.taken.now c.args.work c.requires.right in
    subst (λ (v : PostView). c.args.thread < length v.places) (sym c.value.ensures.value) (omega (arith, many, small))

pub end_start-requires-clause-stands : goal.end_start-requires-clause-stands
end_start-requires-clause-stands g c =
    let plan = (arc_value c.args.self.now.held.accepted).plan in
    let got = c.claim-turn.ensures.got in
    let p = c.args.self.now.pass in
    let log : List Event = seen c.claim-turn.result.pass.now in
    let h = c.index_mut-parcel.ensures.value in
    let given = c.index_mut-parcel.result.now in
    let at_ : slice_index_or c.args.self.now.parcels.items c.args.thread given ≡ given = search (rules, h) in
    start_stands g.P.Planned.plan plan c.value.result.now c.swap.new.self log (own p) (number_of p) c.args.thread c.args.taken.now c.args.work given c.swap.new.parcel
    c.args.self.now.held.is (thread_small plan c.args.thread c.args.taken.now c.args.work c.requires.right) (subst (λ (v : PostView). Stands g.P.Planned.plan v log) (sym c.value.ensures.value) got.state)
    c.args.self.now.first got.entries c.args.self.now.not_shut c.requires.free c.requires.right
    (subst (IsParcelOf plan c.args.thread) at_ (c.args.self.now.fits.each c.args.thread given (thread_small plan c.args.thread c.args.taken.now c.args.work c.requires.right)))
    (subst (λ (x : Parcel). held_in x.tray ≡ Some (record { taken = c.args.taken.now; work = c.args.work })) at_ (c.requires.holds given))
    c.swap.ensures

pub invariant_of-self : goal.invariant_of-self
invariant_of-self g c =
    let plan = (arc_value c.args.self.now.held.accepted).plan in
    let got = c.claim-turn.ensures.got in
    let p = c.args.self.now.pass in
    let log : List Event = seen c.claim-turn.result.pass.now in
    let s = subst (λ (v : PostView). Stands g.P.Planned.plan v log) (sym c.value.ensures.value) got.state plan c.args.self.now.held.is in
    record {
      of_lock = c.end_start.ensures.same.0 ∙ got.same.0 ∙ c.args.self.now.of_lock;
      rests = c.end_start.ensures.rests;
      first = same_number _ _ _ _ _ _ got c.end_start.ensures ∙ c.args.self.now.first;
      not_shut = told_open p _ _ (Start desk_seat c.args.thread c.args.taken.now c.args.work) true c.end_start.ensures got.added refl c.args.self.now.not_shut;
      fits = parcels_set plan c.args.self.now.parcels.items c.args.thread c.swap.new.parcel c.args.self.now.fits
          (returned_own plan (after log) c.value.result.now c.swap.new.self c.args.thread _ c.index_mut-parcel.result.now c.swap.new.parcel
          (thread_small plan c.args.thread c.args.taken.now c.args.work c.requires.right) s.state c.swap.ensures);
    }
