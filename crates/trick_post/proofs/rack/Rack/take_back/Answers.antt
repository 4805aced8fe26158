use Rattle.std.proofs.Common.{rules, ◌≡◌, ◌∙◌, ◌<◌, List, arith, length, refl, subst, sym}
use Rattle.std.specs.Arc.{arc_value}
use Rattle.std.specs.List.{slice_index_or}
use Rattle.trick_post.proofs.Passes.{finish_fits, finish_holds, finish_stands, has_nothing, names_told, parcels_kept, parcels_set, ready_at, same_number, set_holds, started_small, takes_back, thread_there, told_now, told_open}
use Rattle.trick_post_places.specs.Histories.{Ready}
use Rattle.trick_post_places.specs.Places.{PostView, Stands, StandsAt}
use Rattle.trick_post_places.specs.declared.event.Event.{Event}
use Rattle.trick_post_places.specs.declared.event.Event.TheVariants.{Finish}
use Rattle.trick_post_trays.specs.Outputs.{IsParcelOf}
use Rattle.trick_turn.specs.Passes.{number_of, own, seen}
use Rattle.trick_post.proofs.rack.Rack.take_back.Goals as goal

pub index_mut-parcel-requires : goal.index_mut-parcel-requires
index_mut-parcel-requires g c =
    let plan = (arc_value c.args.self.now.held.accepted).plan in
    let got = c.claim-turn.ensures.got in
    let p = c.args.self.now.pass in
    let small : c.args.thread < 16 = started_small plan c.claim-turn.result.value (seen c.claim-turn.result.pass.now) (own p) (number_of p) c.args.thread
    (got.state plan c.args.self.now.held.is) c.args.self.now.first got.entries c.requires.started in
    let many : length c.args.self.now.parcels.items ≡ 16 = c.args.self.now.fits.many in
    let there : c.args.thread < length c.args.self.now.parcels.items = omega (arith, small, many) in
    search (rules, there)

pub finish-ready-requires : goal.finish-ready-requires
finish-ready-requires g c =
    let plan = (arc_value c.args.self.now.held.accepted).plan in
    let got = c.claim-turn.ensures.got in
    let p = c.args.self.now.pass in
    subst (λ (v : PostView). c.args.thread < length v.places) (sym c.value.ensures.value)
    (thread_there plan c.claim-turn.result.value (seen c.claim-turn.result.pass.now) (own p) (number_of p) c.args.thread
    (got.state plan c.args.self.now.held.is) c.args.self.now.first got.entries c.requires.started)

pub end_turn-requires-clause-names : goal.end_turn-requires-clause-names
end_turn-requires-clause-names g c =
    names_told c.finish-ready.result (Finish (number_of c.claim-turn.result.pass.now) c.args.thread) (number_of c.claim-turn.result.pass.now) refl

pub end_turn-requires-clause-stands : goal.end_turn-requires-clause-stands
end_turn-requires-clause-stands g c =
    let plan = (arc_value c.args.self.now.held.accepted).plan in
    let got = c.claim-turn.ensures.got in
    let p = c.args.self.now.pass in
    let log : List Event = seen c.claim-turn.result.pass.now in
    let small : c.args.thread < 16 = started_small plan c.claim-turn.result.value log (own p) (number_of p) c.args.thread
    (got.state plan c.args.self.now.held.is) c.args.self.now.first got.entries c.requires.started in
    let h = c.index_mut-parcel.ensures.value in
    let given = c.index_mut-parcel.result.now in
    let at_ : slice_index_or c.args.self.now.parcels.items c.args.thread given ≡ given = search (rules, h) in
    let took = c.finish-ready in
    finish_stands g.P.Planned.plan plan c.value.result.now took.new.self log (number_of c.claim-turn.result.pass.now) c.args.thread took.result given took.new.parcel
    c.args.self.now.held.is small (subst (λ (v : PostView). Stands g.P.Planned.plan v log) (sym c.value.ensures.value) got.state)
    (got.number ∙ c.args.self.now.first) (subst (IsParcelOf plan c.args.thread) at_ (c.args.self.now.fits.each c.args.thread given small))
    took.ensures.ready took.ensures.taken took.ensures.post

pub invariant_of-self : goal.invariant_of-self
invariant_of-self g c =
    let plan = (arc_value c.args.self.now.held.accepted).plan in
    let got = c.claim-turn.ensures.got in
    let p = c.args.self.now.pass in
    let log : List Event = seen c.claim-turn.result.pass.now in
    let s = got.state plan c.args.self.now.held.is in
    let small : c.args.thread < 16 = started_small plan c.claim-turn.result.value log (own p) (number_of p) c.args.thread
    s c.args.self.now.first got.entries c.requires.started in
    let h = c.index_mut-parcel.ensures.value in
    let given = c.index_mut-parcel.result.now in
    let at_ : slice_index_or c.args.self.now.parcels.items c.args.thread given ≡ given = search (rules, h) in
    let took = c.finish-ready in
    record {
      of_lock = c.end_turn.ensures.same.0 ∙ got.same.0 ∙ c.args.self.now.of_lock;
      rests = c.end_turn.ensures.rests;
      first = same_number _ _ _ _ _ _ got c.end_turn.ensures ∙ c.args.self.now.first;
      not_shut = told_open p _ _ (Finish (number_of c.claim-turn.result.pass.now) c.args.thread) took.result c.end_turn.ensures got.added refl c.args.self.now.not_shut;
      fits = parcels_set plan c.args.self.now.parcels.items c.args.thread took.new.parcel c.args.self.now.fits
          (finish_fits plan c.value.result.now took.new.self log c.args.thread took.result given took.new.parcel small
          (subst (λ (v : PostView). StandsAt plan v log) (sym c.value.ensures.value) s)
          (subst (IsParcelOf plan c.args.thread) at_ (c.args.self.now.fits.each c.args.thread given small)) took.ensures.taken took.ensures.parcel);
    }

pub returns-clause-taken : goal.returns-clause-taken
returns-clause-taken g c = λ is.
    let plan = (arc_value c.args.self.now.held.accepted).plan in
    let got = c.claim-turn.ensures.got in
    let p = c.args.self.now.pass in
    let log : List Event = seen c.claim-turn.result.pass.now in
    let s = got.state plan c.args.self.now.held.is in
    let small : c.args.thread < 16 = started_small plan c.claim-turn.result.value log (own p) (number_of p) c.args.thread
    s c.args.self.now.first got.entries c.requires.started in
    let many : length c.args.self.now.parcels.items ≡ 16 = c.args.self.now.fits.many in
    let there : c.args.thread < length c.args.self.now.parcels.items = omega (arith, small, many) in
    let took = c.finish-ready in
    let now = subst (λ (v : PostView). StandsAt plan v log) (sym c.value.ensures.value) s in
    let held = finish_holds plan c.value.result.now took.new.self log (own p) (number_of p) c.args.thread c.index_mut-parcel.result.now took.new.parcel small
    now c.args.self.now.first got.entries (took.ensures.taken is)
    (sym is ∙ ready_at plan c.value.result.now log c.args.thread took.result small now took.ensures.ready) in
    takes_back _ plan p _ _ _ c.args.thread _ held.0 small got
    (told_now _ _ (Finish (number_of c.claim-turn.result.pass.now) c.args.thread) took.result _ is c.end_turn.ensures)
    c.args.self.now.first held.1 (set_holds plan c.args.self.now.parcels.items c.args.thread took.new.parcel (Ready held.0) there held.2)

pub returns-clause-nothing : goal.returns-clause-nothing
returns-clause-nothing g c = λ is.
    let plan = (arc_value c.args.self.now.held.accepted).plan in
    let got = c.claim-turn.ensures.got in
    let p = c.args.self.now.pass in
    let log : List Event = seen c.claim-turn.result.pass.now in
    let s = got.state plan c.args.self.now.held.is in
    let small : c.args.thread < 16 = started_small plan c.claim-turn.result.value log (own p) (number_of p) c.args.thread
    s c.args.self.now.first got.entries c.requires.started in
    let many : length c.args.self.now.parcels.items ≡ 16 = c.args.self.now.fits.many in
    let there : c.args.thread < length c.args.self.now.parcels.items = omega (arith, small, many) in
    let h = c.index_mut-parcel.ensures.value in
    let given = c.index_mut-parcel.result.now in
    let at_ : slice_index_or c.args.self.now.parcels.items c.args.thread given ≡ given = search (rules, h) in
    let took = c.finish-ready in
    let now = subst (λ (v : PostView). StandsAt plan v log) (sym c.value.ensures.value) s in
    has_nothing _ p _ _ _ c.args.thread c.args.self.now.parcels.items _ got
    (told_now _ _ (Finish (number_of c.claim-turn.result.pass.now) c.args.thread) took.result _ is c.end_turn.ensures)
    (sym is ∙ ready_at plan c.value.result.now log c.args.thread took.result small now took.ensures.ready)
    (parcels_kept c.args.self.now.parcels.items c.args.thread given took.new.parcel there at_ (took.ensures.parcel is))
