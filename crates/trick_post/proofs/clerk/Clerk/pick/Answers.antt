use Rattle.std.proofs.Common.{◌≡◌, ◌∙◌, ◌<◌, List, arith, length, refl, subst, sym}
use Rattle.std.specs.Arc.{arc_value}
use Rattle.trick_post.proofs.Passes.{at_work, got_told, got_waits, names_told, pick_at, pick_own, pick_stands, picks, same_number}
use Rattle.trick_post_places.specs.Places.{PostView, Stands}
use Rattle.trick_post_places.specs.declared.event.Event.{Event}
use Rattle.trick_post_places.specs.declared.event.Event.TheVariants.{Pick}
use Rattle.trick_turn.specs.Passes.{number_of, seen}
use Rattle.trick_post.proofs.clerk.Clerk.pick.Goals as goal

pub pick-picked-requires : goal.pick-picked-requires
pick-picked-requires g c =
    let plan = (arc_value c.args.self.now.held.accepted).plan in
    let s = c.claim-turn.ensures.got.state plan c.args.self.now.held.is in
    let many : length c.claim-turn.result.value.places ≡ 16 = s.state.many in
    let small : c.args.self.now.thread < 16 = c.args.self.now.small in
    subst (λ (v : PostView). c.args.self.now.thread < length v.places) (sym c.value.ensures.value) (omega (arith, many, small))

pub end_turn-requires-clause-names : goal.end_turn-requires-clause-names
end_turn-requires-clause-names g c =
    names_told c.is_got.result (Pick (number_of c.claim-turn.result.pass.now) c.args.self.now.thread) (number_of c.claim-turn.result.pass.now) refl

pub end_turn-requires-clause-stands : goal.end_turn-requires-clause-stands
end_turn-requires-clause-stands g c =
    let plan = (arc_value c.args.self.now.held.accepted).plan in
    let turn = c.claim-turn.result in
    let got = c.claim-turn.ensures.got in
    let log : List Event = seen turn.pass.now in
    let picked = c.pick-picked in
    pick_stands _ plan c.value.result.now picked.new.self log (number_of turn.pass.now) c.args.self.now.thread picked.result c.is_got.result
    c.args.self.now.parcel picked.new.parcel c.args.self.now.held.is c.args.self.now.small
    (subst (λ (v : PostView). Stands g.P.Planned.plan v log) (sym c.value.ensures.value) got.state)
    (got.number ∙ c.args.self.now.seat) c.args.self.now.fits c.is_got.ensures picked.ensures.answer picked.ensures.got picked.ensures.post

pub invariant_of-self : goal.invariant_of-self
invariant_of-self g c =
    let plan = (arc_value c.args.self.now.held.accepted).plan in
    let got = c.claim-turn.ensures.got in
    let log : List Event = seen c.claim-turn.result.pass.now in
    let picked = c.pick-picked in
    let stands = subst (λ (v : PostView). Stands g.P.Planned.plan v log) (sym c.value.ensures.value) got.state in
    record {
      of_lock = c.end_turn.ensures.same.0 ∙ got.same.0 ∙ c.args.self.now.of_lock;
      rests = c.end_turn.ensures.rests;
      seat = same_number _ _ _ _ _ _ got c.end_turn.ensures ∙ c.args.self.now.seat;
      small = c.args.self.now.small;
      fits = pick_own plan c.value.result.now picked.new.self log c.args.self.now.thread picked.result c.args.self.now.parcel picked.new.parcel
          c.args.self.now.small (stands plan c.args.self.now.held.is) c.args.self.now.fits picked.ensures.got picked.ensures.parcel;
      worker_fits = c.args.self.now.worker_fits;
    }

pub returns-clause-answer : goal.returns-clause-answer
returns-clause-answer g c =
    let plan = (arc_value c.args.self.now.held.accepted).plan in
    let got = c.claim-turn.ensures.got in
    let log : List Event = seen c.claim-turn.result.pass.now in
    let picked = c.pick-picked in
    let stands = subst (λ (v : PostView). Stands g.P.Planned.plan v log) (sym c.value.ensures.value) got.state in
    picks _ _ _ _ _ c.args.self.now.thread picked.result c.is_got.result got c.end_turn.ensures c.is_got.ensures
    (pick_at plan c.value.result.now log c.args.self.now.thread picked.result c.args.self.now.small (stands plan c.args.self.now.held.is) picked.ensures.answer)

pub returns-clause-work : goal.returns-clause-work
returns-clause-work g c = λ is.
    let plan = (arc_value c.args.self.now.held.accepted).plan in
    let got = c.claim-turn.ensures.got in
    let log : List Event = seen c.claim-turn.result.pass.now in
    let picked = c.pick-picked in
    let stands = subst (λ (v : PostView). Stands g.P.Planned.plan v log) (sym c.value.ensures.value) got.state in
    let s = stands plan c.args.self.now.held.is in
    at_work _ plan c.value.result.now picked.new.self _ _ _ _ c.args.self.now.thread c.args.self.now.parcel picked.new.parcel got
    (got_told _ _ (Pick (number_of c.claim-turn.result.pass.now) c.args.self.now.thread) picked.result c.is_got.result c.end_turn.ensures c.is_got.ensures is)
    c.args.self.now.small s (picked.ensures.got is)
    (got_waits plan c.value.result.now log c.args.self.now.thread picked.result c.args.self.now.small s picked.ensures.answer is)
