use Rattle.std.proofs.Common.{rules}
use Rattle.std.proofs.lemmas.List.Sorted.{answers_always}
use Rattle.trick_exec_entries.proofs.PlaceLemmas.{at_place, no_place}
use Rattle.trick_exec_entries.proofs.places.place.Goals as goal
use Rattle.trick_model.specs.declared.session.Session.{Session}

pub returns-in-Ok : goal.returns-in-Ok
returns-in-Ok c =
    let by_key = c.in-Ok.ensures.position (λ (s : Session). s.number) (answers_always _ _ _ (λ f a r g called. search rules)) in
    at_place c.args.sessions.now c.requires c.args.number c.in-Ok.place c.in-Ok.ensures.bound by_key

pub returns-in-Err : goal.returns-in-Err
returns-in-Err c =
    let by_key = c.in-Err.ensures.position (λ (s : Session). s.number) (answers_always _ _ _ (λ f a r g called. search rules)) in
    no_place c.args.sessions.now c.requires c.args.number _ c.in-Err.ensures.bound by_key
