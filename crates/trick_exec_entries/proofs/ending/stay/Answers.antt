use Rattle.std.proofs.Common.{◌∙◌, ap, not, of_calls, sym}
use Rattle.std.proofs.RetainMut.{retains_is_retain_mut}
use Rattle.trick_exec_entries.proofs.SampleLemmas.{staying_is}
use Rattle.trick_exec_entries.proofs.ending.stay.Goals as goal
use Rattle.trick_exec_entries.specs.Samples.{awake}
use Rattle.trick_model.specs.declared.session.Session.{Session}

pub retain_mut-requires : goal.retain_mut-requires
retain_mut-requires c = search of_calls parts 8

pub returns : goal.returns
returns c =
    retains_is_retain_mut _ (λ (s : Session). not s.leaving) awake
    (λ s x b t y h. let met = h.called.met.0 in (met.0 ∙ ap (λ (z : Session). not z.leaving) h.shows, sym h.leaves ∙ met.1 ∙ ap awake h.shows))
    _ _ _ c.retain_mut.ensures.filtered
    ∙ staying_is c.args.sessions.now.items
