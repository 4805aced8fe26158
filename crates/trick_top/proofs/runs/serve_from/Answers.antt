use Rattle.trick_top.proofs.runs.serve_from.Goals as goal

pub returns : goal.returns
returns g c = record {
  ended = c.serve-ended.result.ended;
  sessions = c.serve-ended.result.sessions;
  run = c.serve-ended.ensures.served;
  told = cc;
}
