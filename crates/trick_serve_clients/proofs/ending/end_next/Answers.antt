use Rattle.trick_serve_clients.proofs.ending.end_next.Goals as goal

pub returns : goal.returns
returns g c = (
  c.in-Some.mine,
  c.in-Some.ensures,
  record {
    heard = c.end_session.ensures.heard;
    sent = c.end_session.ensures.sent;
    cause = c.end_session.ensures.cause;
    told = c.end_session.ensures.told;
    later = c.end_session.ensures.later;
  },
)
