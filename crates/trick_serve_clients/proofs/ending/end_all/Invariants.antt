use Rattle.std.proofs.Common.{◌≡◌, ◌+◌, vec_len}
use Rattle.trick_serve_clients.proofs.Endings.{IsEnding}
use Rattle.trick_serve_clients.proofs.ending.end_all.Given as goal
use Rattle.trick_serve_clients.specs.Ends.{ends_left}

abbrev pub invariant-loop-past : goal.invariant-loop-past
invariant-loop-past g l = record {
  ending : IsEnding g.D.Door.visited g.D.In.LinkIn g.D.Out.LinkOut l.initial.door l.door (ends_left l.fn.ends) (ends_left l.ends) l.fn.pasts.items l.left.items l.number l.has_lacked;
  numbers : l.number + vec_len l.left ≡ vec_len l.fn.pasts;
  failures : g.D.Door.failures l.door ≡ g.D.Door.failures l.initial.door;
  idle : g.D.Door.idleness l.door ≡ g.D.Door.idleness l.initial.door;
}

abbrev pub decreases-loop-past : goal.decreases-loop-past
decreases-loop-past g l = vec_len l.left
