use Rattle.std.proofs.Common.{refl}
use Rattle.trick_serve_source.proofs.Looking.{went_handed}
use Rattle.trick_serve_source.proofs.entries.ServedTurns.send.Goals as goal

pub returns-clause-step : goal.returns-clause-step
returns-clause-step g c =
    record {
      went = went_handed c.args.session c.args.bytes.now c.in_ok-message.message c.args.self.now.roll c.hand.new.self c.args.self.now.reached.items c.args.self.now.over c.args.self.now.broke c.args.self.now.silent
          c.requires.0 c.in_ok-message.ensures c.hand.ensures.own c.hand.ensures.others c.hand.ensures.count c.hand.ensures.live;
      same = refl;
    }
