use Rattle.trick_codes.proofs.Loading.{loads}
use Rattle.trick_codes_example.proofs.IsSound.{panel_sound}
use Rattle.trick_codes_example.proofs.loader.load.Goals as goal
use Rattle.trick_codes_example.specs.Panel.{panel}

pub returns : goal.returns
returns c = loads (panel c.args.gauges.now) (panel_sound c.args.gauges.now) c.args.text.now (λ r. r) c.readings.result c.whole.result c.readings.ensures c.whole.ensures
