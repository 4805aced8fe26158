use Rattle.trick_top_words.proofs.Digits.{no_number}
use Rattle.trick_top_words.proofs.number.number.Goals as goal

pub returns-in_default-3 : goal.returns-in_default-3
returns-in_default-3 c number is =
    no_number c.args.digits.now c.parse.result c.in_default.field-0 c.in_default.is c.parse.ensures.value.0 c.args.longest
    c.args.most number c.ranges.most.fits is
