use Rattle.std.proofs.Common.{◌+◌, ◌-◌, ◌++◌, length, take, drop, arith, sym, subst, length-drop}
use Rattle.std.proofs.lemmas.List.{take_all}
use Rattle.std.specs.Str.Parse.{digits_value}
use Rattle.trick_text.specs.Amounts.{IsAmountOf}
use Rattle.trick_text.proofs.Amounts.{whole_amount, parted_amount}
use Rattle.trick_text.proofs.time.amount_of.Goals as goal

pub returns-in-None : goal.returns-in-None
returns-in-None c = whole_amount c.args.bytes.now c.whole.result (sym c.in-None.ensures) c.whole.ensures

pub returns-in-Some : goal.returns-in-Some
returns-in-Some c =
    let bytes = c.args.bytes.now in
    let i = c.in-Some.point in
    let behind = take_all (length bytes - (i + 1)) (drop (i + 1) bytes) (omega (arith, length-drop (i + 1) bytes)) in
    parted_amount bytes i c.decimal.result (sym c.in-Some.ensures)
    (subst (λ ds. IsAmountOf (digits_value 10 (take i bytes ++ ds)) (length ds) c.decimal.result) behind c.decimal.ensures)
