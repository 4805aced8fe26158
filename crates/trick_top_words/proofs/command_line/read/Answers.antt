use Rattle.std.proofs.Common.{◌∙◌, sym, map}
use Rattle.trick_top_words.proofs.Values.{given_values}
use Rattle.trick_top_words.proofs.Reading.{all_good, met_of, not_plain, usage_of}
use Rattle.trick_top_words.proofs.Rows.{rows}
use Rattle.trick_top_words.proofs.command_line.read.Goals as goal

pub returns-then-not-are_plain : goal.returns-then-not-are_plain
returns-then-not-are_plain c =
    not_plain (map (λ w. w.now) c.args.words.now) (sym c.are_plain.ensures ∙ c.if-not-are_plain.true)

pub returns-in-Ok : goal.returns-in-Ok
returns-in-Ok c =
    let goods = all_good (map (λ w. w.now) c.args.words.now) (sym c.are_plain.ensures ∙ c.if-not-are_plain.false) c.requires.texts in
    let (k, given, command, sub) = met_of _ (map (λ w. w.now) c.args.words.now) c.in-Ok.matches c.in_ok-all.ensures.app goods c.in-Ok.ensures.kinds c.in-Ok.ensures.matches in
    record { kind = k; given = given; command = command; is = record { rows = rows given; below = sub; are = given_values given } }

pub returns : goal.returns
returns c =
    usage_of _ (map (λ w. w.now) c.args.words.now) c.in-Err.error c.in_ok-all.ensures.app c.in-Err.ensures.kinds
    (λ memory. cc (rw (c.kind.ensures, memory) at c.if-eq.ensures))
