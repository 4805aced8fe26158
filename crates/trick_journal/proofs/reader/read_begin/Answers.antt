use Rattle.std.proofs.Common.{◌≡◌, ◌≢◌, ◌++◌, [], List, ℕ, rules, subst, sym, arith}
use Rattle.std.specs.Prelude.{codes, decimal}
use Rattle.trick_codes.specs.Lines.{first_line}
use Rattle.trick_journal.proofs.Answering.{late_begin, no_from}
use Rattle.trick_journal.proofs.reader.read_begin.Goals as goal
use Rattle.trick_journal.specs.Told.{TurnSaid}
use Rattle.std.specs.Prelude.{None}

pub returns-then-from-start : goal.returns-then-from-start
returns-then-from-start c = λ p.
    let some : c.args.text.now ≢ [] = search rules in
    let said = c.in-Some.ensures in
    late_begin p c.args.start c.args.text.now c.in-Some.from some said.0
    (subst (λ (l : List ℕ). l ≡ codes "from " ++ (decimal c.in-Some.from ++ codes "\n")) c.next_line.ensures.line said.1) (omega (arith, c.if-from-start.true))

pub returns-in-None : goal.returns-in-None
returns-in-None c = λ p.
    let some : c.args.text.now ≢ [] = search rules in
    no_from p c.args.start c.args.text.now some (subst (λ (l : List ℕ). TurnSaid (codes "from ") l None) c.next_line.ensures.line c.in-None.ensures)
