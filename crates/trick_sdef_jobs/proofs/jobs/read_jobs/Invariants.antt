use Rattle.std.proofs.Common.{◌≡◌, ◌-◌, [], ◌∷◌, ◌++◌}
use Rattle.trick_body_symbols.specs.Expressions.{names}
use Rattle.trick_body_symbols.specs.Statements.{basic_first}
use Rattle.trick_body_symbols.specs.Symbols.{number_of}
use Rattle.trick_body_symbols.specs.declared.symbol.Symbol.TheVariants as the
use Rattle.trick_grammar.proofs.Loops.{items_left}
use Rattle.trick_grammar.specs.Gives.{class_of}
use Rattle.trick_grammar.specs.Grammar.{repetition}
use Rattle.trick_grammar.specs.Reading.{read}
use Rattle.trick_sdef_jobs.specs.Jobs.{job}
use Rattle.trick_sdef_jobs.specs.Trees.{job_line_of}
use Rattle.trick_sdef_jobs.proofs.jobs.read_jobs.Given as goal

abbrev pub invariant-loop-alloc : goal.invariant-loop-alloc
invariant-loop-alloc l =
    let r = job l.source.text.now in
    items_left number_of job_line_of (the.Thread ∷ the.OtherThread ∷ the.Phase ∷ the.OtherPhase ∷ the.OpenParen ∷ []) (read number_of class_of [] r) l.left l.found.items l.rest ≡ read number_of class_of [] (repetition l.source.limit r) l.fn.rest

abbrev pub decreases-loop-alloc : goal.decreases-loop-alloc
decreases-loop-alloc l = l.left
