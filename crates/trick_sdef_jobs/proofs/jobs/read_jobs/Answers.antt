use Rattle.std.proofs.Common.{arith, sym, [], ◌∷◌, ◌++◌}
use Rattle.std.proofs.lemmas.Result.{err_from_is_err_and}
use Rattle.trick_body_symbols.proofs.Countdown.{items_halt}
use Rattle.trick_body_symbols.specs.Expressions.{names}
use Rattle.trick_body_symbols.specs.Statements.{basic_first}
use Rattle.trick_body_symbols.specs.Symbols.{number_of}
use Rattle.trick_body_symbols.specs.declared.symbol.Symbol.TheVariants as the
use Rattle.trick_grammar.proofs.Loops.{items_down, items_end}
use Rattle.trick_grammar.specs.Gives.{class_of}
use Rattle.trick_grammar.specs.Reading.{read}
use Rattle.trick_sdef_jobs.specs.Jobs.{job}
use Rattle.trick_sdef_jobs.specs.Trees.{job_line_of}
use Rattle.trick_sdef_jobs.proofs.jobs.read_jobs.Goals as goal

pub returns-in_err-job : goal.returns-in_err-job
returns-in_err-job c =
    let l = c.loop-alloc in
    let p = err_from_is_err_and c.from_residual.result c.from_residual.ensures.1 in
    rw (p.1, p.2) (items_halt number_of job_line_of (the.Thread ∷ the.OtherThread ∷ the.Phase ∷ the.OtherPhase ∷ the.OpenParen ∷ []) (read number_of class_of [] (job c.args.source.text.now)) l.left l.found.items c.in_err-job.field-0.0 l.rest.now _ (omega arith) (sym c.loop-alloc-test.ensures) c.in_err-job.ensures l.invariant)

pub loop-alloc-preserved : goal.loop-alloc-preserved
loop-alloc-preserved c =
    let l = c.loop-alloc in
    items_down number_of job_line_of (the.Thread ∷ the.OtherThread ∷ the.Phase ∷ the.OtherPhase ∷ the.OpenParen ∷ []) (read number_of class_of [] (job c.args.source.text.now)) l.left l.found.items c.push.new.self.items c.in_ok-job.job l.rest.now c.in_ok-job.after.now _ (omega arith) (sym c.loop-alloc-test.ensures) c.in_ok-job.ensures c.in_ok-push.ensures.items l.invariant

pub returns : goal.returns
returns c =
    let l = c.loop-alloc in
    items_end number_of job_line_of (the.Thread ∷ the.OtherThread ∷ the.Phase ∷ the.OtherPhase ∷ the.OpenParen ∷ []) (read number_of class_of [] (job c.args.source.text.now)) l.left l.found.items l.rest.now _ (sym c.loop-alloc-test.ensures) l.invariant
