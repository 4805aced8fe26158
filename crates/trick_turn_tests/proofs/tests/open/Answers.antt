use Rattle.std.proofs.Common.{ap, ◌∙◌, None, is_some}
use Rattle.trick_turn.specs.Passes.{own}
use Rattle.trick_turn_tests.specs.Histories.{opened_at}
use Rattle.trick_turn_tests.proofs.EntryLists.{opened_more}
use Rattle.trick_turn_tests.proofs.tests.open.Goals as goal

pub returns-clause-opened : goal.returns-clause-opened
returns-clause-opened g c = ap is_some (ap opened_at c.open.ensures.adds.1.2 ∙ opened_more None (own c.args.chief.now.pass) 1 _ _ _)
