use Rattle.trick_text.proofs.Unique as unique
use Rattle.trick_text.proofs.laws.in_order.Goals as goal

pub returns-clause-place : goal.returns-clause-place
returns-clause-place c style text ts f i t u cut here next = unique.in_order style text ts f cut i t u here next

pub returns-clause-line : goal.returns-clause-line
returns-clause-line c style text ts f i t u cut here next = unique.lines_rise style text ts f cut i t u here next
