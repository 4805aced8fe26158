use Rattle.trick_text.proofs.Unique as unique
use Rattle.trick_text.proofs.laws.fault_is_behind.Goals as goal

pub returns-clause-place : goal.returns-clause-place
returns-clause-place c style text ts f i t cut here = unique.fault_is_behind style text ts f i t cut here

pub returns-clause-line : goal.returns-clause-line
returns-clause-line c style text ts f i t cut here = unique.fault_line style text ts f i t cut here
