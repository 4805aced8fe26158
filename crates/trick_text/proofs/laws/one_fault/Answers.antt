use Rattle.trick_text.proofs.Unique as unique
use Rattle.trick_text.proofs.laws.one_fault.Goals as goal

pub returns : goal.returns
returns c style text f g f_other g_other r s = unique.one_fault style text f g f_other g_other r s
