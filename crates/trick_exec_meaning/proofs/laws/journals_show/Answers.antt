use Rattle.trick_exec_meaning.proofs.Fitting.{journal_fits, journal_misfits}
use Rattle.trick_exec_meaning.proofs.laws.journals_show.Goals as goal

pub returns : goal.returns
returns c = record {
  fits = λ p s entries end lists right follows fits at_end. journal_fits p s entries end lists right follows fits at_end;
  misfits = λ p s entries end lists number right follows elsewhere. journal_misfits p s entries end lists right follows number elsewhere;
}
