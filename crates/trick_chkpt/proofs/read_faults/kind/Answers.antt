use Rattle.std.proofs.Common.{ℕ, Ok, ap}
use Rattle.std.proofs.lemmas.Result.{err_from_is_err_and}
use Rattle.trick_chkpt.proofs.read_faults.kind.Goals as goal
use Rattle.trick_chkpt_lines.specs.Faults.{kind_word_at}
use Rattle.trick_codes.specs.Code.{Told, ◌>>=◌}

pub returns-in_err-place : goal.returns-in_err-place
returns-in_err-place c =
    let q = err_from_is_err_and c.from_residual.result c.from_residual.ensures.1 in
    rw (q.1, q.2) (ap (λ (t : Told ℕ). t >>= λ x. Ok (kind_word_at x.0, x.1)) c.in_err-place.ensures.told)
