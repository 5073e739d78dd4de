use Rattle.std.proofs.lemmas.Result.{err_from_is_err_and}
use Rattle.uart_config.proofs.judged.Judged.new.Goals as goal

-- the refusal of the judgement is handed on
pub returns-in_err-divider : goal.returns-in_err-divider
returns-in_err-divider g c =
    let p = err_from_is_err_and c.from_residual.result c.from_residual.ensures.1 in
    rw (p.1, p.2) c.in_err-divider.ensures
