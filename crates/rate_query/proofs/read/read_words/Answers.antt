use Rattle.std.proofs.Common.{sym, ◌∙◌, rules}
use Rattle.std.proofs.lemmas.Result.{err_from_is_err_and}
use Rattle.std.specs.Option.{option_map}
use Rattle.rate_query.specs.Reading.{ClockWords, in_baud, in_clock, in_tolerance}
use Rattle.rate_query.proofs.Percents.{in_word}
use Rattle.rate_query.proofs.read.read_words.Goals as goal
use Rattle.rate_query.proofs.read.read_words.Goals.{in-Some+in_ok-clk-in-Some, in-None}

pub returns-in_err-baud : goal.returns-in_err-baud
returns-in_err-baud c =
    let p = err_from_is_err_and c.from_residual-in_err-baud.result c.from_residual-in_err-baud.ensures.1 in
    let chip = rw c.in_ok-chip.ensures.ok_part at c.from_word.ensures in
    rw (p.1, p.2) (in_baud c.in_ok-chip.chip chip c.in_err-baud.ensures)

pub returns-in_err-clk-in-Some : goal.returns-in_err-clk-in-Some
returns-in_err-clk-in-Some c =
    let p = err_from_is_err_and c.from_residual-in_err-clk-in-Some.result c.from_residual-in_err-clk-in-Some.ensures.1 in
    let chip = rw c.in_ok-chip.ensures.ok_part at c.from_word.ensures in
    rw (p.1, p.2, c.in-Some.is) (in_clock c.in_ok-chip.chip c.in_ok-baud.baud chip c.in_ok-baud.ensures c.in_err-clk-in-Some.ensures)

pub returns-in_err-tolerance : goal.returns-in_err-tolerance
returns-in_err-tolerance c =
    let p = err_from_is_err_and c.from_residual-in_err-tolerance.result c.from_residual-in_err-tolerance.ensures.1 in
    let chip = rw c.in_ok-chip.ensures.ok_part at c.from_word.ensures in
    let clock : ClockWords c.in_ok-chip.chip (option_map (λ x. x.now) c.args.clk) c.match-clk.clk =
    elim c.match-clk.branch [
      | in-Some+in_ok-clk-in-Some w ↦ rw (w.in-Some.is, w.clk-is) w.in_ok-clk-in-Some.ensures
      | in-None w ↦ rw (w.in-None.is, w.clk-is) w.default_clock-clk.ensures
    ] in
    let wrong = in_word c.args.tolerance c.map.result c.in_err-tolerance.field-0.0 (search rules) (sym c.transpose.ensures ∙ c.in_err-tolerance.was {u = tt}) in
    rw (p.1, p.2) (in_tolerance c.in_ok-chip.chip c.in_ok-baud.baud c.match-clk.clk chip c.in_ok-baud.ensures clock wrong)
