use Rattle.std.specs.Prelude.{ℕ, ◌/◌, ◌%◌, List, [], ◌++◌, Some, None, Ok, Err, codes, decimal, Option, Result}
use Rattle.uart_rate.specs.Rates.{sixteenths_of}
use Rattle.uart_rate.specs.Refusals.{number_of, name_of_refusal}
use Rattle.uart_rate.specs.declared.achieved.Achieved.{Achieved}
use Rattle.uart_rate.specs.declared.config.BaudrateTolerance.{BaudrateTolerance}
use Rattle.uart_rate.specs.declared.config.BaudrateTolerance.TheVariants.{Closest, Exact, ErrorPercent}
use Rattle.uart_rate.specs.declared.refusal.Refusal.{Refusal}
use Rattle.rate_query.specs.Chips.{name_of}
use Rattle.rate_query.specs.declared.query.Query.{Query}

-- so many millionths, as percent with four decimals
abbrev pub percent_text : ℕ → List ℕ
percent_text n = decimal (n / 10000) ++ (codes "." ++ (decimal (n / 1000 % 10) ++ (decimal (n / 100 % 10) ++ (decimal (n / 10 % 10) ++ (decimal (n % 10) ++ codes " %")))))

-- a tolerance with a blank before it, or nothing where none was named
abbrev pub tolerance_text : Option BaudrateTolerance → List ℕ
tolerance_text None = []
tolerance_text (Some Closest) = codes " closest"
tolerance_text (Some Exact) = codes " exact"
tolerance_text (Some (ErrorPercent n)) = codes " " ++ (decimal n ++ codes "%")

-- what the head gets: prescaler, divider, the divider's two fields, the rate and its excess; or the refusal
abbrev pub answer_text : Result Achieved Refusal → List ℕ
answer_text (Ok a) =
    codes "p " ++ (decimal a.divider.prescaler ++ (codes " d " ++ (decimal (sixteenths_of a.divider) ++ (codes " (" ++ (decimal a.divider.integer ++
    (codes " + " ++ (decimal a.divider.fraction ++ (codes "/16) rate " ++ (decimal a.rate ++ (codes " fast by " ++ percent_text a.excess))))))))))
answer_text (Err e) = codes "refused " ++ (decimal (number_of e) ++ (codes " " ++ name_of_refusal e))

-- the line of a query and its answer
abbrev pub line_text : Query → Result Achieved Refusal → List ℕ
line_text q r = name_of q.chip ++ (codes " " ++ (decimal q.clk ++ (codes " " ++ (decimal q.baud ++ (tolerance_text q.tolerance ++ (codes " -> " ++ answer_text r))))))
