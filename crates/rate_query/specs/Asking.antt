use Rattle.std.specs.Prelude.{◌≡◌, ℕ, List, [], Some, None, Ok, Err, Option, Result, ◌≢◌}
use Rattle.uart_text.specs.Left.{WordsOf}
use Rattle.uart_text.specs.Line.{Content}
use Rattle.rate_query.specs.Reading.{QueryRead}
use Rattle.rate_query.specs.declared.error.QueryError.{QueryError}
use Rattle.rate_query.specs.declared.query.Query.{Query}

-- what words ask: nothing where there are none, and else the query that they mean, or their first mistake
abbrev pub Asks : List (List ℕ) → Result (Option Query) QueryError → Type 0
Asks ws (Ok None) = ws ≡ []
Asks ws (Ok (Some q)) = QueryRead ws (Ok q)
Asks ws (Err e) = (ws ≢ []) × QueryRead ws (Err e)

-- what a line asks: what its words do, up to a comment or the line's end
pub data LineRead (line : List ℕ) (asked : Result (Option Query) QueryError) : Type 0 where
  line_words : {text : List ℕ} {ws : List (List ℕ)} → Content line text → WordsOf text ws → Asks ws asked → LineRead line asked
