use Rattle.std.specs.Prelude.{ℕ, List, codes}
use Rattle.rate_query.specs.declared.error.QueryError.{QueryError}
use Rattle.rate_query.specs.declared.error.QueryError.TheVariants.{BaudMissing, TooManyWords, ChipUnknown, BaudNotANumber, BaudTooLarge, ClockNotANumber, ClockTooLarge, ToleranceUnknown, ToleranceTooLarge}

-- what a person is told of each mistake
abbrev pub text_of : QueryError → List ℕ
text_of BaudMissing = codes "the baud rate is missing"
text_of TooManyWords = codes "there are more than four words"
text_of ChipUnknown = codes "the chip is not esp32, esp32c3 or esp32c6"
text_of BaudNotANumber = codes "the baud rate is not a number"
text_of BaudTooLarge = codes "the baud rate is above 4294967295"
text_of ClockNotANumber = codes "the clock is not a number"
text_of ClockTooLarge = codes "the clock is above 4294967295"
text_of ToleranceUnknown = codes "the tolerance is not closest, exact or a percent such as 3%"
text_of ToleranceTooLarge = codes "the tolerance is above 255%"
