use Rattle.std.specs.Prelude.{◌≡◌, ℕ, ◌<◌, ◌≤◌, cond, List, [], ◌++◌, length, Some, None, Ok, Err, codes, Option, Result, ◌≢◌, nat_lt, slice_index_or}
use Rattle.uart_rate.specs.declared.config.BaudrateTolerance.{BaudrateTolerance}
use Rattle.uart_rate.specs.declared.config.BaudrateTolerance.TheVariants.{Closest, Exact, ErrorPercent}
use Rattle.uart_text.specs.Number.{Number}
use Rattle.rate_query.specs.Chips.{name_of, clock_of}
use Rattle.rate_query.specs.declared.chip.ChipName.{ChipName}
use Rattle.rate_query.specs.declared.error.QueryError.{QueryError}
use Rattle.rate_query.specs.declared.error.QueryError.TheVariants.{BaudMissing, TooManyWords, ChipUnknown, BaudNotANumber, BaudTooLarge, ClockNotANumber, ClockTooLarge, ToleranceUnknown, ToleranceTooLarge}
use Rattle.rate_query.specs.declared.query.Query.{Query}

-- the word w is a number n of 32 bits
abbrev pub NumberWord : List ℕ → ℕ → Type 0
NumberWord w n = Number w n × (n ≤ 4294967295)

-- the word w is a number, but larger than `largest`
abbrev pub Above : ℕ → List ℕ → Type 0
Above largest w = (n : ℕ) × Number w n × (largest < n)

-- the word w is no number
abbrev pub NoNumber : List ℕ → Type 0
NoNumber w = (n : ℕ) → Number w n → ⊥

-- the word w is a percent n, of whatever size
abbrev pub PercentWord : List ℕ → ℕ → Type 0
PercentWord w n = (s : List ℕ) × (w ≡ s ++ codes "%") × Number s n

-- the word w is a tolerance
abbrev pub ToleranceWord : List ℕ → BaudrateTolerance → Type 0
ToleranceWord w Closest = w ≡ codes "closest"
ToleranceWord w Exact = w ≡ codes "exact"
ToleranceWord w (ErrorPercent n) = PercentWord w n × (n ≤ 255)

-- the clock of a query to a chip: that of the word, or the chip's own where there is no word
abbrev pub ClockWords : ChipName → Option (List ℕ) → ℕ → Type 0
ClockWords chip None n = n ≡ clock_of chip
ClockWords chip (Some w) n = NumberWord w n

-- the tolerance of a query: that of the word, or none where there is no word
abbrev pub ToleranceWords : Option (List ℕ) → Option BaudrateTolerance → Type 0
ToleranceWords None None = Unit {0}
ToleranceWords None (Some t) = ⊥
ToleranceWords (Some w) None = ⊥
ToleranceWords (Some w) (Some t) = ToleranceWord w t

-- the words chip and baud, and clk and tolerance where they stand, mean the query q
pub record Means (chip baud : List ℕ) (clk tolerance : Option (List ℕ)) (q : Query) : Type 0 where
  pub chip_word : chip ≡ name_of q.chip
  pub baud_word : NumberWord baud q.baud
  pub clock_words : ClockWords q.chip clk q.clk
  pub tolerance_words : ToleranceWords tolerance q.tolerance

-- what is wrong with a word w that should be a number up to `largest`: the mistake e is `none` or `above`
pub data NumberMistake (w : List ℕ) (largest : ℕ) (none above e : QueryError) : Type 0 where
  not_a_number : NoNumber w → e ≡ none → NumberMistake w largest none above e
  too_large : Above largest w → e ≡ above → NumberMistake w largest none above e

-- what is wrong with a word for the baud rate
abbrev pub BaudMistake : List ℕ → QueryError → Type 0
BaudMistake w e = NumberMistake w 4294967295 BaudNotANumber BaudTooLarge e

-- what is wrong with a word for the clock
abbrev pub ClockMistake : List ℕ → QueryError → Type 0
ClockMistake w e = NumberMistake w 4294967295 ClockNotANumber ClockTooLarge e

-- what is wrong with a word for the tolerance: a percent above 255, or none of the three forms
pub data ToleranceMistake (w : List ℕ) (e : QueryError) : Type 0 where
  percent_too_large : (n : ℕ) × PercentWord w n × (255 < n) → e ≡ ToleranceTooLarge → ToleranceMistake w e
  tolerance_unknown : (w ≢ codes "closest") → (w ≢ codes "exact") → ((n : ℕ) → PercentWord w n → ⊥) → e ≡ ToleranceUnknown → ToleranceMistake w e

-- something is wrong with a word that stands
abbrev pub Wrong : Option (List ℕ) → (List ℕ → Type 0) → Type 0
Wrong None P = ⊥
Wrong (Some w) P = P w

-- The first mistake in the words, from left to right: each stands behind words that are right.
pub data Mistake (chip baud : List ℕ) (clk tolerance : Option (List ℕ)) (e : QueryError) : Type 0 where
  chip_unknown : ((c : ChipName) → chip ≢ name_of c) → e ≡ ChipUnknown → Mistake chip baud clk tolerance e
  in_baud : (c : ChipName) → chip ≡ name_of c → BaudMistake baud e → Mistake chip baud clk tolerance e
  in_clock : (c : ChipName) (n : ℕ) → chip ≡ name_of c → NumberWord baud n → Wrong clk (λ w. ClockMistake w e) → Mistake chip baud clk tolerance e
  in_tolerance : (c : ChipName) (n k : ℕ) → chip ≡ name_of c → NumberWord baud n → ClockWords c clk k → Wrong tolerance (λ w. ToleranceMistake w e) →
      Mistake chip baud clk tolerance e

-- what two to four words are read as: a query that they mean, or their first mistake
abbrev pub WordsRead : List ℕ → List ℕ → Option (List ℕ) → Option (List ℕ) → Result Query QueryError → Type 0
WordsRead chip baud clk tolerance (Ok q) = Means chip baud clk tolerance q
WordsRead chip baud clk tolerance (Err e) = Mistake chip baud clk tolerance e

-- the word at a place, if there is one
abbrev pub word_at : ℕ → List (List ℕ) → Option (List ℕ)
word_at i ws = cond (nat_lt i (length ws)) (Some (slice_index_or ws i [])) None

-- What the words of a query are read as: chip, baud rate, and then the clock and the tolerance where they stand.
pub data QueryRead (ws : List (List ℕ)) (r : Result Query QueryError) : Type 0 where
  baud_missing : length ws < 2 → r ≡ Err BaudMissing → QueryRead ws r
  too_many_words : 4 < length ws → r ≡ Err TooManyWords → QueryRead ws r
  words : 2 ≤ length ws → length ws ≤ 4 → WordsRead (slice_index_or ws 0 []) (slice_index_or ws 1 []) (word_at 2 ws) (word_at 3 ws) r → QueryRead ws r
