-- The numbers of lines that were written.
use Rattle.std.specs.Prelude.{ℕ, ◌+◌, ◌-◌, ◌*◌, ◌^◌, ◌==◌, min, List, [], ◌∷◌, ◌++◌, Option, Some, None, unwrap_or, slice_get, decimal, if◌then◌else◌}
use Rattle.call_text.specs.declared.plain_scripts.numbers.Place.{Place}
use Rattle.call_text.specs.declared.plain_scripts.numbers.Place.TheVariants.{Worker, Number, Answer}

-- of line n the number of the line that was written
abbrev pub number_at : List ℕ → ℕ → ℕ
number_at numbers n = unwrap_or (slice_get numbers (n - 1)) n

-- a number with one digit more
abbrev pub next_digit : ℕ → ℕ → ℕ
next_digit n digit = min (min (n * 10) (2 ^ 32 - 1) + (digit - 48)) (2 ^ 32 - 1)

-- where the byte after one stands in a line of output: WORKER N: ANSWER
abbrev pub place_after : Place → ℕ → Place
place_after Worker b = if b == 32 then Number 0 else Worker
place_after (Number n) b = if b == 58 then Answer else Number (next_digit n b)
place_after Answer b = if b == 10 then Worker else Answer

-- what comes of a byte
abbrev pub shown_byte : List ℕ → Place → ℕ → List ℕ
shown_byte numbers Worker b = b ∷ []
shown_byte numbers (Number n) b = if b == 58 then decimal (number_at numbers n) ++ b ∷ [] else []
shown_byte numbers Answer b = b ∷ []

abbrev pub shown_from : List ℕ → Place → List ℕ → List ℕ
shown_from numbers place [] = []
shown_from numbers place (b ∷ text) = shown_byte numbers place b ++ shown_from numbers (place_after place b) text

-- output with the numbers of the lines that were written, where these are kept
abbrev pub renumbered : List ℕ → List ℕ → List ℕ
renumbered [] text = text
renumbered (n ∷ numbers) text = shown_from (n ∷ numbers) Worker text
