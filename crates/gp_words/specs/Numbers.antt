-- What words write: numbers, divisors of a number, and lists of numbers.
use Rattle.std.specs.Prelude.{◌==◌, ◌^◌, ◌-◌, ◌%◌, ℕ, Bool, ◌&&◌, List, [], ◌∷◌, length, Option, Some, None, option_map, nat_le}
use Rattle.std.specs.Prelude.{if◌then◌else◌}
use Rattle.std.specs.List.{slice_split}
use Rattle.std.specs.Str.{all_ascii_digits}
use Rattle.std.specs.Str.Parse.{digits_value}
use Rattle.gp_isa.specs.Limits.{number_digits, most_picks}

-- one to twenty digits, leading zeros among them
unfoldable pub is_number : List ℕ → Bool
is_number word = nat_le 1 (length word) && (nat_le (length word) number_digits && all_ascii_digits word)

-- the number that a word writes, where it lies from `least` to `most`
unfoldable pub number_in : ℕ → ℕ → List ℕ → Option ℕ
number_in least most word =
    if is_number word && (nat_le least (digits_value 10 word) && nat_le (digits_value 10 word) most)
    then Some (digits_value 10 word) else None

-- a number, where it divides another
abbrev pub if_divides : ℕ → Option ℕ → Option ℕ
if_divides whole None = None
if_divides whole (Some n) = if whole % n == 0 then Some n else None

-- the number that a word writes, where it divides another, from 1 on
unfoldable pub divisor_in : ℕ → List ℕ → Option ℕ
divisor_in whole word = if_divides whole (number_in 1 whole word)

-- a number in front of others, where all are there
abbrev pub in_front : Option ℕ → Option (List ℕ) → Option (List ℕ)
in_front None numbers = None
in_front (Some n) numbers = option_map (λ ns. n ∷ ns) numbers

-- the numbers that words write, each below 2^32
abbrev pub numbers_of : List (List ℕ) → Option (List ℕ)
numbers_of [] = Some []
numbers_of (piece ∷ pieces) = in_front (number_in 0 (2 ^ 32 - 1) piece) (numbers_of pieces)

-- the pieces of a word between its commas
abbrev pub pieces_of : List ℕ → List (List ℕ)
pieces_of word = slice_split (λ b. b == 44) word

-- the numbers that a word writes, joined by single commas: up to 100,000, each below 2^32
unfoldable pub picks_of : List ℕ → Option (List ℕ)
picks_of word = if nat_le (length (pieces_of word)) most_picks then numbers_of (pieces_of word) else None
