-- Sets of numbers below a room, as flags by number, and the words of bits that keep one.
use Rattle.std.specs.Prelude.{◌≡◌, ◌≢◌, ℕ, ◌*◌, ◌/◌, ◌%◌, ◌<◌, ◌≤◌, Bool, false, ◌==◌, List, length, get_or, map, Option, position}
use Rattle.std.specs.List.{range_with_len}
use Rattle.std.specs.Int.{bit_at}

-- the number of the first place with true: the least number in the set
abbrev pub first_place : List Bool → Option ℕ
first_place ids = position (λ (is_in : Bool). is_in) ids

-- whether words of 128 bits have the bit of a number
abbrev pub has_bit : List ℕ → ℕ → Bool
has_bit words id = bit_at (get_or words (id / 128) 0) (id % 128) == 1

-- the set that words keep, of numbers below a room
abbrev pub ids_of : ℕ → List ℕ → List Bool
ids_of room words = map (has_bit words) (range_with_len 0 room)

-- Words keep a set of numbers below a room, and the bits of `some` tell which of the words aren't 0.
pub record IsKept (room : ℕ) (words : List ℕ) (some : ℕ) : Type 0 where
  pub few : length words ≤ 128
  pub enough : room ≤ 128 * length words
  pub within : (id : ℕ) → room ≤ id → has_bit words id ≡ false
  pub empty : (i : ℕ) → i < 128 → get_or words i 0 ≡ 0 → bit_at some i ≡ 0
  pub full : (i : ℕ) → i < 128 → get_or words i 0 ≢ 0 → bit_at some i ≡ 1
