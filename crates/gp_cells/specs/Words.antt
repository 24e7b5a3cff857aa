-- The word of a cell. Bits 62 and 63 say who has the body, bits 32 to 61 have an epoch, and bits 0 to 31 an actor.
use Rattle.std.specs.Prelude.{◌≡◌, ◌⊎◌, ◌+◌, ◌*◌, ◌/◌, ◌%◌, ◌<◌, ℕ, Bool, if◌then◌else◌}

-- an empty cell: its goroutine isn't born, or was put away
abbrev pub dead_word : ℕ
dead_word = 0

-- a body at home, whose goroutine was born or last recorded in profile `epoch`
abbrev pub home_word : ℕ → ℕ
home_word epoch = 4611686018427387904 + epoch * 4294967296

-- a body that an actor has, to record its goroutine in profile `epoch`
abbrev pub claimed_word : ℕ → ℕ → ℕ
claimed_word epoch actor = 9223372036854775808 + epoch * 4294967296 + actor

-- a body that an actor has, to run its goroutine, which was at home with `epoch`
abbrev pub running_word : ℕ → ℕ → ℕ
running_word epoch actor = 13835058055282163712 + epoch * 4294967296 + actor

-- one of the last two
abbrev pub busy_word : Bool → ℕ → ℕ → ℕ
busy_word claims epoch actor = if claims then claimed_word epoch actor else running_word epoch actor

-- bits 62 and 63 of a word, and its epoch
abbrev pub kind_of : ℕ → ℕ
kind_of word = word / 4611686018427387904

abbrev pub epoch_of : ℕ → ℕ
epoch_of word = word / 4294967296 % 1073741824

-- a word is that of a body at home
pub record IsHome (word : ℕ) : Type 0 where
  pub epoch : ℕ
  pub fits : epoch < 1073741824
  pub is : word ≡ home_word epoch

-- a word is that of a body which an actor has
pub record IsBusy (word : ℕ) : Type 0 where
  pub claims : Bool
  pub epoch : ℕ
  pub actor : ℕ
  pub epoch_fits : epoch < 1073741824
  pub actor_fits : actor < 4294967296
  pub is : word ≡ busy_word claims epoch actor

-- a word is one that nobody has the slot of
abbrev pub IsSettled : ℕ → Type 0
IsSettled word = (word ≡ dead_word) ⊎ IsHome word

-- a word is one of the four kinds
abbrev pub IsWord : ℕ → Type 0
IsWord word = IsSettled word ⊎ IsBusy word
