-- The causes of faults in command words, by number.
use Rattle.std.specs.Prelude.{ℕ}

-- There is no word, or the first is no command.
abbrev pub bad_command : ℕ
bad_command = 1

-- A word is needed and there is none.
abbrev pub missing : ℕ
missing = 2

-- The word in an option's place is none of the command's options.
abbrev pub unknown_option : ℕ
unknown_option = 3

-- An option's value is outside its table.
abbrev pub bad_number : ℕ
bad_number = 4

-- An option was given before, as often as it may be.
abbrev pub twice : ℕ
twice = 5

-- A word stands behind a whole command, or the word for a file is empty or begins with `-`.
abbrev pub extra : ℕ
extra = 6
