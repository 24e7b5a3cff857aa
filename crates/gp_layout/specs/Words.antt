-- What the bits of the ring's words say.
use Rattle.std.specs.Prelude.{ℕ, ◌+◌, ◌*◌, ◌/◌, ◌%◌, ◌^◌}

-- of `r` and of `w`: how many data words were passed, in bits 0 to 31
abbrev pub words_of : ℕ → ℕ
words_of word = word % 2 ^ 32

-- of `r` and of `w`: how many tags were passed, in bits 34 to 63
abbrev pub tags_of : ℕ → ℕ
tags_of word = word / 2 ^ 34

-- the word with these counts, and no flag
abbrev pub counts_word : ℕ → ℕ → ℕ
counts_word words tags = tags * 2 ^ 34 + words

-- of the overflow word: how many offers the pending loss counts, in bits 0 to 31
abbrev pub count_of : ℕ → ℕ
count_of overflow = overflow % 2 ^ 32

-- of the overflow word: its change number, in bits 32 to 63
abbrev pub change_of : ℕ → ℕ
change_of overflow = overflow / 2 ^ 32

-- the overflow word with this change number and count
abbrev pub overflow_word : ℕ → ℕ → ℕ
overflow_word change count = change * 2 ^ 32 + count
