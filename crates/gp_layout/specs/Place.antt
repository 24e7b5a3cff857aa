-- Where a record comes: at the next place, or at 0 where it would reach over the end of the ring.
use Rattle.std.specs.Prelude.{ℕ, ◌+◌, ◌-◌, ◌%◌, if◌then◌else◌, nat_lt}

-- how many words are passed over before a record of `need` words that comes at place `at` of `len`
abbrev pub skip_of : ℕ → ℕ → ℕ → ℕ
skip_of at len need = if nat_lt len (at + need) then len - at else 0

-- where it starts
abbrev pub start_of : ℕ → ℕ → ℕ → ℕ
start_of at len need = if nat_lt len (at + need) then 0 else at

-- by how much it raises the data count
abbrev pub raise_of : ℕ → ℕ → ℕ → ℕ
raise_of at len need = skip_of at len need + need

-- the place after it
abbrev pub after_of : ℕ → ℕ → ℕ → ℕ
after_of at len need = (at + raise_of at len need) % len
