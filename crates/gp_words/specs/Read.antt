-- What words say: something, or the first fault in them.
use Rattle.std.specs.Prelude.{◌≡◌, ℕ, Option, Some, None, Result, MatchResult}
use Rattle.gp_words.specs.Causes.{bad_number}
use Rattle.gp_words.specs.declared.error.WordError.{WordError}
use Rattle.gp_words.specs.declared.error.WordError.TheVariants.{Usage, Memory}

-- The words name something, or have a first fault at a place, with a cause.
pub data Read (A : Type 0) : Type 0 where
  Names : A → Read A
  Faults : ℕ → ℕ → Read A

-- what further words say, after those that name something
abbrev pub and_then : {A B : Type 0} → Read A → (A → Read B) → Read B
and_then (Names a) rest = rest a
and_then (Faults place cause) rest = Faults place cause

-- a value, or the fault at its word's place
abbrev pub value_or_fault : {A : Type 0} → ℕ → Option A → Read A
value_or_fault place None = Faults place bad_number
value_or_fault place (Some value) = Names value

-- An answer that there is a fault tells the first one in the words. Nothing is said of want of memory.
abbrev pub IsFault : {A : Type 0} → WordError → Read A → Type 0
IsFault (Usage place cause) read = read ≡ Faults place cause
IsFault Memory read = Unit {0}

-- An answer is what the words say.
abbrev pub Reads : {A : Type 0} → Result A WordError → Read A → Type 0
Reads result read = MatchResult result (λ a. read ≡ Names a) (λ error. IsFault error read)
