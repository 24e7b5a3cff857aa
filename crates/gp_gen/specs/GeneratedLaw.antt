-- The generated program is one, for every number and each number of rounds from 1 to 63.
use Rattle.std.specs.Prelude.{ℕ, ◌≤◌}
use Rattle.gp_isa.specs.Calls.{IsProgram}
use Rattle.gp_isa.specs.InLimits.{AreInLimits}
use Rattle.gp_gen.specs.Generated.{generated}

-- It lies in the limits of programs.
abbrev pub GeneratedIsInLimits : Type 0
GeneratedIsInLimits = (n q : ℕ) → 1 ≤ q → q ≤ 63 → AreInLimits (generated n q)

-- And it has main, no empty body, no function that can call itself and no trace that is too long.
abbrev pub GeneratedIsProgram : Type 0
GeneratedIsProgram = (n q : ℕ) → 1 ≤ q → q ≤ 63 → IsProgram (generated n q)
