-- How far a worker is from its next tick.
use Rattle.std.proofs.Common.{◌≡◌, ◌<◌, ◌+◌, ◌-◌, ◌%◌, ℕ, sym, ◌∙◌, arith}
use Rattle.std.proofs.Math.Nat.{mod-add-mod, mod-eq_of_lt}

-- no tick lies among fewer instructions than are left
pub before_tick : (period i n : ℕ) → 0 < period → n < period - i % period → (i + n) % period ≡ i % period + n
before_tick period i n some few = sym (mod-add-mod i period n) ∙ mod-eq_of_lt {n = i % period + n} {m = period} (omega arith)
