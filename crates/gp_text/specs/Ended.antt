-- What is read of a block.
use Rattle.std.specs.Prelude.{◌≡◌, ◌≤◌, ◌+◌, ℕ, List, length, drop, Option, Some, None}
use Rattle.gp_text.specs.declared.build.Block.{Block as Taken}
use Rattle.gp_text.specs.declared.said.Said.{Said}
use Rattle.gp_text.specs.declared.said.Said.TheVariants.{Loop}
use Rattle.gp_text.specs.Fault.{Known}
use Rattle.gp_text.specs.Reading.{blocks_at, first, others}

-- The first block that the lines from a place on end is this one, and the others are those of the lines behind it.
pub record IsBlock (known : Known) (said : List Said) (from : ℕ) (block : Taken) : Type 0 where
  pub body : (first (blocks_at known (from + 1) (drop from said))).body ≡ block.body
  pub end : (first (blocks_at known (from + 1) (drop from said))).end ≡ block.end
  pub behind : others (blocks_at known (from + 1) (drop from said)) ≡ blocks_at known (block.next + 1) (drop block.next said)
  pub onward : from ≤ block.next
  pub within : block.next ≤ length said

-- the turns of a loop that a line begins
abbrev pub turns_in : Said → Option ℕ
turns_in (Loop turns) = Some turns
turns_in _ = None
