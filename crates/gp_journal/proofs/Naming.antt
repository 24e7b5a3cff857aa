-- What a goroutine's next instruction names is there in its program.
use Rattle.std.proofs.Common.{◌⊎◌, ℕ, ◌<◌, ◌≤◌, All, List, length, get_or, sym, subst, inl, inr}
use Rattle.std.proofs.lemmas.Bool.{cases_lt}
use Rattle.std.proofs.lemmas.List.{get_or_past}
use Rattle.std.proofs.lemmas.List.Elements.{All-get_or}
use Rattle.gp_isa.specs.declared.parts.Parts.{Parts}
use Rattle.gp_isa.specs.InLimits.{AreInLimits}
use Rattle.gp_isa.specs.Names.{IsThere}
use Rattle.gp_isa.proofs.NamedThere.{traces_name_what_is_there}
use Rattle.gp_isa.specs.Trace.{Point, trace}
use Rattle.gp_stack.specs.Goroutine.{next_point, no_point}
use Rattle.gp_journal.specs.State.{State, code_of, goroutine}
use Rattle.gp_journal.specs.Due.{next_instruction}

named_at : (parts : Parts) (points : List Point) (count : ℕ) → (count < length points) ⊎ (length points ≤ count) → All (λ point. IsThere parts point.instruction) points → IsThere parts (get_or points count no_point).instruction
named_at parts points count (inl within) there = All-get_or (λ point. IsThere parts point.instruction) points count no_point within there
named_at parts points count (inr past) there = subst (λ point. IsThere parts point.instruction) (sym (get_or_past points count no_point past)) tt

pub next_named : (parts : Parts) (s : State) (g : ℕ) → AreInLimits parts → IsThere parts (next_instruction (code_of parts) s g)
unfolding next_point
next_named parts s g limits =
    let points = trace parts (goroutine s g).start in
    named_at parts points (goroutine s g).count (cases_lt (goroutine s g).count (length points)) (traces_name_what_is_there parts (goroutine s g).start limits)
