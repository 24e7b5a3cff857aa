-- What an operation comes to moves the wait lists, by its effect, and nothing else.
use Rattle.std.proofs.Common.{◌≡◌, ℕ, refl, Option, Some, None}
use Rattle.gp_stack.specs.declared.statement.Operation.{Operation}
use Rattle.gp_stack.specs.declared.statement.Operation.TheVariants as operation
use Rattle.gp_sync.specs.declared.effect.Effect.{Effect}
use Rattle.gp_sync.specs.Places.{places_of}
use Rattle.gp_journal.specs.State.{Code, State}
use Rattle.gp_journal.specs.Effect.{Outcome, Meets, Spawns, Stays, waiter, outcome_at, outcome_of}
use Rattle.gp_journal.proofs.Parts.{Balances, with_wait_lists}
use Rattle.gp_journal.proofs.WaitLists.{send_moves, recv_moves, lock_moves, unlock_moves}

-- An operation of g with an effect leaves a state as another: all but the wait lists is as before, and the places in
-- these balance.
pub record Moves (g : ℕ) (s : State) (effect : Effect) (left : State) : Type 0 where
  pub alone : left ≡ with_wait_lists left.channels left.mutexes s
  pub balance : (k : ℕ) → Balances effect g k (places_of s.channels s.mutexes k) (places_of left.channels left.mutexes k)

abbrev pub MovesBy : ℕ → State → Outcome → Type 0
MovesBy g s (Meets unlocks effect left) = Moves g s effect left
MovesBy g s (Spawns function) = Unit {0}
MovesBy g s Stays = Unit {0}

pub operation_moves : (code : Code) (g : ℕ) (made : Operation) (s : State) → MovesBy g s (outcome_at code g made s)
operation_moves code g (operation.Send c) s = record { alone = refl; balance = λ k. send_moves s.channels s.mutexes (waiter s g) k c (code.capacity c) }
operation_moves code g (operation.Recv c) s = record { alone = refl; balance = λ k. recv_moves s.channels s.mutexes (waiter s g) k c }
operation_moves code g (operation.Lock m) s = record { alone = refl; balance = λ k. lock_moves s.channels s.mutexes (waiter s g) k m }
operation_moves code g (operation.Unlock m) s = record { alone = refl; balance = λ k. unlock_moves s.channels s.mutexes (waiter s g) k m }
operation_moves code g (operation.Spawn function) s = tt

pub outcome_moves : (code : Code) (g : ℕ) (made : Option Operation) (s : State) → MovesBy g s (outcome_of code g made s)
outcome_moves code g (Some made) s = operation_moves code g made s
outcome_moves code g None s = tt
