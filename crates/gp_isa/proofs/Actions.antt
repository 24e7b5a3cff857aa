-- What a statement does, opened, by its variant.
use Rattle.std.proofs.Common.{◌≡◌, ℕ, List}
use Rattle.gp_isa.specs.declared.statement.Stmt.{Stmt}
use Rattle.gp_isa.specs.declared.statement.What.TheOpen.{Work, Call, Loop, Send, Recv, Lock, Unlock, Spawn, Labels}
use Rattle.gp_isa.specs.declared.statement.What.TheVariants as what
use Rattle.gp_isa.specs.Statement.{action}

-- Each variant of `What`, opened. A call of `out-What` doesn't compute, so proofs cite these.
pub action-work : (n : ℕ) → action (what.Work n) ≡ Work n
action-work n = what.outs-Work n

pub action-call : (f : ℕ) → action (what.Call f) ≡ Call f
action-call f = what.outs-Call f

pub action-loop : (n : ℕ) (body : List Stmt) (end : ℕ) → action (what.Loop n body end) ≡ Loop n body end
action-loop n body end = what.outs-Loop n body end

pub action-send : (c : ℕ) → action (what.Send c) ≡ Send c
action-send c = what.outs-Send c

pub action-recv : (c : ℕ) → action (what.Recv c) ≡ Recv c
action-recv c = what.outs-Recv c

pub action-lock : (m : ℕ) → action (what.Lock m) ≡ Lock m
action-lock m = what.outs-Lock m

pub action-unlock : (m : ℕ) → action (what.Unlock m) ≡ Unlock m
action-unlock m = what.outs-Unlock m

pub action-spawn : (f : ℕ) → action (what.Spawn f) ≡ Spawn f
action-spawn f = what.outs-Spawn f

pub action-labels : (s : ℕ) → action (what.Labels s) ≡ Labels s
action-labels s = what.outs-Labels s
