use Rattle.std.proofs.Common.{◌≡◌, ◌≤◌, ◌∙◌, arith, false, ap, subst, count_by, ℕ}
use Rattle.std.specs.List.{list_any}
use Rattle.std.proofs.lemmas.Grind.{common_steps}
use Rattle.gp_journal.specs.State.{State, is_runnable}
use Rattle.gp_machine.proofs.Judged.{any_none}
use Rattle.gp_machine.proofs.present.Present.ended.Goals as goal

pub returns-else-runnable-gt0 : goal.returns-else-runnable-gt0
returns-else-runnable-gt0 g c =
    let number : c.runnable.result ≡ count_by (λ g. is_runnable g.status) c.args.self.now.goroutines = c.runnable.ensures ∙ ap (λ (s : State). count_by (λ g. is_runnable g.status) s.goroutines) c.self.view_is in
    let none : list_any (λ g. is_runnable g.status) c.args.self.now.goroutines ≡ false = any_none (λ g. is_runnable g.status) c.args.self.now.goroutines (subst (λ (n : ℕ). n ≤ 0) number c.if-runnable-gt0.false) in
    grind (arith, common_steps)
