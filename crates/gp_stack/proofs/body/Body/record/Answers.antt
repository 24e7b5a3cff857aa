use Rattle.std.proofs.Common.{◌≡◌, take, List, ℕ, sym, ap, ◌∙◌}
use Rattle.gp_isa.specs.declared.frame.Frame.{Frame}
use Rattle.gp_isa.specs.Trace.{trace}
use Rattle.gp_isa.specs.Limits.{goroutine_frames}
use Rattle.gp_stack.specs.Goroutine.{stack_of}
use Rattle.gp_stack.proofs.Coming.{no_stack}
use Rattle.gp_stack.proofs.body.Body.record.Goals as goal
use Rattle.gp_stack.proofs.body.Body.record.Goals.{then-is_over, else-is_over+in_ok-stack}

pub returns : goal.returns
returns c =
    let stack : c.if-is_over.stack ≡ take goroutine_frames (stack_of (trace c.args.program.now c.args.self.now.start) c.args.self.now.count) =
    elim c.if-is_over.branch [
      | then-is_over w ↦ w.stack-is ∙ (w.new-stack.ensures ∙ sym (no_stack (trace c.args.program.now c.args.self.now.start) c.args.self.now.count goroutine_frames (sym c.is_over.ensures ∙ w.if-is_over.true)))
      | else-is_over+in_ok-stack w ↦ w.stack-is ∙ w.in_ok-stack.ensures
    ] in
    ap (λ (frames : List Frame). record { g = c.args.g; stack = frames; set = c.labels.result }) stack
    ∙ ap (λ (set : ℕ). record { g = c.args.g; stack = take goroutine_frames (stack_of (trace c.args.program.now c.args.self.now.start) c.args.self.now.count); set = set }) (c.labels.ensures c.args.program.now c.requires)
