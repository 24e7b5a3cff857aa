use Rattle.std.proofs.Common.{◌≡◌, ◌∙◌, sym, ap, arith, eq-eqb}
use Rattle.std.proofs.lemmas.Bool.{both_ways, or_left, or_right}
use Rattle.gp_journal.specs.declared.goroutine.Worker.{Worker}
use Rattle.gp_journal.specs.Settings.{quantum}
use Rattle.gp_journal.specs.State.{code_of, goroutine, trace_of, worker}
use Rattle.gp_journal.proofs.Lemmas.{GoesOn}
use Rattle.gp_machine.proofs.Peeked.{look_of, next_shared, next_local, ahead_local, extent_of, tick_is_due, park_is_due, op_is_due, run_is_due}
use Rattle.gp_machine.proofs.present.Present.due.Goals as goal
use Rattle.gp_machine.proofs.present.Present.due.Goals.{then-asked-via-then-asked, then-asked-via-else-asked+then-over, then-asked-via-else-asked+else-over+then-worker-eq-QUANTUM, in-Shared, in_default}
use Rattle.gp_machine.proofs.present.Present.due.Goals.{else-peek-eq0-via-then-peek-eq0+else-matches, else-peek-eq0-via-else-peek-eq0}

pub returns-then-worker : goal.returns-then-worker
returns-then-worker g c =
    tick_is_due (code_of g.R.Run.program) g.R.Run.settings c.args.self.now c.args.w c.args.g (sym (ap (λ (v : Worker). v.tick) c.worker-worker.ensures) ∙ c.if-worker.true)

pub returns-then-asked : goal.returns-then-asked
returns-then-asked g c =
    park_is_due (code_of g.R.Run.program) g.R.Run.settings c.args.self.now c.args.w c.args.g (sym (ap (λ (v : Worker). v.tick) c.worker-worker.ensures) ∙ c.if-worker.false)
    (elim c.then-asked.branch [
      | then-asked-via-then-asked w ↦ or_left _ _ (or_left _ _ (sym c.asked.ensures ∙ w.if-asked.true))
      | then-asked-via-else-asked+then-over w ↦ or_left _ _ (or_right _ _ (sym w.over.ensures ∙ w.if-over.true))
      | then-asked-via-else-asked+else-over+then-worker-eq-QUANTUM w ↦ or_right _ _ (eq-eqb (worker c.args.self.now c.args.w).slice quantum
          (sym (ap (λ (v : Worker). v.slice) c.worker-worker.ensures) ∙ w.if-worker-eq-QUANTUM.true))
    ])

pub returns-then-matches : goal.returns-then-matches
returns-then-matches g c =
    let now = c.args.self.now in
    let slice : c.worker-worker.result.slice ≡ (worker now c.args.w).slice = ap (λ (v : Worker). v.slice) c.worker-worker.ensures in
    let on : GoesOn g.R.Run.settings now c.args.w = record {
      none_asked = sym c.asked.ensures ∙ c.if-asked.false;
      not_over = sym c.over.ensures
          ∙ c.if-over.false;
      slice_left = λ spent. c.if-worker-eq-QUANTUM.false (slice ∙ spent);
    } in
    op_is_due (code_of g.R.Run.program) g.R.Run.settings now c.args.w c.args.g (sym (ap (λ (v : Worker). v.tick) c.worker-worker.ensures) ∙ c.if-worker.false) on
    (elim c.match-matches.branch [
      | in-Shared v ↦ next_shared (trace_of (code_of g.R.Run.program) (goroutine now c.args.g)) (goroutine now c.args.g).count c.args.peek.now.local c.args.peek.now.then v.in-Shared.field-0
          (look_of (code_of g.R.Run.program) g.R.Run.settings now c.args.w c.args.g c.args.peek.now c.requires.peek) c.if-peek-eq0.true v.in-Shared.is
      | in_default v ↦ absurd (both_ways c.match-matches.matches v.matches-is c.if-matches.true)
    ])

pub returns : goal.returns
returns g c =
    let now = c.args.self.now in
    let slice : c.worker-worker.result.slice ≡ (worker now c.args.w).slice = ap (λ (v : Worker). v.slice) c.worker-worker.ensures in
    let on : GoesOn g.R.Run.settings now c.args.w = record {
      none_asked = sym c.asked.ensures ∙ c.if-asked.false;
      not_over = sym c.over.ensures
          ∙ c.if-over.false;
      slice_left = λ spent. c.if-worker-eq-QUANTUM.false (slice ∙ spent);
    } in
    let look = look_of (code_of g.R.Run.program) g.R.Run.settings now c.args.w c.args.g c.args.peek.now c.requires.peek in
    run_is_due (code_of g.R.Run.program) g.R.Run.settings now c.args.w c.args.g c.extent-n.result (sym (ap (λ (v : Worker). v.tick) c.worker-worker.ensures) ∙ c.if-worker.false) on
    (elim c.else-peek-eq0.branch [
      | else-peek-eq0-via-then-peek-eq0+else-matches w ↦ elim w.match-matches.branch [
        | in-Shared v ↦ absurd (both_ways w.match-matches.matches w.if-matches.false v.matches-is)
        | in_default v ↦ next_local (trace_of (code_of g.R.Run.program) (goroutine now c.args.g))
            (goroutine now c.args.g).count c.args.peek.now.local c.args.peek.now.then look w.if-peek-eq0.true v.in_default.not-Shared
      ]
      | else-peek-eq0-via-else-peek-eq0 w ↦ ahead_local (trace_of (code_of g.R.Run.program) (goroutine now c.args.g)) (goroutine now c.args.g).count c.args.peek.now.local c.args.peek.now.then look
          (omega arith)
    ])
    (c.extent-n.ensures ∙ extent_of (code_of g.R.Run.program) g.R.Run.settings now c.args.w c.args.g c.args.peek.now c.requires.peek)
