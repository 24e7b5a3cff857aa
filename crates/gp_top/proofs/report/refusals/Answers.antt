use Rattle.std.proofs.Common.{◌++◌, ◌∷◌, [], sym, ap, ◌∙◌, take, get_or, append-nil}
use Rattle.std.proofs.lemmas.List.{take_more}
use Rattle.gp_journal.specs.declared.entry.Entry.TheVariants.{Start}
use Rattle.gp_top.specs.Report.{refusals as refused_of}
use Rattle.gp_top.proofs.Reporting.{refusals_more, none_refused}
use Rattle.gp_top.proofs.report.refusals.Goals as goal
use Rattle.gp_top.proofs.report.refusals.Goals.{in-Refuse+in_ok-push, in_default}

pub loop-made-preserved : goal.loop-made-preserved
loop-made-preserved c =
    rw (take_more c.args.journal.now c.loop-made.made-index (Start 0 0) c.loop-made-test.true, refusals_more (take c.loop-made.made-index c.args.journal.now) (get_or c.args.journal.now c.loop-made.made-index (Start 0 0)))
    (elim c.match-made.branch [
      | in-Refuse+in_ok-push w ↦ (λ k. (w.refused-is k).items) ∙ w.in_ok-push.ensures.items ∙ ap (λ l. l ++ (w.in-Refuse.room, w.in-Refuse.n) ∷ []) c.loop-made.invariant
          ∙ ap (λ e. refused_of (take c.loop-made.made-index c.args.journal.now) ++ refused_of (e ∷ [])) (sym w.in-Refuse.is)
      | in_default w ↦ (λ k. (w.refused-is k).items) ∙ c.loop-made.invariant ∙ sym (append-nil _)
          ∙ ap (λ l. refused_of (take c.loop-made.made-index c.args.journal.now) ++ l) (sym (none_refused (get_or c.args.journal.now c.loop-made.made-index (Start 0 0)) w.in_default.not-Refuse))
    ])
