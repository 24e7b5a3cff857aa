use Rattle.std.proofs.Common.{List, ◌++◌, [], ◌∷◌, sym, ap, ◌∙◌}
use Rattle.gp_text.specs.declared.said.Said.{Said}
use Rattle.gp_text.proofs.Cuts.{read_line, read_few, read_deep, read_last, read_over, some_of, none_of}
use Rattle.gp_text.proofs.lines.said_lines.Goals as goal
use Rattle.gp_text.proofs.lines.said_lines.Goals.{then-not-is_empty+in_ok-push-2, else-not-is_empty}

pub loop-at-preserved : goal.loop-at-preserved
loop-at-preserved c =
    let pushed = c.in_ok-push.ensures.items in
    record {
      said =
          read_line c.loop-at.all.items c.push.new.self.items c.loop-at.deep c.deep_after-deep.result c.said-said.result c.loop-at.rest.now c.cut_at.result.0.now c.cut_at.result.1.now c.args.bytes.now c.in-Some.at c.loop-at.invariant.said
          (sym c.in-Some.ensures.place) c.in-Some.ensures.within c.cut_at.ensures.head c.cut_at.ensures.rest c.said-said.ensures c.deep_after-deep.ensures pushed;
      few = read_few c.loop-at.all.items c.push.new.self.items c.said-said.result c.loop-at.rest.now c.cut_at.result.1.now _ c.in-Some.at c.loop-at.invariant.few c.in-Some.ensures.within c.cut_at.ensures.rest pushed;
      shallow = read_deep c.loop-at.all.items c.push.new.self.items c.loop-at.deep c.deep_after-deep.result c.said-said.result c.loop-at.invariant.shallow c.deep_after-deep.ensures pushed;
    }

pub returns-clause-lines : goal.returns-clause-lines
returns-clause-lines c = elim c.if-not-is_empty.branch [
  | then-not-is_empty+in_ok-push-2 w ↦
      read_last c.loop-at.all.items c.if-not-is_empty.all.items c.loop-at.deep c.loop-at.rest.now c.args.bytes.now c.loop-at.invariant.said (sym c.in_default.ensures.place) (some_of _ (sym w.if-not-is_empty.ensures))
      (◌∙◌ {A = List Said} (ap (λ v. v.items) w.all-is) (◌∙◌ {A = List Said} w.in_ok-push-2.ensures.items (ap (λ s. c.loop-at.all.items ++ s ∷ []) w.said.ensures)))
  | else-not-is_empty w ↦ read_over c.loop-at.all.items c.if-not-is_empty.all.items c.loop-at.deep c.loop-at.rest.now c.args.bytes.now c.loop-at.invariant.said (none_of _ (sym w.if-not-is_empty.ensures)) (ap (λ v. v.items) w.all-is)
]
