use Rattle.std.proofs.Common.{◌≡◌, true, List, [], ◌∷◌, ◌++◌, refl, sym, ap, ◌∙◌}
use Rattle.std.proofs.lemmas.List.{append-nil}
use Rattle.gp_journal.specs.declared.entry.Entry.{Entry}
use Rattle.gp_journal.specs.Due.{asked, over}
use Rattle.gp_journal.specs.Run.{state_of}
use Rattle.gp_journal.specs.State.{code_of}
use Rattle.gp_world.specs.Calls.{may_not_start, start_entries}
use Rattle.gp_world.proofs.Started.{or_left, or_right}
use Rattle.gp_world.proofs.world.World.start_picked.Goals as goal
use Rattle.gp_world.proofs.world.World.start_picked.Goals.{then-asked-via-then-asked, then-asked-via-else-asked+then-over}

pub returns-then-asked-clause-scene : goal.returns-then-asked-clause-scene
returns-then-asked-clause-scene g c =
    let P = g.R.Run.program in let S = g.R.Run.settings in let now = c.args.self.now in
    let s = state_of P S now.journal in
    let may : may_not_start S s ≡ true =
    elim c.then-asked.branch [
      | then-asked-via-then-asked w ↦ or_left (asked S s) (over S s) (sym c.asked.ensures ∙ w.if-asked.true)
      | then-asked-via-else-asked+then-over w ↦ or_right (asked S s) (over S s) (sym w.over.ensures ∙ w.if-over.true)
    ] in
    let nothing : start_entries (code_of P) S s c.args.who.now.number c.args.g c.args.copy ≡ [] = rw may refl in
    let same : now.journal ≡ now.journal ++ start_entries (code_of P) S s c.args.who.now.number c.args.g c.args.copy = sym (ap (λ (x : List Entry). now.journal ++ x) nothing ∙ append-nil now.journal) in
    c.put_back.ensures.scene ∙ (λ i. record { book = now.book; journal = same i; waiting = c.args.g ∷ now.waiting; ring = now.ring; failed = now.failed })
