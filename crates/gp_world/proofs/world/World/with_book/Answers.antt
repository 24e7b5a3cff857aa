use Rattle.std.proofs.Common.{[], refl, ap, ◌∙◌, subst}
use Rattle.gp_isa.specs.declared.parts.Parts.{Parts}
use Rattle.gp_journal.specs.declared.settings.Settings.{Settings}
use Rattle.gp_tally.specs.Rows.{Rows}
use Rattle.gp_world.specs.declared.ring_end.RingEnd.TheVariants.{Writing}
use Rattle.gp_world.specs.declared.world.Numbers.{Numbers}
use Rattle.gp_world.specs.kept.World.{IsWorld}
use Rattle.gp_world.proofs.Beginning.{begun}
use Rattle.gp_world.proofs.world.World.with_book.Goals as goal

pub invariant_of-result-2 : goal.invariant_of-result-2
invariant_of-result-2 g c =
    let program = c.args.program.now in let settings = c.args.settings.now in
    let line = c.in_ok-first_waiting.field-0 in let bodies = c.in_ok-unborn.field-0.items in
    let rows = c.book.inside.rows.items in
    let numbers : Numbers = record { workers = settings.workers; room = settings.room; expected = 0 } in
    rw (c.in_ok-new.ensures)
    (subst (λ (s : Settings). IsWorld g.R.Run.program s [] line (Writing c.args.writer) rows bodies numbers) c.requires.settings
    (subst (λ (p : Parts). IsWorld p settings [] line (Writing c.args.writer) rows bodies numbers) c.requires.program
    (begun program settings c.requires.range line c.args.writer rows bodies numbers
    c.in_ok-first_waiting.ensures c.requires.writer (ap (λ (b : Rows). b.rows) c.book.view_is ∙ c.requires.rows) c.in_ok-unborn.ensures.each c.in_ok-unborn.ensures.vacant refl refl refl)))
