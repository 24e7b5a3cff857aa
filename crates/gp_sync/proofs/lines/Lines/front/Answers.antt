use Rattle.std.proofs.Common.{◌<◌, length, arith}
use Rattle.std.proofs.lemmas.List.{length-map, get_or_read}
use Rattle.gp_sync.specs.kept.Links.{no_line, line_of}
use Rattle.gp_sync.proofs.Linking.{head_within}
use Rattle.gp_sync.proofs.lines.Lines.front.Goals as goal

pub head-requires : goal.head-requires
head-requires c =
    let there : c.args.at < length c.self.inside.lines.items = omega (arith, rw (← c.self.view_is) at c.requires, length-map c.self.inside.lines.items (line_of c.self.inside.next.items c.self.inside.since.items)) in
    let line = get_or_read c.self.inside.lines.items c.args.at c.index-line.result.now there c.index-line.ensures no_line in
    rw (line, c.deref.ensures.value)
    (λ some.
    let within = head_within c.self.inside.next.items c.self.inside.since.items c.self.inside.lines.items c.args.at c.self.invariant there some in
    omega (arith, within, c.self.invariant.clocks))
