use Rattle.gp_sync.proofs.Linking.{tail_within, room, linked_pushed, with_pushed}
use Rattle.gp_sync.proofs.lines.push_tail.Goals as goal

pub link-requires : goal.link-requires
link-requires c =
    tail_within c.args.next.now c.args.since.now c.args.lines.now c.args.at c.requires.linked c.requires.there c.args.at c.requires.there

pub lengthened-requires : goal.lengthened-requires
lengthened-requires c =
    room c.args.next.now c.args.since.now c.args.lines.now c.args.at c.args.g c.args.clock c.requires.linked c.requires.there c.requires.within c.requires.waits_nowhere

pub returns-clause-linked : goal.returns-clause-linked
returns-clause-linked c =
    rw (c.link.ensures, c.lengthened.ensures)
    (linked_pushed c.args.next.now c.args.since.now c.args.lines.now c.args.at c.args.g c.args.clock c.requires.linked c.requires.there c.requires.within c.requires.waits_nowhere)

pub returns-clause-lines : goal.returns-clause-lines
returns-clause-lines c =
    rw (c.link.ensures, c.lengthened.ensures)
    (with_pushed c.args.next.now c.args.since.now c.args.lines.now c.args.at c.args.g c.args.clock c.requires.linked c.requires.there c.requires.within c.requires.waits_nowhere)
