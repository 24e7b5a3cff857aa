use Rattle.std.proofs.Common.{rules, ◌≤◌, ◌∙◌, ap, take, length}
use Rattle.gp_stack.proofs.Shown.{shown_full, shown_all}
use Rattle.gp_stack.proofs.Stands.{frames_of, stack_is}
use Rattle.gp_stack.proofs.body.Body.stack.Goals as goal

pub returns-in-None : goal.returns-in-None
returns-in-None c =
    c.from_vec.ensures ∙ (shown_all c.loop-climb.frames.items _ (frames_of c.args.program.now c.args.self.now.place) c.args.max c.loop-climb.invariant.shown c.in-None.ensures.frames c.loop-climb.invariant.few ∙
    ap (take c.args.max) (stack_is c.args.program.now c.args.self.now c.requires.stands c.requires.going))

pub returns : goal.returns
returns c =
    let full : c.args.max ≤ length c.loop-climb.frames.items = search rules in
    c.from_vec-2.ensures ∙ (shown_full c.loop-climb.frames.items _ (frames_of c.args.program.now c.args.self.now.place) c.args.max c.loop-climb.invariant.shown c.loop-climb.invariant.few full ∙
    ap (take c.args.max) (stack_is c.args.program.now c.args.self.now c.requires.stands c.requires.going))
