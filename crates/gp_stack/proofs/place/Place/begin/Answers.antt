use Rattle.std.proofs.Common.{rules, ◌∙◌}
use Rattle.gp_stack.proofs.Moves.{left_begin}
use Rattle.gp_stack.proofs.Passing.{none_passed}
use Rattle.gp_stack.proofs.Settle.{fit_begun}
use Rattle.gp_stack.proofs.place.Place.begin.Goals as goal

pub returns-clause-left : goal.returns-clause-left
returns-clause-left c = none_passed _ _ _ _ c.go_on.ensures.passes c.go_on.ensures.few ∙ left_begin c.args.program.now c.args.f c.args.calls _ c.requires.whole c.clear.ensures.items

pub go_on-requires : goal.go_on-requires
go_on-requires c = record {
  fit = fit_begun c.args.program.now c.args.f c.args.calls _ c.requires.calls c.clear.ensures.items;
  reserved = search rules;
}
