use Rattle.std.proofs.Common.{sym, subst}
use Rattle.gp_isa.specs.Calls.{IsProgram}
use Rattle.gp_isa.specs.InLimits.{AreInLimits}
use Rattle.gp_gen.proofs.Limits.{in_limits}
use Rattle.gp_gen.proofs.Passing.{is_program, memory_alone}
use Rattle.gp_gen.proofs.generator.program.Goals as goal

pub check-requires : goal.check-requires
check-requires c =
    subst AreInLimits (sym c.in_ok-parts.ensures) (in_limits c.args.n c.args.q c.requires.least c.requires.most)

pub want_of_memory-requires : goal.want_of_memory-requires
want_of_memory-requires c =
    let program = subst IsProgram (sym c.in_ok-parts.ensures) (is_program c.args.n c.args.q c.requires.most) in
    memory_alone c.in_ok-parts.parts c.in-Err.bad program c.in-Err.ensures.fault
