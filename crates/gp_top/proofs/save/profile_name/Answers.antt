use Rattle.gp_top.proofs.save.profile_name.Goals as goal

pub returns : goal.returns
returns c = c.in_ok-format.ensures.ok
