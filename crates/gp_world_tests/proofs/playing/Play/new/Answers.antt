use Rattle.std.proofs.Common.{◌+◌, sym, subst}
use Rattle.std.specs.List.{AllByRecursion, range_with_len}
use Rattle.gp_world_tests.specs.Playing.{IsShareOf}
use Rattle.gp_world_tests.proofs.Keeping.{issued}
use Rattle.gp_world_tests.proofs.playing.Play.new.Goals as goal

pub invariant_of-result : goal.invariant_of-result
invariant_of-result g c =
    let book = c.in_ok-made.made.world.book in
    record {
      header = c.in_ok-made.ensures.reader.sized.header;
      ring = c.in_ok-made.ensures.ring;
      shares_of = subst (AllByRecursion (IsShareOf book)) (sym c.in_ok-made.ensures.shares) (issued book (range_with_len 0 (g.R.Run.settings.workers + 1)));
    }
