use Rattle.std.proofs.Common.{◌+◌, ◌*◌}
use Rattle.gp_text_tests.proofs.files.+list.Given as goal

abbrev pub decreases-list_body : goal.decreases-list_body
decreases-list_body l = 2 * l.deep + 1

abbrev pub decreases-list_inside : goal.decreases-list_inside
decreases-list_inside l = 2 * l.deep + 2
