use Rattle.std.proofs.Common.{◌≡◌, ◌∙◌, length}
use Rattle.gp_sync.proofs.Parts.{empty_state}
use Rattle.gp_sync.proofs.wait_lists.WaitLists.empty.Goals as goal

pub returns : goal.returns
returns c =
    let channels : c.len-channels.result ≡ length c.args.capacities.items = c.len-channels.ensures ∙ c.args.capacities.ok.0 in
    let buffered = c.in_ok-buffered.ensures.items_if_clones_equal (λ y e. e) in
    let held = c.in_ok-held.ensures.items_if_clones_equal (λ y e. e) in
    rw (buffered, held, c.in_ok-lines.ensures, channels)
    (empty_state c.args.capacities.items c.args.cells (length c.args.capacities.items) c.args.mutexes)
