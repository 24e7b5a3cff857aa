use Rattle.std.proofs.Common.{[], ◌∷◌, take, flat_map}
use Rattle.gp_text.specs.Text.{channel_item}
use Rattle.gp_text.specs.Page.{texts, PutsAll}
use Rattle.gp_text.proofs.printing.put_channels.Given as goal

abbrev pub invariant-loop-channel : goal.invariant-loop-channel
invariant-loop-channel l = PutsAll (texts l.initial.page) (texts l.page) (flat_map (λ x. channel_item x ∷ []) (take l.channel-index l.channel-items))
