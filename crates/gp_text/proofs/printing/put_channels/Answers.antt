use Rattle.std.proofs.Common.{◌≡◌, ◌++◌, [], ◌∷◌, codes, subst, rules}
use Rattle.std.specs.Prelude.{decimal, map}
use Rattle.gp_text.specs.Text.{channel_item}
use Rattle.gp_text.specs.Page.{texts, PutsAll}
use Rattle.gp_text.proofs.Puts.{puts_more, puts_map, puts_whole, channel_is}
use Rattle.gp_text.proofs.printing.put_channels.Goals as goal

pub loop-channel-preserved : goal.loop-channel-preserved
loop-channel-preserved c =
    let x = c.channel-item.result in
    let text : c.as_str.result.now ≡ codes "chan " ++ (c.as_str-name.result.now ++ (codes " " ++ decimal x.capacity)) = search rules in
    puts_more (λ y. channel_item y ∷ []) (texts c.args.page.now) (texts c.loop-channel.page) (texts c.put.new.page) c.as_slice-channel-items.result.now c.loop-channel.channel-index x c.loop-channel-test.true c.channel-item.is
    c.loop-channel.invariant (subst (PutsAll (texts c.loop-channel.page) (texts c.put.new.page)) (channel_is x c.as_str-name.result.now c.as_str.result.now c.as_str-name.ensures text) c.in_ok-put.ensures)

pub returns : goal.returns
returns c =
    subst (λ xs. PutsAll (texts c.args.page.now) (texts c.loop-channel.page) (map channel_item xs)) c.as_slice-channel-items.ensures
    (puts_map channel_item (texts c.args.page.now) (texts c.loop-channel.page) c.as_slice-channel-items.result.now
    (puts_whole (λ y. channel_item y ∷ []) (texts c.args.page.now) (texts c.loop-channel.page) c.as_slice-channel-items.result.now c.loop-channel.channel-index c.loop-channel-test.false c.loop-channel.invariant))
