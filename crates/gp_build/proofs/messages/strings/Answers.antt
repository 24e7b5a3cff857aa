use Rattle.std.proofs.Common.{ℕ, List, All, sym, ap, subst, ◌∙◌}
use Rattle.std.proofs.lemmas.List.Elements.{All-push}
use Rattle.std.proofs.lemmas.Str.{is_utf8-from_IsUtf8}
use Rattle.gp_wire.specs.RoundTrip.{IsText}
use Rattle.gp_build.specs.Numbers.{text_of}
use Rattle.gp_build.proofs.Steps.{map_step}
use Rattle.gp_build.proofs.messages.strings.Goals as goal

pub loop-need-preserved : goal.loop-need-preserved
loop-need-preserved c =
    let text : IsText c.in_ok-from_str.field-0 =
    subst (λ (text : List ℕ). IsText text) (sym c.in_ok-from_str.ensures) (is_utf8-from_IsUtf8 c.as_str.result.now c.as_str.utf8) in record {
      are = map_step text_of c.as_slice-need-items.result.now c.loop-need.need-index _ _ _ _ c.loop-need-test.true
          c.loop-need.invariant.are (c.in_ok-from_str.ensures ∙ c.as_str.ensures ∙ ap text_of c.need-item.is) c.in_ok-push.ensures.ok;
      fit = subst (λ (texts : List (List ℕ)). All IsText texts) (sym c.in_ok-push.ensures.ok)
          (All-push IsText c.loop-need.strings c.in_ok-from_str.field-0 c.loop-need.invariant.fit text);
    }
