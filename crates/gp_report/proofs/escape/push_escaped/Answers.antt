use Rattle.std.proofs.Common.{◌+◌, ◌++◌, List, ℕ, string_bytes, sym, ap, subst, refl, ◌∙◌}
use Rattle.std.specs.Str.{IsUtf8}
use Rattle.std.proofs.lemmas.Str.{IsUtf8-drop, IsCharBoundary-after_ascii}
use Rattle.gp_report.specs.Dump.{escaped}
use Rattle.gp_report.proofs.EscapeLemmas.{escaped_more, escaped-none, marked_ascii}
use Rattle.gp_report.proofs.escape.push_escaped.Goals as goal

pub loop-at-init : goal.loop-at-init
loop-at-init c = record { utf8 = c.utf8.text; so_far = refl }

pub loop-at-preserved : goal.loop-at-preserved
loop-at-preserved c =
    let rest = c.loop-at.rest.now in
    let at = c.in-Some.at in
    let ascii = marked_ascii _ c.in-Some.ensures.marked in
    let behind = c.cut_at-byte.ensures.behind in record {
      utf8 = subst (λ (t : List ℕ). IsUtf8 t) (sym behind) (IsUtf8-drop rest (at + 1) c.loop-at.invariant.utf8 (IsCharBoundary-after_ascii rest at c.loop-at.invariant.utf8 c.in-Some.ensures.within ascii));
      so_far = escaped_more rest at c.cut_at-byte.result.1 c.cut_at-byte.result.0.now c.cut_at-byte.result.2.now (string_bytes c.loop-at.out) (string_bytes c.push_str.new.self) (string_bytes c.push_escape.new.out)
          (string_bytes c.args.out.now ++ escaped c.args.text.now) (sym c.in-Some.ensures.place) c.cut_at-byte.ensures.byte c.cut_at-byte.ensures.before behind
          c.in_ok-push_str.ensures.bytes c.in_ok-push_escape.ensures c.loop-at.invariant.so_far;
    }

pub returns : goal.returns
returns c =
    c.in_ok-push_str-2.ensures.bytes
    ∙ ap (λ (t : List ℕ). string_bytes c.loop-at.out ++ t) (sym (escaped-none c.loop-at.rest.now (sym c.in_default.ensures.place)))
    ∙ c.loop-at.invariant.so_far
