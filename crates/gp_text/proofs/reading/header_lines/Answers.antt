use Rattle.std.proofs.Common.{◌≡◌, ℕ, ◌+◌, ◌<◌, List, ◌++◌, ◌∷◌, [], length, get_or, take, sym, ap, ◌∙◌, arith}
use Rattle.std.specs.Prelude.{map}
use Rattle.std.proofs.lemmas.List.{take_more, take_all, map-append}
use Rattle.gp_isa.specs.declared.parts.Function.{Function}
use Rattle.gp_text.proofs.reading.header_lines.Goals as goal

abbrev line_of : Function → ℕ
line_of f = f.line

-- the lines of one function more
one_more : (built now : List ℕ) (functions : List Function) (at : ℕ) (f : Function) → at < length functions → f ≡ get_or functions at f
    → built ≡ map line_of (take at functions) → now ≡ built ++ f.line ∷ [] → now ≡ map line_of (take (at + 1) functions)
one_more built now functions at f within is so_far pushed =
    let more : take (at + 1) functions ≡ take at functions ++ f ∷ [] =
    take_more functions at f within ∙ ap (λ (g : Function). take at functions ++ g ∷ []) (sym is) in
    pushed ∙ (ap (λ lines. lines ++ f.line ∷ []) so_far ∙ (sym (map-append line_of (take at functions) (f ∷ [])) ∙ ap (map line_of) (sym more)))

pub loop-function-preserved : goal.loop-function-preserved
loop-function-preserved c =
    one_more _ _ c.as_slice-function-items.result.now c.loop-function.function-index c.function-item.result c.loop-function-test.true c.function-item.is c.loop-function.invariant c.in_ok-push.ensures.items

pub returns : goal.returns
returns c =
    let functions = c.as_slice-function-items.result.now in
    c.loop-function.invariant
    ∙ (ap (map line_of) (take_all c.loop-function.function-index functions (omega (arith, c.loop-function-test.false))) ∙ ap (map line_of) c.as_slice-function-items.ensures)
