use Rattle.std.proofs.Common.{◌≡◌, ℕ, ◌++◌, List, [], ◌∷◌, refl, sym, ap, subst, ◌∙◌, Result, Ok, Err, IfOk, flat_map}
use Rattle.std.specs.Prelude.{map, string_bytes}
use Rattle.gp_text.specs.Page.{texts}
use Rattle.gp_text.specs.Reading.{Gives, program_of}
use Rattle.gp_text.specs.Text.{text_of}
use Rattle.gp_text.proofs.Puts.{printed}
use Rattle.gp_text.proofs.Normal.{again}
use Rattle.gp_text.proofs.printing.print.Goals as goal

-- what holds of a text holds of an answer that is that text
of_answer : {E : Type 0} (r : Result (List ℕ) E) (lines text : List ℕ) (P : List ℕ → Type 0) → IfOk r (λ t. t ≡ lines) → lines ≡ text → P text → IfOk r P
of_answer (Ok t) lines text P is same holds = subst P (sym (is ∙ same)) holds
of_answer (Err e) lines text P is same holds = tt

pub returns-clause-text : goal.returns-clause-text
returns-clause-text c =
    let parts = c.parts-parts.result.now in
    let lines : flat_map (λ line. line ++ 10 ∷ []) (map string_bytes c.as_slice.result.now) ≡ text_of c.args.program.now =
    ap (λ xs. flat_map (λ line. line ++ 10 ∷ []) (map string_bytes xs)) c.as_slice.ensures.value
    ∙ printed parts (texts c.new-page.result) (texts c.put_functions.new.page) (texts c.put_channels.new.page) (texts c.put_mutexes.new.page) (texts c.put_sets.new.page) (ap (map string_bytes) c.new-page.ensures.items)
    c.in_ok-put_functions.ensures c.in_ok-put_channels.ensures c.in_ok-put_mutexes.ensures c.in_ok-put_sets.ensures
    ∙ ap text_of c.parts-parts.ensures.parts in
    of_answer c.joined.result _ (text_of c.args.program.now) (λ t. t ≡ text_of c.args.program.now) c.joined.ensures lines refl

pub returns-clause-again : goal.returns-clause-again
returns-clause-again c =
    let parts = c.parts-parts.result.now in
    let lines : flat_map (λ line. line ++ 10 ∷ []) (map string_bytes c.as_slice.result.now) ≡ text_of c.args.program.now =
    ap (λ xs. flat_map (λ line. line ++ 10 ∷ []) (map string_bytes xs)) c.as_slice.ensures.value
    ∙ printed parts (texts c.new-page.result) (texts c.put_functions.new.page) (texts c.put_channels.new.page) (texts c.put_mutexes.new.page) (texts c.put_sets.new.page) (ap (map string_bytes) c.new-page.ensures.items)
    c.in_ok-put_functions.ensures c.in_ok-put_channels.ensures c.in_ok-put_mutexes.ensures c.in_ok-put_sets.ensures
    ∙ ap text_of c.parts-parts.ensures.parts in
    of_answer c.joined.result _ (text_of c.args.program.now) (λ t. (bytes : List ℕ) → program_of bytes ≡ Gives c.args.program.now → program_of t ≡ Gives c.args.program.now) c.joined.ensures lines (λ bytes h. again bytes c.args.program.now h)
