-- One more line of each walk over what the lines say.
use Rattle.std.proofs.Common.{◌≡◌, ℕ, ◌+◌, ◌<◌, ◌≤◌, true, false, List, [], ◌∷◌, ◌++◌, length, get_or, drop, refl, sym, ap, ◌∙◌, arith, Option, Some, None, append_assoc, add-one, drop-cons}
use Rattle.std.specs.Prelude.{option_to_list}
use Rattle.std.proofs.lemmas.List.{drop_all, append-nil}
use Rattle.gp_isa.specs.declared.statement.Stmt.{Stmt}
use Rattle.gp_isa.specs.declared.statement.What.TheVariants as what
use Rattle.gp_text.specs.declared.build.Block.{Block as Taken}
use Rattle.gp_text.specs.declared.said.Said.{Said}
use Rattle.gp_text.specs.declared.said.Said.TheVariants.{Loop, Close}
use Rattle.gp_text.specs.Fault.{Known}
use Rattle.gp_text.specs.Reading.{statement, statement_of, is_close, Block, first, others, in_front, each_in_front, line_in_front, blocks_at, function_of, functions_at, each_at}
use Rattle.gp_text.specs.Ended.{IsBlock, turns_in}

-- what stands at a place, and behind it
pub opened : (said : List Said) (at : ℕ) (s : Said) → at < length said → s ≡ get_or said at s → drop at said ≡ s ∷ drop (at + 1) said
opened said at s within is =
    let e : drop at said ≡ get_or said at s ∷ drop (at + 1) said = rw add-one (drop-cons said at s within) in
    e ∙ ap (λ (x : Said). x ∷ drop (at + 1) said) (sym is)

-- the blocks that the lines from a place on end
abbrev pub ended : Known → List Said → ℕ → List Block
ended known said at = blocks_at known (at + 1) (drop at said)

pub ended_step : (known : Known) (said : List Said) (at : ℕ) (s : Said) → at < length said → s ≡ get_or said at s → ended known said at ≡ line_in_front known (at + 1) s (ended known said (at + 1))
unfolding blocks_at
ended_step known said at s within is = ap (blocks_at known (at + 1)) (opened said at s within is)

pub ended_over : (known : Known) (said : List Said) (at : ℕ) → length said ≤ at → ended known said at ≡ []
unfolding blocks_at
ended_over known said at over = ap (blocks_at known (at + 1)) (drop_all at said over)

close_front : (known : Known) (line : ℕ) (s : Said) (blocks : List Block) → is_close s ≡ true → line_in_front known line s blocks ≡ record { body = []; end = line } ∷ blocks
close_front known line Close blocks h = refl
close_front known line s blocks h = absurd cc

loop_front : (known : Known) (line turns : ℕ) (s : Said) (blocks : List Block) → turns_in s ≡ Some turns → line_in_front known line s blocks ≡ in_front (statement line (what.Loop turns (first blocks).body (first blocks).end)) (others blocks)
loop_front known line turns (Loop n) blocks h = let e : n ≡ turns = cc in rw e refl
loop_front known line turns s blocks h = absurd cc

plain_front : (known : Known) (line : ℕ) (s : Said) (blocks : List Block) → is_close s ≡ false → turns_in s ≡ None → line_in_front known line s blocks ≡ each_in_front (statement_of known line s) blocks
plain_front known line Close blocks h none = absurd cc
plain_front known line (Loop turns) blocks h none = absurd cc
plain_front known line s blocks h none = refl

-- The statements of a block as far as a place: what is read of it, and what lines from there on have of it, is the block.
pub record Reads (known : Known) (said : List Said) (from at : ℕ) (body : List Stmt) : Type 0 where
  pub body_is : (first (ended known said from)).body ≡ body ++ (first (ended known said at)).body
  pub end_is : (first (ended known said from)).end ≡ (first (ended known said at)).end
  pub others_are : others (ended known said from) ≡ others (ended known said at)
  pub onward : from ≤ at
  pub within : at ≤ length said

pub reads_none : (known : Known) (said : List Said) (from : ℕ) → from ≤ length said → Reads known said from from []
reads_none known said from within = record { body_is = refl; end_is = refl; others_are = refl; onward = omega arith; within = within }

reads_front : (known : Known) (said : List Said) (from at next : ℕ) (body now : List Stmt) (x : Stmt) → Reads known said from at body → ended known said at ≡ in_front x (ended known said next) → at ≤ next → next ≤ length said → now ≡ body ++ x ∷ []
    → Reads known said from next now
reads_front known said from at next body now x reads front onward within now_is = record {
  body_is =
      reads.body_is ∙ ap (λ bs. body ++ (first bs).body) front ∙ sym (append_assoc body (x ∷ []) (first (ended known said next)).body)
      ∙ ap (λ l. l ++ (first (ended known said next)).body) (sym now_is);
  end_is = reads.end_is ∙ ap (λ bs. (first bs).end) front;
  others_are = reads.others_are ∙ ap (λ bs. others bs) front;
  onward = let before = reads.onward in omega arith;
  within = within;
}

pub reads_statement : (known : Known) (said : List Said) (from at : ℕ) (body now : List Stmt) (s : Said) (x : Stmt) (o : Option Stmt) → Reads known said from at body → at < length said → s ≡ get_or said at s → is_close s ≡ false → turns_in s ≡ None
    → o ≡ statement_of known (at + 1) s → o ≡ Some x → now ≡ body ++ x ∷ [] → Reads known said from (at + 1) now
reads_statement known said from at body now s x o reads within is open_ none made some now_is =
    let front : ended known said at ≡ in_front x (ended known said (at + 1)) =
    ended_step known said at s within is ∙ plain_front known (at + 1) s (ended known said (at + 1)) open_ none ∙ ap (λ (m : Option Stmt). each_in_front m (ended known said (at + 1))) (sym made ∙ some) in
    reads_front known said from at (at + 1) body now x reads front (omega arith) (omega arith) now_is

pub reads_silent : (known : Known) (said : List Said) (from at : ℕ) (body now : List Stmt) (s : Said) (o : Option Stmt) → Reads known said from at body → at < length said → s ≡ get_or said at s → is_close s ≡ false → turns_in s ≡ None
    → o ≡ statement_of known (at + 1) s → o ≡ None → now ≡ body → Reads known said from (at + 1) now
reads_silent known said from at body now s o reads within is open_ none made nothing now_is =
    let same : ended known said at ≡ ended known said (at + 1) =
    ended_step known said at s within is ∙ plain_front known (at + 1) s (ended known said (at + 1)) open_ none ∙ ap (λ (m : Option Stmt). each_in_front m (ended known said (at + 1))) (sym made ∙ nothing) in
    record {
      body_is = reads.body_is ∙ ap (λ bs. body ++ (first bs).body) same ∙ ap (λ l. l ++ (first (ended known said (at + 1))).body) (sym now_is);
      end_is = reads.end_is ∙ ap (λ bs. (first bs).end) same;
      others_are = reads.others_are ∙ ap (λ bs. others bs) same;
      onward = let before = reads.onward in omega arith;
      within = omega arith;
    }

pub reads_loop : (known : Known) (said : List Said) (from at turns : ℕ) (body now : List Stmt) (s : Said) (x : Stmt) (inner : Taken) → Reads known said from at body → at < length said → s ≡ get_or said at s → turns_in s ≡ Some turns
    → IsBlock known said (at + 1) inner → x ≡ statement (at + 1) (what.Loop turns inner.body inner.end) → now ≡ body ++ x ∷ [] → Reads known said from inner.next now
reads_loop known said from at turns body now s x inner reads within is some block x_is now_is =
    let blocks = ended known said (at + 1) in
    let front : ended known said at ≡ in_front x (ended known said inner.next) =
    ended_step known said at s within is ∙ loop_front known (at + 1) turns s blocks some
    ∙ ap (λ b. in_front (statement (at + 1) (what.Loop turns b (first blocks).end)) (others blocks)) block.body
    ∙ ap (λ e. in_front (statement (at + 1) (what.Loop turns inner.body e)) (others blocks)) block.end
    ∙ ap (λ bs. in_front (statement (at + 1) (what.Loop turns inner.body inner.end)) bs) block.behind
    ∙ ap (λ y. in_front y (ended known said inner.next)) (sym x_is) in
    let more = block.onward in
    reads_front known said from at inner.next body now x reads front (omega arith) block.within now_is

pub block_closed : (known : Known) (said : List Said) (from at : ℕ) (body : List Stmt) (s : Said) (block : Taken) → Reads known said from at body → at < length said → s ≡ get_or said at s → is_close s ≡ true
    → block ≡ record { body = body; end = at + 1; next = at + 1 } → IsBlock known said from block
block_closed known said from at body s block reads within is closed block_is =
    let front : ended known said at ≡ record { body = []; end = at + 1 } ∷ ended known said (at + 1) = ended_step known said at s within is ∙ close_front known (at + 1) s (ended known said (at + 1)) closed in
    let before = reads.onward in
    rw block_is (record {
      body = reads.body_is ∙ ap (λ bs. body ++ (first bs).body) front ∙ append-nil body;
      end = reads.end_is ∙ ap (λ bs. (first bs).end) front;
      behind = reads.others_are ∙ ap (λ bs. others bs) front;
      onward = omega arith;
      within = omega arith;
    })

pub block_over : (known : Known) (said : List Said) (from at : ℕ) (body : List Stmt) (block : Taken) → Reads known said from at body → length said ≤ at → block ≡ record { body = body; end = 0; next = at } → IsBlock known said from block
block_over known said from at body block reads over block_is =
    let none = ended_over known said at over in
    rw block_is (record {
      body = reads.body_is ∙ ap (λ bs. body ++ (first bs).body) none ∙ append-nil body;
      end = reads.end_is ∙ ap (λ bs. (first bs).end) none;
      behind = reads.others_are ∙ ap (λ bs. others bs) none ∙ sym none;
      onward = reads.onward;
      within = reads.within;
    })

pub function_step : (known : Known) (said : List Said) (at : ℕ) (s : Said) → at < length said → s ≡ get_or said at s
    → functions_at known (at + 1) (drop at said) ≡ option_to_list (function_of known (at + 1) s (drop (at + 1) said)) ++ functions_at known (at + 1 + 1) (drop (at + 1) said)
unfolding functions_at
function_step known said at s within is = ap (functions_at known (at + 1)) (opened said at s within is)

pub functions_over : (known : Known) (said : List Said) (at : ℕ) → length said ≤ at → functions_at known (at + 1) (drop at said) ≡ []
unfolding functions_at
functions_over known said at over = ap (functions_at known (at + 1)) (drop_all at said over)

pub each_step : {X : Type 0} (of : ℕ → Said → Option X) (said : List Said) (at : ℕ) (s : Said) → at < length said → s ≡ get_or said at s →
    each_at of (at + 1) (drop at said) ≡ option_to_list (of (at + 1) s) ++ each_at of (at + 1 + 1) (drop (at + 1) said)
unfolding each_at
each_step of said at s within is = ap (each_at of (at + 1)) (opened said at s within is)

pub each_over : {X : Type 0} (of : ℕ → Said → Option X) (said : List Said) (at : ℕ) → length said ≤ at → each_at of (at + 1) (drop at said) ≡ []
unfolding each_at
each_over of said at over = ap (each_at of (at + 1)) (drop_all at said over)

-- A list is built from its front; what is left of it gives one more element, none, or is empty.
pub walk_push : {X : Type 0} (built now whole rest next : List X) (made o : Option X) (x : X) → built ++ rest ≡ whole → rest ≡ option_to_list made ++ next → o ≡ made → o ≡ Some x → now ≡ built ++ x ∷ [] → now ++ next ≡ whole
walk_push built now whole rest next made o x inv step is some pushed =
    let one : made ≡ Some x = sym is ∙ some in
    let front : rest ≡ x ∷ next = step ∙ ap (λ (m : Option _). option_to_list m ++ next) one in
    ap (λ l. l ++ next) pushed ∙ append_assoc built (x ∷ []) next ∙ ap (λ l. built ++ l) (sym front) ∙ inv

pub walk_stay : {X : Type 0} (built now whole rest next : List X) (made o : Option X) → built ++ rest ≡ whole → rest ≡ option_to_list made ++ next → o ≡ made → o ≡ None → now ≡ built → now ++ next ≡ whole
walk_stay built now whole rest next made o inv step is none same =
    let no : made ≡ None = sym is ∙ none in
    let front : rest ≡ next = step ∙ ap (λ (m : Option _). option_to_list m ++ next) no in
    ap (λ l. l ++ next) same ∙ ap (λ l. built ++ l) (sym front) ∙ inv

pub walk_over : {X : Type 0} (built whole rest : List X) → built ++ rest ≡ whole → rest ≡ [] → built ≡ whole
walk_over built whole rest inv over = sym (append-nil built) ∙ ap (λ l. built ++ l) (sym over) ∙ inv
