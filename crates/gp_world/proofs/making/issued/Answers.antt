use Rattle.std.proofs.Common.{◌≡◌, ◌+◌, ℕ, zero, suc, List, [], ◌∷◌, ◌++◌, length, map, sym, ap, ◌∙◌, arith}
use Rattle.std.specs.List.{range_with_len}
use Rattle.std.proofs.lemmas.List.{map-append, replicate-append-replicate, length-replicate}
use Rattle.atomic_table.specs.Seated.{TableId}
use Rattle.gp_tally.specs.declared.row.Row.{Row}
use Rattle.gp_world.specs.Rows.{blank, share_of}
use Rattle.gp_world.proofs.making.issued.Goals as goal

range_push : (a n : ℕ) → range_with_len a (suc n) ≡ range_with_len a n ++ (a + n) ∷ []
range_push a zero = let e : a ≡ a + 0 = omega arith in ap (λ (k : ℕ). k ∷ []) e
range_push a (suc n) =
    let e : a + 1 + n ≡ a + suc n = omega arith in
    ap (λ (rest : List ℕ). a ∷ rest) (range_push (a + 1) n ∙ ap (λ k. range_with_len (a + 1) n ++ k ∷ []) e)

-- one share more
shares_push : (book : TableId) (n : ℕ) → map (share_of book) (range_with_len 0 (n + 1)) ≡ map (share_of book) (range_with_len 0 n) ++ share_of book n ∷ []
shares_push book n =
    let one : n + 1 ≡ suc n = omega arith in
    let here : 0 + n ≡ n = omega arith in
    ap (λ k. map (share_of book) (range_with_len 0 k)) one
    ∙ ap (map (share_of book)) (range_push 0 n)
    ∙ map-append (share_of book) (range_with_len 0 n) ((0 + n) ∷ [])
    ∙ ap (λ k. map (share_of book) (range_with_len 0 n) ++ share_of book k ∷ []) here

pub loop-preserved : goal.loop-preserved
loop-preserved c =
    let old = c.loop.invariant in
    let book = c.issue.ensures.same.0 in
    let number : c.issue.result.number ≡ c.loop.counter = c.issue.ensures.number ∙ ap length old.rows ∙ length-replicate c.loop.counter blank in
    let share : c.issue.result ≡ share_of c.loop.book.book c.loop.counter = λ i. record { book = c.issue.ensures.book i; number = number i; row = c.issue.ensures.row i } in
    record {
      rows = c.issue.ensures.rows ∙ ap (λ (rows : List Row). rows ++ blank ∷ []) old.rows ∙ replicate-append-replicate c.loop.counter 1 blank;
      room = c.issue.ensures.same.1 ∙ old.room;
      shares = c.in_ok-push.ensures.items ∙ (λ i. old.shares i ++ share i ∷ []) ∙ sym (shares_push c.loop.book.book c.loop.counter)
          ∙ ap (λ (b : TableId). map (share_of b) (range_with_len 0 (c.loop.counter + 1))) (sym book);
    }
