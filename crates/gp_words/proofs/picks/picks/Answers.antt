use Rattle.std.proofs.Common.{◌≡◌, ◌^◌, ◌-◌, ◌+◌, ◌∷◌, [], ◌++◌, length, drop, arith, sym, ap, ◌∙◌, lit<, Some, None}
use Rattle.std.proofs.lemmas.Iterator.Splits.{YieldsList-from_str_split}
use Rattle.std.proofs.lemmas.Iterator.Consumers.{YieldsList-turn, YieldsList-end}
use Rattle.std.proofs.lemmas.List.{length_push}
use Rattle.gp_words.specs.Numbers.{numbers_of, pieces_of, number_in}
use Rattle.gp_words.proofs.Lists.{after, one_more, one_bad, all_read, picks_bad, picks_many, picks_read, in_range}
use Rattle.gp_words.proofs.picks.picks.Goals as goal

pub returns-in_default : goal.returns-in_default
returns-in_default c =
    let word = c.args.word.now in
    let pieces = YieldsList-from_str_split {s = c.into_iter-piece-iterator.result} 44 word (lit< tt) (cc) (cc) (cc) in
    let t = YieldsList-turn pieces c.loop-piece.yielded _ c.loop-piece.yielded_by _ _ c.in-Some.piece c.in-Some.is c.next.ensures.steps in
    let k = length c.loop-piece.yielded in
    let none : number_in 0 (2 ^ 32 - 1) c.in-Some.piece.now ≡ None = cc in
    sym (picks_bad word (one_bad (pieces_of word) k c.in-Some.piece.now c.loop-piece.picks t c.loop-piece.invariant.0 none))

pub returns-then-len-eq-PICKS : goal.returns-then-len-eq-PICKS
returns-then-len-eq-PICKS c =
    let word = c.args.word.now in
    let pieces = YieldsList-from_str_split {s = c.into_iter-piece-iterator.result} 44 word (lit< tt) (cc) (cc) (cc) in
    let t = YieldsList-turn pieces c.loop-piece.yielded _ c.loop-piece.yielded_by _ _ c.in-Some.piece c.in-Some.is c.next.ensures.steps in
    sym (picks_many word (omega (arith, t.0)))

pub overflow_cast-pick : goal.overflow_cast-pick
overflow_cast-pick c =
    let some : number_in 0 (2 ^ 32 - 1) c.in-Some.piece.now ≡ Some c.in-Some-number.pick = cc in
    omega (arith, in_range 0 (2 ^ 32 - 1) c.in-Some.piece.now c.in-Some-number.pick some)

pub loop-piece-preserved : goal.loop-piece-preserved
loop-piece-preserved c =
    let word = c.args.word.now in
    let pieces = YieldsList-from_str_split {s = c.into_iter-piece-iterator.result} 44 word (lit< tt) (cc) (cc) (cc) in
    let t = YieldsList-turn pieces c.loop-piece.yielded _ c.loop-piece.yielded_by _ _ c.in-Some.piece c.in-Some.is c.next.ensures.steps in
    let k = length c.loop-piece.yielded in
    let numbers = c.loop-piece.picks in
    let some : number_in 0 (2 ^ 32 - 1) c.in-Some.piece.now ≡ Some c.in-Some-number.pick = cc in
    let more = one_more (pieces_of word) k c.in-Some.piece.now numbers c.in-Some-number.pick t c.loop-piece.invariant.0 some in
    let n = length_push c.loop-piece.yielded c.in-Some.piece in
    let m = length_push numbers c.in-Some-number.pick in
    let pushed : c.push.new.self ≡ numbers ++ c.in-Some-number.pick ∷ [] = c.in_ok-push.ensures.ok in
    let same : length c.push.new.self ≡ length numbers + 1 = ap length pushed ∙ m in
    let place : k + 1 ≡ length (c.loop-piece.yielded ++ c.in-Some.piece ∷ []) = sym n in (
      more ∙ (ap (λ xs. after xs (numbers_of (drop (k + 1) (pieces_of word)))) (sym pushed)
          ∙ ap (λ j. after c.push.new.self (numbers_of (drop j (pieces_of word)))) place),
      omega arith,
      omega arith,
    )

pub returns : goal.returns
returns c =
    let word = c.args.word.now in
    let pieces = YieldsList-from_str_split {s = c.into_iter-piece-iterator.result} 44 word (lit< tt) (cc) (cc) (cc) in
    let t = YieldsList-end pieces c.loop-piece.yielded _ c.loop-piece.yielded_by _ _ c.in-None.is c.next.ensures.steps in
    let k = length c.loop-piece.yielded in
    let all = all_read (pieces_of word) k c.loop-piece.picks (omega (arith, t)) c.loop-piece.invariant.0 in
    sym (picks_read word c.loop-piece.picks (omega (arith, t)) all)
