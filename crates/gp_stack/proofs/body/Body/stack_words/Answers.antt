use Rattle.std.proofs.Common.{rules, ◌≡◌, ◌≤◌, ◌<◌, ◌∷◌, ◌∙◌, ap, sym, arith, take, drop, map, length, min}
use Rattle.std.proofs.lemmas.List.{length-set}
use Rattle.gp_stack.specs.kept.Climb.{frames_left}
use Rattle.gp_stack.specs.Word.{word_of}
use Rattle.gp_stack.proofs.Shown.{words_more, left_more, there_more, rest_more, min_full, min_all, words_first, rest_first}
use Rattle.gp_stack.proofs.Stands.{frames_of, stack_is}
use Rattle.gp_stack.proofs.body.Body.stack_words.Goals as goal

pub loop-written-init : goal.loop-written-init
loop-written-init c =
    let some : 0 < length c.args.to.now = search rules in
    record {
      few = search (rules, length-set);
      there = omega arith;
      words = words_first c.args.to.now c.leaf.result _ c.word.result some c.word.ensures c.leaf.ensures;
      left = sym (c.new-climb.ensures.frames c.args.program.now);
      rest = rest_first c.args.to.now c.word.result;
      within = c.new-climb.ensures.within;
    }

pub loop-written-preserved : goal.loop-written-preserved
loop-written-preserved c =
    let next : drop c.loop-written.written (frames_of c.args.program.now c.args.self.now.place) ≡ c.in-Some.frame ∷ frames_left c.args.program.now c.args.self.now.place c.next.new.self =
    c.loop-written.invariant.left ∙ c.in-Some.ensures.frames in
    let within : c.loop-written.written < length c.loop-written.to = search rules in
    record {
      few = omega (arith, length-set c.loop-written.to c.loop-written.written c.word-in-Some.result);
      there = there_more (frames_of c.args.program.now c.args.self.now.place) _ c.in-Some.frame c.loop-written.written next;
      words = rw c.word-in-Some.ensures (words_more (frames_of c.args.program.now c.args.self.now.place) (frames_left c.args.program.now c.args.self.now.place c.next.new.self) c.in-Some.frame c.loop-written.to c.loop-written.written within next
          c.loop-written.invariant.words);
      left = left_more (frames_of c.args.program.now c.args.self.now.place) _ c.in-Some.frame c.loop-written.written next;
      rest = rest_more c.loop-written.to c.args.to.now c.loop-written.written c.word-in-Some.result c.loop-written.invariant.rest;
      within = c.in-Some.ensures.within;
    }

pub returns-in-None-clause-count : goal.returns-in-None-clause-count
returns-in-None-clause-count c =
    let same : length c.loop-written.to ≡ length c.args.to.now = search rules in
    min_all (frames_of c.args.program.now c.args.self.now.place) _ c.loop-written.written (length c.args.to.now) (omega arith) c.loop-written.invariant.there c.loop-written.invariant.left c.in-None.ensures.frames ∙
    ap (λ frames. min (length c.args.to.now) (length frames)) (stack_is c.args.program.now c.args.self.now c.requires.stands c.requires.going)

pub returns-in-None-clause-words : goal.returns-in-None-clause-words
returns-in-None-clause-words c =
    c.loop-written.invariant.words ∙ ap (λ frames. map word_of (take c.loop-written.written frames)) (stack_is c.args.program.now c.args.self.now c.requires.stands c.requires.going)

pub returns-clause-count : goal.returns-clause-count
returns-clause-count c =
    let same : length c.loop-written.to ≡ length c.args.to.now = search rules in
    let full : length c.loop-written.to ≤ c.loop-written.written = search rules in
    min_full (frames_of c.args.program.now c.args.self.now.place) c.loop-written.written (length c.args.to.now) (omega arith) (omega arith) c.loop-written.invariant.there ∙
    ap (λ frames. min (length c.args.to.now) (length frames)) (stack_is c.args.program.now c.args.self.now c.requires.stands c.requires.going)

pub returns-clause-words : goal.returns-clause-words
returns-clause-words c =
    c.loop-written.invariant.words ∙ ap (λ frames. map word_of (take c.loop-written.written frames)) (stack_is c.args.program.now c.args.self.now c.requires.stands c.requires.going)
