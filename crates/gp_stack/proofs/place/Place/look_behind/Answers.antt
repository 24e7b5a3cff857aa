use Rattle.std.proofs.Common.{rules, ◌≡◌, ◌≤◌, ◌-◌, ◌+◌, List, reverse, take, length, arith, sym, subst, ◌∙◌}
use Rattle.std.proofs.lemmas.List.{take_all}
use Rattle.gp_stack.specs.declared.level.Level.{Level}
use Rattle.gp_isa.specs.declared.statement.Stmt.{Stmt}
use Rattle.gp_stack.specs.kept.Level.{left, left_here}
use Rattle.gp_stack.specs.kept.Looks.{steps, peek_of}
use Rattle.gp_stack.specs.kept.Place.{levels, stepped, room, Fit}
use Rattle.gp_stack.proofs.Moves.{body_moved}
use Rattle.gp_stack.proofs.Peeks.{Sees}
use Rattle.gp_stack.proofs.Looking.{LevelSeen, first_stop, first_on, level_few, outer_on, outer_stop, outer_end, fit_inner}
use Rattle.gp_stack.proofs.place.Place.look_behind.Goals as goal

pub returns-then-not-is_over : goal.returns-then-not-is_over
returns-then-not-is_over c =
    let looked : LevelSeen c.args.program.now (record c.args.self.now.top { at = c.args.self.now.top.at + 1 }) (reverse c.args.self.now.outer.items) c.look_here-first.result c.args.limit =
    subst (λ (body : List Stmt). c.look_here-first.result ≡ peek_of (steps (left_here c.args.program.now (record c.args.self.now.top { at = c.args.self.now.top.at + 1 }) body)) c.args.limit)
    (c.requires.here.statements ∙ sym (body_moved c.args.program.now c.args.self.now.top (c.args.self.now.top.at + 1) (reverse c.args.self.now.outer.items))) c.look_here-first.ensures in
    first_stop c.args.program.now (record c.args.self.now.top { at = c.args.self.now.top.at + 1 }) (reverse c.args.self.now.outer.items) c.args.limit c.look_here-first.result looked c.if-not-is_over.ensures.more

pub loop-around-init : goal.loop-around-init
loop-around-init c =
    let looked : LevelSeen c.args.program.now (record c.args.self.now.top { at = c.args.self.now.top.at + 1 }) (reverse c.args.self.now.outer.items) c.look_here-first.result c.args.limit =
    subst (λ (body : List Stmt). c.look_here-first.result ≡ peek_of (steps (left_here c.args.program.now (record c.args.self.now.top { at = c.args.self.now.top.at + 1 }) body)) c.args.limit)
    (c.requires.here.statements ∙ sym (body_moved c.args.program.now c.args.self.now.top (c.args.self.now.top.at + 1) (reverse c.args.self.now.outer.items))) c.look_here-first.ensures in
    let whole : length c.args.self.now.outer.items ≤ c.len-around.result = search rules in
    let all : take c.len-around.result c.args.self.now.outer.items ≡ c.args.self.now.outer.items = take_all c.len-around.result c.args.self.now.outer.items whole in
    record {
      few = level_few c.args.program.now (record c.args.self.now.top { at = c.args.self.now.top.at + 1 }) (reverse c.args.self.now.outer.items) c.args.limit c.look_here-first.result looked;
      within = search rules;
      fit = subst (λ (ls : List Level). Fit c.args.program.now (room c.args.program.now) (reverse ls)) (sym all) c.requires.place.fit.2;
      sees = subst (λ (ls : List Level). Sees (steps (left c.args.program.now (stepped (levels c.args.self.now)))) c.args.limit c.look_here-first.result.local (steps (left c.args.program.now (reverse ls)))) (sym all)
          (first_on c.args.program.now (record c.args.self.now.top { at = c.args.self.now.top.at + 1 }) (reverse c.args.self.now.outer.items) c.args.limit c.look_here-first.result looked c.if-not-is_over.ensures.over);
    }

pub overflow_add-local : goal.overflow_add-local
overflow_add-local c =
    let within : c.loop-around.around ≤ length c.args.self.now.outer.items = search rules in
    let looked : LevelSeen c.args.program.now c.index-level.result.now (reverse (take (c.loop-around.around - 1) c.args.self.now.outer.items)) c.look_level-seen.result (c.args.limit - c.loop-around.local) =
    rw (← c.as_slice.ensures.value) c.look_level-seen.ensures in
    let few : c.look_level-seen.result.local ≤ c.args.limit - c.loop-around.local = level_few c.args.program.now c.index-level.result.now (reverse (take (c.loop-around.around - 1) c.args.self.now.outer.items)) (c.args.limit - c.loop-around.local)
    c.look_level-seen.result looked in
    omega (arith, c.loop-around.invariant.few)

pub returns-then-not-is_over-2 : goal.returns-then-not-is_over-2
returns-then-not-is_over-2 c =
    let within : c.loop-around.around ≤ length c.args.self.now.outer.items = search rules in
    let looked : LevelSeen c.args.program.now c.index-level.result.now (reverse (take (c.loop-around.around - 1) c.args.self.now.outer.items)) c.look_level-seen.result (c.args.limit - c.loop-around.local) =
    rw (← c.as_slice.ensures.value) c.look_level-seen.ensures in
    outer_stop c.args.program.now (steps (left c.args.program.now (stepped (levels c.args.self.now)))) c.args.self.now.outer.items c.loop-around.around c.args.limit c.loop-around.local c.index-level.result.now c.look_level-seen.result (omega arith)
    within c.index-level.ensures looked c.loop-around.invariant.sees c.if-not-is_over-2.ensures.more

pub loop-around-preserved : goal.loop-around-preserved
loop-around-preserved c =
    let within : c.loop-around.around ≤ length c.args.self.now.outer.items = search rules in
    let looked : LevelSeen c.args.program.now c.index-level.result.now (reverse (take (c.loop-around.around - 1) c.args.self.now.outer.items)) c.look_level-seen.result (c.args.limit - c.loop-around.local) =
    rw (← c.as_slice.ensures.value) c.look_level-seen.ensures in
    let few : c.look_level-seen.result.local ≤ c.args.limit - c.loop-around.local = level_few c.args.program.now c.index-level.result.now (reverse (take (c.loop-around.around - 1) c.args.self.now.outer.items)) (c.args.limit - c.loop-around.local)
    c.look_level-seen.result looked in
    record {
      few = omega (arith, c.loop-around.invariant.few);
      within = omega (arith, c.loop-around.invariant.within);
      fit = (fit_inner c.args.program.now (room c.args.program.now) c.loop-around.around c.args.self.now.outer.items c.index-level.result.now (omega arith) within c.index-level.ensures c.loop-around.invariant.fit).2;
      sees = outer_on c.args.program.now (steps (left c.args.program.now (stepped (levels c.args.self.now)))) c.args.self.now.outer.items c.loop-around.around c.args.limit c.loop-around.local c.index-level.result.now c.look_level-seen.result
          (omega arith) within c.index-level.ensures looked c.loop-around.invariant.sees c.if-not-is_over-2.ensures.over;
    }

pub returns : goal.returns
returns c = outer_end c.args.program.now (steps (left c.args.program.now (stepped (levels c.args.self.now)))) c.args.self.now.outer.items c.loop-around.around c.args.limit c.loop-around.local (omega arith) c.loop-around.invariant.sees
