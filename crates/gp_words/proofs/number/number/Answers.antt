use Rattle.std.proofs.Common.{arith, sym, ◌∙◌}
use Rattle.gp_words.proofs.Digits.{none_in, parsed_some, parsed_none, value_in, value_below, value_above}
use Rattle.gp_words.proofs.number.number.Goals as goal
use Rattle.gp_words.proofs.number.number.Goals.{then-number-least-via-then-number-least, then-number-least-via-else-number-least+then-number-most}

pub returns-then-not-is_number : goal.returns-then-not-is_number
returns-then-not-is_number c = sym (none_in c.args.least c.args.most c.args.word.now cc)

pub returns-in_err-number : goal.returns-in_err-number
returns-in_err-number c =
    let word = c.args.word.now in
    let e = parsed_none word c.parse.result c.args.least c.args.most (omega arith) (cc) (sym c.ok.ensures.value ∙ c.in_err-number.was) c.parse.ensures.value.0 in cc

pub returns-then-number-least : goal.returns-then-number-least
returns-then-number-least c =
    let word = c.args.word.now in
    let v = parsed_some word c.parse.result c.in_ok-number.number (cc) (sym c.ok.ensures.value ∙ c.in_ok-number.was) c.parse.ensures.value.0 in
    elim c.then-number-least.branch [
      | then-number-least-via-then-number-least w ↦ sym (value_below c.args.least c.args.most word (cc) (omega arith))
      | then-number-least-via-else-number-least+then-number-most w ↦ sym (value_above c.args.least c.args.most word (cc) (omega arith))
    ]

pub returns : goal.returns
returns c =
    let word = c.args.word.now in
    let v = parsed_some word c.parse.result c.in_ok-number.number (cc) (sym c.ok.ensures.value ∙ c.in_ok-number.was) c.parse.ensures.value.0 in
    let e = value_in c.args.least c.args.most word (cc) (omega arith) (omega arith) in cc
