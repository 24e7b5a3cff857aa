use Rattle.std.proofs.Common.{◌≡◌, true, false, length, string_bytes, sym, ap, ◌∙◌}
use Rattle.std.proofs.lemmas.Bool.{eqb-true, eqb-false}
use Rattle.gp_words.specs.declared.jobs.Job.TheVariants.{Dump}
use Rattle.gp_words.specs.Words.{texts, is_file_word}
use Rattle.gp_words.specs.Read.{Names}
use Rattle.gp_words.specs.Job.{dump_of}
use Rattle.gp_words.proofs.Commands.{dump_none, dump_no_file, dump_more, dump_file}
use Rattle.gp_words.proofs.words.dump.Goals as goal

pub returns-in_default-clause-said : goal.returns-in_default-clause-said
returns-in_default-clause-said c = dump_none c.args.words.now c.in_default.ensures.cases

pub returns-then-not-is_file_word-clause-said : goal.returns-then-not-is_file_word-clause-said
returns-then-not-is_file_word-clause-said c =
    let file = string_bytes c.in-Some.profile.now in
    let is : is_file_word file ≡ false = ap is_file_word (sym c.as_str-profile.ensures.value) ∙ sym c.if-not-is_file_word.ensures in
    ap (λ ws. dump_of (texts ws)) c.in-Some.ensures.cases.0 ∙ dump_no_file file (texts c.in-Some.more.now) is

pub returns-then-not-is_empty-clause-said : goal.returns-then-not-is_empty-clause-said
returns-then-not-is_empty-clause-said c =
    let file = string_bytes c.in-Some.profile.now in
    let is : is_file_word file ≡ true = ap is_file_word (sym c.as_str-profile.ensures.value) ∙ sym c.if-not-is_file_word.ensures in
    ap (λ ws. dump_of (texts ws)) c.in-Some.ensures.cases.0 ∙ dump_more file c.in-Some.more.now is (eqb-false (length c.in-Some.more.now) 0 (sym c.if-not-is_empty.ensures))

pub returns-clause-said : goal.returns-clause-said
returns-clause-said c =
    let file = string_bytes c.in-Some.profile.now in
    let is : is_file_word file ≡ true = ap is_file_word (sym c.as_str-profile.ensures.value) ∙ sym c.if-not-is_file_word.ensures in
    let name : file ≡ c.in_ok-file.file = sym (c.in_ok-file.ensures ∙ c.as_str-profile.ensures.value) in
    ap (λ ws. dump_of (texts ws)) c.in-Some.ensures.cases.0
    ∙ (dump_file file c.in-Some.more.now is (eqb-true (length c.in-Some.more.now) 0 (sym c.if-not-is_empty.ensures)) ∙ ap (λ f. Names (Dump f)) name)
