use Rattle.std.proofs.Common.{◌≡◌, false, refl}
use Rattle.std.specs.Str.{is_utf8}
use Rattle.std.proofs.lemmas.Bool.{false_from_ne_true}
use Rattle.std.proofs.lemmas.Str.{is_utf8-from_IsUtf8, IsUtf8-from_is_utf8}
use Rattle.gp_wire.proofs.taking.text.Goals as goal

pub returns-in_ok-from_str-in-Ok-clause-fine : goal.returns-in_ok-from_str-in-Ok-clause-fine
returns-in_ok-from_str-in-Ok-clause-fine c = rw (is_utf8-from_IsUtf8 c.args.bytes.now c.in-Ok.ensures.cases.1) refl

pub returns-in-Err-clause-fault : goal.returns-in-Err-clause-fault
returns-in-Err-clause-fault c =
    let bytes = c.args.bytes.now in
    let none : is_utf8 bytes ≡ false = false_from_ne_true (is_utf8 bytes) (λ t. c.in-Err.ensures.cases.0 (IsUtf8-from_is_utf8 bytes t)) in
    rw none refl
