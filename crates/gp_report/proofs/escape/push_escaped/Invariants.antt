use Rattle.std.proofs.Common.{◌≡◌, ◌++◌, length, string_bytes}
use Rattle.std.specs.Str.{IsUtf8}
use Rattle.gp_report.specs.Dump.{escaped}
use Rattle.gp_report.proofs.escape.push_escaped.Given as goal

-- What was written, and the rest with its escapes, are what has to come.
abbrev pub invariant-loop-at : goal.invariant-loop-at
invariant-loop-at l = record {
  utf8 : IsUtf8 l.rest;
  so_far : string_bytes l.out ++ escaped l.rest ≡ string_bytes l.initial.out ++ escaped l.text;
}

abbrev pub decreases-loop-at : goal.decreases-loop-at
decreases-loop-at l = length l.rest
