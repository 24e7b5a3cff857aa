use Rattle.std.proofs.Common.{ap, sym, Err}
use Rattle.gp_top.specs.kept.Steps.{stop_of_read, stop_of_profile, ProfileStops}
use Rattle.gp_top.proofs.Loading.{whole_read, carried, profile_read, profile_refused}
use Rattle.gp_top.proofs.load.load_profile.Goals as goal

pub returns-in_err-bytes-clause-stopped : goal.returns-in_err-bytes-clause-stopped
returns-in_err-bytes-clause-stopped g c =
    let left = g.S.Source.left in
    let faults = g.S.Source.faults in
    let e = c.in_err-bytes.field-0.0 in
    let said = c.in_err-bytes.ensures in
    carried c.from_residual.result (stop_of_read e) (ProfileStops left faults c.args.source.now c.read_all.new.source) c.from_residual.ensures.1
    (profile_read left faults c.args.source.now c.read_all.new.source e (λ q. said.too_long (ap Err q)) (λ q. said.one_more_taken (ap Err q)) (λ q. said.too_long_without_fault (ap Err q)) (λ q. said.fault (ap Err q)))

pub returns-in_err-decode-clause-stopped : goal.returns-in_err-decode-clause-stopped
returns-in_err-decode-clause-stopped g c =
    let left = g.S.Source.left in
    let faults = g.S.Source.faults in
    let e = c.in_err-decode.field-0.0 in
    let bytes = c.in_ok-bytes.bytes in
    let said = c.in_ok-bytes.ensures in
    carried c.from_residual-in_err-decode.result (stop_of_profile e) (ProfileStops left faults c.args.source.now c.read_all.new.source) c.from_residual-in_err-decode.ensures.1
    (profile_refused left faults c.args.source.now c.read_all.new.source e bytes said.all said.within (whole_read 67108864 _ _ bytes said.all said.within said.nothing_left) said.ok_without_fault
    (rw (sym c.as_slice.ensures) c.in_err-decode.ensures.refused))

pub returns-clause-whole : goal.returns-clause-whole
returns-clause-whole g c =
    whole_read 67108864 (g.S.Source.left c.args.source.now) (g.S.Source.left c.read_all.new.source) c.in_ok-bytes.bytes c.in_ok-bytes.ensures.all c.in_ok-bytes.ensures.within c.in_ok-bytes.ensures.nothing_left

pub returns-clause-accepted : goal.returns-clause-accepted
returns-clause-accepted g c = record {
  bytes = c.in_ok-bytes.bytes;
  all = c.in_ok-bytes.ensures.all;
  few = c.in_ok-bytes.ensures.within;
  gives = rw (sym c.as_slice.ensures) c.in_ok-decode.ensures.ok;
}
