use Rattle.std.proofs.Common.{◌≡◌, ◌+◌, Bool, List, length, drop, sym, ap, ◌∙◌, subst, arith}
use Rattle.std.proofs.lemmas.List.{take_at}
use Rattle.gp_isa.specs.kept.Ways.{AreLeads, GoThrough}
use Rattle.gp_isa.proofs.Leads.{leads_none, leads_more}
use Rattle.gp_isa.proofs.calls.lead_rows.Goals as goal

pub loop-through-init : goal.loop-through-init
loop-through-init c = record {
  len = c.in_ok-calls.ensures.len;
  leads = leads_none c.args.parts.now c.in_ok-calls.calls.rows.items c.in_ok-calls.ensures.calls;
}

pub loop-through-preserved : goal.loop-through-preserved
loop-through-preserved c =
    let size : length c.go_through.new.rows ≡ c.loop-through.calls.rows.len = omega arith in
    let written = take_at c.go_through.new.rows (drop (length c.go_through.new.rows) c.loop-through.calls.rows.items) c.loop-through.calls.rows.len size in
    let before : length c.loop-through.calls.rows.items ≡ length c.go_through.new.rows = sym (ap length c.as_mut_slice.ensures.value) ∙ sym c.go_through.auto.rows in
    record {
      len = ap length written ∙ omega (arith, before, c.loop-through.invariant.len);
      leads = subst (AreLeads c.args.parts.now (c.loop-through.through + 1)) (sym written)
          (leads_more c.args.parts.now c.loop-through.through c.loop-through.calls.rows.items c.go_through.new.rows c.loop-through.invariant.leads
          (subst (λ (old : List (List Bool)). GoThrough old c.go_through.new.rows c.loop-through.through) c.as_mut_slice.ensures.value c.go_through.ensures));
    }
