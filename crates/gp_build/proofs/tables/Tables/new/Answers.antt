use Rattle.std.proofs.Common.{List, ap, ◌∙◌}
use Rattle.std.specs.List.{flat_map}
use Rattle.indexmap.specs.IndexSet.{insert_all}
use Rattle.gp_build.specs.declared.site.Routine.{Routine}
use Rattle.gp_build.specs.declared.site.Site.{Site}
use Rattle.gp_build.specs.Numbers.{string_table, location_table, function_table, sample_needs, all_sites, routines_of}
use Rattle.gp_build.specs.Site.{same_site, same_routine}
use Rattle.gp_build.specs.laws.Alike.{same_need_equiv, same_site_equiv, same_routine_equiv}
use Rattle.gp_build.proofs.FirstSeen.{seen_more, insert_all-nil}
use Rattle.gp_build.proofs.tables.Tables.new.Goals as goal

pub returns-clause-strings : goal.returns-clause-strings
unfolding string_table
returns-clause-strings c =
    seen_more same_need_equiv _ _ _ (flat_map (sample_needs c.args.parts.now c.args.file.now) c.args.samples.now)
    c.in_ok-first_strings.ensures c.in_ok-need_samples.ensures.strings

pub returns-clause-locations : goal.returns-clause-locations
unfolding location_table
returns-clause-locations c =
    c.in_ok-need_samples.ensures.locations
    ∙ ap (λ (keys : List Site). insert_all same_site keys (all_sites c.args.samples.now)) c.new.ensures.empty
    ∙ insert_all-nil same_site_equiv (all_sites c.args.samples.now)

pub returns-clause-functions : goal.returns-clause-functions
unfolding function_table
returns-clause-functions c =
    c.in_ok-need_samples.ensures.functions
    ∙ ap (λ (keys : List Routine). insert_all same_routine keys (routines_of (all_sites c.args.samples.now))) c.new-2.ensures.empty
    ∙ insert_all-nil same_routine_equiv (routines_of (all_sites c.args.samples.now))
