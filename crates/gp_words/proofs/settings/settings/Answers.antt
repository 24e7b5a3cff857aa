use Rattle.std.proofs.Common.{◌≡◌, ◌∙◌, ap, sym, subst, arith}
use Rattle.gp_journal.specs.Settings.{AreInRange}
use Rattle.gp_words.specs.declared.setting.Setting.TheVariants.{Workers, Room, Hz, Block, Mutex, Seed, Cells, Entries, Ring, Tags}
use Rattle.gp_words.specs.Settings.{number_or, instants_of}
use Rattle.gp_words.proofs.Ranges.{built, settings_range, workers_range, cells_range, room_range, hz_range, block_range, mutex_range, entries_range, ring_range, tags_range}
use Rattle.gp_words.proofs.settings.settings.Goals as goal

pub returns-clause-settings : goal.returns-clause-settings
returns-clause-settings c =
    let same : c.as_slice-choices.result.now ≡ c.args.taken = c.as_slice-choices.ensures in
    built c.args.taken _ _ _ _ _ _ _ _ _ _ _ _
    (c.number-workers.ensures ∙ ap (number_or 2 Workers) same)
    (c.in_ok-at.ensures ∙ ap instants_of same)
    (c.number-cells.ensures ∙ ap (number_or 1024 Cells) same)
    (c.number-room.ensures ∙ ap (number_or c.number-cells.result Room) same)
    (c.number-hz.ensures ∙ ap (number_or 100 Hz) same)
    (c.number-block.ensures ∙ ap (number_or 0 Block) same)
    (c.number-mutex.ensures ∙ ap (number_or 0 Mutex) same)
    (c.number-seed.ensures ∙ ap (number_or 42 Seed) same)
    (c.number-entries.ensures ∙ ap (number_or 262144 Entries) same)
    (c.number-ring.ensures ∙ ap (number_or 131072 Ring) same)
    (c.number-tags.ensures ∙ ap (number_or 16384 Tags) same)
    c.list.ensures

pub returns-clause-range : goal.returns-clause-range
returns-clause-range c = subst AreInRange (sym (returns-clause-settings c)) (settings_range c.args.taken c.requires)

pub overflow_cast-workers : goal.overflow_cast-workers
overflow_cast-workers c =
    let same : c.as_slice-choices.result.now ≡ c.args.taken = c.as_slice-choices.ensures in
    omega (arith, workers_range c.args.taken c.requires, c.number-workers.ensures ∙ ap (number_or 2 Workers) same)

pub overflow_cast-hz : goal.overflow_cast-hz
overflow_cast-hz c =
    let same : c.as_slice-choices.result.now ≡ c.args.taken = c.as_slice-choices.ensures in
    omega (arith, hz_range c.args.taken c.requires, c.number-hz.ensures ∙ ap (number_or 100 Hz) same)

pub overflow_cast-block : goal.overflow_cast-block
overflow_cast-block c =
    let same : c.as_slice-choices.result.now ≡ c.args.taken = c.as_slice-choices.ensures in
    omega (arith, block_range c.args.taken c.requires, c.number-block.ensures ∙ ap (number_or 0 Block) same)

pub overflow_cast-mutex : goal.overflow_cast-mutex
overflow_cast-mutex c =
    let same : c.as_slice-choices.result.now ≡ c.args.taken = c.as_slice-choices.ensures in
    omega (arith, mutex_range c.args.taken c.requires, c.number-mutex.ensures ∙ ap (number_or 0 Mutex) same)

pub overflow_cast-entries : goal.overflow_cast-entries
overflow_cast-entries c =
    let same : c.as_slice-choices.result.now ≡ c.args.taken = c.as_slice-choices.ensures in
    omega (arith, entries_range c.args.taken c.requires, c.number-entries.ensures ∙ ap (number_or 262144 Entries) same)

pub overflow_cast-ring : goal.overflow_cast-ring
overflow_cast-ring c =
    let same : c.as_slice-choices.result.now ≡ c.args.taken = c.as_slice-choices.ensures in
    omega (arith, ring_range c.args.taken c.requires, c.number-ring.ensures ∙ ap (number_or 131072 Ring) same)

pub overflow_cast-tags : goal.overflow_cast-tags
overflow_cast-tags c =
    let same : c.as_slice-choices.result.now ≡ c.args.taken = c.as_slice-choices.ensures in
    omega (arith, tags_range c.args.taken c.requires, c.number-tags.ensures ∙ ap (number_or 16384 Tags) same)

pub overflow_cast-cells : goal.overflow_cast-cells
overflow_cast-cells c =
    let same : c.as_slice-choices.result.now ≡ c.args.taken = c.as_slice-choices.ensures in
    omega (arith, cells_range c.args.taken c.requires, c.number-cells.ensures ∙ ap (number_or 1024 Cells) same)

pub overflow_cast-room : goal.overflow_cast-room
overflow_cast-room c =
    let same : c.as_slice-choices.result.now ≡ c.args.taken = c.as_slice-choices.ensures in
    let cells = c.number-cells.ensures ∙ ap (number_or 1024 Cells) same in
    omega (arith, room_range c.args.taken c.requires, c.number-room.ensures ∙ (ap (number_or c.number-cells.result Room) same ∙ ap (λ n. number_or n Room c.args.taken) cells))
