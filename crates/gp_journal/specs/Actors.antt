-- Who makes each entry.
use Rattle.std.specs.Prelude.{ℕ, ◌==◌, List, count_by}
use Rattle.gp_journal.specs.declared.entry.Entry.{Entry}
use Rattle.gp_journal.specs.declared.entry.Entry.TheVariants.{Start, Run, Op, Tick, Park, Open, Refuse, Record, Close}
use Rattle.gp_journal.specs.declared.settings.Settings.{Settings}

-- the actor that makes an entry, the profiler having a number behind the workers
abbrev pub actor_of : ℕ → Entry → ℕ
actor_of profiler (Start w g) = w
actor_of profiler (Run w g n) = w
actor_of profiler (Op w g) = w
actor_of profiler (Tick w g) = w
actor_of profiler (Park w g) = w
actor_of profiler (Open epoch room) = profiler
actor_of profiler (Refuse room n) = profiler
actor_of profiler (Record actor g) = actor
actor_of profiler (Close epoch) = profiler

-- how many entries of a journal an actor made
abbrev pub made_by : Settings → ℕ → List Entry → ℕ
made_by settings actor journal = count_by (λ entry. actor_of settings.workers entry == actor) journal
