-- The limits, each a plain number in its unit. Definitions and clauses of all crates cite them by these names.
use Rattle.std.specs.Prelude.{ℕ, ◌^◌}

-- Of a program file: its bytes.
abbrev pub file_bytes : ℕ
file_bytes = 1048576

-- the bytes of a profile that is read
abbrev pub profile_bytes : ℕ
profile_bytes = 67108864

-- the bytes of a name, of a label's key and of its value
abbrev pub name_bytes : ℕ
name_bytes = 64

-- the digits of a number
abbrev pub number_digits : ℕ
number_digits = 20

-- the functions, channels, mutexes and label sets that are declared
abbrev pub most_functions : ℕ
most_functions = 256

abbrev pub most_channels : ℕ
most_channels = 1024

abbrev pub most_mutexes : ℕ
most_mutexes = 1024

abbrev pub most_label_sets : ℕ
most_label_sets = 255

-- the pairs of a label set
abbrev pub most_pairs : ℕ
most_pairs = 16

-- the values that a channel holds
abbrev pub most_capacity : ℕ
most_capacity = 65535

-- the instructions of one `work`, and the turns of one `loop`
abbrev pub most_count : ℕ
most_count = 4294967295

-- the loops that stand inside each other
abbrev pub most_loops : ℕ
most_loops = 8

-- the points of a trace
abbrev pub most_points : ℕ
most_points = 2 ^ 40

-- Of a run's options: workers, and cells, which are the goroutines that may be born.
abbrev pub most_workers : ℕ
most_workers = 16

abbrev pub most_cells : ℕ
most_cells = 16384

-- the goroutine profiles that are asked for, and the records that one has room for
abbrev pub most_requests : ℕ
most_requests = 8

abbrev pub most_room : ℕ
most_room = 16384

-- the clock of an instant at which a profile is asked for, in instructions
abbrev pub most_instant : ℕ
most_instant = 2 ^ 40

-- the entries at which a journal is full
abbrev pub least_entries : ℕ
least_entries = 16

abbrev pub most_entries : ℕ
most_entries = 4194304

-- Ticks: a worker's samples a second lie so that a second's instructions, 1,000 nanoseconds each, are a multiple.
abbrev pub instructions_per_second : ℕ
instructions_per_second = 1000000

-- the block profile's rate, and the mutex profile's fraction
abbrev pub most_block_rate : ℕ
most_block_rate = 1

abbrev pub most_mutex_fraction : ℕ
most_mutex_fraction = 1000000000

-- the words of the ring of CPU samples, and its tags
abbrev pub least_ring_words : ℕ
least_ring_words = 16

abbrev pub most_ring_words : ℕ
most_ring_words = 1048576

abbrev pub most_tags : ℕ
most_tags = 1048576

-- the numbers of `--picks`
abbrev pub most_picks : ℕ
most_picks = 100000

-- The quantum: the instructions that a goroutine runs before it makes way.
abbrev pub quantum : ℕ
quantum = 1000

-- the nanoseconds that an instruction counts as
abbrev pub instruction_time : ℕ
instruction_time = 1000

-- The frames of a stack in each profile, from the leaf on.
abbrev pub goroutine_frames : ℕ
goroutine_frames = 32

abbrev pub block_frames : ℕ
block_frames = 32

abbrev pub mutex_frames : ℕ
mutex_frames = 32

abbrev pub cpu_frames : ℕ
cpu_frames = 64
