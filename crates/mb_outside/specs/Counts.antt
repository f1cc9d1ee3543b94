-- Counts of faults and of calls: a count stands still at the last value of its type.
use Rattle.std.specs.Prelude.{ℕ, ◌+◌, ◌-◌, ◌^◌, ◌≤◌, min}

-- the last value of a count
abbrev pub last_count : ℕ
last_count = 2 ^ 64 - 1

-- the count after one more
abbrev pub next_count : ℕ → ℕ
next_count n = min (n + 1) last_count

-- the count after more of them
abbrev pub count_after : ℕ → ℕ → ℕ
count_after n more = min (n + more) last_count

-- The count has risen, or stands at its last value.
abbrev pub Rose : ℕ → ℕ → Type 0
Rose before now = (before ≤ now) × (next_count before ≤ now)
