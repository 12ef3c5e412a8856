-- The range of each number of a program, said once for its text and its record. Assumes nothing.
use Rattle.std.specs.Prelude.{ℕ, zero, suc, ◌+◌, ◌%◌, ◌≤◌, Bool, true, ◌&&◌, ◌||◌, leb, eqb}

-- ---- from the least number to the most

pub record Range : Type 0 where
  pub least : ℕ
  pub most : ℕ

infix 50 ◌to◌
abbrev pub ◌to◌ : ℕ → ℕ → Range
least to most = record { least = least; most = most }

-- every number is 0 or more
abbrev pub not_below : ℕ → ℕ → Bool
not_below zero n = true
not_below (suc k) n = leb (suc k) n

abbrev pub within : Range → ℕ → Bool
within r n = not_below r.least n && leb n r.most

-- the same, as a fact
abbrev pub Inside : Range → ℕ → Type 0
Inside r n = (r.least ≤ n) × (n ≤ r.most)

-- a range, k numbers up
abbrev pub up : ℕ → Range → Range
up k r = (k + r.least) to (k + r.most)

-- ---- the program's own numbers

-- 'I (1 to 2,000) is the count of Input Locations, M (0 to 2,000) of Intermediate sums'
abbrev pub location_counts : Range
location_counts = 1 to 2000

abbrev pub sum_counts : Range
sum_counts = 0 to 2000

-- 'V is the interval in eightieths of a second: 0 is off; 1 to 7 for Table 1 only; else a multiple of 8 up to 524,240'
abbrev pub short_intervals : Range
short_intervals = 0 to 7

abbrev pub is_long_interval : ℕ → Bool
is_long_interval v = eqb (v % 8) 0 && leb v 524240

-- V of Table 1, where `first`, or of Table 2
abbrev pub is_interval_of : Bool → ℕ → Bool
is_interval_of first v = (first && within short_intervals v) || is_long_interval v

-- ---- the numbers of an entry

-- 'reps 1 to 99'
abbrev pub reps_range : Range
reps_range = 1 to 99

-- 'range (1 to 18, no effect), card 1 to 7, channel 1 to 28'; of 2 'channel 1 to 14'
abbrev pub range_codes : Range
range_codes = 1 to 18

abbrev pub cards : Range
cards = 1 to 7

abbrev pub single_channels : Range
single_channels = 1 to 28

abbrev pub differential_channels : Range
differential_channels = 1 to 14

-- '85 (subroutine 1-9 or 79-99)'
abbrev pub low_labels : Range
low_labels = 1 to 9

abbrev pub high_labels : Range
high_labels = 79 to 99

-- '87 loop (delay 0, count 1 to 9,999)'
abbrev pub only_delay : ℕ
only_delay = 0

abbrev pub passes : Range
passes = 1 to 9999

-- 'Relations: 1 =, 2 ≠, 3 ≥, 4 <.'
abbrev pub relations : Range
relations = 1 to 4

-- '92 (minutes into 0 to 1,439, interval 1 to 1,440, command)'
abbrev pub minutes_into : Range
minutes_into = 0 to 1439

abbrev pub minute_intervals : Range
minute_intervals = 1 to 1440

-- '10-19 raise flag 0-9, 20-29 lower; .. 41-48 port 1-8 high, 51-58 low'
abbrev pub flags : Range
flags = 0 to 9

abbrev pub ports : Range
ports = 1 to 8
