-- Programs that come to the limits: what `Limits.antt` allows is allowed up to the last block, call, channel, location, sum and entry. Assumes nothing.
use Rattle.std.specs.Prelude.{◌≡◌, refl, ℕ, zero, suc, Bool, true, false, List, [], ◌∷◌, ◌++◌, map, length, replicate, pos}
use Rattle.std.proofs.Common.{arith, le_refl}
use Rattle.std.proofs.Math.Option.{Option, none, some}
use Rattle.std.specs.Float.{fin}
use Rattle.base_program.specs.declared.Command.{Command}
use Rattle.base_program.specs.declared.Instruction.{Instruction}
use Rattle.base_program.specs.declared.Instruction.TheVariants.{End, MeasureSingle, Increment, Average, IfFlag}
use Rattle.base_program.specs.declared.Program.{Program}
use Rattle.base_program.specs.declared.Table.{Table}
use Rattle.base_program.specs.declared.Timed.{Timed}
use Rattle.base_program.specs.Flow.{command_flow, flow}
use Rattle.base_program.specs.Reach.{sums, locations, readings, numbers_from}
use Rattle.base_program.specs.Entries.{slot, entries, all_sums, sums_before, first_sum}
use Rattle.spec_check.specs.Blocks.{label}
use Rattle.spec_check.specs.Counts.{count_entry, counts, call_count, stated_count}
use Rattle.spec_machine.specs.Memory.{fresh}
use Rattle.spec_machine.specs.Values.{Scan, each}
use Rattle.spec_machine.specs.Output.{raise, commanded}
use Rattle.spec_machine.specs.Ends.{way_of, ways, behind_label}
use Rattle.spec_machine.specs.Machine.{Place, Config, Next, next, done, stuck, shift, loop_open, test, effect, leave, go_on, act, step}
use Rattle.spec_machine.specs.Run.{scan_of, starting, start}
use Rattle.spec_machine.specs.Calls.{reading_of}
use Rattle.spec_machine.specs.Limits.{spanned, Each, InReach, FewBlocks, NotDeep, WithinCount}
use Rattle.spec_machine.specs.Worked as worked
use Rattle.spec_machine.specs.Worked.{every, at, whole, three_passes, seven_deep}

-- Table 1 at midnight of day 1
abbrev first_scan : Scan
first_scan = scan_of Timed.One 1 0 (reading_of (worked.readings (whole 0))) fresh

abbrev come_of : Next → (Config → Option Config) → Option Config
come_of done go = none
come_of stuck go = none
come_of (next d) go = go d

-- where the machine is after k steps
unfoldable pub come : Program → ℕ → Config → Option Config
come p zero c = some c
come p (suc k) c = come_of (step p first_scan c) (λ d. come p k d)

abbrev after : ℕ → Program → Option Config
after k p = come p k (start first_scan fresh)

abbrev There : (Config → Type 0) → Option Config → Type 0
There P none = ⊥
There P (some c) = P c

abbrev blocks_open : Option Config → List ℕ
blocks_open none = []
blocks_open (some c) = map (λ (a : Place). length a.blocks) (c.place ∷ c.callers)

-- 11 blocks, one in the other
abbrev eleven_blocks : Program
eleven_blocks = every 1 0 (replicate 11 (IfFlag 1 false Command.Then) ++ replicate 11 End) []

-- the last of the 196 channels, the last location, the last sum
abbrev last_of : Program
last_of = every 1 1 (MeasureSingle 1 5 (record { 0 = 196 }) (at 1) (record { multiplier = whole 1; offset = whole 0 }) ∷ Average 1 (at 1) ∷ []) []

pub record AtLimits : Type 0 where
  pub eleven : blocks_open (after 11 eleven_blocks) ≡ 11 ∷ []
  pub eleven_allowed : There FewBlocks (after 11 eleven_blocks)
  pub seven : blocks_open (after 7 seven_deep) ≡ 0 ∷ 0 ∷ 0 ∷ 0 ∷ 0 ∷ 0 ∷ 0 ∷ 0 ∷ []
  pub seven_allowed : There NotDeep (after 7 seven_deep)
  pub last_channel : InReach last_of Table.One 1 0 (MeasureSingle 1 5 (record { 0 = 196 }) (at 1) (record { multiplier = whole 1; offset = whole 0 }))
  pub last_sum : InReach last_of Table.One 2 0 (Average 1 (at 1))
  -- a loop of 3 over one entry carries out its stated count of entries
  pub last_entry : blocks_open (after 7 three_passes) ≡ 0 ∷ []
  pub last_entry_allowed : WithinCount (stated_count three_passes Table.One) 7

pub at_limits : AtLimits
unfolding count_entry counts call_count command_flow flow sums locations readings numbers_from slot entries all_sums sums_before first_sum label fresh each raise commanded way_of ways behind_label shift loop_open test effect leave go_on act starting spanned come
at_limits =
    record {
      eleven = refl;
      eleven_allowed = (le_refl 11, tt);
      seven = refl;
      seven_allowed = le_refl 7;
      last_channel = record { locations = ((le_refl 1, le_refl 1), tt); readings = ((omega arith, le_refl 196), tt); sums = tt };
      last_sum = record { locations = ((le_refl 1, le_refl 1), tt); readings = tt; sums = (le_refl 1, tt) };
      last_entry = refl;
      last_entry_allowed = le_refl 7;
    }
