-- The locations, sums and readings of an entry, from its parameters. Assumes nothing.
use Rattle.std.specs.Prelude.{ℕ, zero, suc, ◌+◌, ◌*◌, ◌-◌, cond, List, [], ◌∷◌}
use Rattle.base_program.specs.declared.Location.{Location}
use Rattle.base_program.specs.declared.SingleEnded.{SingleEnded}
use Rattle.base_program.specs.declared.Differential.{Differential}
use Rattle.base_program.specs.declared.Instruction.{Instruction}
use Rattle.base_program.specs.declared.Instruction.TheVariants.{End, Else, MeasureSingle, MeasureDifferential, SetFixed, Copy, Increment, Add, AddFixed, Subtract, Multiply, MultiplyFixed, Divide, Sample, Average, Total, Maximum, Minimum, StoreTime, Subroutine, Do, Loop, IfLocations, IfFixed, IfFlag, IfTime}

-- a location as keyed, and how many following ones an entry takes from it
pub record LocationSpan : Type 0 where
  pub location : Location
  pub reps : ℕ

abbrev pub only : Location → LocationSpan
only l = record { location = l; reps = 1 }

abbrev pub following : ℕ → Location → LocationSpan
following n l = record { location = l; reps = n }

-- The locations that an entry reads or writes, in keyed order. 'reps take following channels, cards and locations.'
unfoldable pub locations : Instruction → List LocationSpan
locations End = []
locations Else = []
locations (MeasureSingle reps range channel location scale) = following reps location ∷ []
locations (MeasureDifferential reps range channel location scale) = following reps location ∷ []
locations (SetFixed f z) = only z ∷ []
locations (Copy x z) = only x ∷ only z ∷ []
locations (Increment z) = only z ∷ []
locations (Add x y z) = only x ∷ only y ∷ only z ∷ []
locations (AddFixed x f z) = only x ∷ only z ∷ []
locations (Subtract x y z) = only x ∷ only y ∷ only z ∷ []
locations (Multiply x y z) = only x ∷ only y ∷ only z ∷ []
locations (MultiplyFixed x f z) = only x ∷ only z ∷ []
locations (Divide x y z) = only x ∷ only y ∷ only z ∷ []
locations (Sample reps x) = following reps x ∷ []
locations (Average reps x) = following reps x ∷ []
locations (Total reps x) = following reps x ∷ []
locations (Maximum reps x) = following reps x ∷ []
locations (Minimum reps x) = following reps x ∷ []
locations (StoreTime code) = []
locations (Subroutine k) = []
locations (Do c) = []
locations (Loop delay count) = []
locations (IfLocations x r y c) = only x ∷ only y ∷ []
locations (IfFixed x r f c) = only x ∷ []
locations (IfFlag f high c) = []
locations (IfTime into interval c) = []

-- '71 to 74 each take reps sums.'
unfoldable pub sums : Instruction → ℕ
sums End = 0
sums Else = 0
sums (MeasureSingle reps range channel location scale) = 0
sums (MeasureDifferential reps range channel location scale) = 0
sums (SetFixed f z) = 0
sums (Copy x z) = 0
sums (Increment z) = 0
sums (Add x y z) = 0
sums (AddFixed x f z) = 0
sums (Subtract x y z) = 0
sums (Multiply x y z) = 0
sums (MultiplyFixed x f z) = 0
sums (Divide x y z) = 0
sums (Sample reps x) = 0
sums (Average reps x) = reps
sums (Total reps x) = reps
sums (Maximum reps x) = reps
sums (Minimum reps x) = reps
sums (StoreTime code) = 0
sums (Subroutine k) = 0
sums (Do c) = 0
sums (Loop delay count) = 0
sums (IfLocations x r y c) = 0
sums (IfFixed x r f c) = 0
sums (IfFlag f high c) = 0
sums (IfTime into interval c) = 0

-- n numbers from k on
unfoldable pub numbers_from : ℕ → ℕ → List ℕ
numbers_from k zero = []
numbers_from k (suc n) = k ∷ numbers_from (suc k) n

-- The single-ended readings that an entry takes: a single-ended channel and following ones, or both inputs of each of the differential channels.
unfoldable pub readings : Instruction → List ℕ
readings End = []
readings Else = []
readings (MeasureSingle reps range channel location scale) = numbers_from channel.0 reps
readings (MeasureDifferential reps range channel location scale) = numbers_from (2 * channel.0 - 1) (2 * reps)
readings (SetFixed f z) = []
readings (Copy x z) = []
readings (Increment z) = []
readings (Add x y z) = []
readings (AddFixed x f z) = []
readings (Subtract x y z) = []
readings (Multiply x y z) = []
readings (MultiplyFixed x f z) = []
readings (Divide x y z) = []
readings (Sample reps x) = []
readings (Average reps x) = []
readings (Total reps x) = []
readings (Maximum reps x) = []
readings (Minimum reps x) = []
readings (StoreTime code) = []
readings (Subroutine k) = []
readings (Do c) = []
readings (Loop delay count) = []
readings (IfLocations x r y c) = []
readings (IfFixed x r f c) = []
readings (IfFlag f high c) = []
readings (IfTime into interval c) = []

-- 'An indexed location on pass p .. is moved up by p - 1': by s.
abbrev pub moved : ℕ → Location → ℕ
moved s l = l.number + cond l.indexed s 0
