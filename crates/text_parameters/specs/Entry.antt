-- The instructions: their numbers, their parameters in keyed order, and the entry that is made of them. Assumes nothing.
use Rattle.std.specs.Prelude.{ℕ, ◌+◌, ◌-◌, true, false, cond, List, [], ◌∷◌, length, ltb, eqb, Option, Some, None, Result, Ok, Err}
use Rattle.text_number.specs.Keyed.{whole_of}
use Rattle.base_program.specs.declared.Instruction.{Instruction}
use Rattle.base_program.specs.declared.Location.{Location}
use Rattle.base_program.specs.declared.Scale.{Scale}
use Rattle.base_program.specs.declared.Command.{Command}
use Rattle.base_program.specs.Channel.{single_on, differential_on}
use Rattle.text_parameters.specs.declared.Form.{Form}
use Rattle.text_parameters.specs.Parameter.{item, number_in, location_in, fixed_in, command_in, unconditional_in, given}
use Rattle.base_program.specs.Ranges.{Range, ◌to◌, up, reps_range, range_codes, cards, single_channels, differential_channels, low_labels, high_labels, only_delay, passes, relations, minutes_into, minute_intervals, flags}
use Rattle.base_program.specs.Codes.{is_label, relation_of, is_code, code_of}

-- ---- 'An entry is one of these and nothing else.'

-- each instruction's number and the form of its parameters
abbrev pub instructions : List (ℕ × Form)
instructions =
    (1, Form.Measurement)
    ∷ (2, Form.Measurement)
    ∷ (30, Form.Constant)
    ∷ (31, Form.Copy)
    ∷ (32, Form.Increment)
    ∷ (33, Form.Combination)
    ∷ (34, Form.WithFixed)
    ∷ (35, Form.Combination)
    ∷ (36, Form.Combination)
    ∷ (37, Form.WithFixed)
    ∷ (38, Form.Combination)
    ∷ (70, Form.Output)
    ∷ (71, Form.Output)
    ∷ (72, Form.Output)
    ∷ (73, Form.Output)
    ∷ (74, Form.Output)
    ∷ (77, Form.Time)
    ∷ (85, Form.Subroutine)
    ∷ (86, Form.Do)
    ∷ (87, Form.Loop)
    ∷ (88, Form.IfLocations)
    ∷ (89, Form.IfFixed)
    ∷ (91, Form.IfFlag)
    ∷ (92, Form.IfTime)
    ∷ (94, Form.Bare)
    ∷ (95, Form.Bare)
    ∷ []

abbrev pub look_up : ℕ → List (ℕ × Form) → Option Form
look_up n [] = None
look_up n (r ∷ rs) = cond (eqb n r.0) (Some r.1) (look_up n rs)

unfoldable pub form_of : ℕ → Option Form
form_of n = look_up n instructions

-- how many parameters a form has
unfoldable pub parameters : Form → ℕ
parameters Form.Measurement = 7
parameters Form.Constant = 2
parameters Form.Copy = 2
parameters Form.Increment = 1
parameters Form.Combination = 3
parameters Form.WithFixed = 3
parameters Form.Output = 2
parameters Form.Time = 1
parameters Form.Subroutine = 1
parameters Form.Do = 1
parameters Form.Loop = 2
parameters Form.IfLocations = 4
parameters Form.IfFixed = 4
parameters Form.IfFlag = 2
parameters Form.IfTime = 3
parameters Form.Bare = 0

-- ---- the parameters, item 0 being the instruction's number

-- 'channel 1 to 28' of 1; '2: the same, channel 1 to 14'
unfoldable pub channels : ℕ → Range
channels n = cond (eqb n 1) single_channels differential_channels

unfoldable pub measurement_of : ℕ → ℕ → ℕ → ℕ → ℕ → Location → Scale → Instruction
measurement_of n reps range card channel l scale =
    cond (eqb n 1)
    (Instruction.MeasureSingle reps range (single_on card channel) l scale)
    (Instruction.MeasureDifferential reps range (differential_on card channel) l scale)

-- '1: reps, range (1 to 18, no effect), card 1 to 7, channel 1 to 28, location, multiplier, offset.' 'reps 1 to 99.'
unfoldable pub measured : ℕ → List (List ℕ) → Result Instruction ℕ
measured n ws =
    given (number_in reps_range ws 1) (λ reps.
    given (number_in range_codes ws 2) (λ range.
    given (number_in cards ws 3) (λ card.
    given (number_in (channels n) ws 4) (λ channel.
    given (location_in ws 5) (λ l.
    given (fixed_in ws 6) (λ m.
    given (fixed_in ws 7) (λ o.
    Ok (measurement_of n reps range card channel l (record { multiplier = m; offset = o })))))))))

-- '30 (F, Z) Z=F.'
unfoldable pub constant : List (List ℕ) → Result Instruction ℕ
constant ws = given (fixed_in ws 1) (λ f. given (location_in ws 2) (λ z. Ok (Instruction.SetFixed f z)))

-- '31 (X, Z) Z=X.'
unfoldable pub copied : List (List ℕ) → Result Instruction ℕ
copied ws = given (location_in ws 1) (λ x. given (location_in ws 2) (λ z. Ok (Instruction.Copy x z)))

-- '32 (Z) Z=Z+1.'
unfoldable pub incremented : List (List ℕ) → Result Instruction ℕ
incremented ws = given (location_in ws 1) (λ z. Ok (Instruction.Increment z))

-- '33, 35, 36, 38 (X, Y, Z): X+Y, X−Y, X×Y, X/Y.'
unfoldable pub combination_of : ℕ → Location → Location → Location → Instruction
combination_of n x y z =
    cond (eqb n 33) (Instruction.Add x y z)
    (cond (eqb n 35) (Instruction.Subtract x y z)
    (cond (eqb n 36) (Instruction.Multiply x y z)
    (Instruction.Divide x y z)))

unfoldable pub combined : ℕ → List (List ℕ) → Result Instruction ℕ
combined n ws =
    given (location_in ws 1) (λ x.
    given (location_in ws 2) (λ y.
    given (location_in ws 3) (λ z.
    Ok (combination_of n x y z))))

-- '34, 37 (X, F, Z): X+F, X×F.'
unfoldable pub combined_fixed : ℕ → List (List ℕ) → Result Instruction ℕ
combined_fixed n ws =
    given (location_in ws 1) (λ x.
    given (fixed_in ws 2) (λ f.
    given (location_in ws 3) (λ z.
    Ok (cond (eqb n 34) (Instruction.AddFixed x f z) (Instruction.MultiplyFixed x f z)))))

-- '70 sample, 71 average .., 72 total, 73 maximum, 74 minimum: reps, location.'
unfoldable pub output_of : ℕ → ℕ → Location → Instruction
output_of n reps x =
    cond (eqb n 70) (Instruction.Sample reps x)
    (cond (eqb n 71) (Instruction.Average reps x)
    (cond (eqb n 72) (Instruction.Total reps x)
    (cond (eqb n 73) (Instruction.Maximum reps x)
    (Instruction.Minimum reps x))))

unfoldable pub output : ℕ → List (List ℕ) → Result Instruction ℕ
output n ws = given (number_in reps_range ws 1) (λ reps. given (location_in ws 2) (λ x. Ok (output_of n reps x)))

-- '77: code 10 .., 100 .. or 110'
abbrev pub codes : Range
codes = 10 to 110

unfoldable pub timed : List (List ℕ) → Result Instruction ℕ
timed ws = given (number_in codes ws 1) (λ n. cond (is_code n) (Ok (Instruction.StoreTime (code_of n))) (Err 2))

-- '85 (subroutine 1-9 or 79-99)'
abbrev pub labels : Range
labels = low_labels.least to high_labels.most

unfoldable pub labelled : List (List ℕ) → Result Instruction ℕ
labelled ws = given (number_in labels ws 1) (λ n. cond (is_label n) (Ok (Instruction.Subroutine n)) (Err 2))

-- '86 (command)'
unfoldable pub done : List (List ℕ) → Result Instruction ℕ
done ws = given (unconditional_in ws 1) (λ c. Ok (Instruction.Do c))

-- '87 loop (delay 0, count 1 to 9,999)'
unfoldable pub looped : List (List ℕ) → Result Instruction ℕ
looped ws = given (number_in (only_delay to only_delay) ws 1) (λ d. given (number_in passes ws 2) (λ n. Ok (Instruction.Loop d n)))

-- '88 (X, relation, Y, command)'
unfoldable pub if_locations : List (List ℕ) → Result Instruction ℕ
if_locations ws =
    given (location_in ws 1) (λ x.
    given (number_in relations ws 2) (λ r.
    given (location_in ws 3) (λ y.
    given (command_in ws 4) (λ c.
    Ok (Instruction.IfLocations x (relation_of r) y c)))))

-- '89 (X, relation, F, command)'
unfoldable pub if_fixed : List (List ℕ) → Result Instruction ℕ
if_fixed ws =
    given (location_in ws 1) (λ x.
    given (number_in relations ws 2) (λ r.
    given (fixed_in ws 3) (λ f.
    given (command_in ws 4) (λ c.
    Ok (Instruction.IfFixed x (relation_of r) f c)))))

-- '91 (1f flag f high, 2f low, command)'
abbrev pub flag_tests : Range
flag_tests = (up 10 flags).least to (up 20 flags).most

unfoldable pub flag_test : ℕ → Command → Instruction
flag_test n c = cond (ltb n 20) (Instruction.IfFlag (n - 10) true c) (Instruction.IfFlag (n - 20) false c)

unfoldable pub if_flag : List (List ℕ) → Result Instruction ℕ
if_flag ws = given (number_in flag_tests ws 1) (λ n. given (command_in ws 2) (λ c. Ok (flag_test n c)))

-- '92 (minutes into 0 to 1,439, interval 1 to 1,440, command)'
unfoldable pub if_time : List (List ℕ) → Result Instruction ℕ
if_time ws =
    given (number_in minutes_into ws 1) (λ m.
    given (number_in minute_intervals ws 2) (λ n.
    given (command_in ws 3) (λ c.
    Ok (Instruction.IfTime m n c))))

-- '94 Else, 95 End.'
unfoldable pub bare : ℕ → Result Instruction ℕ
bare n = cond (eqb n 94) (Ok Instruction.Else) (Ok Instruction.End)

unfoldable pub made : Form → ℕ → List (List ℕ) → Result Instruction ℕ
made Form.Measurement n ws = measured n ws
made Form.Constant n ws = constant ws
made Form.Copy n ws = copied ws
made Form.Increment n ws = incremented ws
made Form.Combination n ws = combined n ws
made Form.WithFixed n ws = combined_fixed n ws
made Form.Output n ws = output n ws
made Form.Time n ws = timed ws
made Form.Subroutine n ws = labelled ws
made Form.Do n ws = done ws
made Form.Loop n ws = looped ws
made Form.IfLocations n ws = if_locations ws
made Form.IfFixed n ws = if_fixed ws
made Form.IfFlag n ws = if_flag ws
made Form.IfTime n ws = if_time ws
made Form.Bare n ws = bare n

-- ---- the items of an entry: a malformed number (2), 'No such instruction' (3), 'Count of parameters' (4), then the parameters (2)

unfoldable pub counted : Option Form → ℕ → List (List ℕ) → Result Instruction ℕ
counted None n ws = Err 3
counted (Some f) n ws = cond (eqb (length ws) (parameters f + 1)) (made f n ws) (Err 4)

unfoldable pub numbered : Option ℕ → List (List ℕ) → Result Instruction ℕ
numbered None ws = Err 2
numbered (Some n) ws = counted (form_of n) n ws

unfoldable pub entry_in : List (List ℕ) → Result Instruction ℕ
entry_in ws = numbered (whole_of (item ws 0)) ws
