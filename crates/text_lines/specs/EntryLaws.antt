-- What holds of each entry of a clean text: each has its parameters in the text's ranges. Assumes nothing.
use Rattle.std.specs.Prelude.{ℕ, ◌+◌, ◌-◌, refl, Bool, cond, ◌&&◌, ◌||◌, length, get_or, take, drop, leb, ltb, Float, Option, Some, None, Result, Ok, Err}
use native.Mathlib.Omega.{arith}
use Rattle.std.proofs.Math.Path.{◌≡◌}
use Rattle.std.proofs.Common.{subst}
use Rattle.std.proofs.Math.Bool.{true, false}
use mathlib.Core.List.{List, [], ◌∷◌}
use Rattle.std.proofs.Math.Dec.{eqb}
use Rattle.std.specs.Float.{nan, inf, fin}
use borrow.Author.Tests.{eqb-true, eqb-false}
use Rattle.base_float.specs.Finite.{finite}
use Rattle.text_number.specs.Keyed.{whole_of}
use Rattle.text_number.proofs.Laws.{fixed_finite}
use Rattle.base_program.specs.declared.Command.{Command}
use Rattle.base_program.specs.declared.Instruction.{Instruction}
use Rattle.base_program.specs.declared.Location.{Location}
use Rattle.base_program.specs.declared.Relation.{Relation}
use Rattle.base_program.specs.declared.Scale.{Scale}
use Rattle.base_program.specs.declared.TimeCode.{TimeCode}
use Rattle.base_program.specs.Channel.{single_on, differential_on}
use Rattle.text_parameters.specs.declared.Form.{Form}
use Rattle.text_parameters.specs.Parameter.{item, port_of, command_keyed, command_said, command_in, unconditional, unconditional_in, number_in, location_in, fixed_in, given}
use Rattle.base_program.specs.Ranges.{◌to◌, within, Inside, up, reps_range, range_codes, cards, single_channels, differential_channels, only_delay, passes, relations, minutes_into, minute_intervals, flags, ports}
use Rattle.base_program.specs.Codes.{is_label, relation_of, is_code, code_of}
use Rattle.base_program.specs.RangeLaws.{within_is}
use Rattle.text_parameters.specs.Entry.{form_of, parameters, labels, codes, flag_tests, channels, measurement_of, measured, constant, copied, incremented, combination_of, combined, combined_fixed, output_of, output, timed, labelled, done, looped, if_locations, if_fixed, flag_test, if_flag, if_time, bare, made, counted, numbered, entry_in}
use Rattle.text_items.specs.Split.{items_of}
use Rattle.text_lines.specs.Line.{bracketed, entry_of}
use Rattle.text_parameters.specs.RangeLaws.{number_is}

-- ---- commands

-- what C has to hold of, where the number n is keyed for a command
pub record EachCommand (n : ℕ) (C : Command → Type 0) : Type 0 where
  pub stop : C Command.Stop
  pub call : is_label n ≡ true → C (Command.Call n)
  pub raise : (f : ℕ) → Inside flags f → C (Command.Raise f)
  pub lower : (f : ℕ) → Inside flags f → C (Command.Lower f)
  pub then_do : n ≡ 30 → C Command.Then
  pub exit_if_true : C Command.ExitIfTrue
  pub exit_if_false : n ≡ 32 → C Command.ExitIfFalse
  pub port_high : (p : ℕ) → Inside ports p → C (Command.PortHigh p)
  pub port_low : (p : ℕ) → Inside ports p → C (Command.PortLow p)

module _ (n : ℕ) (C : Command → Type 0) (h : EachCommand n C) where
  taken : (c d : Command) → C c → Some c ≡ Some d → C d
  taken c d x e = let q : c ≡ d = cc in subst C q x

  -- one case of a chain of tests
  case : (t : Bool) (c d : Command) (other : Option Command) → (t ≡ true → C c) → (other ≡ Some d → C d) → cond t (Some c) other ≡ Some d → C d
  case true c d other x y e = taken c d (x refl) e
  case false c d other x y e = y e

  port_sound : (d : Command) → port_of n ≡ Some d → C d
  unfolding port_of
  port_sound d =
      case (within (up 40 ports) n) (Command.PortHigh (n - 40)) d _ (λ b. let z = within_is (up 40 ports) n b in h.port_high (n - 40) (omega (arith, z.0), omega (arith, z.1)))
      (case (within (up 50 ports) n) (Command.PortLow (n - 50)) d _ (λ b. let z = within_is (up 50 ports) n b in h.port_low (n - 50) (omega (arith, z.0), omega (arith, z.1)))
      (λ e. absurd (let y : ◌≡◌ {A = ℕ} 0 1 = cc in omega arith)))

  -- The commands that a number can be.
  pub command_sound : (d : Command) → command_keyed n ≡ Some d → C d
  unfolding command_keyed
  command_sound d =
      case (eqb n 0) Command.Stop d _ (λ _. h.stop)
      (case (is_label n) (Command.Call n) d _ (λ b. h.call b)
      (case (within (up 10 flags) n) (Command.Raise (n - 10)) d _ (λ b. let z = within_is (up 10 flags) n b in h.raise (n - 10) (omega arith, omega (arith, z.1)))
      (case (within (up 20 flags) n) (Command.Lower (n - 20)) d _ (λ b. let z = within_is (up 20 flags) n b in h.lower (n - 20) (omega arith, omega (arith, z.1)))
      (case (eqb n 30) Command.Then d _ (λ b. h.then_do (eqb-true n 30 b))
      (case (eqb n 31) Command.ExitIfTrue d _ (λ _. h.exit_if_true)
      (case (eqb n 32) Command.ExitIfFalse d _ (λ b. h.exit_if_false (eqb-true n 32 b))
      (port_sound d)))))))

-- ---- entries

-- what P has to hold of: each instruction with its parameters in their ranges; n is the number keyed for a command c
pub record EachEntry (P : Instruction → Type 0) : Type 0 where
  pub single : (reps range card channel : ℕ) (l : Location) (scale : Scale) → Inside reps_range reps → Inside range_codes range → Inside cards card → Inside single_channels channel
      → finite scale.multiplier ≡ true → finite scale.offset ≡ true → P (Instruction.MeasureSingle reps range (single_on card channel) l scale)
  pub differential : (reps range card channel : ℕ) (l : Location) (scale : Scale) → Inside reps_range reps → Inside range_codes range → Inside cards card → Inside differential_channels channel
      → finite scale.multiplier ≡ true → finite scale.offset ≡ true → P (Instruction.MeasureDifferential reps range (differential_on card channel) l scale)
  pub set_fixed : (f : Float) (z : Location) → finite f ≡ true → P (Instruction.SetFixed f z)
  pub copy : (x z : Location) → P (Instruction.Copy x z)
  pub increment : (z : Location) → P (Instruction.Increment z)
  pub add : (x y z : Location) → P (Instruction.Add x y z)
  pub subtract : (x y z : Location) → P (Instruction.Subtract x y z)
  pub multiply : (x y z : Location) → P (Instruction.Multiply x y z)
  pub divide : (x y z : Location) → P (Instruction.Divide x y z)
  pub add_fixed : (x : Location) (f : Float) (z : Location) → finite f ≡ true → P (Instruction.AddFixed x f z)
  pub multiply_fixed : (x : Location) (f : Float) (z : Location) → finite f ≡ true → P (Instruction.MultiplyFixed x f z)
  pub sample : (reps : ℕ) (x : Location) → Inside reps_range reps → P (Instruction.Sample reps x)
  pub average : (reps : ℕ) (x : Location) → Inside reps_range reps → P (Instruction.Average reps x)
  pub total : (reps : ℕ) (x : Location) → Inside reps_range reps → P (Instruction.Total reps x)
  pub maximum : (reps : ℕ) (x : Location) → Inside reps_range reps → P (Instruction.Maximum reps x)
  pub minimum : (reps : ℕ) (x : Location) → Inside reps_range reps → P (Instruction.Minimum reps x)
  pub store_time : (code : TimeCode) → P (Instruction.StoreTime code)
  pub subroutine : (k : ℕ) → is_label k ≡ true → P (Instruction.Subroutine k)
  pub command_only : (n : ℕ) (c : Command) → command_keyed n ≡ Some c → (n ≡ 30 → ⊥) → (n ≡ 32 → ⊥) → P (Instruction.Do c)
  pub loop : (count : ℕ) → Inside passes count → P (Instruction.Loop only_delay count)
  pub test_locations : (x : Location) (r : Relation) (y : Location) (n : ℕ) (c : Command) → command_keyed n ≡ Some c → P (Instruction.IfLocations x r y c)
  pub test_fixed : (x : Location) (r : Relation) (f : Float) (n : ℕ) (c : Command) → finite f ≡ true → command_keyed n ≡ Some c → P (Instruction.IfFixed x r f c)
  pub test_flag : (f : ℕ) (high : Bool) (n : ℕ) (c : Command) → Inside flags f → command_keyed n ≡ Some c → P (Instruction.IfFlag f high c)
  pub test_time : (into interval n : ℕ) (c : Command) → Inside minutes_into into → Inside minute_intervals interval → command_keyed n ≡ Some c → P (Instruction.IfTime into interval c)
  pub else_entry : P Instruction.Else
  pub end_entry : P Instruction.End

fixed_sound : (ws : List (List ℕ)) (k : ℕ) (x : Float) → fixed_in ws k ≡ Some x → finite x ≡ true
unfolding fixed_in finite
fixed_sound ws k nan e = absurd (fixed_finite (item ws k) nan e)
fixed_sound ws k (inf s) e = absurd (fixed_finite (item ws k) (inf s) e)
fixed_sound ws k (fin s m z) e = refl

commanded_is : (w : Option ℕ) (c : Command) (Q : Type 0) → ((n : ℕ) → command_keyed n ≡ Some c → Q) → command_said w ≡ Some c → Q
unfolding command_said
commanded_is (Some n) c Q f e = f n e
commanded_is None c Q f e = absurd (let y : ◌≡◌ {A = ℕ} 0 1 = cc in omega arith)

unconditional_is : (w : Option ℕ) (c : Command) (Q : Type 0) → ((n : ℕ) → command_keyed n ≡ Some c → (n ≡ 30 → ⊥) → (n ≡ 32 → ⊥) → Q) → unconditional w ≡ Some c → Q
unfolding unconditional
unconditional_is (Some n) c Q f e = go (eqb n 30) (eqb n 32) (eqb-false n 30) (eqb-false n 32) e
  where
    go : (t u : Bool) → (t ≡ false → n ≡ 30 → ⊥) → (u ≡ false → n ≡ 32 → ⊥) → cond (t || u) None (command_keyed n) ≡ Some c → Q
    go true u p q e = absurd (let y : ◌≡◌ {A = ℕ} 0 1 = cc in omega arith)
    go false true p q e = absurd (let y : ◌≡◌ {A = ℕ} 0 1 = cc in omega arith)
    go false false p q e = f n e (p refl) (q refl)
unconditional_is None c Q f e = absurd (let y : ◌≡◌ {A = ℕ} 0 1 = cc in omega arith)

module _ (P : Instruction → Type 0) (h : EachEntry P) where
  abbrev Sound : Result Instruction ℕ → Type 0
  Sound j = (x : Instruction) → j ≡ Ok x → P x

  fault_ok : (k : ℕ) → Sound (Err k)
  fault_ok k x e = absurd (let y : ◌≡◌ {A = ℕ} 0 1 = cc in omega arith)

  sound_ok : (x : Instruction) → P x → Sound (Ok x)
  sound_ok x p y e = let q : x ≡ y = cc in subst P q p

  cond_ok : (t : Bool) (a b : Result Instruction ℕ) → (t ≡ true → Sound a) → (t ≡ false → Sound b) → Sound (cond t a b)
  cond_ok true a b p q = p refl
  cond_ok false a b p q = q refl

  choose : (t : Bool) (x y : Instruction) → (t ≡ true → P x) → (t ≡ false → P y) → P (cond t x y)
  choose true x y p q = p refl
  choose false x y p q = q refl

  given_ok : {A : Type 0} (o : Option A) (f : A → Result Instruction ℕ) → ((x : A) → o ≡ Some x → Sound (f x)) → Sound (given o f)
  given_ok (Some x) f p = p x refl
  given_ok None f p = fault_ok 2

  measurement_ok : (n reps range card channel : ℕ) (l : Location) (scale : Scale) → Inside reps_range reps → Inside range_codes range → Inside cards card → Inside (channels n) channel
      → finite scale.multiplier ≡ true → finite scale.offset ≡ true → P (measurement_of n reps range card channel l scale)
  unfolding measurement_of channels
  measurement_ok n reps range card channel l scale a b c d e f = go (eqb n 1) d
    where
      go : (t : Bool) → Inside (cond t single_channels differential_channels) channel
          → P (cond t (Instruction.MeasureSingle reps range (single_on card channel) l scale) (Instruction.MeasureDifferential reps range (differential_on card channel) l scale))
      go true d = h.single reps range card channel l scale a b c d e f
      go false d = h.differential reps range card channel l scale a b c d e f

  measured_ok : (n : ℕ) (ws : List (List ℕ)) → Sound (measured n ws)
  unfolding measured
  measured_ok n ws =
      given_ok _ _ (λ reps a.
      given_ok _ _ (λ range b.
      given_ok _ _ (λ card c.
      given_ok _ _ (λ channel d.
      given_ok (location_in ws 5) _ (λ l _.
      given_ok _ _ (λ m e.
      given_ok _ _ (λ o f.
      sound_ok _ (measurement_ok n reps range card channel l (record { multiplier = m; offset = o }) (number_is reps_range ws 1 reps a) (number_is range_codes ws 2 range b) (number_is cards ws 3 card c) (number_is (channels n) ws 4 channel d) (fixed_sound ws 6 m e) (fixed_sound ws 7 o f)))))))))

  combination_ok : (n : ℕ) (x y z : Location) → P (combination_of n x y z)
  unfolding combination_of
  combination_ok n x y z =
      choose (eqb n 33) _ _ (λ _. h.add x y z) (λ _. choose (eqb n 35) _ _ (λ _. h.subtract x y z) (λ _. choose (eqb n 36) _ _ (λ _. h.multiply x y z) (λ _. h.divide x y z)))

  output_ok : (n reps : ℕ) (x : Location) → Inside reps_range reps → P (output_of n reps x)
  unfolding output_of
  output_ok n reps x a =
      choose (eqb n 70) _ _ (λ _. h.sample reps x a)
      (λ _. choose (eqb n 71) _ _ (λ _. h.average reps x a)
      (λ _. choose (eqb n 72) _ _ (λ _. h.total reps x a)
      (λ _. choose (eqb n 73) _ _ (λ _. h.maximum reps x a) (λ _. h.minimum reps x a))))

  flag_ok : (n k : ℕ) (c : Command) → Inside flag_tests n → command_keyed k ≡ Some c → P (flag_test n c)
  unfolding flag_test
  flag_ok n k c a e =
      choose (ltb n 20) _ _ (λ b. h.test_flag (n - 10) true k c (omega arith, omega (arith, borrow.Author.Tests.ltb-true n 20 b)) e)
      (λ b. h.test_flag (n - 20) false k c (omega arith, omega (arith, a.1)) e)

  loop_ok : (d n : ℕ) → Inside (only_delay to only_delay) d → Inside passes n → P (Instruction.Loop d n)
  loop_ok d n a b = subst (λ x. P (Instruction.Loop x n)) (let z : only_delay ≡ d = omega (arith, a.1) in z) (h.loop n b)

  made_ok : (f : Form) (n : ℕ) (ws : List (List ℕ)) → Sound (made f n ws)
  unfolding made constant copied incremented combined combined_fixed output timed labelled done looped if_locations if_fixed if_flag if_time bare command_in unconditional_in
  made_ok Form.Measurement n ws = measured_ok n ws
  made_ok Form.Constant n ws = given_ok _ _ (λ f e. given_ok (location_in ws 2) _ (λ z _. sound_ok _ (h.set_fixed f z (fixed_sound ws 1 f e))))
  made_ok Form.Copy n ws = given_ok (location_in ws 1) _ (λ x _. given_ok (location_in ws 2) _ (λ z _. sound_ok _ (h.copy x z)))
  made_ok Form.Increment n ws = given_ok (location_in ws 1) _ (λ z _. sound_ok _ (h.increment z))
  made_ok Form.Combination n ws = given_ok (location_in ws 1) _ (λ x _. given_ok (location_in ws 2) _ (λ y _. given_ok (location_in ws 3) _ (λ z _. sound_ok _ (combination_ok n x y z))))
  made_ok Form.WithFixed n ws =
      given_ok (location_in ws 1) _ (λ x _. given_ok _ _ (λ f e. given_ok (location_in ws 3) _ (λ z _. sound_ok _ (choose (eqb n 34) _ _ (λ _. h.add_fixed x f z (fixed_sound ws 2 f e)) (λ _. h.multiply_fixed x f z (fixed_sound ws 2 f e))))))
  made_ok Form.Output n ws = given_ok _ _ (λ reps a. given_ok (location_in ws 2) _ (λ x _. sound_ok _ (output_ok n reps x (number_is reps_range ws 1 reps a))))
  made_ok Form.Time n ws = given_ok (number_in codes ws 1) _ (λ k a. cond_ok (is_code k) _ _ (λ _. sound_ok _ (h.store_time (code_of k))) (λ _. fault_ok 2))
  made_ok Form.Subroutine n ws = given_ok (number_in labels ws 1) _ (λ k a. cond_ok (is_label k) _ _ (λ b. sound_ok _ (h.subroutine k b)) (λ _. fault_ok 2))
  made_ok Form.Do n ws = given_ok _ _ (λ c e. sound_ok _ (unconditional_is (whole_of (item ws 1)) c (P (Instruction.Do c)) (λ k x y z. h.command_only k c x y z) e))
  made_ok Form.Loop n ws = given_ok _ _ (λ d a. given_ok _ _ (λ k b. sound_ok _ (loop_ok d k (number_is (only_delay to only_delay) ws 1 d a) (number_is passes ws 2 k b))))
  made_ok Form.IfLocations n ws =
      given_ok (location_in ws 1) _ (λ x _. given_ok (number_in relations ws 2) _ (λ r a. given_ok (location_in ws 3) _ (λ y _. given_ok _ _ (λ c e. sound_ok _ (commanded_is (whole_of (item ws 4)) c _ (λ k q. h.test_locations x (relation_of r) y k c q) e)))))
  made_ok Form.IfFixed n ws =
      given_ok (location_in ws 1) _ (λ x _. given_ok (number_in relations ws 2) _ (λ r a. given_ok _ _ (λ f g. given_ok _ _ (λ c e. sound_ok _ (commanded_is (whole_of (item ws 4)) c _ (λ k q. h.test_fixed x (relation_of r) f k c (fixed_sound ws 3 f g) q) e)))))
  made_ok Form.IfFlag n ws = given_ok _ _ (λ j a. given_ok _ _ (λ c e. sound_ok _ (commanded_is (whole_of (item ws 2)) c _ (λ k q. flag_ok j k c (number_is flag_tests ws 1 j a) q) e)))
  made_ok Form.IfTime n ws =
      given_ok _ _ (λ i a. given_ok _ _ (λ j b. given_ok _ _ (λ c e. sound_ok _ (commanded_is (whole_of (item ws 3)) c _ (λ k q. h.test_time i j k c (number_is minutes_into ws 1 i a) (number_is minute_intervals ws 2 j b) q) e))))
  made_ok Form.Bare n ws = cond_ok (eqb n 94) _ _ (λ _. sound_ok _ h.else_entry) (λ _. sound_ok _ h.end_entry)

  counted_ok : (k : Option Form) (n : ℕ) (ws : List (List ℕ)) → Sound (counted k n ws)
  unfolding counted
  counted_ok None n ws = fault_ok 3
  counted_ok (Some f) n ws = cond_ok (eqb (length ws) (parameters f + 1)) _ _ (λ _. made_ok f n ws) (λ _. fault_ok 4)

  numbered_ok : (w : Option ℕ) (ws : List (List ℕ)) → Sound (numbered w ws)
  unfolding numbered
  numbered_ok None ws = fault_ok 2
  numbered_ok (Some n) ws = counted_ok (form_of n) n ws

  bracketed_ok : (ws : List (List ℕ)) → Sound (bracketed ws)
  unfolding bracketed entry_in
  bracketed_ok [] = fault_ok 1
  bracketed_ok (w ∷ ws) = numbered_ok (whole_of (item (w ∷ ws) 0)) (w ∷ ws)

  -- An entry that a line says has its parameters in their ranges.
  pub entry_sound : (l : List ℕ) (x : Instruction) → entry_of l ≡ Ok x → P x
  unfolding entry_of
  entry_sound l = cond_ok (leb 2 (length l) && (eqb (get_or l 0 0) 40 && eqb (get_or l (length l - 1) 0) 41)) _ _ (λ _. bracketed_ok (items_of (take (length l - 1 - 1) (drop 1 l)))) (λ _. fault_ok 1)
