-- What raising a flag leaves, and the range of a command's flag or port: by cases on the flag and the command. Assumes nothing.
use Rattle.std.specs.Prelude.{◌≡◌, refl, Bool, true, false, cond, ◌&&◌, ℕ, ◌≤◌, length, set, leb, Float}
use Rattle.std.proofs.Common.{sym, ◌∙◌, subst, arith, eq-eqb, ne_eqb, leb-true}
use Rattle.std.proofs.Math.Path.{ap}
use mathlib.Core.List.{List, [], ◌∷◌}
use Rattle.base_program.specs.declared.Command.{Command}
use Rattle.base_program.specs.declared.Command.TheVariants.{Raise, Lower, PortHigh, PortLow}
use Rattle.spec_check.specs.Ranges.{command_in_range}
use Rattle.base_program.specs.Codes.{between}
use Rattle.spec_buffers.specs.Held.{Held, Out, out_of, held_of}
use Rattle.spec_buffers.specs.Output.{begin_out}
use Rattle.spec_buffers.specs.Effects.{on_flags, raise_held, command_held}
use Rattle.scan_signals.specs.Lent.{Port}
use Rattle.base_laws.specs.Tests.{and_both}

-- an array begins
begin_done : (id : ℕ) (ring store : List ℕ) → length store ≡ 4 → out_of ring (set (set store 2 id) 3 1) ≡ begin_out id (out_of ring store)
begin_done id ring [] h = absurd (omega arith)
begin_done id ring (a ∷ []) h = absurd (omega arith)
begin_done id ring (a ∷ b ∷ []) h = absurd (omega arith)
begin_done id ring (a ∷ b ∷ c ∷ []) h = absurd (omega arith)
begin_done id ring (a ∷ b ∷ c ∷ d ∷ []) h = refl
begin_done id ring (a ∷ b ∷ c ∷ d ∷ e ∷ r) h = absurd (omega arith)

-- ---- raising a flag, for any other lists

module _ (id f : ℕ) (flags flags' : List Bool) (store : List ℕ) (set_is : flags' ≡ set flags f true) (l u : List Float) (c : List ℕ) (q : List Bool) (g : List ℕ) where
  pub raised_first : length store ≡ 4 → f ≡ 0
      → held_of l u c flags' q g (set (set store 2 id) 3 1) ≡ raise_held id f (held_of l u c flags q g store)
  unfolding raise_held
  raised_first four first =
      let h : Held = held_of l u c flags q g store in
      ap (λ (z : List Bool). on_flags z q (out_of g (set (set store 2 id) 3 1)) h) set_is
      ∙ ap (λ (o : Out). on_flags (set flags f true) q o h) (begin_done id g store four)
      ∙ ap (λ (b : Bool). on_flags (set flags f true) q (cond b (begin_out id h.out) h.out) h) (sym (eq-eqb f 0 first))

  pub raised_other : (f ≡ 0 → ⊥) → held_of l u c flags' q g store ≡ raise_held id f (held_of l u c flags q g store)
  unfolding raise_held
  raised_other other =
      let h : Held = held_of l u c flags q g store in
      ap (λ (z : List Bool). on_flags z q h.out h) set_is
      ∙ ap (λ (b : Bool). on_flags (set flags f true) q (cond b (begin_out id h.out) h.out) h) (sym (ne_eqb f 0 other))

-- ---- a command that is in range

is_in_range : (c d : Command) → c ≡ d → command_in_range c ≡ true → command_in_range d ≡ true
is_in_range c d e r = ap command_in_range (sym e) ∙ r

pub raise_in : (c : Command) (f : ℕ) → c ≡ Raise f → command_in_range c ≡ true → f ≤ 9
unfolding command_in_range
raise_in c f e r = leb-true f 9 (is_in_range c (Raise f) e r)

pub lower_in : (c : Command) (f : ℕ) → c ≡ Lower f → command_in_range c ≡ true → f ≤ 9
unfolding command_in_range
lower_in c f e r = leb-true f 9 (is_in_range c (Lower f) e r)

port_in : (q : ℕ) (ports : List Bool) → length ports ≡ 8 → between 1 8 q ≡ true → Port q ports
port_in q ports long r =
    let z = and_both (leb 1 q) (leb q 8) r in
    record { least = leb-true 1 q z.0; most = subst (λ n. q ≤ n) (sym long) (leb-true q 8 z.1) }

pub high_in : (c : Command) (q : ℕ) (ports : List Bool) → c ≡ PortHigh q → length ports ≡ 8 → command_in_range c ≡ true → Port q ports
unfolding command_in_range
high_in c q ports e long r = port_in q ports long (is_in_range c (PortHigh q) e r)

pub low_in : (c : Command) (q : ℕ) (ports : List Bool) → c ≡ PortLow q → length ports ≡ 8 → command_in_range c ≡ true → Port q ports
unfolding command_in_range
low_in c q ports e long r = port_in q ports long (is_in_range c (PortLow q) e r)

-- what a command does, from what was told of it
pub told : (id : ℕ) (c d : Command) (h : Held) → c ≡ d → command_held id d h ≡ command_held id c h
told id c d h e = ap (λ z. command_held id z h) (sym e)
