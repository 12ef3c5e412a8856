-- The heights are filled in, and tell the first 85 that starts a chain of eight.
use native.Mathlib.Omega.{arith}
use Rattle.check_chains.proofs.walk_chains.Goals as goal

pub returns : goal.returns
returns c =
    λ p r. record {
      finding = c.first_long.ensures p (record { flows_are = r.flows_are; length_is = r.length_is; told = λ k h. (c.fill_heights.ensures p r).right k h 7 (omega arith) });
      heights_are = λ k h s w. (c.fill_heights.ensures p r).right k h s w;
      kept = omega (arith, c.fill_heights.auto, c.requires.2);
    }
