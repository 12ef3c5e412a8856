-- The run state as numbers in a lent buffer: how it is read, how it is written, and that what was written is read back. What is quoted is of
-- `include/yukeira.h`. Assumes nothing.
use Rattle.std.specs.Prelude.{◌≡◌, ℕ, Bool, false, List, [], ◌∷◌, ◌++◌, map, get_or}
use Rattle.std.proofs.Common.{ap, ◌∙◌}
use Rattle.base_program.specs.Reach.{numbers_from}
use Rattle.spec_calls.specs.declared.State.{State}
use Rattle.scan_refusals.specs.Laws.{Shaped}
use Rattle.record_layout.specs.Layout.{is_set, bit_of}
use Rattle.record_layout.specs.Laws.{bit_back, places}

-- state[0..9] 'flags 0 to 9: 0 is low, any other number high', [10..17] 'ports 1 to 8, in the same way', [18] 'the ring's position', [19] 'how many
-- of its words are filled', [20] 'the array id last raised', [21], [22] 'the day of the last scan of Tables 1 and 2; 0: there was none', [23], [24]
-- 'the minute of the day of that scan'
unfoldable pub state_of : List ℕ → State
state_of numbers =
    record {
      flags = map (λ k. is_set (get_or numbers k 0)) (numbers_from 0 10);
      ports = map (λ k. is_set (get_or numbers k 0)) (numbers_from 10 8);
      position = get_or numbers 18 0;
      filled = get_or numbers 19 0;
      array = get_or numbers 20 0;
      days = get_or numbers 21 0 ∷ get_or numbers 22 0 ∷ [];
      minutes = get_or numbers 23 0 ∷ get_or numbers 24 0 ∷ [];
    }

unfoldable pub numbers_of_state : State → List ℕ
numbers_of_state s =
    map (λ k. bit_of (get_or s.flags k false)) (numbers_from 0 10)
    ++ (map (λ k. bit_of (get_or s.ports k false)) (numbers_from 0 8)
    ++ (s.position
    ∷ s.filled
    ∷ s.array
    ∷ get_or s.days 0 0
    ∷ get_or s.days 1 0
    ∷ get_or s.minutes 0 0
    ∷ get_or s.minutes 1 0
    ∷ []))

pub state_back : (s : State) → Shaped s → state_of (numbers_of_state s) ≡ s
unfolding state_of numbers_of_state numbers_from
state_back s g =
    let made : List Bool → List Bool → List ℕ → List ℕ → State =
    λ f p d m. record { flags = f; ports = p; position = s.position; filled = s.filled; array = s.array; days = d; minutes = m } in
    simp bit_back
    (ap (λ f. made f (map (λ k. get_or s.ports k false) (numbers_from 0 8)) (map (λ k. get_or s.days k 0) (numbers_from 0 2)) (map (λ k. get_or s.minutes k 0) (numbers_from 0 2))) (places 10 s.flags false g.flags)
    ∙ ap (λ p. made s.flags p (map (λ k. get_or s.days k 0) (numbers_from 0 2)) (map (λ k. get_or s.minutes k 0) (numbers_from 0 2))) (places 8 s.ports false g.ports)
    ∙ ap (λ d. made s.flags s.ports d (map (λ k. get_or s.minutes k 0) (numbers_from 0 2))) (places 2 s.days 0 g.days)
    ∙ ap (made s.flags s.ports s.days) (places 2 s.minutes 0 g.minutes))
