-- What the keyings answer and leave, of what they are lent alone, is what `Answered` says of the whole, and the other way round. Assumes nothing.
use Rattle.std.specs.Prelude.{◌≡◌, ℕ, List, [], length, Float}
use Rattle.std.proofs.Common.{ap}
use Rattle.base_program.specs.declared.Program.{Program}
use Rattle.spec_calls.specs.declared.State.{State}
use Rattle.spec_calls.specs.Stores.{Stores, stores, fresh_state}
use Rattle.spec_calls.specs.Refusals.{key_refusal, flag_refusal}
use Rattle.spec_calls.specs.Answers.{keyed, flagged, LocationAnswered, FlagAnswered}

module _ (p : Program) where
  pub location_answers : (k : ℕ) (v : Float) (l : List Float) (number : ℕ) (l' : List Float)
      → number ≡ key_refusal p (length l) k v → l' ≡ keyed number k v l → LocationAnswered p k v l number l'
  location_answers k v l number l' h e s m c w = (h, ap (λ x. stores s x m c w) e)

  pub location_told : (k : ℕ) (v : Float) (l : List Float) (number : ℕ) (l' : List Float)
      → LocationAnswered p k v l number l' → (number ≡ key_refusal p (length l) k v) × (l' ≡ keyed number k v l)
  location_told k v l number l' h = let a = h fresh_state [] [] [] in (a.0, ap (λ (x : Stores). x.locations) a.1)

  pub flag_answers : (f : ℕ) (s : State) (number : ℕ) (s' : State) → number ≡ flag_refusal p f → s' ≡ flagged number f s → FlagAnswered p f s number s'
  flag_answers f s number s' h e l m c w = (h, ap (λ x. stores x l m c w) e)

  pub flag_told : (f : ℕ) (s : State) (number : ℕ) (s' : State) → FlagAnswered p f s number s' → (number ≡ flag_refusal p f) × (s' ≡ flagged number f s)
  flag_told f s number s' h = let a = h [] [] [] [] in (a.0, ap (λ (x : Stores). x.state) a.1)
