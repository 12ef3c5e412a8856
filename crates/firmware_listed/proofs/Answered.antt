-- What a listing call that takes its buffers answers, and what one that does not take them answers. By the test of their sizes. Assumes nothing.
use mathlib.Core.Path.{◌≡◌, refl, sym, subst}
use Prim.Native.Nat.{ℕ}
use mathlib.Core.Bool.{Bool, true, false, ◌&&◌}
use mathlib.Core.List.{List}
use lib.ListN.{length}
use borrow.Author.Tests.{eq-eqb, ne_eqb}
use Rattle.std.specs.Prelude.{Option, Result}
use Rattle.storage_listing.specs.declared.Item.{Item}
use Rattle.storage_listing.specs.declared.NextArray.{NextArray}
use Rattle.storage_listing.specs.declared.NextError.{NextError}
use Rattle.base_laws.specs.Tests.{no}
use Rattle.firmware_buffers.specs.Sizes.{is_state}
use Rattle.firmware_list.specs.Items.{ItemTold, is_cursor, numbers_of_cursor, ArrayPut, next_of, NextIf, NextTold}

module _ (t : Bool) where
  pub item_refused : (l : Result (Option Item) ℕ) (a b c : ℕ) → t ≡ false → ItemTold t l a b c 31 a b c
  item_refused l a b c h =
      record { answer = sym (no _ _ h); number = sym (no _ _ h); places = sym (no _ _ h); negative = sym (no _ _ h) }

  pub item_taken : (l m : Result (Option Item) ℕ) (a b c r a' b' c' : ℕ) → t ≡ true → l ≡ m → ItemTold true l a b c r a' b' c' → ItemTold t m a b c r a' b' c'
  item_taken l m a b c r a' b' c' h e x =
      subst (λ (z : Bool). ItemTold z m a b c r a' b' c') (sym h) (subst (λ (z : Result (Option Item) ℕ). ItemTold true z a b c r a' b' c') e x)

-- ---- the next array

pub a_cursor : (l : List ℕ) → length l ≡ 3 → is_cursor l ≡ true
a_cursor l h = eq-eqb (length l) 3 h

pub no_cursor : (l : List ℕ) → (length l ≡ 3 → ⊥) → is_cursor l ≡ false
no_cursor l h = ne_eqb (length l) 3 h

pub put_alike : {a b : Result (Option NextArray) NextError} {i n r i' n' : ℕ} → a ≡ b → ArrayPut a i n r i' n' → ArrayPut b i n r i' n'
put_alike {a} {b} {i} {n} {r} {i'} {n'} e x = subst (λ (z : Result (Option NextArray) NextError). ArrayPut z i n r i' n') e x

module _ (state ring cur vs : List ℕ) (i n : ℕ) where
  pub next_left : is_state state && is_cursor cur ≡ false → NextTold state ring cur vs i n 31 cur vs i n
  next_left h =
      subst (λ b. NextIf b state ring cur vs i n 31 cur vs i n) (sym h)
      (record { answer = refl; cursor = refl; values = refl; id = refl; count = refl })

  pub next_taken : {r i' n' : ℕ} {cur' vs' : List ℕ} → is_state state && is_cursor cur ≡ true
      → ArrayPut (next_of state ring cur vs).array i n r i' n'
      → cur' ≡ numbers_of_cursor (next_of state ring cur vs).cursor → vs' ≡ (next_of state ring cur vs).values
      → NextTold state ring cur vs i n r cur' vs' i' n'
  next_taken {r} {i'} {n'} {cur'} {vs'} h a c v =
      subst (λ b. NextIf b state ring cur vs i n r cur' vs' i' n') (sym h) (record { array = a; cursor = c; values = v })
