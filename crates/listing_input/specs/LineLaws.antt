-- A line that is a reading has a number from 1 to 196. Assumes nothing.
use Rattle.std.specs.Prelude.{ℕ, ◌-◌, ◌≤◌, ◌≡◌, refl, Bool, true, false, cond, ◌&&◌, List, length, get_or, take, drop, Float, leb, eqb, Option, Some, None}
use Rattle.std.proofs.Common.{arith, subst, leb-true}
use Rattle.text_number.proofs.Laws.{and_left, and_right}
use Rattle.text_number.specs.Keyed.{whole_of}
use Rattle.text_items.specs.Split.{items_of, is_same}
use Rattle.text_parameters.specs.Parameter.{item, fixed_in}
use Rattle.base_program.specs.Codes.{between}
use Rattle.listing_input.specs.declared.Line.{Line}
use Rattle.listing_input.specs.Line.{reading_of, tick_of, the_reading, the_tick, line_in, line_of}

-- the number of one of the readings
abbrev pub Numbered : ℕ → Type 0
Numbered n = (1 ≤ n) × (n ≤ 196)

from_reading : (w : Option ℕ) (f : Option Float) (n : ℕ) (v : Float) → reading_of w f ≡ Some (Line.Reading n v) → Numbered n
unfolding reading_of
from_reading None f n v h = absurd (let z : ◌≡◌ {A = ℕ} 0 1 = cc in omega arith)
from_reading (Some m) None n v h = absurd (let z : ◌≡◌ {A = ℕ} 0 1 = cc in omega arith)
from_reading (Some m) (Some x) n v h = go (between 1 196 m) refl h
  where
    go : (t : Bool) → between 1 196 m ≡ t → cond t (Some (Line.Reading m x)) None ≡ Some (Line.Reading n v) → Numbered n
    go true e h =
        let q : m ≡ n = cc in
        subst Numbered q (leb-true 1 m (and_left (leb 1 m) (leb m 196) e), leb-true m 196 (and_right (leb 1 m) (leb m 196) e))
    go false e h = absurd (let z : ◌≡◌ {A = ℕ} 0 1 = cc in omega arith)

from_tick : (day time : Option ℕ) (n : ℕ) (v : Float) → tick_of day time ≡ Some (Line.Reading n v) → Numbered n
unfolding tick_of
from_tick None time n v h = absurd (let z : ◌≡◌ {A = ℕ} 0 1 = cc in omega arith)
from_tick (Some d) None n v h = absurd (let z : ◌≡◌ {A = ℕ} 0 1 = cc in omega arith)
from_tick (Some d) (Some t) n v h = absurd (let z : ◌≡◌ {A = ℕ} 0 1 = cc in omega arith)

from_items : (ws : List (List ℕ)) (n : ℕ) (v : Float) → line_in ws ≡ Some (Line.Reading n v) → Numbered n
unfolding line_in
from_items ws n v h = go (eqb (length ws) 3) (is_same (item ws 0) the_reading) (is_same (item ws 0) the_tick) h
  where
    go : (a b c : Bool)
        → cond a (cond b (reading_of (whole_of (item ws 1)) (fixed_in ws 2)) (cond c (tick_of (whole_of (item ws 1)) (whole_of (item ws 2))) None)) None ≡ Some (Line.Reading n v) → Numbered n
    go true true c h = from_reading (whole_of (item ws 1)) (fixed_in ws 2) n v h
    go true false true h = from_tick (whole_of (item ws 1)) (whole_of (item ws 2)) n v h
    go true false false h = absurd (let z : ◌≡◌ {A = ℕ} 0 1 = cc in omega arith)
    go false b c h = absurd (let z : ◌≡◌ {A = ℕ} 0 1 = cc in omega arith)

pub reading_in : (l : List ℕ) (n : ℕ) (v : Float) → line_of l ≡ Some (Line.Reading n v) → Numbered n
unfolding line_of
reading_in l n v h = go (leb 2 (length l) && (eqb (get_or l 0 0) 40 && eqb (get_or l (length l - 1) 0) 41)) h
  where
    go : (t : Bool) → cond t (line_in (items_of (take (length l - 1 - 1) (drop 1 l)))) None ≡ Some (Line.Reading n v) → Numbered n
    go true h = from_items (items_of (take (length l - 1 - 1) (drop 1 l))) n v h
    go false h = absurd (let z : ◌≡◌ {A = ℕ} 0 1 = cc in omega arith)
