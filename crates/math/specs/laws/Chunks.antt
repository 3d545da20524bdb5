-- A list cut into chunks of n, as `as_chunks` cuts it: chunk k holds the n elements from place n k on. Laws for the
-- loops over the chunks of a list.
use Rattle.std.specs.Prelude.{◌≡◌, ℕ, zero, suc, ◌+◌, ◌*◌, ◌/◌, ◌<◌, List, [], length, map, get_or, take, drop, Float}
use Rattle.std.proofs.Common.{arith, sym, length-drop}
use Rattle.std.specs.Float.{nan}
use Rattle.math.specs.Vectors.{at, points}
use Rattle.math.specs.laws.VectorLaws.{points_next, points_short}
use Rattle.std.proofs.lemmas.List.{get_or-take, get_or-drop, drop-drop}
use Rattle.std.specs.Simd.{first_chunks}

chunk : {A : Type 0} (n count k : ℕ) (l : List A) → k < count → get_or (first_chunks n count l) k [] ≡ take n (drop (n * k) l)
chunk n zero k l h = absurd (omega arith)
chunk n (suc count) zero l h = let none : n * 0 ≡ 0 = omega arith in rw none
chunk n (suc count) (suc k) l h =
    let on : n * suc k ≡ n + n * k = omega arith in
    rw (on, ← (drop-drop (n * k) n l)) (chunk n count k (drop n l) (omega arith))

-- element j of chunk k
pub in_chunk : {A : Type 0} (n count k j : ℕ) (l : List A) (d : A) → k < count → j < n → get_or (get_or (first_chunks n count l) k []) j d ≡ get_or l (n * k + j) d
in_chunk n count k j l d h i = rw (chunk n count k l h, get_or-take n (drop (n * k) l) j d i, get_or-drop (n * k) l j d)

-- a point within the first n numbers
pub at_take : (n i : ℕ) (l : List Float) → i + 2 < n → at (take n l) i ≡ at l i
unfolding at
at_take n i l h = rw (get_or-take n l i nan (omega arith), get_or-take n l (i + 1) nan (omega arith), get_or-take n l (i + 2) nan h)

-- the points of a list are those of its chunks of three
pub points_of_chunks : (n : ℕ) (l : List Float) → n ≡ length l / 3 → map (λ c. at c 0) (first_chunks 3 n l) ≡ points l
points_of_chunks zero l e = sym (points_short l (omega arith))
points_of_chunks (suc n) l e = rw (at_take 3 0 l (omega arith), points_of_chunks n (drop 3 l) (rw length-drop (omega arith))) (sym (points_next l 0 (omega arith)))
