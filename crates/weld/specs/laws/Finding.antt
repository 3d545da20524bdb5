-- Laws of finding and adding vertices: a vertex keeps its number while points are added, and a point that was added is found.
use Rattle.std.specs.Prelude.{◌+◌, ◌≤◌, ◌<◌, Bool, true, false, ◌⊎◌, ◌≡◌, refl, List, [], ◌∷◌, ◌++◌, length}
use Rattle.std.proofs.Common.{eq-or-lt_of_le, arith, inl, inr, ⊎_elim, sym, ◌∙◌, length-append, eq-eqb, ne_eqb}
use Rattle.math.specs.declared.Vec3.{Vec3}
use Rattle.weld.specs.Welding.{same, find, add, add_all}

true_or_false : (b : Bool) → (b ≡ true) ⊎ (b ≡ false)
true_or_false true = inl refl
true_or_false false = inr refl

-- a vertex that is the same as p has number 0
pub find_here : (v : Vec3) (rest : List Vec3) (p : Vec3) → same v p ≡ true → find (v ∷ rest) p ≡ 0
unfolding find
find_here v rest p h = rw h

-- another is passed
pub find_past : (v : Vec3) (rest : List Vec3) (p : Vec3) → same v p ≡ false → find (v ∷ rest) p ≡ find rest p + 1
unfolding find
find_past v rest p h = rw h

-- the number is at most the count
pub find_le : (vs : List Vec3) (p : Vec3) → find vs p ≤ length vs
unfolding find
find_le [] p = omega arith
find_le (v ∷ rest) p =
    ⊎_elim
    (λ (h : same v p ≡ true). omega (arith, find_here v rest p h))
    (λ (h : same v p ≡ false). omega (arith, find_past v rest p h, find_le rest p))
    (true_or_false (same v p))

-- a vertex that is found keeps its number when vertices are appended
find_append_found : (vs ws : List Vec3) (p : Vec3) → find vs p < length vs → find (vs ++ ws) p ≡ find vs p
find_append_found [] ws p h = absurd (omega arith)
find_append_found (v ∷ rest) ws p h =
    ⊎_elim
    (λ (e : same v p ≡ true). find_here v (rest ++ ws) p e ∙ sym (find_here v rest p e))
    (λ (e : same v p ≡ false).
    let within : find rest p < length rest = omega (arith, find_past v rest p e) in
    omega (arith, find_past v rest p e, find_past v (rest ++ ws) p e, find_append_found rest ws p within))
    (true_or_false (same v p))

-- one that is not found is looked for among the appended ones
find_append_new : (vs ws : List Vec3) (p : Vec3) → find vs p ≡ length vs → find (vs ++ ws) p ≡ length vs + find ws p
find_append_new [] ws p h = omega arith
find_append_new (v ∷ rest) ws p h =
    ⊎_elim
    (λ (e : same v p ≡ true). absurd (omega (arith, find_here v rest p e)))
    (λ (e : same v p ≡ false).
    let none : find rest p ≡ length rest = omega (arith, find_past v rest p e) in
    omega (arith, find_past v (rest ++ ws) p e, find_append_new rest ws p none))
    (true_or_false (same v p))

-- a point that is not found is added at the end
pub add_new : (vs : List Vec3) (p : Vec3) → find vs p ≡ length vs → add vs p ≡ vs ++ (p ∷ [])
unfolding add
add_new vs p h = rw (eq-eqb _ _ h)

-- one that is found is not added
pub add_found : (vs : List Vec3) (p : Vec3) → find vs p < length vs → add vs p ≡ vs
unfolding add
add_found vs p h = rw (ne_eqb _ _ (λ (e : find vs p ≡ length vs). omega arith))

-- adding a point adds at most one vertex, and removes none
pub length_add : (vs : List Vec3) (p : Vec3) → (length vs ≤ length (add vs p)) × (length (add vs p) ≤ length vs + 1)
length_add vs p =
    ⊎_elim
    (λ (h : find vs p ≡ length vs). rw (add_new vs p h, length-append) (omega arith))
    (λ (h : find vs p < length vs). rw (add_found vs p h) (omega arith))
    (eq-or-lt_of_le (find_le vs p))

pub length_add_all : (vs ps : List Vec3) → (length vs ≤ length (add_all vs ps)) × (length (add_all vs ps) ≤ length vs + length ps)
unfolding add_all
length_add_all vs [] = omega arith
length_add_all vs (p ∷ rest) = omega (arith, length_add vs p, length_add_all (add vs p) rest)

pub add_all_append : (vs ps qs : List Vec3) → add_all vs (ps ++ qs) ≡ add_all (add_all vs ps) qs
unfolding add_all
add_all_append vs [] qs = refl
add_all_append vs (p ∷ rest) qs = add_all_append (add vs p) rest qs

-- a vertex keeps its number when points are added
find_add : (vs : List Vec3) (p q : Vec3) → find vs p < length vs → find (add vs q) p ≡ find vs p
find_add vs p q h =
    ⊎_elim
    (λ (e : find vs q ≡ length vs). rw (add_new vs q e) (find_append_found vs (q ∷ []) p h))
    (λ (e : find vs q < length vs). rw (add_found vs q e))
    (eq-or-lt_of_le (find_le vs q))

find_add_all : (vs qs : List Vec3) (p : Vec3) → find vs p < length vs → find (add_all vs qs) p ≡ find vs p
unfolding add_all
find_add_all vs [] p h = refl
find_add_all vs (q ∷ rest) p h =
    let kept = find_add vs p q h in
    find_add_all (add vs q) rest p (omega (arith, length_add vs q)) ∙ kept

-- a point that is added has the number at which it was found or added
find_added : (vs : List Vec3) (p : Vec3) → same p p ≡ true → (find (add vs p) p ≡ find vs p) × (find vs p < length (add vs p))
find_added vs p s =
    ⊎_elim
    (λ (h : find vs p ≡ length vs). rw (add_new vs p h, length-append) (omega (arith, find_append_new vs (p ∷ []) p h, find_here p [] p s)))
    (λ (h : find vs p < length vs). rw (add_found vs p h) (refl, h))
    (eq-or-lt_of_le (find_le vs p))

module _ (vs : List Vec3) (p : Vec3) (rest : List Vec3) (s : same p p ≡ true) where
  -- it keeps that number when the points after it are added
  pub find_welded : find (add_all vs (p ∷ rest)) p ≡ find vs p
  unfolding add_all
  find_welded =
      let added = find_added vs p s in
      find_add_all (add vs p) rest p (omega arith) ∙ added.0

  -- which is that of a vertex
  pub find_below : find (add_all vs (p ∷ rest)) p < length (add_all vs (p ∷ rest))
  unfolding add_all
  find_below = omega (arith, find_welded, find_added vs p s, length_add_all (add vs p) rest)
