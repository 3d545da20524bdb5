-- `add_vertex` meets its contract: if p is found the buffer stays as it is (`adds_found`); else p is written behind the vertices
-- (`adds_new`).
use Prim.Native.Nat.{ℕ, ◌+◌, ◌*◌, ◌<◌}
use native.Mathlib.Omega.{arith}
use mathlib.Core.Path.{◌≡◌, sym, ◌∙◌}
use mathlib.Core.List.{List, [], ◌∷◌, ◌++◌}
use lib.Ieee.{Float}
use lib.ListN.{length, take, drop, length-append}
use Rattle.lent.specs.laws.OverLaws.{over_part}
use Rattle.math.specs.declared.Vec3.{Vec3}
use Rattle.weld.specs.Welding.{find, numbers}
use Rattle.weld.specs.steps.WeldSteps.{first, Adds}
use Rattle.weld.specs.laws.Finding.{add_found, add_new}
use Rattle.weld.specs.laws.WrittenLists.{numbers_append, numbers_first, over_first, length_first}
use Rattle.weld.proofs.add_vertex.Goals as goal

module _ (n : ℕ) (l : List Float) (p : Vec3) (room : 3 * n + 2 < length l) where
  all : length (first n l) ≡ n
  all = length_first n l (omega arith)

  adds_found : (r : ℕ) → r ≡ find (first n l) p → r < length (first n l) → Adds (first n l) l p r n l
  adds_found r e h =
      let same = add_found (first n l) p (omega arith) in
      record { number = e; count = rw same (sym all); coords = rw same (sym (over_first n l (omega arith))) }

  adds_new : (width : ℕ) (part : List Float) → width ≡ 3 → part ≡ p.x ∷ p.y ∷ p.z ∷ [] → find (first n l) p ≡ length (first n l) → Adds (first n l) l p n (n + 1) (take (3 * n) l ++ (part ++ drop width (drop (3 * n) l)))
  unfolding numbers
  adds_new width part wide same e =
      let more = add_new (first n l) p e in
      record {
        number = omega (arith, all);
        count = rw (more, length-append) (omega (arith, all));
        coords = rw (more, numbers_append, numbers_first n l (omega arith)) (over_part (3 * n) width l part (p.x ∷ p.y ∷ p.z ∷ []) (omega arith) wide same);
      }

pub overflow_cast-result : goal.overflow_cast-result
unfolding first
overflow_cast-result c = omega (arith, c.in-Some.ensures, all c.args.count.now c.args.coords.now c.args.p (omega arith))

pub returns-in-Some : goal.returns-in-Some
unfolding first
returns-in-Some c =
    let a = c.args in
    adds_found a.count.now a.coords.now a.p (omega arith) c.in-Some.found c.in-Some.ensures.0 c.in-Some.ensures.1

pub returns : goal.returns
unfolding first
returns c =
    let a = c.args in
    adds_new a.count.now a.coords.now a.p (omega arith) _ _ (omega arith) (c.copy_from_slice.ensures.after ∙ c.from.ensures) (rw c.in_default.is at c.find_vertex.ensures)
