-- `add_corners` meets its contract: after each call the first vertices of the buffer are the vertices with that corner among them
-- (`first_added`), so the three promises of `add_vertex` follow one another (`adds_three`).
use Prim.Native.Nat.{ℕ, ◌+◌, ◌≤◌}
use native.Mathlib.Omega.{arith}
use mathlib.Core.Path.{◌≡◌, ◌∙◌}
use mathlib.Core.List.{List}
use lib.Ieee.{Float}
use lib.ListN.{length}
use Rattle.math.specs.declared.Vec3.{Vec3}
use Rattle.weld.specs.Welding.{add, add_all}
use Rattle.weld.specs.steps.WeldSteps.{first, Adds, AddsThree}
use Rattle.weld.specs.laws.Finding.{length_add}
use Rattle.weld.specs.laws.WrittenLists.{length_first, first_over, over_numbers}
use Rattle.weld.proofs.add_corners.Goals as goal

module _ {vs : List Vec3} {l : List Float} {p : Vec3} {r n : ℕ} {l' : List Float} (one : Adds vs l p r n l') where
  first_added : first n l' ≡ add vs p
  first_added = rw one.coords (first_over (add vs p) n l one.count)

  adds_count : n ≤ length vs + 1
  adds_count = omega (arith, length_add vs p)

module _ {vs : List Vec3} {l : List Float} {a b : Vec3} {r₁ n₁ : ℕ} {l₁ : List Float} {r₂ n₂ : ℕ} {l₂ : List Float}
    (one : Adds vs l a r₁ n₁ l₁) (two : Adds (first n₁ l₁) l₁ b r₂ n₂ l₂) where
  adds_two : Adds (add vs a) l b r₂ n₂ l₂
  adds_two =
      let next = rw (first_added one) at two in
      record {
        number = next.number;
        count = next.count;
        coords = next.coords ∙ rw one.coords (over_numbers (add (add vs a) b) (add vs a) l (length_add (add vs a) b).0);
      }

module _ {vs : List Vec3} {l : List Float} {a b c : Vec3} {r₁ n₁ : ℕ} {l₁ : List Float} {r₂ n₂ : ℕ} {l₂ : List Float} {r₃ n₃ : ℕ} {l₃ : List Float}
    (one : Adds vs l a r₁ n₁ l₁) (two : Adds (first n₁ l₁) l₁ b r₂ n₂ l₂) (three : Adds (first n₂ l₂) l₂ c r₃ n₃ l₃) where
  adds_three : AddsThree vs l a b c (record { a = r₁; b = r₂; c = r₃ }) n₃ l₃
  unfolding add_all
  adds_three =
      let second = adds_two one two in
      let third = adds_two second three in
      record { corners = rw (one.number, second.number, third.number); count = third.count; coords = third.coords }

pub add_vertex-b-requires : goal.add_vertex-b-requires
add_vertex-b-requires c =
    let a = c.args in
    omega (arith, adds_count c.add_vertex-a.ensures, length_first a.count.now a.coords.now (omega arith), c.add_vertex-a.auto.coords)

pub add_vertex-c-requires : goal.add_vertex-c-requires
add_vertex-c-requires c =
    let a = c.args in
    omega (
      arith,
      adds_count c.add_vertex-a.ensures,
      adds_count (adds_two c.add_vertex-a.ensures c.add_vertex-b.ensures),
      length_first a.count.now a.coords.now (omega arith),
      c.add_vertex-a.ensures.count,
      c.add_vertex-a.auto.coords,
      c.add_vertex-b.auto.coords,
    )

pub returns : goal.returns
returns c =
    rw (← c.at.ensures, ← c.at-2.ensures, ← c.at-3.ensures) (adds_three c.add_vertex-a.ensures c.add_vertex-b.ensures c.add_vertex-c.ensures)
