-- csx's `Vec3` (math.rs): each method as csx writes it, in csx's order of operations; and the points of a list. Definitions only.
use Rattle.std.specs.Prelude.{Bool, cond, ◌&&◌, ℕ, ◌+◌, List, [], ◌∷◌, get_or, eqb, Float}
use Rattle.std.specs.Float.{nan}
use Rattle.std.specs.Float.Ieee as Ieee
use Rattle.float.specs.Arithmetic as Arithmetic
use Rattle.float.specs.Arithmetic.{◌⊕◌, ◌⊖◌, ◌⊗◌, ◌⊘◌, one}
use Rattle.float.specs.Rules as Rules
use Rattle.sqrt.specs.Root as Root
use Rattle.math.specs.declared.Vec3.{Vec3}

-- the vector of three components
abbrev pub vec : Float → Float → Float → Vec3
vec x y z = record { x = x; y = y; z = z }

-- the zero vector
unfoldable pub zero : Vec3
zero = vec Arithmetic.zero Arithmetic.zero Arithmetic.zero

-- the unit vector along axis 0, 1 or 2
unfoldable pub unit : ℕ → Vec3
unit dir =
    vec
    (cond (eqb dir 0) one Arithmetic.zero)
    (cond (eqb dir 1) one Arithmetic.zero)
    (cond (eqb dir 2) one Arithmetic.zero)

-- the component along axis 0, 1 or 2
unfoldable pub component : Vec3 → ℕ → Float
component a axis = cond (eqb axis 0) a.x (cond (eqb axis 1) a.y a.z)

-- the sum, component by component
unfoldable pub add : Vec3 → Vec3 → Vec3
add a b = vec (a.x ⊕ b.x) (a.y ⊕ b.y) (a.z ⊕ b.z)

-- the difference, component by component
unfoldable pub sub : Vec3 → Vec3 → Vec3
sub a b = vec (a.x ⊖ b.x) (a.y ⊖ b.y) (a.z ⊖ b.z)

-- each component times s
unfoldable pub mul : Vec3 → Float → Vec3
mul a s = vec (a.x ⊗ s) (a.y ⊗ s) (a.z ⊗ s)

-- each component divided by s
unfoldable pub div : Vec3 → Float → Vec3
div a s = vec (a.x ⊘ s) (a.y ⊘ s) (a.z ⊘ s)

-- each component with the other sign
unfoldable pub neg : Vec3 → Vec3
neg a = vec (Ieee.neg a.x) (Ieee.neg a.y) (Ieee.neg a.z)

-- the dot product
unfoldable pub dot : Vec3 → Vec3 → Float
dot a b = a.x ⊗ b.x ⊕ a.y ⊗ b.y ⊕ a.z ⊗ b.z

-- the cross product
unfoldable pub cross : Vec3 → Vec3 → Vec3
cross a b =
    vec
    (a.y ⊗ b.z ⊖ a.z ⊗ b.y)
    (a.z ⊗ b.x ⊖ a.x ⊗ b.z)
    (a.x ⊗ b.y ⊖ a.y ⊗ b.x)

-- the squared norm
unfoldable pub norm_sq : Vec3 → Float
norm_sq a = dot a a

-- the Euclidean norm
unfoldable pub norm : Vec3 → Float
norm a = Root.root (norm_sq a)

-- the vector divided by its norm; the zero vector where the norm is not above zero, NaN included
unfoldable pub normalized : Vec3 → Vec3
normalized a = cond (Ieee.lt Arithmetic.zero (norm a)) (div a (norm a)) zero

-- the minimum, component by component
unfoldable pub min : Vec3 → Vec3 → Vec3
min a b = vec (Rules.min a.x b.x) (Rules.min a.y b.y) (Rules.min a.z b.z)

-- the maximum, component by component
unfoldable pub max : Vec3 → Vec3 → Vec3
max a b = vec (Rules.max a.x b.x) (Rules.max a.y b.y) (Rules.max a.z b.z)

-- whether each component is finite
unfoldable pub is_finite : Vec3 → Bool
is_finite a = Rules.is_finite a.x && Rules.is_finite a.y && Rules.is_finite a.z

-- the numbers of a list three by three
unfoldable pub points : List Float → List Vec3
points [] = []
points (x ∷ []) = []
points (x ∷ y ∷ []) = []
points (x ∷ y ∷ z ∷ rest) = vec x y z ∷ points rest

-- the three numbers of a list from place i on
unfoldable pub at : List Float → ℕ → Vec3
at l i = vec (get_or l i nan) (get_or l (i + 1) nan) (get_or l (i + 2) nan)
