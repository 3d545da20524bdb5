-- A bound on vertex numbers. Definitions only.
use Rattle.std.specs.Prelude.{ℕ, ◌<◌, List}
use Rattle.lent.specs.Every.{Every}
use Rattle.edges.specs.Edges.{Edge}

-- every one of these vertex numbers is below n
abbrev pub Below : ℕ → List ℕ → Type 0
Below n corners = Every (λ a. a < n) corners

-- both vertices of an edge are below n
abbrev pub EdgeBelow : ℕ → Edge → Type 0
EdgeBelow n e = (e.from < n) × (e.to < n)
