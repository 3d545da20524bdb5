-- What the steps of the column call promise to each other. Definitions only.
use Rattle.std.specs.Prelude.{ℕ, ◌≤◌, ◌≡◌, Result, List, Float, length}
use Rattle.lent.specs.Over.{over}
use Rattle.refusal.specs.declared.Refusal.{Refusal}
use Rattle.refusal.specs.Verdicts.{answered, written}
use Rattle.mesh.specs.Mesh.{Mesh}
use Rattle.polyhedron.specs.PointLists.{answers_to}
use Rattle.text.specs.Listing.{listing_text, listing_length}
use Rattle.column.specs.Column.{ask_column}

-- room for 512 vertices, triangles and points
pub record Places (coords corners ends points answers : ℕ) : Type 0 where
  pub for_coords : 1536 ≤ coords
  pub for_corners : 1536 ≤ corners
  pub for_ends : 512 ≤ ends
  pub for_points : 1536 ≤ points
  pub for_answers : 512 ≤ answers

-- what `list_answers` promises
pub record ListsAnswers (m : Mesh) (points : List Float) (places : ℕ) (listing₀ : List ℕ) (result : Result ℕ Refusal) (listing₁ : List ℕ) : Type 0 where
  pub answer : result ≡ answered (ask_column m places (length listing₀)) (listing_length places)
  pub listing : listing₁ ≡ over (written (ask_column m places (length listing₀)) (listing_text (answers_to m points))) listing₀
