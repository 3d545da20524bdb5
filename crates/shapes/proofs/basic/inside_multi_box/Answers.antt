-- `inside_multi_box` meets its contract: each chunk holds the corners of one box, in the list's order.
use Rattle.std.specs.Prelude.{◌≡◌, refl, ℕ, zero, suc, ◌/◌, List, length, drop, Float}
use Rattle.std.proofs.Common.{arith, rules, tests, sym, ◌∙◌, length-drop}
use Rattle.std.proofs.lemmas.Iterator.{YieldsList-from_slice}
use Rattle.std.proofs.lemmas.Iterator.Search.{any_from_yields_List}
use Rattle.std.specs.List.{list_any}
use Rattle.std.specs.Simd.{first_chunks}
use Rattle.math.specs.declared.Vec3.{Vec3}
use Rattle.math.specs.laws.Chunks.{at_take}
use Rattle.math.specs.Vectors.{at, points}
use Rattle.shapes.specs.BoxShapes.{inside_box, in_some_box, inside_multi_box}
use Rattle.shapes.specs.laws.MultiBoxLaws.{in_some_box_next, in_some_box_end}
use Rattle.shapes.proofs.basic.inside_multi_box.Goals as goal

some_chunk : (n : ℕ) (l : List Float) (p : Vec3) → n ≡ length l / 6 → list_any (λ b. inside_box (at b 0) (at b 3) p) (first_chunks 6 n l) ≡ in_some_box (points l) p
some_chunk zero l p e = sym (in_some_box_end l 0 p (omega arith))
some_chunk (suc n) l p e =
    rw (at_take 6 0 l (omega arith), at_take 6 3 l (omega arith), some_chunk n (drop 6 l) p (rw length-drop (omega arith))) (sym (in_some_box_next l 0 p (omega arith)))

pub returns : goal.returns
unfolding inside_multi_box
returns c =
    any_from_yields_List (λ b. inside_box (at b 0) (at b 3) c.args.p) _ _ c.any.result c.any.ensures.ran (YieldsList-from_slice c.as_chunks.result.0.now c.iter.ensures.rest) (λ x b q k. search (rules, tests))
    ∙ rw c.as_chunks.ensures.front (some_chunk (length c.args.boxes.now / 6) c.args.boxes.now c.args.p refl)
