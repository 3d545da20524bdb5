use Rattle.std.proofs.Common.{◌≤◌, length, get_or, arith}
use Rattle.edges.proofs.Filling.{filled_none, filled_all, next_end, filled_next}
use Rattle.edges.proofs.fill_keys.Goals.{In-loop-end}
use Rattle.edges.proofs.fill_keys.Goals as goal

pub loop-end-init : goal.loop-end-init
loop-end-init c = filled_none _ _ _ c.requires.ends_value

-- the face ends behind its start, within the corners
within : (c : In-loop-end) → (c.loop-end.start ≤ get_or c.args.ends.now c.loop-end.end-index 0) × (get_or c.args.ends.now c.loop-end.end-index 0 ≤ length c.args.corners.now)
within c = next_end c.loop-end.invariant c.loop-end-test.true

pub slice_bounds-face_keys-count : goal.slice_bounds-face_keys-count
slice_bounds-face_keys-count c = omega (arith, within (goal.at.slice_bounds-face_keys-count c).In-loop-end)

pub slice_bounds-face_keys-start : goal.slice_bounds-face_keys-start
slice_bounds-face_keys-start c = omega (arith, within (goal.at.slice_bounds-face_keys-start c).In-loop-end)

pub slice_bounds-face_keys-end : goal.slice_bounds-face_keys-end
slice_bounds-face_keys-end c = omega (arith, within (goal.at.slice_bounds-face_keys-end c).In-loop-end)

pub slice_bounds-face_keys-count-in-loop-end : goal.slice_bounds-face_keys-count-in-loop-end
slice_bounds-face_keys-count-in-loop-end c = omega (arith, within (goal.at.slice_bounds-face_keys-count-in-loop-end c).In-loop-end)

pub slice_bounds-face_keys-start-in-loop-end : goal.slice_bounds-face_keys-start-in-loop-end
slice_bounds-face_keys-start-in-loop-end c = omega (arith, within (goal.at.slice_bounds-face_keys-start-in-loop-end c).In-loop-end)

pub loop-end-preserved : goal.loop-end-preserved
loop-end-preserved c = filled_next c.loop-end.invariant c.loop-end-test.true _ c.face_keys.ensures

pub returns : goal.returns
returns c = filled_all c.loop-end.invariant c.loop-end-test.false
