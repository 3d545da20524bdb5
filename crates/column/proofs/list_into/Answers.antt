-- `list_into` meets its contract: the lists begin with what the lines say, and `list_answers` gives the listing of that.
use native.Mathlib.Omega.{arith}
use lib.Seq.{length-take-le}
use Rattle.column.specs.laws.CallLaws.{has, vertices_whole, triangles_whole, points_whole, coords_found, corners_found, ends_found, points_found, few_found, lists_found}
use Rattle.column.proofs.list_into.Goals as goal

pub fill-requires : goal.fill-requires
fill-requires c =
    vertices_whole c.args.text.now c.args.counts c.requires.0 _ c.requires.1.for_coords

pub fill-requires-2 : goal.fill-requires-2
fill-requires-2 c =
    triangles_whole c.args.text.now c.args.counts c.requires.0 _ c.requires.1.for_corners

pub fill-requires-3 : goal.fill-requires-3
fill-requires-3 c =
    points_whole c.args.text.now c.args.counts c.requires.0 _ c.requires.1.for_points

pub list_answers-requires : goal.list_answers-requires
list_answers-requires c =
    let coords = (coords_found c.args.text.now c.args.counts c.requires.0 c.args.coords.now _ c.requires.1.for_coords c.fill.ensures).1 in
    let corners = (corners_found c.args.text.now c.args.counts c.requires.0 c.args.corners.now _ c.requires.1.for_corners c.fill-2.ensures).1 in
    let ends = (ends_found c.args.text.now c.args.counts c.requires.0 c.args.ends.now _ c.requires.1.for_ends c.fill_ends.ensures).1 in
    let points = (points_found c.args.text.now c.args.counts c.requires.0 c.args.points.now _ c.requires.1.for_points c.fill-3.ensures).1 in
    let few = (has c.args.text.now c.args.counts c.requires.0).limits in
    let answers = length-take-le c.args.counts.points c.args.answers.now (omega (arith, few.points, c.requires.1.for_answers)) in
    rw (coords, corners, ends, points, answers) (few_found c.args.text.now c.args.counts c.requires.0)

pub returns : goal.returns
returns c =
    let coords = (coords_found c.args.text.now c.args.counts c.requires.0 c.args.coords.now _ c.requires.1.for_coords c.fill.ensures).1 in
    let corners = (corners_found c.args.text.now c.args.counts c.requires.0 c.args.corners.now _ c.requires.1.for_corners c.fill-2.ensures).1 in
    let ends = (ends_found c.args.text.now c.args.counts c.requires.0 c.args.ends.now _ c.requires.1.for_ends c.fill_ends.ensures).1 in
    let points = (points_found c.args.text.now c.args.counts c.requires.0 c.args.points.now _ c.requires.1.for_points c.fill-3.ensures).1 in
    let few = (has c.args.text.now c.args.counts c.requires.0).limits in
    let answers = length-take-le c.args.counts.points c.args.answers.now (omega (arith, few.points, c.requires.1.for_answers)) in
    lists_found c.args.text.now c.args.counts c.requires.0 (rw (coords, corners, ends, points, answers) at c.list_answers.ensures)
