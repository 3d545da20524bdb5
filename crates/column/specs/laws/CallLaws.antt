-- What leads from the steps of the column call to its promise.
use Rattle.std.specs.Prelude.{ℕ, ◌+◌, ◌-◌, ◌*◌, ◌/◌, ◌%◌, ◌≤◌, ◌<◌, ◌≡◌, Bool, true, Option, Some, Result, Ok, Err, List, Float, drop}
use Rattle.std.proofs.Common.{zero-add, arith, sym, ◌∙◌, take_all, length-take-le}
use Rattle.std.proofs.Math.Path.{refl}
use Rattle.std.proofs.Math.ListN.{length, take, length-drop}
use borrow.Author.Tests.{le-leb, lt-leb, eq-eqb}
use Rattle.lent.specs.Over.{over}
use Rattle.lent.specs.laws.OverLaws.{over_nothing, take_over, length_over}
use Rattle.refusal.specs.declared.Refusal.{Refusal}
use Rattle.refusal.specs.declared.Refusal.TheVariants as Refusals
use Rattle.refusal.specs.Verdicts.{answered, Passed, Verdict, written}
use Rattle.math.specs.Vectors.{points}
use Rattle.mesh.specs.Mesh.{Mesh}
use Rattle.mesh_questions.specs.MeshQuestions.{ask_mesh, ask_finite}
use Rattle.polyhedron.specs.PointLists.{list_fits, ask_points, ask_list, answers_to}
use Rattle.polyhedron.specs.laws.ListLaws.{length_answers_to}
use Rattle.text.specs.declared.fields.Number.{Number}
use Rattle.text.specs.declared.Kind.{Kind}
use Rattle.text.specs.declared.Kind.TheVariants as Kinds
use Rattle.text.specs.declared.Counts.{Counts}
use Rattle.text.specs.Lines.{is_count, is_corner, is_of, all_three, numbers_fit, kind_of, lines_in, lines}
use Rattle.text.specs.steps.LineAt.{line_at}
use Rattle.text.specs.laws.LineLaws.{length_lines, lines_take, lines_drop, section_line}
use Rattle.text.specs.laws.GoodTexts.{GoodText, good_text, good_line}
use Rattle.text.specs.Listing.{listing_text, listing_length}
use Rattle.text.specs.laws.ListingLaws.{length_listing}
use Rattle.column.specs.steps.Answers.{Few}
use Rattle.column.specs.Column.{mesh_of, points_of, ask_column, judged_verdict, column_listing, judged, column_verdict, column_answer, Lists}
use Rattle.column.specs.steps.Sections.{ListsAnswers}
use Rattle.column.specs.Numbers.{float_of, corner_of, numbers_of, ends_from}
use Rattle.column.specs.steps.Whole.{Whole}
use Rattle.column.specs.laws.NumberLaws.{length_numbers, length_ends, finite_section}

-- ---- `list_answers`

module _ (m : Mesh) (list : List Float) (places : ℕ) (listing₀ : List ℕ) where
  -- a refusal by 1 to 5
  pub refused_mesh : (refusal : Refusal) → ask_mesh m.coords m.corners m.ends ≡ Err refusal → ListsAnswers m list places listing₀ (Err refusal) listing₀
  unfolding ask_column written
  refused_mesh refusal e = record { answer = rw e; listing = rw e (sym (over_nothing listing₀)) }

  module _ (passed : ask_mesh m.coords m.corners m.ends ≡ Passed) where
    -- a refusal by 6
    pub refused_room : length listing₀ < listing_length places → ListsAnswers m list places listing₀ (Err Refusals.Room) listing₀
    unfolding ask_column written
    refused_room h =
        let short = lt-leb (listing_length places) (length listing₀) h in
        record { answer = rw (passed, short); listing = rw (passed, short) (sym (over_nothing listing₀)) }

    -- nothing is refused
    pub listed_answers : (listing₁ : List ℕ) → listing_length places ≤ length listing₀ → listing₁ ≡ over (listing_text (answers_to m list)) listing₀ → ListsAnswers m list places listing₀ (Ok (listing_length places)) listing₁
    unfolding ask_column written
    listed_answers listing₁ h e =
        let enough = le-leb (listing_length places) (length listing₀) h in
        record { answer = rw (passed, enough); listing = rw (passed, enough) e }

-- ---- the sections of an accepted text

-- n lines of one kind behind the first k
section_whole : (test : Option Number → Bool) (kind : Kind) (text : List ℕ) (k n places : ℕ) → ((line : List ℕ) → numbers_fit kind line ≡ true → all_three test line ≡ true)
    → 36 * (k + n) ≤ length text → ((i : ℕ) → i < n → kind_of (line_at text (k + i)) ≡ Some kind) → 3 * n ≤ places → Whole test (take (36 * n) (drop (36 * k) text)) places
section_whole test kind text k n places fit h each room =
    let long : length (take (36 * n) (drop (36 * k) text)) ≡ 36 * n = length-take-le (36 * n) (drop (36 * k) text) (omega (arith, length-drop (36 * k) text)) in
    record {
      whole = omega (arith, long);
      each = λ i below.
          let line = good_line (line_at text (k + i)) kind (each i (omega (arith, long))) in
          rw (section_line text k n i (omega (arith, long)) h) (line.0, fit (line_at text (k + i)) line.1);
      room = omega (arith, long);
    }

section_lines : (text : List ℕ) (k n : ℕ) → 36 * (k + n) ≤ length text → lines (take (36 * n) (drop (36 * k) text)) ≡ take n (drop k (lines text))
section_lines text k n h =
    rw (lines_take n (drop (36 * k) text) (omega (arith, length-drop (36 * k) text)), lines_drop k text (omega arith))

length_section : (text : List ℕ) (k n : ℕ) → 36 * (k + n) ≤ length text → length (take n (drop k (lines text))) ≡ n
length_section text k n h = length-take-le n (drop k (lines text)) (omega (arith, length-drop k (lines text), length_lines text))

-- the bytes that are answered are those that are written
listed_length : (v : Verdict) (text : List ℕ) (bytes : ℕ) → length text ≡ bytes → answered v bytes ≡ answered v (length (written v text))
unfolding written
listed_length (Ok passed) text bytes e = rw e
listed_length (Err refusal) text bytes e = refl

-- what was written stands in front
front_found : {A : Type 0} (front old new : List A) (n : ℕ) → length front ≡ n → n ≤ length old → new ≡ over front old → (n ≤ length new) × (take n new ≡ front)
front_found front old new n e h f = rw f (omega (arith, length_over front old (omega (arith, e))), take_over front old n e)

-- the front of a list is as long as it says
pub ruleset fronts = (length-take-le)

module _ (text : List ℕ) (counts : Counts) (good : judged text ≡ Ok counts) where
  -- what the text has
  pub has : GoodText text counts
  unfolding judged
  has = good_text 1 counts text good

  long : length text ≡ 36 * (counts.vertices + counts.triangles + counts.points)
  unfolding lines_in
  long = has.long

  -- its length, and how few lines there are of each kind
  pub sizes : (length text ≡ 36 * (counts.vertices + counts.triangles + counts.points)) × (counts.vertices ≤ 512) × (counts.triangles ≤ 512) × (counts.points ≤ 512)
  sizes = (long, has.limits.vertices, has.limits.triangles, has.limits.points)

  -- the bytes of the triangles and of the points
  triangle_bytes : 36 * (counts.vertices + counts.triangles) - 36 * counts.vertices ≡ 36 * counts.triangles
  triangle_bytes = omega arith

  point_bytes : length text - 36 * (counts.vertices + counts.triangles) ≡ 36 * counts.points
  point_bytes = omega (arith, long)

  -- the sections are whole
  pub vertices_whole : (places : ℕ) → 1536 ≤ places → Whole is_count (take (36 * counts.vertices) text) places
  unfolding numbers_fit is_of
  vertices_whole places h =
      section_whole is_count Kinds.Vertex text 0 counts.vertices places (λ line e. e) (omega (arith, long)) (λ i below. rw (zero-add i) (has.each_vertex i below)) (omega (arith, has.limits.vertices))

  pub triangles_whole : (places : ℕ) → 1536 ≤ places → Whole is_corner (take (36 * (counts.vertices + counts.triangles) - 36 * counts.vertices) (drop (36 * counts.vertices) text)) places
  unfolding numbers_fit is_of
  triangles_whole places h =
      rw triangle_bytes (section_whole is_corner Kinds.Triangle text counts.vertices counts.triangles places (λ line e. e) (omega (arith, long)) has.each_triangle (omega (arith, has.limits.triangles)))

  pub points_whole : (places : ℕ) → 1536 ≤ places → Whole is_count (take (length text - 36 * (counts.vertices + counts.triangles)) (drop (36 * (counts.vertices + counts.triangles)) text)) places
  unfolding numbers_fit is_of
  points_whole places h =
      rw point_bytes (section_whole is_count Kinds.Point text (counts.vertices + counts.triangles) counts.points places (λ line e. e) (omega (arith, long)) has.each_point (omega (arith, has.limits.points)))

  -- the points are all lines behind the triangles
  point_lines : lines (take (length text - 36 * (counts.vertices + counts.triangles)) (drop (36 * (counts.vertices + counts.triangles)) text)) ≡ drop (counts.vertices + counts.triangles) (lines text)
  point_lines =
      let k = counts.vertices + counts.triangles in
      let all = take_all (length text - 36 * k) (drop (36 * k) text) (omega (arith, length-drop (36 * k) text)) in
      rw (all, lines_drop k text (omega (arith, long)))

  -- three numbers a point
  pub length_points_of : length (points_of counts (lines text)) ≡ 3 * counts.points
  unfolding points_of
  length_points_of =
      let k = counts.vertices + counts.triangles in
      omega (arith, length_numbers float_of (drop k (lines text)), length-drop k (lines text), length_lines text, long)

  -- each list begins with what the lines say
  pub coords_found : (old new : List Float) → 1536 ≤ length old → new ≡ over (numbers_of float_of (lines (take (36 * counts.vertices) text))) old
      → (3 * counts.vertices ≤ length new) × (take (3 * counts.vertices) new ≡ (mesh_of counts (lines text)).coords)
  unfolding mesh_of
  coords_found old new h e =
      let v = counts.vertices in
      let few = length_section text 0 v (omega (arith, long)) in
      front_found (numbers_of float_of (take v (lines text))) old new (3 * v) (omega (arith, length_numbers float_of (take v (lines text)), few)) (omega (arith, has.limits.vertices)) (rw (section_lines text 0 v (omega (arith, long))) at e)

  pub corners_found : (old new : List ℕ) → 1536 ≤ length old → new ≡ over (numbers_of corner_of (lines (take (36 * (counts.vertices + counts.triangles) - 36 * counts.vertices) (drop (36 * counts.vertices) text)))) old
      → (3 * counts.triangles ≤ length new) × (take (3 * counts.triangles) new ≡ (mesh_of counts (lines text)).corners)
  unfolding mesh_of
  corners_found old new h e =
      let v = counts.vertices in
      let t = counts.triangles in
      let front = take t (drop v (lines text)) in
      let few = length_section text v t (omega (arith, long)) in
      front_found (numbers_of corner_of front) old new (3 * t) (omega (arith, length_numbers corner_of front, few)) (omega (arith, has.limits.triangles)) (rw (triangle_bytes, section_lines text v t (omega (arith, long))) at e)

  pub ends_found : (old new : List ℕ) → 512 ≤ length old → new ≡ over (ends_from 0 counts.triangles) old
      → (counts.triangles ≤ length new) × (take counts.triangles new ≡ (mesh_of counts (lines text)).ends)
  unfolding mesh_of
  ends_found old new h e =
      let t = counts.triangles in
      front_found (ends_from 0 t) old new t (length_ends 0 t) (omega (arith, has.limits.triangles)) e

  pub points_found : (old new : List Float) → 1536 ≤ length old → new ≡ over (numbers_of float_of (lines (take (length text - 36 * (counts.vertices + counts.triangles)) (drop (36 * (counts.vertices + counts.triangles)) text)))) old
      → (3 * counts.points ≤ length new) × (take (3 * counts.points) new ≡ points_of counts (lines text))
  points_found old new h e =
      front_found (points_of counts (lines text)) old new (3 * counts.points) length_points_of (omega (arith, has.limits.points)) (unfold points_of in rw point_lines at e)

  points_finite : ask_finite Refusals.Point 0 (points (points_of counts (lines text))) ≡ Passed
  unfolding points_of
  points_finite = rw point_lines at (finite_section Refusals.Point _ (points_whole 1536 (omega arith)))

  -- 8 and 9 let the points pass, and there are few of everything
  pub few_found : Few (mesh_of counts (lines text)) (points_of counts (lines text)) counts.points
  unfolding mesh_of ask_list list_fits ask_points
  few_found =
      let v = counts.vertices in
      let t = counts.triangles in
      let p = counts.points in
      let corners = length_numbers corner_of (take t (drop v (lines text))) in
      let triangles = length_section text v t (omega (arith, long)) in
      let whole = eq-eqb (length (points_of counts (lines text)) % 3) 0 (omega (arith, length_points_of)) in
      let few = le-leb (length (points_of counts (lines text)) / 3) 65536 (omega (arith, length_points_of, has.limits.points)) in
      let third = eq-eqb p (length (points_of counts (lines text)) / 3) (omega (arith, length_points_of)) in
      record {
        corners = omega (arith, corners, triangles, has.limits.triangles);
        ends = omega (arith, corners, triangles, length_ends 0 t);
        few = has.limits.points;
        list = rw (whole, few, third) points_finite;
      }

  -- the promise of `list_answers` for what the lines say is that of the call
  pub lists_found : {listing₀ listing₁ : List ℕ} {result : Result ℕ Refusal} → ListsAnswers (mesh_of counts (lines text)) (points_of counts (lines text)) counts.points listing₀ result listing₁ → Lists text listing₀ result listing₁
  unfolding column_verdict judged_verdict column_answer column_listing
  lists_found {listing₀} {listing₁} {result} lists =
      let m = mesh_of counts (lines text) in
      let answers = answers_to m (points_of counts (lines text)) in
      let count : length answers ≡ counts.points = omega (arith, length_answers_to m (points_of counts (lines text)), length_points_of) in
      let bytes = rw count at (length_listing answers) in
      record {
        answer = rw good (lists.answer ∙ listed_length (ask_column m counts.points (length listing₀)) (listing_text answers) (listing_length counts.points) bytes);
        listing = rw good lists.listing;
      }

-- a bad line
pub refused_line : (text listing₀ : List ℕ) (line : ℕ) → judged text ≡ Err line → Lists text listing₀ (Err (Refusals.Line line)) listing₀
unfolding column_verdict judged_verdict column_answer column_listing written
refused_line text listing₀ line e = record { answer = rw e; listing = rw e (sym (over_nothing listing₀)) }
