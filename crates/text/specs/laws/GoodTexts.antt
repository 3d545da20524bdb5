-- What a text has whose lines are all good: whole lines, first the vertices, then the triangles, then the points, within the limits, each with good numbers.
use Prim.Native.Nat.{ℕ, zero, suc, ◌+◌, ◌*◌, ◌≤◌, ◌<◌}
use Rattle.std.proofs.Common.{arith, sym, ◌∙◌, true≢false, length-drop, length-take, drop-drop, ltb-true, eqb-true}
use Rattle.std.specs.Prelude.{◌≡◌, refl, Bool, true, false, cond, ◌&&◌, Option, Some, None, Result, Ok, Err, List, [], ◌∷◌, eqb, ltb, length, get_or, take, drop}
use Rattle.refusal.specs.laws.VerdictLaws.{both}
use Rattle.text.specs.declared.fields.Number.{Number}
use Rattle.text.specs.declared.Kind.{Kind}
use Rattle.text.specs.declared.Kind.TheVariants as Kinds
use Rattle.text.specs.declared.Counts.{Counts}
use Rattle.text.specs.Fields.{line_feed, field_of}
use Rattle.text.specs.Lines.{number_at, all_three, numbers_fit, kind_named, of_kind, kind_of, lines, none, lines_in, fits, may_follow, counted, judge}
use Rattle.text.specs.steps.LineAt.{line_at}
use Rattle.text.specs.laws.LineLaws.{lines_nil, judge_next}

-- each of three numbers that pass a test together
pub three : (test : Option Number → Bool) (line : List ℕ) → all_three test line ≡ true → (test (number_at 0 line) ≡ true) × (test (number_at 1 line) ≡ true) × (test (number_at 2 line) ≡ true)
unfolding all_three
three test line e =
    let rest = both (test (number_at 0 line) && test (number_at 1 line)) (test (number_at 2 line)) e in
    let pair = both (test (number_at 0 line)) (test (number_at 1 line)) rest.0 in
    (pair.0, pair.1, rest.1)

-- a line of a kind has 36 bytes, and the numbers of that kind
pub good_is : (t : Bool) (i : Option Kind) (j : Kind) → cond t i None ≡ Some j → (t ≡ true) × (i ≡ Some j)
good_is true i j p = (refl, p)
good_is false i j p = (cc, cc)

of_kind_good : (k : Option Kind) (j : Kind) (line : List ℕ) → of_kind k line ≡ Some j → numbers_fit j line ≡ true
unfolding of_kind
of_kind_good None j line e = cc
of_kind_good (Some k) j line e =
    let h = good_is (numbers_fit k line) (Some k) j e in
    let same : k ≡ j = cc in
    rw (← same) h.0

pub good_line : (line : List ℕ) (j : Kind) → kind_of line ≡ Some j → (length line ≡ 36) × (numbers_fit j line ≡ true)
unfolding kind_of
good_line line j e =
    let h = good_is (eqb (length line) 36 && eqb (get_or line 35 0) line_feed) (of_kind (kind_named (field_of (take 2 line))) line) j e in
    (eqb-true _ _ (both (eqb (length line) 36) _ h.0).0, of_kind_good _ j line h.1)

-- what is left of a text, behind lines that were counted as `done`, if it ends in the counts c: so many lines of each kind, one kind behind the other
pub record Sections (done c : Counts) (text : List ℕ) : Type 0 where
  pub more_vertices : ℕ
  pub more_triangles : ℕ
  pub more_points : ℕ
  pub vertices : c.vertices ≡ done.vertices + more_vertices
  pub triangles : c.triangles ≡ done.triangles + more_triangles
  pub points : c.points ≡ done.points + more_points
  pub long : length text ≡ 36 * (more_vertices + more_triangles + more_points)
  pub no_vertices : 0 < done.triangles + done.points → more_vertices ≡ 0
  pub no_triangles : 0 < done.points → more_triangles ≡ 0
  pub each_vertex : (i : ℕ) → i < more_vertices → kind_of (line_at text i) ≡ Some Kinds.Vertex
  pub each_triangle : (i : ℕ) → i < more_triangles → kind_of (line_at text (more_vertices + i)) ≡ Some Kinds.Triangle
  pub each_point : (i : ℕ) → i < more_points → kind_of (line_at text (more_vertices + more_triangles + i)) ≡ Some Kinds.Point

-- line i behind the first line
line_at_next : (text : List ℕ) (i j : ℕ) → j ≡ i + 1 → line_at text j ≡ line_at (drop 36 text) i
unfolding line_at
line_at_next text i j e =
    let start : 36 * j ≡ 36 + 36 * i = omega (arith, e) in
    rw (start, drop-drop (36 * i) 36 text)

-- the first line
line_at_first : (text : List ℕ) (j : ℕ) → j ≡ 0 → line_at text j ≡ take 36 text
unfolding line_at
line_at_first text j e = rw e

module _ (done c : Counts) (text : List ℕ) (long : length (take 36 text) ≡ 36) where
  -- the text's length from that of what is behind the first line
  length_next : (n : ℕ) → length (drop 36 text) ≡ 36 * n → length text ≡ 36 * (n + 1)
  length_next n e = omega (arith, e, length-drop 36 text, length-take 36 text)

  -- a vertex before such sections
  with_vertex : done.triangles + done.points ≡ 0 → kind_of (take 36 text) ≡ Some Kinds.Vertex → Sections (counted done (Some Kinds.Vertex)) c (drop 36 text) → Sections done c text
  unfolding counted
  with_vertex none kind s =
      record {
        more_vertices = s.more_vertices + 1;
        more_triangles = s.more_triangles;
        more_points = s.more_points;
        vertices = omega (arith, s.vertices);
        triangles = s.triangles;
        points = s.points;
        long = omega (arith, length_next _ s.long);
        no_vertices = λ h. absurd (omega arith);
        no_triangles = s.no_triangles;
        each_vertex = first;
        each_triangle = λ i h. rw (line_at_next text (s.more_vertices + i) (s.more_vertices + 1 + i) (omega arith)) (s.each_triangle i h);
        each_point = λ i h. rw (line_at_next text (s.more_vertices + s.more_triangles + i) (s.more_vertices + 1 + s.more_triangles + i) (omega arith)) (s.each_point i h);
      }
    where
      first : (i : ℕ) → i < s.more_vertices + 1 → kind_of (line_at text i) ≡ Some Kinds.Vertex
      first zero h = rw (line_at_first text 0 refl) kind
      first (suc i) h = rw (line_at_next text i (suc i) (omega arith)) (s.each_vertex i (omega arith))

  -- a triangle
  with_triangle : done.points ≡ 0 → kind_of (take 36 text) ≡ Some Kinds.Triangle → Sections (counted done (Some Kinds.Triangle)) c (drop 36 text) → Sections done c text
  unfolding counted
  with_triangle none kind s =
      record {
        more_vertices = s.more_vertices;
        more_triangles = s.more_triangles + 1;
        more_points = s.more_points;
        vertices = s.vertices;
        triangles = omega (arith, s.triangles);
        points = s.points;
        long = omega (arith, length_next _ s.long);
        no_vertices = λ h. gone;
        no_triangles = λ h. absurd (omega arith);
        each_vertex = λ i h. absurd (omega (arith, gone));
        each_triangle = first;
        each_point = λ i h. rw (line_at_next text (s.more_vertices + s.more_triangles + i) (s.more_vertices + (s.more_triangles + 1) + i) (omega arith)) (s.each_point i h);
      }
    where
      gone : s.more_vertices ≡ 0
      gone = s.no_vertices (omega arith)

      first : (i : ℕ) → i < s.more_triangles + 1 → kind_of (line_at text (s.more_vertices + i)) ≡ Some Kinds.Triangle
      first zero h = rw (line_at_first text (s.more_vertices + 0) (omega (arith, gone))) kind
      first (suc i) h = rw (line_at_next text (s.more_vertices + i) (s.more_vertices + suc i) (omega arith)) (s.each_triangle i (omega arith))

  -- a point
  with_point : kind_of (take 36 text) ≡ Some Kinds.Point → Sections (counted done (Some Kinds.Point)) c (drop 36 text) → Sections done c text
  unfolding counted
  with_point kind s =
      record {
        more_vertices = s.more_vertices;
        more_triangles = s.more_triangles;
        more_points = s.more_points + 1;
        vertices = s.vertices;
        triangles = s.triangles;
        points = omega (arith, s.points);
        long = omega (arith, length_next _ s.long);
        no_vertices = λ h. no_more_vertices;
        no_triangles = λ h. no_more_triangles;
        each_vertex = λ i h. absurd (omega (arith, no_more_vertices));
        each_triangle = λ i h. absurd (omega (arith, no_more_triangles));
        each_point = first;
      }
    where
      no_more_vertices : s.more_vertices ≡ 0
      no_more_vertices = s.no_vertices (omega arith)

      no_more_triangles : s.more_triangles ≡ 0
      no_more_triangles = s.no_triangles (omega arith)

      first : (i : ℕ) → i < s.more_points + 1 → kind_of (line_at text (s.more_vertices + s.more_triangles + i)) ≡ Some Kinds.Point
      first zero h = rw (line_at_first text (s.more_vertices + s.more_triangles + 0) (omega (arith, no_more_vertices, no_more_triangles))) kind
      first (suc i) h = rw (line_at_next text (s.more_vertices + s.more_triangles + i) (s.more_vertices + s.more_triangles + suc i) (omega arith)) (s.each_point i (omega arith))

-- the counts are within the limits
pub record Limits (c : Counts) : Type 0 where
  pub vertices : c.vertices ≤ 512
  pub triangles : c.triangles ≤ 512
  pub points : c.points ≤ 512
  pub lines : lines_in c ≤ 1024

-- one more line that may follow keeps them
limits_next : (done : Counts) (kind : Option Kind) → may_follow done kind ≡ true → Limits done → Limits (counted done kind)
unfolding may_follow fits counted lines_in
limits_next done kind e l = go kind parts.1 (ltb-true _ _ parts.0)
  where
    parts : (ltb (lines_in done) 1024 ≡ true) × (fits done kind ≡ true)
    parts = both (ltb (lines_in done) 1024) (fits done kind) e

    go : (kind : Option Kind) → fits done kind ≡ true → lines_in done < 1024 → Limits (counted done kind)
    go None f h = l
    go (Some Kinds.Vertex) f h =
        let one = ltb-true done.vertices 512 (both (ltb done.vertices 512) (eqb (done.triangles + done.points) 0) f).0 in
        record { vertices = omega (arith, one); triangles = l.triangles; points = l.points; lines = omega (arith, h) }
    go (Some Kinds.Triangle) f h =
        let one = ltb-true done.triangles 512 (both (ltb done.triangles 512) (eqb done.points 0) f).0 in
        record { vertices = l.vertices; triangles = omega (arith, one); points = l.points; lines = omega (arith, h) }
    go (Some Kinds.Point) f h =
        let one = ltb-true done.points 512 f in
        record { vertices = l.vertices; triangles = l.triangles; points = omega (arith, one); lines = omega (arith, h) }

-- one more line that may follow, before the sections behind it
with_line : (done c : Counts) (text : List ℕ) (kind : Option Kind) → kind_of (take 36 text) ≡ kind → may_follow done kind ≡ true → Sections (counted done kind) c (drop 36 text) → Sections done c text
unfolding may_follow fits
with_line done c text kind e f s = go kind e (both (ltb (lines_in done) 1024) (fits done kind) f).1 s
  where
    go : (kind : Option Kind) → kind_of (take 36 text) ≡ kind → fits done kind ≡ true → Sections (counted done kind) c (drop 36 text) → Sections done c text
    go None k g r = absurd (true≢false (sym g))
    go (Some Kinds.Vertex) k g r =
        let none = eqb-true _ _ (both (ltb done.vertices 512) (eqb (done.triangles + done.points) 0) g).1 in
        with_vertex done c text (good_line (take 36 text) Kinds.Vertex k).0 none k r
    go (Some Kinds.Triangle) k g r =
        let none = eqb-true _ _ (both (ltb done.triangles 512) (eqb done.points 0) g).1 in
        with_triangle done c text (good_line (take 36 text) Kinds.Triangle k).0 none k r
    go (Some Kinds.Point) k g r = with_point done c text (good_line (take 36 text) Kinds.Point k).0 k r

-- no lines behind those that were counted
no_lines : (done : Counts) (text : List ℕ) → length text ≡ 0 → Sections done done text
no_lines done text e =
    record {
      more_vertices = 0;
      more_triangles = 0;
      more_points = 0;
      vertices = omega arith;
      triangles = omega arith;
      points = omega arith;
      long = e;
      no_vertices = λ h. refl;
      no_triangles = λ h. refl;
      each_vertex = λ i h. absurd (omega arith);
      each_triangle = λ i h. absurd (omega arith);
      each_point = λ i h. absurd (omega arith);
    }

-- a text that is judged good begins with a line that may follow, and the rest is judged good behind it
judge_cons : (first : ℕ) (done c : Counts) (text : List ℕ) → 0 < length text → judge first done (lines text) ≡ Ok c
    → (may_follow done (kind_of (take 36 text)) ≡ true) × (judge first (counted done (kind_of (take 36 text))) (lines (drop 36 text)) ≡ Ok c)
judge_cons first done c text h e = pick (may_follow done (kind_of (take 36 text))) _ (sym (judge_next first done text 0 h) ∙ e)
  where
    pick : (follows : Bool) (rest : Result Counts ℕ) → cond follows rest (Err (first + lines_in done)) ≡ Ok c → (follows ≡ true) × (rest ≡ Ok c)
    pick true rest p = (refl, p)
    pick false rest p = (cc, cc)

-- lines that are judged good, k at most, are sections within the limits
abbrev GoodUpTo : ℕ → ℕ → Counts → Type 0
GoodUpTo k first c = (done : Counts) (text : List ℕ) → length text ≤ 36 * k → judge first done (lines text) ≡ Ok c → Limits done → Limits c × Sections done c text

good_zero : (first : ℕ) (c : Counts) → GoodUpTo 0 first c
unfolding judge
good_zero first c done text h e l =
    let good : ◌≡◌ {A = Result Counts ℕ} (Ok done) (Ok c) = rw (lines_nil text (omega arith)) at e in
    let same : done ≡ c = cc in
    rw (← same) (l, no_lines done text (omega arith))

good_suc : (k first : ℕ) (c : Counts) → GoodUpTo k first c → GoodUpTo (suc k) first c
good_suc k first c ih done [] h e l = good_zero first c done [] (omega arith) e l
good_suc k first c ih done (b ∷ text) h e l =
    let kind = kind_of (take 36 (b ∷ text)) in
    let next = judge_cons first done c (b ∷ text) (omega arith) e in
    let rest = ih (counted done kind) (drop 36 (b ∷ text)) (omega (arith, length-drop 36 (b ∷ text))) next.1 (limits_next done kind next.0 l) in
    (rest.0, with_line done c (b ∷ text) kind refl next.0 rest.1)

good_all : (k first : ℕ) (c : Counts) → GoodUpTo k first c
good_all zero first c = good_zero first c
good_all (suc k) first c = good_suc k first c (good_all k first c)

-- what a good text has
pub record GoodText (text : List ℕ) (c : Counts) : Type 0 where
  pub limits : Limits c
  pub long : length text ≡ 36 * lines_in c
  pub each_vertex : (i : ℕ) → i < c.vertices → kind_of (line_at text i) ≡ Some Kinds.Vertex
  pub each_triangle : (i : ℕ) → i < c.triangles → kind_of (line_at text (c.vertices + i)) ≡ Some Kinds.Triangle
  pub each_point : (i : ℕ) → i < c.points → kind_of (line_at text (c.vertices + c.triangles + i)) ≡ Some Kinds.Point

pub good_text : (first : ℕ) (c : Counts) (text : List ℕ) → judge first none (lines text) ≡ Ok c → GoodText text c
unfolding none lines_in
good_text first c text e =
    let none_yet : Limits none = record { vertices = omega arith; triangles = omega arith; points = omega arith; lines = omega arith } in
    let found = good_all (length text) first c none text (omega arith) e none_yet in
    let s = found.1 in
    let v : s.more_vertices ≡ c.vertices = omega (arith, s.vertices) in
    let t : s.more_triangles ≡ c.triangles = omega (arith, s.triangles) in
    let p : s.more_points ≡ c.points = omega (arith, s.points) in
    record {
      limits = found.0;
      long = omega (arith, s.long, v, t, p);
      each_vertex = rw v at s.each_vertex;
      each_triangle = rw (v, t) at s.each_triangle;
      each_point = rw (v, t, p) at s.each_point;
    }
