-- `point_list` meets its contract: a bad line is refused by its number.
use Rattle.std.proofs.Common.{◌≡◌, ℕ, List, Result, Ok, Err, MatchResult, IsErrAnd, sym, rules, tests}
use Rattle.std.proofs.lemmas.Result.{err_from_is_err_and}
use Rattle.refusal.specs.declared.Refusal.{Refusal}
use Rattle.refusal.specs.declared.Refusal.TheVariants as Refusals
use Rattle.text.specs.declared.Counts.{Counts}
use Rattle.column.specs.Column.{judged, Lists}
use Rattle.column.specs.laws.CallLaws.{refused_line}
use Rattle.column.proofs.point_list.Goals as goal

-- what stands for a bad line is the refusal of that line
refused_by : {Gives : ℕ → Refusal → Type 0} → ((line : ℕ) (refusal : Refusal) → Gives line refusal → refusal ≡ Refusals.Line line) → (text listing₀ : List ℕ) (found : Result Counts ℕ) (said : Result Counts Refusal) (refusal : Refusal)
    → judged text ≡ found → MatchResult found (λ counts. said ≡ Ok counts) (λ line. IsErrAnd said (Gives line)) → said ≡ Err refusal → Lists text listing₀ (Err refusal) listing₀
refused_by gives text listing₀ (Ok counts) said refusal e h s = cc
refused_by gives text listing₀ (Err line) said refusal e h s = rw (gives line refusal (rw s at h)) (refused_line text listing₀ line e)

pub returns-in_err-counts : goal.returns-in_err-counts
unfolding judged
returns-in_err-counts c =
    let p = err_from_is_err_and c.from_residual.result c.from_residual.ensures.1 in
    rw (p.1, p.2) (refused_by (λ line refusal given. search (rules, tests)) c.args.text.now c.args.listing.now c.judge_text.result c.map_err.result _ (sym c.judge_text.ensures) c.map_err.ensures.cases c.in_err-counts.was)
