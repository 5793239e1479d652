-- Sets that a loop gathers from rows.
use Rattle.std.proofs.lemmas.Grind.{common_steps}
use Rattle.std.proofs.Common.{◌≡◌, ℕ, ◌+◌, ◌<◌, Bool, true, false, cond, not, ◌&&◌, ◌||◌, List, ◌∷◌, length, get_or, drop, sym, refl, ap, ◌∙◌, arith}
use Rattle.std.proofs.lemmas.List.{at_drop_more}
use Rattle.account.specs.Steps.{kept, named_in}
use Rattle.measure.specs.Meaning.{Meaning}
use Rattle.rules.specs.Conditions.{Plan, condition, met, names}
use Rattle.rules.specs.Plans.{cost}
use Rattle.rules.specs.declared.row.Row.{Row}

module _ (p : Plan) (rs : List Row) (i : ℕ) (r : Row) (l : i < length rs) where
  module _ {C : Type 0} (m : Meaning C) (best before : C) where
    choice : Bool → Bool → List Row
    choice b t =
        cond b
        (cond t (kept m best before (drop (i + 1) rs) p) (get_or rs i r ∷ kept m best (m.joins before (m.reads (get_or rs i r).price)) (drop (i + 1) rs) p))
        (kept m best before (drop (i + 1) rs) p)

    next_kept : kept m best before (drop i rs) p ≡ choice (met p (get_or rs i r)) (m.at_most best (m.joins before (cost m (drop (i + 1) rs) p)))
    unfolding kept choice
    next_kept = at_drop_more (λ (xs : List Row). kept m best before xs p) rs i r l

    -- the next row is kept
    kept_here : (met p (get_or rs i r) && not (m.at_most best (m.joins before (cost m (drop (i + 1) rs) p)))) ≡ true
        → kept m best before (drop i rs) p ≡ (get_or rs i r ∷ kept m best (m.joins before (m.reads (get_or rs i r).price)) (drop (i + 1) rs) p)
    unfolding choice
    kept_here h = grind (arith, common_steps, next_kept, choice)

    -- the next row is not met, or can be spared
    kept_not : (met p (get_or rs i r) && not (m.at_most best (m.joins before (cost m (drop (i + 1) rs) p)))) ≡ false
        → kept m best before (drop i rs) p ≡ kept m best before (drop (i + 1) rs) p
    unfolding choice
    kept_not h = next_kept ∙ go (met p (get_or rs i r)) (m.at_most best (m.joins before (cost m (drop (i + 1) rs) p))) h
      where
        go : (b t : Bool) → (b && not t) ≡ false → choice b t ≡ kept m best before (drop (i + 1) rs) p
        go true true e = refl
        go false t e = refl
        go true false e = cc

    tested : (later : C) (b : Bool) → later ≡ cost m (drop (i + 1) rs) p → (met p (get_or rs i r) && not (m.at_most best (m.joins before later))) ≡ b
        → (met p (get_or rs i r) && not (m.at_most best (m.joins before (cost m (drop (i + 1) rs) p)))) ≡ b
    tested later b e h = ap (λ (c : C). met p (get_or rs i r) && not (m.at_most best (m.joins before c))) (sym e) ∙ h

    -- one kept row more is gathered
    pub gather_kept : (later next : C) (set set' row : ℕ → Bool) → later ≡ cost m (drop (i + 1) rs) p → (met p (get_or rs i r) && not (m.at_most best (m.joins before later))) ≡ true
        → next ≡ m.joins before (m.reads (get_or rs i r).price) → row ≡ names (condition (get_or rs i r)) → set' ≡ (λ (x : ℕ). set x || row x)
        → (x : ℕ) → (set' x || named_in (kept m best next (drop (i + 1) rs) p) x) ≡ (set x || named_in (kept m best before (drop i rs) p) x)
    gather_kept later next set set' row e h n o u x = grind (arith, common_steps, kept_here, tested)

    -- a row that is not kept gives nothing
    pub skip_spared : (later : C) (x : ℕ) → later ≡ cost m (drop (i + 1) rs) p → (met p (get_or rs i r) && not (m.at_most best (m.joins before later))) ≡ false
        → named_in (kept m best before (drop (i + 1) rs) p) x ≡ named_in (kept m best before (drop i rs) p) x
    skip_spared later x e h = ap (λ (ks : List Row). named_in ks x) (sym (kept_not (tested later false e h)))
