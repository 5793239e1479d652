-- What the loops of judging find is what a verdict says.
use Rattle.std.proofs.lemmas.Grind.{common_steps}
use Rattle.std.proofs.Common.{◌≡◌, ℕ, suc, ◌+◌, ◌-◌, ◌<◌, ◌≤◌, Bool, true, false, cond, not, eqb, ltb, List, [], ◌∷◌, length, take, Some, None, Ok, Err, refl, subst, arith}
use lib.ListN.{get_or-eq_default}
use Rattle.std.proofs.lemmas.Bool.{ltb-true, ltb-false, le-ltb, eqb-true, both_ways}
use Rattle.std.specs.List.{AllByRecursion, position_from}
use Rattle.rules.specs.Compose.{is_activate}
use Rattle.rules.specs.Conditions.{Plan, met, from_bytes, plan_of}
use Rattle.rules.specs.Judging.{open_refusal, row_refusal, rows_refusal, judge_refusal, sized, book_of, Fits, FitsBelow, FirstMet, Breaks}
use Rattle.rules.specs.Plans.{Book, Lawful, active, size_at}
use Rattle.rules.specs.Refusals.{when, as_result}
use Rattle.rules.specs.Searches.{misfit, misfit_at, FirstMisfit}
use Rattle.rules.specs.declared.decision.Decision.{Decision}
use Rattle.rules.specs.declared.refusal.Refusal.TheVariants.{TooManyDecisions, SizeOutOfRange}
use Rattle.rules.specs.declared.row.Row.{Row}
use Rattle.rules.specs.declared.verdict.Breach.{Breach}
use Rattle.rules.specs.declared.verdict.Breach.TheVariants.{NotActive, NotChosen, OutOfRange, Forbidden}
use Rattle.rules.proofs.Activity.{Targets, active_sound, active_complete}
use Rattle.rules.proofs.ByKind.{activates, forbids}
use Rattle.rules.proofs.Grounds.{when_none, option_or_none, accepted_none}
use Rattle.rules.proofs.Lawfulness.{lawful_from_fits}

-- accepted decisions are at most 64
pub accepted_few : (ds : List Decision) → open_refusal ds ≡ None → length ds ≤ 64
accepted_few ds h = ltb-false 64 (length ds) (when_none (ltb 64 (length ds)) TooManyDecisions (option_or_none (when (ltb 64 (length ds)) TooManyDecisions) (when (not (sized ds)) SizeOutOfRange) h).0)

-- an accepted activate row has a known target
row_target : (ds : List Decision) (r : Row) → row_refusal ds r ≡ None → is_activate r.kind ≡ true → r.target < length ds
row_target ds r h a = grind (arith, common_steps)

-- the targets of accepted activate rows are known
pub targets_known : (ds : List Decision) (rs : List Row) → rows_refusal ds rs ≡ None → Targets (length ds) (activates rs)
targets_known ds [] h = tt
targets_known ds (r ∷ rs) h =
    let (here, later) = option_or_none (row_refusal ds r) (rows_refusal ds rs) h in
    go (is_activate r.kind) refl here (targets_known ds rs later)
  where
    go : (b : Bool) → is_activate r.kind ≡ b → row_refusal ds r ≡ None → Targets (length ds) (activates rs) → Targets (length ds) (cond b (r ∷ activates rs) (activates rs))
    go true e here later = (row_target ds r here e, later)
    go false e here later = later

-- a decision that is no misfit
pub misfit_none : (d size v : ℕ) (a : Bool) → misfit d size a v ≡ None → (0 < v → a ≡ true) × (a ≡ true → 0 < v) × (v ≤ size)
misfit_none d size v false h = grind (arith, common_steps)
misfit_none d size v true h = grind (arith, common_steps)

module _ (b : Book) (p : Plan) (known : Targets (length b.decisions) b.activates) where
  fits_from : (d : ℕ) → misfit_at b.decisions (active b p) p d ≡ None → Fits b p d
  fits_from d h =
      let (only, all, range) = misfit_none d (size_at b.decisions d) (p d) (active b p d) h in
      record { only_active = λ l. active_sound b p d (only l); all_active = λ k. all (active_complete b p known d k); in_range = range }

  breaks_from : (d : ℕ) (x : Breach) → FitsBelow b p d → misfit_at b.decisions (active b p) p d ≡ Some x → Breaks b p x
  breaks_from d x below h = go (active b p d) refl h
    where
      size : ℕ
      size = size_at b.decisions d

      same : (y : Breach) → Breaks b p y → Some y ≡ Some x → Breaks b p x
      same y k e = let q : y ≡ x = cc in subst (Breaks b p) q k

      active_case : active b p d ≡ true → (z t : Bool) → eqb (p d) 0 ≡ z → ltb size (p d) ≡ t → cond z (Some (NotChosen d)) (when t (OutOfRange d)) ≡ Some x → Breaks b p x
      active_case a true t e f k = same (NotChosen d) (below, eqb-true (p d) 0 e, active_sound b p d a) k
      active_case a false true e f k = same (OutOfRange d) (below, active_sound b p d a, ltb-true size (p d) f) k
      active_case a false false e f k = absurd (let z : ◌≡◌ {A = ℕ} 0 1 = cc in omega arith)

      idle_case : active b p d ≡ false → (t : Bool) → ltb 0 (p d) ≡ t → when t (NotActive d) ≡ Some x → Breaks b p x
      idle_case a true e k = same (NotActive d) (below, ltb-true 0 (p d) e, λ act. both_ways (active b p d) a (active_complete b p known d act)) k
      idle_case a false e k = absurd (let z : ◌≡◌ {A = ℕ} 0 1 = cc in omega arith)

      go : (a : Bool) → active b p d ≡ a → misfit d size a (p d) ≡ Some x → Breaks b p x
      go true a k = active_case a (eqb (p d) 0) (ltb size (p d)) refl refl k
      go false a k = idle_case a (ltb 0 (p d)) refl k

  -- the first misfit is a breach
  pub misfit_breaks : (n : ℕ) (x : Breach) → FirstMisfit b.decisions (active b p) p n (Err x) → Breaks b p x
  misfit_breaks n x (d, l, none, here) = breaks_from d x (λ e k. fits_from e (none e k)) here

  -- where there is none, every decision is treated lawfully
  pub no_misfit_fits : (n : ℕ) → FirstMisfit b.decisions (active b p) p n (Ok tt) → FitsBelow b p n
  no_misfit_fits n none = λ e k. fits_from e (none e k)

-- the place that is found is that of the first met row
place_found : (n k : ℕ) (rs : List Row) (p : Plan) → position_from (met p) n rs ≡ Some k → (j : ℕ) × (k ≡ n + j) × FirstMet rs p j
place_found n k [] p h = absurd (let z : ◌≡◌ {A = ℕ} 0 1 = cc in omega arith)
place_found n k (r ∷ rs) p h = go (met p r) refl h (place_found (n + 1) k rs p)
  where
    go : (b : Bool) → met p r ≡ b → cond b (Some n) (position_from (met p) (n + 1) rs) ≡ Some k → (position_from (met p) (n + 1) rs ≡ Some k → (j : ℕ) × (k ≡ (n + 1) + j) × FirstMet rs p j) → (j : ℕ) × (k ≡ n + j) × FirstMet (r ∷ rs) p j
    go true e f later = let q : n ≡ k = cc in (0, omega arith, (omega arith, tt, λ d. e))
    go false e f later =
        let (j, same, (l, none, here)) = later f in
        (suc j, omega arith, (omega arith, (e, none), here))

pub place_first : (k : ℕ) (rs : List Row) (p : Plan) → position_from (met p) 0 rs ≡ Some k → FirstMet rs p k
place_first k rs p h = let (j, same, first) = place_found 0 k rs p h in let e : j ≡ k = omega arith in subst (FirstMet rs p) e first

pub place_none : (n : ℕ) (rs : List Row) (p : Plan) → position_from (met p) n rs ≡ None → AllByRecursion (λ r. met p r ≡ false) rs
place_none n [] p h = tt
place_none n (r ∷ rs) p h = go (met p r) refl h (place_none (n + 1) rs p)
  where
    go : (b : Bool) → met p r ≡ b → cond b (Some n) (position_from (met p) (n + 1) rs) ≡ None → (position_from (met p) (n + 1) rs ≡ None → AllByRecursion (λ x. met p x ≡ false) rs) → (met p r ≡ false) × AllByRecursion (λ x. met p x ≡ false) rs
    go true e f later = absurd (let z : ◌≡◌ {A = ℕ} 0 1 = cc in omega arith)
    go false e f later = (e, later f)

-- bytes past the last stand for nothing
pub bytes_idle : (bytes : List ℕ) (n : ℕ) → length bytes ≡ n → (d : ℕ) → n ≤ d → from_bytes bytes d ≡ 0
bytes_idle bytes n e d l = get_or-eq_default bytes 0 (omega arith)

-- the first n bytes stand for the plan over n decisions
pub plan_part : (n : ℕ) (bytes : List ℕ) → from_bytes (take (n - 0) bytes) ≡ plan_of n bytes
plan_part n bytes = grind (arith, common_steps)

-- the breach that judging finds, or that the plan is lawful
module _ (ds : List Decision) (rs : List Row) (p : Plan) (accepted : open_refusal ds ≡ None) (known : rows_refusal ds rs ≡ None) where
  targets : Targets (length ds) (activates rs)
  targets = targets_known ds rs known

  pub found_misfit : (x : Breach) → FirstMisfit ds (active (book_of ds rs) p) p (length ds) (Err x) → Breaks (book_of ds rs) p x
  found_misfit x h = misfit_breaks (book_of ds rs) p targets (length ds) x h

  pub found_forbidden : (k : ℕ) → FirstMisfit ds (active (book_of ds rs) p) p (length ds) (Ok tt) → position_from (met p) 0 (forbids rs) ≡ Some k → Breaks (book_of ds rs) p (Forbidden k)
  found_forbidden k fit h = (no_misfit_fits (book_of ds rs) p targets (length ds) fit, place_first k (forbids rs) p h)

  pub found_nothing : ((d : ℕ) → length ds ≤ d → p d ≡ 0) → FirstMisfit ds (active (book_of ds rs) p) p (length ds) (Ok tt) → position_from (met p) 0 (forbids rs) ≡ None → Lawful (book_of ds rs) p
  found_nothing idle fit h = lawful_from_fits (book_of ds rs) p targets (no_misfit_fits (book_of ds rs) p targets (length ds) fit) idle (place_none 0 (forbids rs) p h)

-- judging is not refused where no check refuses
pub judge_accepts : (ds : List Decision) (rs : List Row) (bytes : List ℕ) {u v : Unit {0}} → as_result (open_refusal ds) ≡ Ok u → as_result (rows_refusal ds rs) ≡ Ok v → length ds ≤ length bytes → judge_refusal ds rs bytes ≡ None
judge_accepts ds rs bytes {u} {v} o r l =
    rw (accepted_none (open_refusal ds) u o, accepted_none (rows_refusal ds rs) v r, le-ltb (length bytes) (length ds) l) refl
