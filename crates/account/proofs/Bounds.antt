-- What searches of small books tell of all plans over them: by the planning law, and by computing.
use Rattle.std.proofs.Common.{◌≡◌, ℕ, ◌≤◌, Bool, true, false, not, ◌&&◌, ◌||◌, eqb, List, [], ◌∷◌, ◌++◌, refl, arith, lit≤}
use Rattle.std.specs.Option.{unwrap_or}
use Rattle.std.proofs.lemmas.Grind.{common_steps}
use Rattle.std.proofs.lemmas.Bool.{leb-true}
use Rattle.measure.specs.Supplied.{cents}
use Rattle.measure.specs.declared.cents.Cents.{Cents}
use Rattle.rules.specs.Conditions.{Plan}
use Rattle.rules.specs.Plans.{Lawful, cost}
use Rattle.rules.specs.declared.decision.Decision.{Decision}
use Rattle.account.specs.Accounts.{Account, Exclusion, chosen, fresh, nobody}
use Rattle.account.specs.Calls.{history, run}
use Rattle.account.specs.Consequences.{BoundsShown}
use Rattle.account.specs.Law.{Planning}
use Rattle.account.specs.Worked.{book, decisions, forbid, off, on, pair, rules, trap}
use Rattle.account.specs.Steps.{step, test, tested, kept, retreat, extend, conclude}
use Rattle.account.specs.Changes.{added, withdrawn}
use Rattle.account.proofs.Following.{consequences}

-- what is blamed for the dead end, by whether a decision is 0 or 1, without 0
none_named : (zeroth first : Bool) → ((((first || false) && not first) || (zeroth || false)) && not zeroth) ≡ true → ⊥
none_named zeroth first h = grind (arith, common_steps)

module _ (law : Planning cents) where
  worked_bound : (p : Plan) → Lawful book p → 60 ≤ (cost cents book.prices p).sum
  unfolding step test tested kept retreat extend conclude added withdrawn
  worked_bound p h =
      let f = (consequences cents law decisions (lit≤ tt) ((lit≤ tt, lit≤ tt), ((lit≤ tt, lit≤ tt), ((lit≤ tt, lit≤ tt), tt))) (rules ++ run 15 ∷ []) []).0 in
      leb-true 60 (cost cents book.prices p).sum (f.cheapest (record { sum = 60 }) (0 ∷ 0 ∷ 0 ∷ [], 3 ∷ 0 ∷ 0 ∷ [], refl) p h)

  abbrev trap_book : List Decision
  trap_book = on 2 ∷ off 1 ∷ []

  abbrev trap_after : Account Cents
  trap_after = history cents (fresh trap_book) (trap ++ run 9 ∷ [])

  -- why 0=1 is excluded then
  abbrev trap_excluded : Exclusion
  trap_excluded = unwrap_or (trap_after.exclusions 0 1) (record { reason = nobody; rests = true })

  trap_bound : (p : Plan) → Lawful (history cents (fresh trap_book) trap).book p → p 0 ≡ 1 → ⊥
  unfolding step test tested kept retreat extend conclude added withdrawn
  trap_bound p h has =
      let f = (consequences cents law trap_book (lit≤ tt) ((lit≤ tt, lit≤ tt), ((lit≤ tt, lit≤ tt), tt)) (trap ++ run 9 ∷ []) []).0 in
      f.barred 0 1 trap_excluded refl refl p (record { lawful = h; has = has; agrees = no_reason })
    where
      no_reason : (x : ℕ) → trap_excluded.reason x ≡ true → p x ≡ chosen trap_after.trail x
      no_reason x t = absurd (none_named (eqb x 0) (eqb x 1) t)

  hopeless_bound : (p : Plan) → Lawful (history cents (fresh (on 1 ∷ [])) (forbid (pair 0 1) ∷ [])).book p → ⊥
  unfolding step test tested kept retreat extend conclude added withdrawn
  hopeless_bound p h =
      let f = (consequences cents law (on 1 ∷ []) (lit≤ tt) ((lit≤ tt, lit≤ tt), tt) (forbid (pair 0 1) ∷ run 5 ∷ []) []).0 in
      f.hopeless (9 ∷ [], 9 ∷ [], refl) p h

  pub bounds_shown : BoundsShown
  bounds_shown = record { worked = worked_bound; trapped = trap_bound; hopeless = hopeless_bound }
