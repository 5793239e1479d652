-- Active decisions: what a lawful plan makes active, and that a complete trail is lawful.
use Rattle.std.proofs.Common.{◌≡◌, ℕ, ◌<◌, true, false, ◌||◌, ltb, List, [], ◌∷◌, length, refl, ap, ◌∙◌, inl, inr, ⊎_elim, arith}
use Rattle.std.specs.List.{ContainsAt as Has, AllByRecursion}
use Rattle.std.proofs.ByRecursion.{all-has, all_has_itself, All-weaker}
use Rattle.std.proofs.lemmas.Bool.{cond-true, cond_both, cases_Bool, cases_eq, or_left, or_right, ltb-true, ltb-false, lt-ltb}
use Rattle.rules.specs.Conditions.{Plan, met}
use Rattle.rules.specs.Plans.{Book, Set, Closed, Active, Lawful, within, enables, on_at}
use Rattle.rules.specs.declared.row.Row.{Row}
use Rattle.rules.proofs.Activity.{on_known}
use Rattle.account.specs.Accounts.{Entry, chosen}
use Rattle.account.specs.Steps.{waits, support}
use Rattle.account.proofs.Finds.{waits_why, waits_not, enables_has, enabled}
use Rattle.account.proofs.Formed.{Distinct}
use Rattle.account.proofs.Meeting.{met_same, met_chosen}
use Rattle.account.proofs.Trails.{Ground, Grounded, chosen_other, chosen_range}

-- an activate rule that a plan meets, all of whose decisions a closed set has, puts its target into that set
pub closed_target : (b : Book) (p : Plan) (s : Set) → Closed b p s → (r : Row) → Has b.activates r → (q : Plan) → met q r ≡ true → ((x : ℕ) → 0 < q x → (s x ≡ true) × (p x ≡ q x)) → s r.target ≡ true
closed_target b p s closed r held q h same =
    all-has (λ w. met (within s p) w ≡ true → s w.target ≡ true) b.activates r closed.enabled held
    (met_same r q (within s p) (λ x n. let k = same x (met_chosen r q h x n) in cond-true (s x) (p x) 0 k.0 ∙ k.1) h)

-- a lawful plan makes the target of each activate rule that it meets active
pub lawful_active : (b : Book) (p : Plan) → Lawful b p → (r : Row) → Has b.activates r → met p r ≡ true → Active b p r.target
lawful_active b p law r held h s closed = closed_target b p s closed r held p h (λ x t. (law.only_active x t s closed, refl))

-- why a waiting decision may stand behind the plan
pub waits_ground : (b : Book) (p : Plan) (d v : ℕ) → waits b p d ≡ true → Ground b p (record { decision = d; value = v; support = support b p d })
waits_ground b p d v w = ⊎_elim inl off (cases_Bool (on_at b.decisions d))
  where
    off : on_at b.decisions d ≡ false → Ground b p (record { decision = d; value = v; support = support b p d })
    off e = ⊎_elim inl by_rule (waits_why b p d w)
      where
        by_rule : enables b.activates p d ≡ true → Ground b p (record { decision = d; value = v; support = support b p d })
        by_rule h =
            let k = enabled b.activates p d h in
            inr (k.row, k.is_held, k.targets, k.is_met, λ x n. rw (e, k.supports) n)

-- a lawful plan that agrees with a plan on the support of what waits there chooses it
pub lawful_chooses : (b : Book) (p : Plan) (d : ℕ) → waits b p d ≡ true → (q : Plan) → Lawful b q → ((x : ℕ) → support b p d x ≡ true → q x ≡ p x) → 0 < q d
lawful_chooses b p d w q law same = go (waits_ground b p d 0 w)
  where
    go : Ground b p (record { decision = d; value = 0; support = support b p d }) → 0 < q d
    go (inl on) = law.all_active d (λ s closed. closed.marked d on)
    go (inr g) = law.all_active d (rw g.2 at (lawful_active b q law g.0 g.1 (met_same g.0 p q (λ x n. same x (g.4 x n)) g.3)))

-- a closed set has every entry of a grounded trail
grounded_closed : (b : Book) (p : Plan) (s : Set) → Closed b p s → (es : List Entry) → Distinct b.decisions es → Grounded b es → ((x : ℕ) → 0 < chosen es x → p x ≡ chosen es x) → (x : ℕ) → 0 < chosen es x → s x ≡ true
grounded_closed b p s closed [] dis gr same x h = absurd (omega arith)
grounded_closed b p s closed (e ∷ es) dis gr same x h =
    let older : (y : ℕ) → 0 < chosen es y → s y ≡ true = grounded_closed b p s closed es dis.3 gr.1 before in
    ⊎_elim (λ (q : x ≡ e.decision). rw q (here older gr.0)) (λ (ne : x ≡ e.decision → ⊥). older x (rw (chosen_other e es x ne) at h)) (cases_eq x e.decision)
  where
    apart : (y : ℕ) → 0 < chosen es y → y ≡ e.decision → ⊥
    apart y l q = omega (arith, dis.0, ap (chosen es) q)

    before : (y : ℕ) → 0 < chosen es y → p y ≡ chosen es y
    before y l = let other = chosen_other e es y (apart y l) in same y (rw other l) ∙ other

    here : ((y : ℕ) → 0 < chosen es y → s y ≡ true) → Ground b (chosen es) e → s e.decision ≡ true
    here older (inl on) = closed.marked e.decision on
    here older (inr g) = rw g.2 at (closed_target b p s closed g.0 g.1 (chosen es) g.3 (λ y l. (older y l, before y l)))

-- a trail that is grounded, meets no forbid rule and leaves nothing waiting is lawful
pub complete_lawful : (b : Book) (es : List Entry) → Distinct b.decisions es → Grounded b es → AllByRecursion (λ r. r.target < length b.decisions) b.activates → AllByRecursion (λ r. met (chosen es) r ≡ false) b.forbids → ((d : ℕ) → d < length b.decisions → waits b (chosen es) d ≡ false) → Lawful b (chosen es)
complete_lawful b es dis gr targets none rest =
    record {
      only_active = λ d h s closed. grounded_closed b (chosen es) s closed es dis gr (λ x l. refl) d h;
      all_active = λ d act. ltb-true 0 (chosen es d) (act (λ x. ltb 0 (chosen es x)) closed);
      in_range = chosen_range b.decisions es dis;
      unforbidden = none;
    }
  where
    has_value : (d : ℕ) → d < length b.decisions → (on_at b.decisions d || enables b.activates (chosen es) d) ≡ true → ltb 0 (chosen es d) ≡ true
    has_value d l h = lt-ltb 0 (chosen es d) (waits_not b (chosen es) d (rest d l) h)

    same : (x : ℕ) → chosen es x ≡ within (λ y. ltb 0 (chosen es y)) (chosen es) x
    same x = cond_both (ltb 0 (chosen es x)) (chosen es x) 0 (λ v. chosen es x ≡ v) (λ t. refl) (λ t. omega (arith, ltb-false 0 (chosen es x) t))

    one : (r : Row) → Has b.activates r → met (within (λ y. ltb 0 (chosen es y)) (chosen es)) r ≡ true → ltb 0 (chosen es r.target) ≡ true
    one r held h =
        has_value r.target (all-has (λ w. w.target < length b.decisions) b.activates r targets held)
        (or_right (on_at b.decisions r.target) (enables b.activates (chosen es) r.target) (enables_has b.activates (chosen es) r r.target refl held (met_same r (within (λ y. ltb 0 (chosen es y)) (chosen es)) (chosen es) (λ x n. same x) h)))

    closed : Closed b (chosen es) (λ x. ltb 0 (chosen es x))
    closed =
        record {
          marked = λ d on. has_value d (on_known b d on) (or_left (on_at b.decisions d) (enables b.activates (chosen es) d) on);
          enabled = All-weaker (Has b.activates) (λ w. met (within (λ y. ltb 0 (chosen es y)) (chosen es)) w ≡ true → ltb 0 (chosen es w.target) ≡ true) one b.activates (all_has_itself b.activates);
        }
