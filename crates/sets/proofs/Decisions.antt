-- Which decisions are in a set, by its bits.
use Rattle.std.proofs.lemmas.Grind.{common_steps}
use Rattle.std.proofs.Common.{◌≡◌, ℕ, ◌-◌, ◌*◌, ◌%◌, ◌^◌, ◌<◌, ◌≤◌, Bool, false, not, ◌&&◌, ◌||◌, eqb, ltb, sym, refl, ap, ◌∙◌, ap₂, inl, inr, arith}
use mathlib.Core.Path.{fun_ext}
use lib.Bits.{bit_and, bit_or}
use Rattle.std.proofs.lemmas.Nat.{one_shl}
use Rattle.std.proofs.lemmas.Bool.{cases_lt, lt-ltb, le-ltb, ne_eqb, and_left, or_from}
use Rattle.sets.specs.declared.decision_set.DecisionSet.{DecisionSet}
use Rattle.sets.specs.Members.{bit, members}
use Rattle.sets.specs.Searches.{some_below}
use Rattle.sets.proofs.BitLaws.{bit_or_lem, bit_of_zero, bit_single, bit_ones, bit_remove, some_bit, common_bit}
use Rattle.sets.proofs.BoolLaws.{and_held, not_twice}
use Rattle.sets.proofs.SearchLaws.{some_below_same}

-- below 64 a decision is in a set where its bit is set
pub member_bit : (s : DecisionSet) (x : ℕ) → x < 64 → members s x ≡ bit s.bits x
unfolding members
member_bit s x h = ap (λ (b : Bool). b && bit s.bits x) (lt-ltb x 64 h)

-- no decision from 64 on is in a set
pub no_member : (s : DecisionSet) (x : ℕ) → 64 ≤ x → members s x ≡ false
unfolding members
no_member s x h = ap (λ (b : Bool). b && bit s.bits x) (le-ltb x 64 h)

-- the members of a set are told by its bits below 64
pub members_are : (s : DecisionSet) (t : ℕ → Bool) → ((x : ℕ) → x < 64 → bit s.bits x ≡ t x) → ((x : ℕ) → 64 ≤ x → t x ≡ false) → members s ≡ t
members_are s t within above =
    fun_ext (λ x. elim (cases_lt x 64) [ inl h ↦ member_bit s x h ∙ within x h | inr h ↦ no_member s x h ∙ sym (above x h) ])

-- the set with no bit
pub members_empty : members (record { bits = 0 }) ≡ (λ x. false)
members_empty = members_are (record { bits = 0 }) (λ x. false) (λ x h. bit_of_zero x) (λ x h. refl)

-- the set with the first bits
pub members_first : (n : ℕ) → n ≤ 64 → members (record { bits = 2 ^ n - 1 }) ≡ (λ x. ltb x n)
members_first n most = members_are (record { bits = 2 ^ n - 1 }) (λ x. ltb x n) (λ x h. bit_ones n x) (λ x h. le-ltb x n (omega arith))

-- the set with the bits of either of two
pub members_union : (s o : DecisionSet) → members (record { bits = bit_or s.bits o.bits }) ≡ (λ x. members s x || members o x)
members_union s o =
    members_are (record { bits = bit_or s.bits o.bits }) (λ x. members s x || members o x)
    (λ x h. bit_or_lem s.bits o.bits x ∙ sym (ap₂ (λ (p q : Bool). p || q) (member_bit s x h) (member_bit o x h)))
    (λ x h. or_from (members s x) (members o x) (no_member s x h) (no_member o x h))

-- the set with one more bit
pub members_with : (s : DecisionSet) (d : ℕ) → d < 64
    → members (record { bits = bit_or s.bits (1 * 2 ^ d % 2 ^ 64) }) ≡ (λ x. members s x || (eqb x d && ltb d 64))
members_with s d hd =
    members_are (record { bits = bit_or s.bits (1 * 2 ^ d % 2 ^ 64) }) (λ x. members s x || (eqb x d && ltb d 64))
    (λ x h. bit_or_lem s.bits (1 * 2 ^ d % 2 ^ 64) x
    ∙ ap₂ (λ (p q : Bool). p || q) (sym (member_bit s x h))
    (ap (λ (n : ℕ). bit n x) (one_shl d 64 hd) ∙ bit_single d x ∙ sym (and_held (eqb x d) (ltb d 64) (lt-ltb d 64 hd))))
    (λ x h. or_from (members s x) (eqb x d && ltb d 64) (no_member s x h)
    (and_left (eqb x d) (ltb d 64) (ne_eqb x d (λ (e : x ≡ d). omega arith))))

-- the set with one bit removed
pub members_without : (s : DecisionSet) (d : ℕ) → d < 64
    → members (record { bits = bit_and s.bits (2 ^ 64 - 1 - 1 * 2 ^ d % 2 ^ 64) }) ≡ (λ x. members s x && not (eqb x d))
members_without s d hd =
    members_are (record { bits = bit_and s.bits (2 ^ 64 - 1 - 1 * 2 ^ d % 2 ^ 64) }) (λ x. members s x && not (eqb x d))
    (λ x h. ap (λ (n : ℕ). bit (bit_and s.bits (2 ^ 64 - 1 - n)) x) (one_shl d 64 hd) ∙ bit_remove 64 s.bits d x hd h
    ∙ ap (λ (p : Bool). p && not (eqb x d)) (sym (member_bit s x h)))
    (λ x h. and_left (members s x) (not (eqb x d)) (no_member s x h))

-- to remove what no set has changes nothing
pub members_without_none : (s : DecisionSet) (d : ℕ) → 64 ≤ d → members s ≡ (λ x. members s x && not (eqb x d))
members_without_none s d hd = grind (arith, common_steps, members_are, and_held, member_bit, no_member)

-- two sets with a bit in common have a decision in common
pub common_member : (s o : DecisionSet) → s.bits < 2 ^ 64
    → not (eqb (bit_and s.bits o.bits) 0) ≡ some_below (λ x. members s x && members o x) 64
common_member s o h =
    sym (common_bit 64 s.bits o.bits h)
    ∙ some_below_same (λ x. bit s.bits x && bit o.bits x) (λ x. members s x && members o x) 64
    (λ x l. sym (ap₂ (λ (p q : Bool). p && q) (member_bit s x l) (member_bit o x l)))

-- a set with no bit has no decision
pub no_members : (s : DecisionSet) → s.bits < 2 ^ 64 → eqb s.bits 0 ≡ not (some_below (members s) 64)
no_members s h =
    not_twice (eqb s.bits 0)
    ∙ ap not (sym (some_bit 64 s.bits h) ∙ some_below_same (bit s.bits) (members s) 64 (λ x l. sym (member_bit s x l)))
