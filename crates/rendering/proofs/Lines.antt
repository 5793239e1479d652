-- Texts made of fields and lines, one behind another.
use Rattle.std.proofs.lemmas.Grind.{common_steps}
use Rattle.std.proofs.Common.{◌≡◌, ℕ, ◌+◌, ◌<◌, ◌≤◌, cond, ltb, List, [], ◌∷◌, ◌++◌, map, length, get_or, take, sym, refl, ap, ◌∙◌, append_assoc, add-zero, arith}
use Rattle.std.specs.List.{flat_map, fold}
use Rattle.std.proofs.lemmas.List.{map-append}
use Rattle.std.proofs.lemmas.List.Sums.{fold-append}
use Rattle.measure.specs.declared.price.Price.{Price}
use Rattle.rules.specs.declared.decision.Decision.{Decision}
use Rattle.rules.specs.declared.literal.Literal.{Literal}
use Rattle.rules.specs.declared.row.Kind.{Kind}
use Rattle.rules.specs.declared.row.Row.{Row}
use Rattle.rendering.specs.Texts.{spaced, ended, decision_line, head_fields, letter, pair_text, parts_line, rule_line, book_text, choice_line, choice_lines}

-- lines behind lines
ended_append : (ks ls : List (List ℕ)) → ended (ks ++ ls) ≡ ended ks ++ ended ls
ended_append [] ls = refl
ended_append (k ∷ ks) ls = ap (λ (t : List ℕ). k ++ 10 ∷ t) (ended_append ks ls) ∙ sym (append_assoc k (10 ∷ ended ks) (ended ls))

-- fields behind fields
spaced_append : (es fs : List (List ℕ)) → spaced (es ++ fs) ≡ spaced es ++ spaced fs
spaced_append [] fs = refl
spaced_append (e ∷ es) fs = ap (λ (t : List ℕ). 32 ∷ (e ++ t)) (spaced_append es fs) ∙ ap (λ (t : List ℕ). 32 ∷ t) (sym (append_assoc e (spaced es) (spaced fs)))

-- a line for each item
ended_each : {X : Type 0} (f : X → List ℕ) (xs : List X) → flat_map (λ x. f x ++ 10 ∷ []) xs ≡ ended (map f xs)
ended_each f [] = refl
ended_each f (x ∷ xs) = ap (λ (t : List ℕ). (f x ++ 10 ∷ []) ++ t) (ended_each f xs) ∙ append_assoc (f x) (10 ∷ []) (ended (map f xs))

-- a field for each item
spaced_each : {X : Type 0} (f : X → List ℕ) (xs : List X) → flat_map (λ x. 32 ∷ f x) xs ≡ spaced (map f xs)
spaced_each f [] = refl
spaced_each f (x ∷ xs) = ap (λ (t : List ℕ). 32 ∷ (f x ++ t)) (spaced_each f xs)

-- the lines of one choice: one, or none if it is idle
abbrev of_choice : ℕ → ℕ → List (List ℕ)
of_choice d v = cond (ltb 0 v) (choice_line d v ∷ []) []

choices_push : (d : ℕ) (vs : List ℕ) (v : ℕ) → choice_lines d (vs ++ v ∷ []) ≡ choice_lines d vs ++ of_choice (d + length vs) v
choices_push d [] v = ap (λ (k : ℕ). of_choice k v) (sym (add-zero d))
choices_push d (u ∷ us) v = grind (arith, common_steps, choices_push (d + 1) us v)

-- the lines of one decision more
chosen_push : (vs : List ℕ) (v : ℕ) → ended (choice_lines 0 (vs ++ v ∷ [])) ≡ ended (choice_lines 0 vs) ++ ended (of_choice (length vs) v)
chosen_push vs v = grind (arith, common_steps, choices_push, ended_append)

-- so a decision more puts its line, or nothing if it is idle
module _ {S : Type 0} (f : S → ℕ → S) (s : S) (plan : List ℕ) (i : ℕ) (h : i < length plan) where
  more : ended (choice_lines 0 (take (i + 1) plan)) ≡ ended (choice_lines 0 (take i plan)) ++ ended (of_choice i (get_or plan i 0))
  more = grind (arith, common_steps, chosen_push)

  put_more : fold f s (ended (choice_lines 0 (take (i + 1) plan))) ≡ fold f (fold f s (ended (choice_lines 0 (take i plan)))) (ended (of_choice i (get_or plan i 0)))
  put_more = ap (fold f s) more ∙ fold-append f s (ended (choice_lines 0 (take i plan))) (ended (of_choice i (get_or plan i 0)))

  pub chosen_more : 0 < get_or plan i 0 → fold f s (ended (choice_lines 0 (take (i + 1) plan))) ≡ fold f (fold f s (ended (choice_lines 0 (take i plan)))) (choice_line i (get_or plan i 0) ++ 10 ∷ [])
  chosen_more some = grind (arith, common_steps, put_more)

  pub idle_more : get_or plan i 0 ≤ 0 → fold f s (ended (choice_lines 0 (take (i + 1) plan))) ≡ fold f s (ended (choice_lines 0 (take i plan)))
  idle_more none = grind (arith, common_steps, put_more)

-- the lines of rules, behind those of decisions, kind by kind
module _ {S : Type 0} (f : S → ℕ → S) (s a b c d : S) (ds : List Decision) (fs ts ps : List Row) where
  pub book_lines : a ≡ fold f s (flat_map (λ x. decision_line x ++ 10 ∷ []) ds) → b ≡ fold f a (flat_map (λ r. rule_line r ++ 10 ∷ []) fs) → c ≡ fold f b (flat_map (λ r. rule_line r ++ 10 ∷ []) ts) → d ≡ fold f c (flat_map (λ r. rule_line r ++ 10 ∷ []) ps) → d ≡ fold f s (book_text ds (fs ++ (ts ++ ps)))
  book_lines p q r t = simp (t, r, q, p, ended_append, map-append, fold-append, ended_each decision_line, ended_each rule_line)

-- the line of a rule, field by field
module _ {S : Type 0} (f : S → ℕ → S) (s a b c d : S) (k : Kind) (ps : List Literal) (target : ℕ) (price : Price) where
  pub row_line : a ≡ f s (letter k) → b ≡ fold f a (spaced (head_fields k target price)) → c ≡ fold f b (flat_map (λ p. 32 ∷ pair_text p) ps) → d ≡ f c 10 → d ≡ fold f s (parts_line k ps target price ++ 10 ∷ [])
  unfolding parts_line
  row_line p q r t =
      let heads = spaced (head_fields k target price) in
      let pairs = spaced (map pair_text ps) in
      let begun = f s (letter k) in
      simp (t, r, q, p, spaced_append, spaced_each pair_text) (sym (fold-append f begun (heads ++ pairs) (10 ∷ []) ∙ ap (λ u. f u 10) (fold-append f begun heads pairs)))
