-- Texts with spaces between them, built from the front, and what writing them one by one writes.
use Rattle.std.proofs.Common.{◌≡◌, ℕ, List, [], ◌∷◌, ◌++◌, Option, Some, None, Ok, refl, sym, ap, ◌∙◌, codes}
use Rattle.std.proofs.lemmas.Grind.{put_two}
use Rattle.std.proofs.lemmas.List.{append_assoc, append-nil}
use Rattle.std.specs.Fmt.{DisplaysOnOk, HasWritten, IsPlainFormatter, option_append}
use Rattle.std.specs.Option.{IfSome}
use Rattle.std.specs.declared.fmt.Formatter.{Formatter}
use Rattle.showing.specs.Texts.{each_after_a_space}

append_nothing : (o : Option (List ℕ)) → option_append o (Some []) ≡ o
append_nothing None = refl
append_nothing (Some a) = ap Some (append-nil a)

nothing_before : (o : Option (List ℕ)) → o ≡ option_append (Some []) o
nothing_before None = refl
nothing_before (Some a) = refl

regrouped : (o p q : Option (List ℕ)) → option_append (option_append o p) q ≡ option_append o (option_append p q)
regrouped None p q = refl
regrouped (Some a) None q = refl
regrouped (Some a) (Some b) None = refl
regrouped (Some a) (Some b) (Some c) = ap Some (append_assoc a b c)

module _ {T : Type 0} (text : T → Option (List ℕ)) where
  -- one item more
  pub one_more : (xs : List T) (x : T) → each_after_a_space text (xs ++ x ∷ []) ≡ option_append (each_after_a_space text xs) (option_append (Some (codes " ")) (text x))
  one_more [] x = append_nothing _ ∙ nothing_before _
  one_more (y ∷ ys) x = ap (option_append (option_append (Some (codes " ")) (text y))) (one_more ys x) ∙ sym (regrouped _ (each_after_a_space text ys) _)

module _ {W : Type 0} (took : W → List ℕ → W → Type 0) (f g : Formatter W) where
  -- what a text that is displayed has written
  pub displayed : (o : Option (List ℕ)) → DisplaysOnOk took f (Ok tt) o g → IsPlainFormatter f → IfSome o (λ bs. HasWritten took f bs g)
  displayed None shown plain = tt
  displayed (Some a) shown plain = shown plain refl

  -- and the other way round
  pub displays : (o : Option (List ℕ)) → (IsPlainFormatter f → IfSome o (λ bs. HasWritten took f bs g)) → DisplaysOnOk took f (Ok tt) o g
  displays None wrote = tt
  displays (Some a) wrote = λ plain _. wrote plain

  -- one text written, and then another
  pub both_written : (h : Formatter W) (o p : Option (List ℕ)) → IfSome o (λ bs. HasWritten took f bs g) → (IsPlainFormatter g → IfSome p (λ bs. HasWritten took g bs h)) → IfSome (option_append o p) (λ bs. HasWritten took f bs h)
  both_written h None p wrote next = tt
  both_written h (Some a) None wrote next = tt
  both_written h (Some a) (Some b) wrote next = put_two took f g h a b _ wrote (next wrote.plain) refl
